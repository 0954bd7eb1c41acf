use Rattle.law_sessions.proofs.Sessions.{walk-before}
use Rattle.law_sessions.proofs.laws.walks_begin_as_walks.Goals as goal

pub returns : goal.returns
returns c = walk-before
