use Rattle.law_walks.proofs.Due.{session_commits}
use Rattle.law_walks.proofs.laws.commits_make_the_own_database.Goals as goal

pub returns : goal.returns
returns c = session_commits
