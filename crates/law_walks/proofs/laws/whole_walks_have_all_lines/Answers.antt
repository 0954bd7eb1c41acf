use Rattle.law_walks.proofs.Due.{session_whole}
use Rattle.law_walks.proofs.laws.whole_walks_have_all_lines.Goals as goal

pub returns : goal.returns
returns c = λ programs past session is over. (is.steps, session_whole programs past session is over)
