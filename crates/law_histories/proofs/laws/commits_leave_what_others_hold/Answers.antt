use Rattle.law_histories.proofs.Serializable.{commit_leaves_others}
use Rattle.law_histories.proofs.laws.commits_leave_what_others_hold.Goals as goal

pub returns : goal.returns
returns c = commit_leaves_others
