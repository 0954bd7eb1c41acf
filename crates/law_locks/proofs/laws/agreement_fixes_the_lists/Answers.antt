use Rattle.law_locks.proofs.Lists.{needs_agree}
use Rattle.law_locks.proofs.laws.agreement_fixes_the_lists.Goals as goal

pub returns : goal.returns
returns c = needs_agree
