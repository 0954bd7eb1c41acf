use Rattle.std.proofs.Common.{refl}
use Rattle.ras_syntax.specs.declared.event.Event.TheVariants.{Aborted, Committed}
use Rattle.law_tables.proofs.Events.{after_end}
use Rattle.law_tables.proofs.laws.an_end_leaves_the_table.Goals as goal

pub returns-clause-committed : goal.returns-clause-committed
returns-clause-committed c = λ past t n table new tied now. after_end past (Committed t n) table new refl tied now

pub returns-clause-aborted : goal.returns-clause-aborted
returns-clause-aborted c = λ past t table new tied now. after_end past (Aborted t) table new refl tied now
