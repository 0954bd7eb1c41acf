use Rattle.std.proofs.Common.{refl}
use Rattle.ras_syntax.specs.declared.event.Event.TheVariants.{Answered, GaveUp, Refused}
use Rattle.law_tables.proofs.Events.{after_begun, after_other}
use Rattle.law_tables.proofs.laws.other_events_leave_the_table.Goals as goal

pub returns-clause-begun : goal.returns-clause-begun
returns-clause-begun c = after_begun

pub returns-clause-answered : goal.returns-clause-answered
returns-clause-answered c = λ past t k answer table new tied now. after_other past (Answered t k answer) table new (λ es. refl) (λ es. refl) tied now

pub returns-clause-refused : goal.returns-clause-refused
returns-clause-refused c = λ past t k p lock mode holder table new tied now. after_other past (Refused t k p lock mode holder) table new (λ es. refl) (λ es. refl) tied now

pub returns-clause-gave_up : goal.returns-clause-gave_up
returns-clause-gave_up c = λ past t k table new tied now. after_other past (GaveUp t k) table new (λ es. refl) (λ es. refl) tied now
