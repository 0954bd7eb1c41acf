use Rattle.ras_domain.proofs.BoxTests.{IsIn-is_in, IsOrdered-is_empty, LiesIn-lies_in, is_same_box-same, same-is_same_box}
use Rattle.ras_domain.proofs.laws.tests_say_what_they_test.Goals as goal

pub returns-clause-points : goal.returns-clause-points
returns-clause-points c = IsIn-is_in

pub returns-clause-ordered : goal.returns-clause-ordered
returns-clause-ordered c = IsOrdered-is_empty

pub returns-clause-same : goal.returns-clause-same
returns-clause-same c = λ a b. (same-is_same_box a b, is_same_box-same a b)

pub returns-clause-within : goal.returns-clause-within
returns-clause-within c = LiesIn-lies_in
