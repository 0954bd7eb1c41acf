use Rattle.std.proofs.Common.{codes, refl, arith}
use Rattle.ras_settings.proofs.Readings.{breaks_at_end, breaks_within}
use Rattle.ras_settings.proofs.laws.texts_that_break.Goals as goal

pub returns-clause-letter : goal.returns-clause-letter
returns-clause-letter c = breaks_within (codes "1y2") 1 _ (omega arith) refl refl

pub returns-clause-session : goal.returns-clause-session
returns-clause-session c = breaks_within (codes "65") 1 _ (omega arith) refl refl

pub returns-clause-zero : goal.returns-clause-zero
returns-clause-zero c = breaks_within (codes "0") 0 _ (omega arith) refl refl

pub returns-clause-no_steps : goal.returns-clause-no_steps
returns-clause-no_steps c = breaks_within (codes "1x0") 2 _ (omega arith) refl refl

pub returns-clause-leading_zero : goal.returns-clause-leading_zero
returns-clause-leading_zero c = breaks_within (codes "1x01") 2 _ (omega arith) refl refl

pub returns-clause-too_many : goal.returns-clause-too_many
returns-clause-too_many c = breaks_within (codes "1x1000001") 8 _ (omega arith) refl refl

pub returns-clause-none_left : goal.returns-clause-none_left
returns-clause-none_left c = breaks_within (codes "1x1000000,1") 9 _ (omega arith) refl refl

pub returns-clause-one_left : goal.returns-clause-one_left
returns-clause-one_left c = breaks_within (codes "1x999999,2x2") 11 _ (omega arith) refl refl

pub returns-clause-no_item : goal.returns-clause-no_item
returns-clause-no_item c = breaks_at_end (codes "1,") _ refl refl

pub returns-clause-no_count : goal.returns-clause-no_count
returns-clause-no_count c = breaks_at_end (codes "1x") _ refl refl
