-- Whether a point lies in a box.
use Rattle.std.proofs.Common.{◌≡◌, ℤ, List, [], ◌∷◌, length, Bool, true, false, refl, sym, arith}
use Rattle.std.specs.Prelude.{IsTrue, ◌↔◌, ◌==◌}
use Rattle.ras_domain.specs.declared.region.Interval.{Interval}
use Rattle.ras_domain.specs.Region.{IsIn, is_in}
use Rattle.std.proofs.lemmas.Bool.Decides.{nat_tests}
use Rattle.ras_domain.proofs.BoxTests.{IsIn-is_in}

same_truth : (a b : Bool) (P : Type 0) → IsTrue a ↔ P → b ≡ true ↔ P → a ≡ b
same_truth true true P h k = refl
same_truth false false P h k = refl
same_truth true false P h k = sym (k.1 (h.0 refl))
same_truth false true P h k = h.1 (k.0 refl)

pub is_in_by : (p : List ℤ) (axes : List Interval) (b : Bool) → IsTrue b ↔ IsIn p axes → b ≡ is_in p axes
is_in_by p axes b h = same_truth b (is_in p axes) (IsIn p axes) h (IsIn-is_in p axes)

-- the box without axes has the point without coordinates
pub is_in_nothing : (p : List ℤ) → (length p == 0) ≡ is_in p []
is_in_nothing [] = refl
is_in_nothing (c ∷ p) = grind (arith, nat_tests)
