-- A map after a write to the value at one key.
use Rattle.std.proofs.Common.{◌≡◌, Bool, true, false, Option, Some, None, refl, sym, ap, subst, ◌∙◌, Ordering}
use Rattle.std.specs.BTreeMap.{BTreeMap, UpdatesBy, get, is_at}
use Rattle.std.proofs.lemmas.Map.Lookups.{CmpEqualImpliesEq}
use Rattle.std.proofs.lemmas.Map.Views.{tells_apart}

module _ {K X : Type 0} (R : K → K → Ordering) (exact : CmpEqualImpliesEq R) (m n : BTreeMap K X) (k : K) (v w : X)
    (found : get R m k ≡ Some v) (updates : UpdatesBy R (R k) m n (Some w)) where
  at_test : (P : Bool → Option X → Option X → Type 0) (q : K) (b : Bool) → is_at (R k) q ≡ b → P true (Some v) (Some w) → ((o : Option X) → P false o o)
      → P b (get R m q) (get R n q)
  at_test P q true is here others =
      subst (λ x. P true (get R m x) (get R n x)) (tells_apart exact k q is)
      (subst (λ o. P true o (get R n k)) (sym found) (subst (λ o. P true (Some v) o) (sym updates.1) here))
  at_test P q false is here others = subst (λ o. P false (get R m q) o) (sym (updates.2 q is)) (others (get R m q))

  -- what holds of the value that was written, and of values that stay, holds at each key
  pub by_key : (P : Bool → Option X → Option X → Type 0) (q : K) → P true (Some v) (Some w) → ((o : Option X) → P false o o)
      → P (is_at (R k) q) (get R m q) (get R n q)
  by_key P q here others = at_test P q (is_at (R k) q) refl here others
