-- The holders of each name after the entry of one name changes.
use Rattle.std.proofs.Common.{◌≡◌, ℕ, Bool, true, false, cond, List, [], refl, sym, ap, ◌∙◌, subst}
use Rattle.std.specs.Prelude.{Option, None, Some, if◌then◌else◌}
use Rattle.std.specs.Map.{lookup}
use Rattle.smallvec.specs.SmallVec.{SmallVec}
use Rattle.ras_domain.specs.declared.lock.LockName.{LockName}
use Rattle.ras_locks.specs.declared.holders.Holder.{Holder}
use Rattle.ras_locks.specs.Tables.{holders_in, IsReadyAt, IsReadyIn, items_or_none, equals_lock_name}
use Rattle.ras_locks.proofs.Same.{same_name-true}

-- the holders of each name, where a write gives the entry of one name the holders that f makes of the old ones
module _ (old new : List (LockName × SmallVec Holder)) (name : LockName) (w : Option (SmallVec Holder))
    (now : (q : LockName) → lookup (equals_lock_name q) new ≡ cond (equals_lock_name name q) w (lookup (equals_lock_name q) old)) where
  here : (other : LockName) → equals_lock_name name other ≡ true → lookup (equals_lock_name other) new ≡ w
  here other e = now other ∙ ap (λ t. cond t w (lookup (equals_lock_name other) old)) e

  elsewhere : (other : LockName) → equals_lock_name name other ≡ false → lookup (equals_lock_name other) new ≡ lookup (equals_lock_name other) old
  elsewhere other e = now other ∙ ap (λ t. cond t w (lookup (equals_lock_name other) old)) e

  pub updated-holders : (f : List Holder → List Holder) → items_or_none w ≡ f (holders_in old name)
      → (other : LockName) → holders_in new other ≡ (if equals_lock_name name other then f (holders_in old other) else holders_in old other)
  updated-holders f is other = by (equals_lock_name name other) refl
    where
      by : (b : Bool) → equals_lock_name name other ≡ b → holders_in new other ≡ (if equals_lock_name name other then f (holders_in old other) else holders_in old other)
      by true e = ap items_or_none (here other e) ∙ is ∙ ap (λ n. f (holders_in old n)) (same_name-true name other e)
          ∙ sym (ap (λ t. if t then f (holders_in old other) else holders_in old other) e)
      by false e = ap items_or_none (elsewhere other e) ∙ sym (ap (λ t. if t then f (holders_in old other) else holders_in old other) e)

  pub updated-same : items_or_none w ≡ holders_in old name → (other : LockName) → holders_in new other ≡ holders_in old other
  updated-same is other = by (equals_lock_name name other) refl
    where
      by : (b : Bool) → equals_lock_name name other ≡ b → holders_in new other ≡ holders_in old other
      by true e = ap items_or_none (here other e) ∙ is ∙ ap (holders_in old) (same_name-true name other e)
      by false e = ap items_or_none (elsewhere other e)

  pub updated-kept : (asker : ℕ) → (IsReadyAt old name asker → IsReadyIn w asker) → (other : LockName) → IsReadyAt old other asker → IsReadyAt new other asker
  updated-kept asker grows other = by (equals_lock_name name other) refl
    where
      by : (b : Bool) → equals_lock_name name other ≡ b → IsReadyAt old other asker → IsReadyAt new other asker
      by true e ready = subst (λ o. IsReadyIn o asker) (sym (here other e)) (grows (subst (λ n. IsReadyAt old n asker) (sym (same_name-true name other e)) ready))
      by false e ready = subst (λ o. IsReadyIn o asker) (sym (elsewhere other e)) ready

-- where the name has no entry, nothing changes
pub absent-same : (old : List (LockName × SmallVec Holder)) (name : LockName) (f : List Holder → List Holder) → f [] ≡ [] → None ≡ lookup (equals_lock_name name) old
    → (other : LockName) → holders_in old other ≡ (if equals_lock_name name other then f (holders_in old other) else holders_in old other)
absent-same old name f empty none other = by (equals_lock_name name other) refl
  where
    by : (b : Bool) → equals_lock_name name other ≡ b → holders_in old other ≡ (if equals_lock_name name other then f (holders_in old other) else holders_in old other)
    by true e =
        let nobody : holders_in old other ≡ [] = ap (holders_in old) (sym (same_name-true name other e)) ∙ ap items_or_none (sym none) in
        nobody ∙ sym (ap f nobody ∙ empty) ∙ sym (ap (λ t. if t then f (holders_in old other) else holders_in old other) e)
    by false e = sym (ap (λ t. if t then f (holders_in old other) else holders_in old other) e)
