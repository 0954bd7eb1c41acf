-- Loops that put locks among others, the last one first.
use Rattle.std.specs.Prelude.{filter}
use Rattle.std.proofs.Common.{Bool, true, false, cond, refl, ◌≡◌, ℕ, ℤ, ◌≤◌, List, [], ◌∷◌, ◌++◌, length, map, sym, ap, ◌∙◌, arith}
use Rattle.std.proofs.lemmas.List.{map-append}
use Rattle.arrayvec.specs.ArrayVec.{ArrayVec}
use Rattle.ras_domain.specs.declared.lock.LockName.{LockName}
use Rattle.ras_domain.specs.declared.lock.LockName.TheVariants.{Tile}
use Rattle.ras_domain.specs.declared.lock.Mode.{Mode}
use Rattle.spec_statements.specs.Locks.{Lock, with_lock}
use Rattle.spec_statements.specs.Phases.{tile_lock}
use Rattle.ras_reach.specs.Keys.{put_before}
use Rattle.ras_reach.specs.TileLocks.{points_held}
use Rattle.ras_reach.proofs.KeyOrder.{put_before_both, put_turn}

module _ (collection : List ℕ) (oid : ℕ) (mode : Mode) where
  pub tile_turn : (left rest : List (ArrayVec ℤ)) (place : ArrayVec ℤ) (name : LockName) (before after w : List Lock) → left ≡ rest ++ place ∷ []
      → name ≡ Tile collection oid (record { items = place.items }) → after ≡ with_lock (name, mode) before
      → put_before (map (tile_lock collection oid mode) (points_held left)) before ≡ w → put_before (map (tile_lock collection oid mode) (points_held rest)) after ≡ w
  tile_turn left rest place name before after w is named put so_far =
      put_turn (map (tile_lock collection oid mode) (points_held left)) (map (tile_lock collection oid mode) (points_held rest)) before after w (tile_lock collection oid mode place.items)
      (ap (λ points. map (tile_lock collection oid mode) (points_held points)) is
      ∙ ap (map (tile_lock collection oid mode)) (map-append (λ (point : ArrayVec ℤ). point.items) rest (place ∷ []))
      ∙ map-append (tile_lock collection oid mode) (points_held rest) (place.items ∷ []))
      (put ∙ ap (λ (lock : LockName). with_lock (lock, mode) before) named) so_far

  pub tile_end : (left : List (ArrayVec ℤ)) (locks w : List Lock) → length left ≤ 0 → put_before (map (tile_lock collection oid mode) (points_held left)) locks ≡ w → locks ≡ w
  tile_end [] locks w none so_far = so_far
  tile_end (place ∷ left) locks w none so_far = absurd (omega (arith, none))

filter_step : (b : Bool) (x : List ℤ) (rest front back : List (List ℤ)) → rest ≡ front ++ back → cond b (x ∷ rest) rest ≡ cond b (x ∷ front) front ++ back
filter_step true x rest front back is = ap (λ zs. x ∷ zs) is
filter_step false x rest front back is = is

module _ (collection : List ℕ) (oid : ℕ) (mode : Mode) (keeps : List ℤ → Bool) where
  filter-both : (xs ys : List (List ℤ)) → filter keeps (xs ++ ys) ≡ filter keeps xs ++ filter keeps ys
  filter-both [] ys = refl
  filter-both (x ∷ xs) ys = filter_step (keeps x) x (filter keeps (xs ++ ys)) (filter keeps xs) (filter keeps ys) (filter-both xs ys)

  pub changed_turn : (left rest : List (ArrayVec ℤ)) (place : ArrayVec ℤ) (before after w : List Lock) → left ≡ rest ++ place ∷ []
      → after ≡ put_before (map (tile_lock collection oid mode) (filter keeps (place.items ∷ []))) before
      → put_before (map (tile_lock collection oid mode) (filter keeps (points_held left))) before ≡ w
      → put_before (map (tile_lock collection oid mode) (filter keeps (points_held rest))) after ≡ w
  changed_turn left rest place before after w is put so_far =
      ap (put_before (map (tile_lock collection oid mode) (filter keeps (points_held rest)))) put
      ∙ sym (put_before_both (map (tile_lock collection oid mode) (filter keeps (points_held rest))) (map (tile_lock collection oid mode) (filter keeps (place.items ∷ []))) before)
      ∙ ap (λ locks. put_before locks before)
      (sym (ap (λ points. map (tile_lock collection oid mode) (filter keeps (points_held points))) is
      ∙ ap (λ points. map (tile_lock collection oid mode) (filter keeps points)) (map-append (λ (point : ArrayVec ℤ). point.items) rest (place ∷ []))
      ∙ ap (map (tile_lock collection oid mode)) (filter-both (points_held rest) (place.items ∷ []))
      ∙ map-append (tile_lock collection oid mode) (filter keeps (points_held rest)) (filter keeps (place.items ∷ []))))
      ∙ so_far

  pub changed_end : (left : List (ArrayVec ℤ)) (locks w : List Lock) → length left ≤ 0 → put_before (map (tile_lock collection oid mode) (filter keeps (points_held left))) locks ≡ w → locks ≡ w
  changed_end [] locks w none so_far = so_far
  changed_end (place ∷ left) locks w none so_far = absurd (omega (arith, none))

pub ruleset changed_turns = (changed_turn, changed_end)

pub ruleset tile_turns = (tile_turn, tile_end)
