-- What a search among places in row-major order finds.
use Rattle.std.proofs.Common.{◌≡◌, ℕ, zero, suc, ◌+◌, ◌<◌, false, List, [], ◌∷◌, map, length, get_or, take, drop, inl, inr, Some, refl, sym, subst, ap, ◌∙◌, arith}
use Rattle.std.specs.Cmp.{IsTotalOrder}
use Rattle.std.specs.List.{AllByRecursion, slice_get}
use Rattle.std.specs.List.Sorted.{IsStrictlySortedBy, IsBinarySearchResult, IsSortedBy, IsSearchInRange}
use Rattle.std.specs.BTreeMap.{is_at}
use Rattle.std.specs.Ordering.{is_eq, is_lt, ordering_reverse}
use Rattle.std.specs.Prelude.{Result, Ok, Err, IfOk, IfErr, IsOk, option_map, Contains, ◌⊎◌}
use Rattle.std.specs.declared.cmp.Ordering.{Ordering}
use Rattle.std.specs.declared.cmp.Ordering.TheVariants.{Less, Greater}
use Rattle.std.proofs.lemmas.List.{take-append-drop, length-map, get_or-map, take-map, drop-map}
use Rattle.std.proofs.lemmas.Bool.{false≢true}
use Rattle.std.proofs.lemmas.Cmp.{tied_itself}
use Rattle.std.proofs.lemmas.List.Elements.{All-contains, All-from_recursion}
use Rattle.std.proofs.lemmas.List.Sorted.{searchable_from_sorted}
use Rattle.std.proofs.lemmas.Map.Keys.{Less-from_sorted}
use Rattle.std.proofs.lemmas.Map.Lookups.{CmpEqualImpliesEq}
use Rattle.std.proofs.lemmas.Option.{slice_get-get_or, slice_get-map}
use Rattle.law_lists.proofs.Each.{append_all, each_map, each_take, each_drop, each_weaker, each_found}
use Rattle.ras_index.proofs.Slots.{above_apart, below_apart}

module _ {K : Type 0} {R : K → K → Ordering} (o : IsTotalOrder R) where
  -- the other way round
  flipped : (p q : K) → R p q ≡ Greater → R q p ≡ Less
  flipped p q greater = o.antisymm q p ∙ ap ordering_reverse greater

  -- the places before one in the list are below it
  pub below-at : (ks : List K) (i : ℕ) (p : K) → IsStrictlySortedBy R ks → slice_get ks i ≡ Some p → AllByRecursion (λ q. R q p ≡ Less) (take i ks)
  unfolding IsStrictlySortedBy
  below-at [] i p sorted at = absurd (cc)
  below-at (k ∷ ks) zero p sorted at = tt
  below-at (k ∷ ks) (suc i) p sorted at =
      (each_found (λ q. R k q ≡ Less) ks i p sorted.0 at, below-at ks i p sorted.1 at)

  -- those after it are above it
  pub above-at : (ks : List K) (i : ℕ) (p : K) → IsStrictlySortedBy R ks → slice_get ks i ≡ Some p → AllByRecursion (λ q. R p q ≡ Less) (drop (suc i) ks)
  unfolding IsStrictlySortedBy
  above-at [] i p sorted at = absurd (cc)
  above-at (k ∷ ks) zero p sorted at =
      let same : k ≡ p = cc in subst (λ z. AllByRecursion (λ q. R z q ≡ Less) ks) same sorted.0
  above-at (k ∷ ks) (suc i) p sorted at = above-at ks i p sorted.1 at

  -- no place ties with one that has its place in between
  pub absent-between : (ks : List K) (i : ℕ) (p : K) → AllByRecursion (λ q. R q p ≡ Less) (take i ks) → AllByRecursion (λ q. R p q ≡ Less) (drop i ks)
      → AllByRecursion (λ q. is_at (R p) q ≡ false) ks
  absent-between ks i p below above =
      subst (AllByRecursion (λ q. is_at (R p) q ≡ false)) (take-append-drop i ks)
      (append_all (λ q. is_at (R p) q ≡ false) (take i ks) (drop i ks)
      (each_weaker (λ q. R q p ≡ Less) (λ q. is_at (R p) q ≡ false) (λ q less. below_apart o q p less) (take i ks) below)
      (each_weaker (λ q. R p q ≡ Less) (λ q. is_at (R p) q ≡ false) (λ q less. above_apart R p q less) (drop i ks) above))

  -- a list of items whose keys ascend can be searched
  pub searchable : {X : Type 0} (key : X → K) (xs : List X) → IsStrictlySortedBy R (map key xs) → IsSortedBy (λ a b. is_lt (R (key a) (key b))) xs
  searchable key xs sorted = λ k d low within.
      let next : k + 1 < length xs = within in
      let low_key : get_or (map key xs) k (key d) ≡ key (get_or xs k d) = get_or-map key xs k d (key d) (omega arith) in
      let high_key : get_or (map key xs) (k + 1) (key d) ≡ key (get_or xs (k + 1) d) = get_or-map key xs (k + 1) d (key d) next in
      let less : R (get_or (map key xs) k (key d)) (get_or (map key xs) (k + 1) (key d)) ≡ Less = Less-from_sorted R (map key xs) k (k + 1) (key d) sorted (omega arith)
      (omega (arith, length-map xs key)) in
      let rises : R (key (get_or xs k d)) (key (get_or xs (k + 1) d)) ≡ Less = cc in
      ap is_lt (o.antisymm (key (get_or xs (k + 1) d)) (key (get_or xs k d)) ∙ ap ordering_reverse rises)

  -- what a binary search by the keys finds
  pub found-at : {X : Type 0} (key : X → K) (exact : CmpEqualImpliesEq R) (xs : List X) (p : K) (r : Result ℕ ℕ) → IsSearchInRange r (length xs)
      → IsBinarySearchResult (λ x. R (key x) p) xs r → IfOk r (λ i. slice_get (map key xs) i ≡ Some p)
  found-at key exact [] p (Ok i) range is = absurd (omega (arith, range))
  found-at key exact (x ∷ xs) p (Ok i) range is =
      let same : key (get_or (x ∷ xs) i x) ≡ p = exact _ p (is x) in
      slice_get-map key (x ∷ xs) i ∙ ap (option_map key) (slice_get-get_or (x ∷ xs) i x range) ∙ ap Some same
  found-at key exact xs p (Err i) range is = tt

  pub found-below : {X : Type 0} (key : X → K) (xs : List X) (p : K) (r : Result ℕ ℕ) → IsStrictlySortedBy R (map key xs) → IsSearchInRange r (length xs)
      → IsBinarySearchResult (λ x. R (key x) p) xs r → IfErr r (λ i. AllByRecursion (λ q. R q p ≡ Less) (take i (map key xs)))
  found-below key xs p (Ok i) sorted range is = tt
  found-below key xs p (Err i) sorted range is =
      subst (AllByRecursion (λ q. R q p ≡ Less)) (sym (take-map key i xs))
      (each_map (λ x. R (key x) p ≡ Less) (λ q. R q p ≡ Less) key (λ x less. less) (take i xs)
      (each_take (λ x. R (key x) p ≡ Less) xs i (is (searchable_from_sorted o key xs p (searchable key xs sorted))).0 range))

  pub found-above : {X : Type 0} (key : X → K) (xs : List X) (p : K) (r : Result ℕ ℕ) → IsStrictlySortedBy R (map key xs) → IsBinarySearchResult (λ x. R (key x) p) xs r
      → IfErr r (λ i. AllByRecursion (λ q. R p q ≡ Less) (drop i (map key xs)))
  found-above key xs p (Ok i) sorted is = tt
  found-above key xs p (Err i) sorted is =
      subst (AllByRecursion (λ q. R p q ≡ Less)) (sym (drop-map key i xs))
      (each_map (λ x. R (key x) p ≡ Greater) (λ q. R p q ≡ Less) key (λ x greater. flipped (key x) p greater) (drop i xs)
      (each_drop (λ x. R (key x) p ≡ Greater) xs i (is (searchable_from_sorted o key xs p (searchable key xs sorted))).1))

  -- a search for a place that is there finds it
  pub found-where-present : (ks : List K) (p : K) (r : Result ℕ ℕ) → IfErr r (λ i. AllByRecursion (λ q. R q p ≡ Less) (take i ks))
      → IfErr r (λ i. AllByRecursion (λ q. R p q ≡ Less) (drop i ks)) → Contains ks p → IsOk r
  found-where-present ks p (Ok i) below above has = refl
  found-where-present ks p (Err i) below above has =
      let apart : is_at (R p) p ≡ false = All-contains (λ q. is_at (R p) q ≡ false) ks p (All-from_recursion (λ q. is_at (R p) q ≡ false) ks (absent-between ks i p below above)) has in
      absurd (false≢true (sym apart ∙ ap is_eq (tied_itself o p)))

  -- the items before the place where a search begins are below what it looks for
  pub below-start : {X : Type 0} (key : X → K) (xs : List X) (p : K) (r : Result ℕ ℕ) (i : ℕ) → IsStrictlySortedBy R (map key xs)
      → IfOk r (λ k. slice_get (map key xs) k ≡ Some p) → IfErr r (λ k. AllByRecursion (λ q. R q p ≡ Less) (take k (map key xs))) → (r ≡ Ok i) ⊎ (r ≡ Err i)
      → AllByRecursion (λ q. R q p ≡ Less) (map key (take i xs))
  below-start key xs p r i sorted found below (inl is) =
      subst (AllByRecursion (λ q. R q p ≡ Less)) (take-map key i xs)
      (below-at (map key xs) i p sorted (subst (λ s. IfOk s (λ k. slice_get (map key xs) k ≡ Some p)) is found))
  below-start key xs p r i sorted found below (inr is) =
      subst (AllByRecursion (λ q. R q p ≡ Less)) (take-map key i xs)
      (subst (λ s. IfErr s (λ k. AllByRecursion (λ q. R q p ≡ Less) (take k (map key xs)))) is below)

-- what is left of an ascending list ascends
sorted_drop : {K : Type 0} (R : K → K → Ordering) (ks : List K) (i : ℕ) → IsStrictlySortedBy R ks → IsStrictlySortedBy R (drop i ks)
unfolding IsStrictlySortedBy
sorted_drop R ks zero sorted = sorted
sorted_drop R [] (suc i) sorted = tt
sorted_drop R (k ∷ ks) (suc i) sorted = sorted_drop R ks i sorted.1

pub sorted-drop : {K X : Type 0} (R : K → K → Ordering) (key : X → K) (xs : List X) (i : ℕ) → IsStrictlySortedBy R (map key xs) → IsStrictlySortedBy R (map key (drop i xs))
sorted-drop R key xs i sorted = subst (IsStrictlySortedBy R) (drop-map key i xs) (sorted_drop R (map key xs) i sorted)
