-- What is ready after slots are made for the places that have none.
use Rattle.std.proofs.Common.{◌≡◌, ℕ, ◌<◌, ◌+◌, ℤ, false, List, [], ◌∷◌, ◌++◌, length, get_or, take, drop, Contains, All, Some, None, ◌⊎◌, inl, inr, refl, sym, subst, ap, ◌∙◌, append_assoc, length-append, arith}
use Rattle.std.specs.Cmp.{IsTotalOrder, IsStrictWeakOrder}
use Rattle.std.specs.List.{AllByRecursion, slice_get}
use Rattle.std.specs.List.Sorted.{IsStrictlySortedBy, IsSorted}
use Rattle.std.specs.Ordering.{is_lt, ordering_reverse}
use Rattle.std.specs.declared.cmp.Ordering.{Ordering}
use Rattle.std.specs.declared.cmp.Ordering.TheVariants.{Less, Equal, Greater}
use Rattle.std.proofs.Math.ListN.{get_or-append}
use Rattle.std.proofs.Math.Seq.{get_or-append_seam}
use Rattle.std.proofs.lemmas.Bool.{false≢true}
use Rattle.std.proofs.lemmas.List.{append-nil, map-append, take-append-drop, take-map, drop-map}
use Rattle.std.proofs.lemmas.List.Elements.{All-contains, All-more, All-weaker, All-pop, All-contains_itself, Contains-append_left, Contains-append_right, Contains-append_cases, Contains-push, Contains-push_cases}
use Rattle.std.proofs.lemmas.List.Sorted.{ranks_by, sorted_far}
use Rattle.std.proofs.lemmas.Option.{slice_get_within, get_or_from_slice_get}
use Rattle.arrayvec.specs.ArrayVec.{ArrayVec}
use Rattle.ras_index.specs.declared.slot.Slot.{Slot}
use Rattle.ras_index.specs.Index.{row_major, IsReady}
use Rattle.ras_index.specs.Slots.{places_of, entries_of, index_of}
use Rattle.ras_index.proofs.Slots.{row_major_total, before}
use Rattle.law_lists.proofs.Each.{append_all, each_weaker}

-- what a look-up by index finds is among the elements
pub Contains-slice_get : {X : Type 0} (xs : List X) (i : ℕ) (x : X) → slice_get xs i ≡ Some x → Contains xs x
Contains-slice_get xs i x at = (i, slice_get_within xs i x at, get_or_from_slice_get xs i x x at)

-- ---- the places that are missing, one place further

module _ {V : Type 0} (slots : List (Slot V)) (places missing : List (ArrayVec ℤ)) (i : ℕ) (place : ArrayVec ℤ) where
  pub one_more_missing : i < length places → place ≡ get_or places i place → All (λ p. Contains (places_of slots) p.items ⊎ Contains missing p) (take i places)
      → All (λ p. Contains (places_of slots) p.items ⊎ Contains (missing ++ place ∷ []) p) (take (i + 1) places)
  one_more_missing within is before =
      All-more (λ p. Contains (places_of slots) p.items ⊎ Contains (missing ++ place ∷ []) p) places i place within
      (All-weaker (λ p. Contains (places_of slots) p.items ⊎ Contains missing p) (λ p. Contains (places_of slots) p.items ⊎ Contains (missing ++ place ∷ []) p)
      (λ p. elim [ inl has ↦ inl has | inr has ↦ inr (Contains-append_left missing (place ∷ []) p has) ]) (take i places) before)
      (subst (λ p. Contains (places_of slots) p.items ⊎ Contains (missing ++ place ∷ []) p) is (inr (Contains-push missing place)))

  pub one_more_there : (k : ℕ) → i < length places → place ≡ get_or places i place → All (λ p. Contains (places_of slots) p.items ⊎ Contains missing p) (take i places)
      → slice_get (places_of slots) k ≡ Some place.items → All (λ p. Contains (places_of slots) p.items ⊎ Contains missing p) (take (i + 1) places)
  one_more_there k within is before at =
      All-more (λ p. Contains (places_of slots) p.items ⊎ Contains missing p) places i place within before
      (subst (λ p. Contains (places_of slots) p.items ⊎ Contains missing p) is (inl (Contains-slice_get (places_of slots) k place.items at)))

-- ---- a place between those below it and those above it

module _ {K : Type 0} (R : K → K → Ordering) where
  AllByRecursion-insert : (P : K → Type 0) (xs ys : List K) (p : K) → P p → AllByRecursion P (xs ++ ys) → AllByRecursion P (xs ++ p ∷ ys)
  AllByRecursion-insert P [] ys p here all = (here, all)
  AllByRecursion-insert P (x ∷ xs) ys p here all = (all.0, AllByRecursion-insert P xs ys p here all.1)

  AllByRecursion-front : (P : K → Type 0) (xs ys : List K) → AllByRecursion P (xs ++ ys) → AllByRecursion P xs
  AllByRecursion-front P [] ys all = tt
  AllByRecursion-front P (x ∷ xs) ys all = (all.0, AllByRecursion-front P xs ys all.1)

  sorted_part : (xs ys : List K) → IsStrictlySortedBy R (xs ++ ys) → IsStrictlySortedBy R xs
  unfolding IsStrictlySortedBy
  sorted_part [] ys sorted = tt
  sorted_part (x ∷ xs) ys sorted = (AllByRecursion-front (λ q. R x q ≡ Less) xs ys sorted.0, sorted_part xs ys sorted.1)

  sorted-insert : (xs ys : List K) (p : K) → IsStrictlySortedBy R (xs ++ ys) → AllByRecursion (λ q. R q p ≡ Less) xs → AllByRecursion (λ q. R p q ≡ Less) ys
      → IsStrictlySortedBy R (xs ++ p ∷ ys)
  unfolding IsStrictlySortedBy
  sorted-insert [] ys p sorted below above = (above, sorted)
  sorted-insert (x ∷ xs) ys p sorted below above =
      (AllByRecursion-insert (λ q. R x q ≡ Less) xs ys p below.0 sorted.0, sorted-insert xs ys p sorted.1 below.1 above)

-- what isn't above p is below what p is below
below_too : {K : Type 0} {R : K → K → Ordering} → IsTotalOrder R → (x p q : K) (r : Ordering) → R x p ≡ r → is_lt (R p x) ≡ false → R p q ≡ Less → R x q ≡ Less
below_too o x p q Less is upto less = o.trans x p q is less
below_too o x p q Equal is upto less = o.congr x p q is ∙ less
below_too o x p q Greater is upto less = absurd (false≢true (sym upto ∙ ap is_lt (o.antisymm p x ∙ ap ordering_reverse is)))

-- the last of an ascending list is no less than the others
module _ {X : Type 0} (cmp : X → X → Ordering) where
  sorted-front : (xs : List X) (p : X) → IsSorted cmp (xs ++ p ∷ []) → IsSorted cmp xs
  sorted-front xs p sorted = λ k d low within.
      let inside : k + 1 < length xs = within in
      let far : get_or (xs ++ p ∷ []) (k + 1) d ≡ get_or xs (k + 1) d = get_or-append xs (p ∷ []) d (k + 1) inside in
      let near : get_or (xs ++ p ∷ []) k d ≡ get_or xs k d = get_or-append xs (p ∷ []) d k (omega arith) in
      let is : is_lt (cmp (get_or (xs ++ p ∷ []) (k + 1) d) (get_or (xs ++ p ∷ []) k d)) ≡ false = sorted k d low (omega (arith, length-append xs (p ∷ []))) in
      cc

  sorted-last : IsStrictWeakOrder (λ x y. is_lt (cmp x y)) → (xs : List X) (p : X) → IsSorted cmp (xs ++ p ∷ []) → All (λ x. is_lt (cmp p x) ≡ false) xs
  sorted-last weak xs p sorted = λ k d within.
      let inside : k < length xs = within in
      let last : get_or (xs ++ p ∷ []) (length xs) d ≡ p = get_or-append_seam xs p [] d in
      let near : get_or (xs ++ p ∷ []) k d ≡ get_or xs k d = get_or-append xs (p ∷ []) d k inside in
      let is : is_lt (cmp (get_or (xs ++ p ∷ []) (length xs) d) (get_or (xs ++ p ∷ []) k d)) ≡ false = sorted_far (λ x y. is_lt (cmp x y)) weak (xs ++ p ∷ []) sorted k
      (length xs) d (omega arith) (omega (arith, length-append xs (p ∷ []))) in
      cc

-- what is left of the places that are missing
left_over : (slots : List (List ℤ)) (missing : List (ArrayVec ℤ)) (place p : ArrayVec ℤ) → Contains slots place.items → Contains slots p.items
    ⊎ Contains (missing ++ place ∷ []) p → Contains slots p.items ⊎ Contains missing p
left_over slots missing place p here (inl has) = inl has
left_over slots missing place p here (inr has) =
    elim (Contains-push_cases missing place p has) [ inl rest ↦ inr rest | inr same ↦ inl (subst (λ x. Contains slots x.items) same here) ]

module _ {V : Type 0} where
  -- an empty slot has no entry
  entries-insert : (front back : List (Slot V)) (t : Slot V) → t.value ≡ None → entries_of (front ++ t ∷ back) ≡ entries_of (front ++ back)
  entries-insert [] back t is = ap (λ w. before t.place.items w (entries_of back)) is
  entries-insert (x ∷ front) back t is = ap (λ es. before x.place.items x.value es) (entries-insert front back t is)

  -- the places stay
  places-insert : (front back : List (Slot V)) (t : Slot V) (q : List ℤ) → Contains (places_of (front ++ back)) q → Contains (places_of (front ++ t ∷ back)) q
  places-insert front back t q has =
      subst (λ ps. Contains ps q) (sym (map-append (λ s. s.place.items) front (t ∷ back)))
      (elim (Contains-append_cases (places_of front) (places_of back) q (subst (λ ps. Contains ps q) (map-append (λ s. s.place.items) front back) has)) [
        | inl first ↦ Contains-append_left (places_of front) (places_of (t ∷ back)) q first
        | inr second ↦ Contains-append_right (places_of front) (places_of (t ∷ back)) q (Contains-append_right (t.place.items ∷ []) (places_of back) q second)
      ])

  -- and the slot's own place is one of them
  place-inserted : (front back : List (Slot V)) (t : Slot V) → Contains (places_of (front ++ t ∷ back)) t.place.items
  place-inserted front back t =
      subst (λ ps. Contains ps t.place.items) (sym (map-append (λ s. s.place.items) front (t ∷ back)))
      (Contains-append_right (places_of front) (places_of (t ∷ back)) t.place.items (0, omega arith, refl))

  -- slots are being made for the wanted places: those in `slots` and then those in `tail`, and the places in `missing` still have none
  pub record IsSpread (initial : List (Slot V)) (wanted : List (ArrayVec ℤ)) (slots tail : List (Slot V)) (missing : List (ArrayVec ℤ)) : Type 0 where
    pub sorted : IsStrictlySortedBy row_major (places_of (slots ++ tail))
    pub entries : entries_of (slots ++ tail) ≡ entries_of initial
    pub kept : (q : List ℤ) → Contains (places_of initial) q → Contains (places_of (slots ++ tail)) q
    pub made : All (λ p. Contains (places_of (slots ++ tail)) p.items ⊎ Contains missing p) wanted
    pub rising : IsSorted (λ p q. row_major p.items q.items) missing
    pub above : All (λ p. AllByRecursion (λ q. row_major p.items q ≡ Less) (places_of tail)) missing

  -- the slots ascend
  pub slots_ascend : (slots tail : List (Slot V)) → IsStrictlySortedBy row_major (places_of (slots ++ tail)) → IsStrictlySortedBy row_major (places_of slots)
  slots_ascend slots tail sorted =
      sorted_part row_major (places_of slots) (places_of tail) (subst (IsStrictlySortedBy row_major) (map-append (λ s. s.place.items) slots tail) sorted)

  -- before the first place
  pub spread-start : (initial : List (Slot V)) (missing : List (ArrayVec ℤ)) → IsStrictlySortedBy row_major (places_of initial)
      → IsSorted (λ p q. row_major p.items q.items) missing → IsSpread initial missing initial [] missing
  spread-start initial missing sorted rising =
      record {
        sorted = subst (λ slots. IsStrictlySortedBy row_major (places_of slots)) (sym (append-nil initial)) sorted;
        entries = ap entries_of (append-nil initial);
        kept = λ q has. subst (λ slots. Contains (places_of slots) q) (sym (append-nil initial)) has;
        made = All-weaker (Contains missing) (λ p. Contains (places_of (initial ++ [])) p.items ⊎ Contains missing p) (λ p has. inr has) missing (All-contains_itself missing);
        rising = rising;
        above = λ k d within. tt;
      }

  -- after a place that a slot had already
  pub spread-there : (initial : List (Slot V)) (wanted : List (ArrayVec ℤ)) (slots tail : List (Slot V)) (missing : List (ArrayVec ℤ)) (place : ArrayVec ℤ)
      → IsSpread initial wanted slots tail (missing ++ place ∷ []) → Contains (places_of slots) place.items → IsSpread initial wanted slots tail missing
  spread-there initial wanted slots tail missing place spread there =
      let here = subst (λ ps. Contains ps place.items) (sym (map-append (λ s. s.place.items) slots tail)) (Contains-append_left (places_of slots) (places_of tail) place.items there) in
      record {
        sorted = spread.sorted;
        entries = spread.entries;
        kept = spread.kept;
        made = All-weaker _ (λ p. Contains (places_of (slots ++ tail)) p.items ⊎ Contains missing p) (λ p. left_over (places_of (slots ++ tail)) missing place p here) wanted spread.made;
        rising = sorted-front (λ p q. row_major p.items q.items) missing place spread.rising;
        above = (All-pop (λ p. AllByRecursion (λ q. row_major p.items q ≡ Less) (places_of tail)) (missing ++ place ∷ []) missing (Some place) refl spread.above).0;
      }

  -- where the slots are cut
  cut_whole : (slots tail : List (Slot V)) (end : ℕ) → slots ++ tail ≡ take end slots ++ (drop end slots ++ tail)
  cut_whole slots tail end =
      ap (λ xs. xs ++ tail) (sym (take-append-drop end slots)) ∙ append_assoc (take end slots) (drop end slots) tail

  -- what stood in a slot or was missing does so still, or has the new slot
  with_slot : (front back : List (Slot V)) (missing : List (ArrayVec ℤ)) (t : Slot V) (p : ArrayVec ℤ) → Contains (places_of (front ++ back)) p.items
      ⊎ Contains (missing ++ t.place ∷ []) p → Contains (places_of (front ++ t ∷ back)) p.items ⊎ Contains missing p
  with_slot front back missing t p (inl has) = inl (places-insert front back t p.items has)
  with_slot front back missing t p (inr has) =
      elim (Contains-push_cases missing t.place p has) [
        | inl rest ↦ inr rest
        | inr same ↦ inl
            (subst (λ x. Contains (places_of (front ++ t ∷ back)) x.items) same (place-inserted front back t))
      ]

  -- after a slot is made for a place, between the slots below it and those above it
  pub spread-made : (initial : List (Slot V)) (wanted : List (ArrayVec ℤ)) (slots tail : List (Slot V)) (missing : List (ArrayVec ℤ)) (t : Slot V) (end : ℕ)
      → t.value ≡ None → IsSpread initial wanted slots tail (missing ++ t.place ∷ [])
      → AllByRecursion (λ q. row_major q t.place.items ≡ Less) (take end (places_of slots))
      → AllByRecursion (λ q. row_major t.place.items q ≡ Less) (drop end (places_of slots)) → IsSpread initial wanted (take end slots ++ t ∷ []) (drop end slots ++ tail) missing
  spread-made initial wanted slots tail missing t end empty spread below above =
      let front = take end slots in
      let back = drop end slots ++ tail in
      let joined : (front ++ t ∷ []) ++ back ≡ front ++ t ∷ back = append_assoc front (t ∷ []) back in
      let whole : slots ++ tail ≡ front ++ back = cut_whole slots tail end in
      let tails = All-pop (λ p. AllByRecursion (λ q. row_major p.items q ≡ Less) (places_of tail)) (missing ++ t.place ∷ []) missing (Some t.place) refl spread.above in
      let places_below = subst (AllByRecursion (λ q. row_major q t.place.items ≡ Less)) (take-map (λ s. s.place.items) end slots) below in
      let places_above : AllByRecursion (λ q. row_major t.place.items q ≡ Less) (places_of back) =
      subst (AllByRecursion (λ q. row_major t.place.items q ≡ Less)) (sym (map-append (λ s. s.place.items) (drop end slots) tail))
      (append_all (λ q. row_major t.place.items q ≡ Less) (places_of (drop end slots)) (places_of tail)
      (subst (AllByRecursion (λ q. row_major t.place.items q ≡ Less)) (drop-map (λ s. s.place.items) end slots) above) tails.1) in
      let ascending : IsStrictlySortedBy row_major (places_of front ++ places_of back) =
      subst (IsStrictlySortedBy row_major) (ap places_of whole ∙ map-append (λ s. s.place.items) front back) spread.sorted in
      record {
        sorted = subst (IsStrictlySortedBy row_major) (sym (ap places_of joined ∙ map-append (λ s. s.place.items) front (t ∷ back)))
            (sorted-insert row_major (places_of front) (places_of back) t.place.items ascending places_below places_above);
        entries = ap entries_of joined ∙ entries-insert front back t empty ∙ ap entries_of (sym whole) ∙ spread.entries;
        kept = λ q has. subst (λ xs. Contains (places_of xs) q) (sym joined) (places-insert front back t q (subst (λ xs. Contains (places_of xs) q) whole (spread.kept q has)));
        made = subst (λ xs. All (λ p. Contains (places_of xs) p.items ⊎ Contains missing p) wanted) (sym joined)
            (All-weaker (λ p. Contains (places_of (front ++ back)) p.items ⊎ Contains (missing ++ t.place ∷ []) p)
            (λ p. Contains (places_of (front ++ t ∷ back)) p.items ⊎ Contains missing p)
            (with_slot front back missing t) wanted
            (subst (λ xs. All (λ p. Contains (places_of xs) p.items ⊎ Contains (missing ++ t.place ∷ []) p) wanted) whole spread.made));
        rising = sorted-front (λ p q. row_major p.items q.items) missing t.place spread.rising;
        above = All-weaker (λ x. is_lt (row_major t.place.items x.items) ≡ false) (λ x. AllByRecursion (λ q. row_major x.items q ≡ Less) (places_of back))
            (λ x upto. each_weaker (λ q. row_major t.place.items q ≡ Less) (λ q. row_major x.items q ≡ Less)
            (λ q less. below_too row_major_total x.items t.place.items q (row_major x.items t.place.items) refl upto less) (places_of back) places_above)
            missing (sorted-last (λ p q. row_major p.items q.items) (ranks_by row_major_total (λ p. p.items)) missing t.place spread.rising);
      }

  -- after the last place, each wanted place has a slot
  pub all_made : (initial : List (Slot V)) (wanted : List (ArrayVec ℤ)) (slots tail : List (Slot V)) → IsSpread initial wanted slots tail []
      → All (λ p. Contains (places_of (slots ++ tail)) p.items) wanted
  all_made initial wanted slots tail spread =
      All-weaker (λ p. Contains (places_of (slots ++ tail)) p.items ⊎ Contains [] p) (λ p. Contains (places_of (slots ++ tail)) p.items)
      (λ p. elim [ inl has ↦ has | inr has ↦ absurd (omega (arith, has.1)) ]) wanted spread.made

  -- the wanted places are ready once the missing ones have slots
  pub all_ready : (old new : List (Slot V)) (wanted missing : List (ArrayVec ℤ)) → ((q : List ℤ) → Contains (places_of old) q → Contains (places_of new) q)
      → All (λ p. Contains (places_of old) p.items ⊎ Contains missing p) wanted → All (λ p. Contains (places_of new) p.items) missing → All (λ p. IsReady (index_of new) p.items) wanted
  all_ready old new wanted missing kept known made =
      All-weaker (λ p. Contains (places_of old) p.items ⊎ Contains missing p) (λ p. IsReady (index_of new) p.items)
      (λ p. elim [ inl has ↦ inr (kept p.items has) | inr has ↦ inr (All-contains (λ q. Contains (places_of new) q.items) missing p made has) ]) wanted known
