-- What the entries of a vector of slots are after one slot is read or written.
use Rattle.std.proofs.Common.{◌≡◌, ℕ, zero, suc, ◌<◌, ℤ, false, cond, List, [], ◌∷◌, length, get_or, Contains, Option, Some, None, inl, inr, refl, sym, subst, ap, ◌∙◌, arith}
use Rattle.std.specs.Cmp.{IsTotalOrder}
use Rattle.std.specs.Cmp.Lexicographic.{slice_cmp}
use Rattle.std.specs.List.{AllByRecursion, slice_get, slice_set, cons_option}
use Rattle.std.specs.List.Sorted.{IsStrictlySortedBy}
use Rattle.std.specs.Map.{keys_of, lookup, remove_entry}
use Rattle.std.specs.BTreeMap.{insert_entry, is_at}
use Rattle.std.specs.Option.{option_map}
use Rattle.std.specs.Prelude.{Result, Ok, IfOk}
use Rattle.std.specs.Ordering.{int_cmp, is_eq, ordering_reverse, match_ordering}
use Rattle.std.specs.declared.cmp.Ordering.{Ordering}
use Rattle.std.specs.declared.cmp.Ordering.TheVariants.{Less}
use Rattle.std.proofs.lemmas.Option.{slice_get-map, slice_get_within, slice_get_read, same_Some}
use Rattle.std.proofs.lemmas.List.{length-map}
use Rattle.std.proofs.lemmas.Cmp.{tied_itself, int_cmp_total, lists_total}
use Rattle.std.proofs.lemmas.List.Elements.{All-from_recursion, recursion_from_All, All-contains_itself, All-contains}
use Rattle.std.proofs.lemmas.Map.Lookups.{CmpEqualImpliesEq, exact_signed}
use Rattle.ras_index.specs.declared.slot.Slot.{Slot}
use Rattle.ras_index.specs.Index.{row_major, IsReady}
use Rattle.ras_index.specs.Slots.{places_of, entries_of, index_of}
use Rattle.law_lists.proofs.Each.{each_weaker, each_found}
use Rattle.law_lists.proofs.Orders.{both_equal}

-- ---- the order

pub row_major_total : IsTotalOrder row_major
row_major_total = lists_total int_cmp_total

-- places that tie are one place
pub row_major_exact : CmpEqualImpliesEq row_major
row_major_exact [] [] tie = refl
row_major_exact [] (d ∷ q) tie = absurd (cc)
row_major_exact (c ∷ p) [] tie = absurd (cc)
row_major_exact (c ∷ p) (d ∷ q) tie =
    let both = both_equal (int_cmp c d) (slice_cmp int_cmp p q) tie in
    ap (λ e. e ∷ p) (exact_signed c d both.0) ∙ ap (λ r. d ∷ r) (row_major_exact p q both.1)

-- ---- what holds of each element

-- ---- places below one another are apart

pub above_apart : {K : Type 0} (R : K → K → Ordering) (p q : K) → R p q ≡ Less → is_at (R p) q ≡ false
above_apart R p q less = ap is_eq less

pub below_apart : {K : Type 0} {R : K → K → Ordering} → IsTotalOrder R → (p q : K) → R p q ≡ Less → is_at (R q) p ≡ false
below_apart o p q less = ap is_eq (o.antisymm q p ∙ ap ordering_reverse less)

-- ---- an entry, if the slot holds one, before other entries

module _ {V : Type 0} where
  -- the slot at the place p holds w, and es are the entries after it
  abbrev pub before : List ℤ → Option V → List (List ℤ × V) → List (List ℤ × V)
  before p w es = cons_option (option_map (λ v. (p, v)) w) es

  AllByRecursion-before : (P : List ℤ → Type 0) (p : List ℤ) (w : Option V) (es : List (List ℤ × V)) → P p → AllByRecursion P (keys_of es) → AllByRecursion P (keys_of (before p w es))
  AllByRecursion-before P p None es here rest = rest
  AllByRecursion-before P p (Some v) es here rest = (here, rest)

  -- what holds of each place holds of each entry's
  pub AllByRecursion-entries : (P : List ℤ → Type 0) (slots : List (Slot V)) → AllByRecursion P (places_of slots) → AllByRecursion P (keys_of (entries_of slots))
  AllByRecursion-entries P [] all = tt
  AllByRecursion-entries P (x ∷ xs) all =
      AllByRecursion-before P x.place.items x.value (entries_of xs) all.0 (AllByRecursion-entries P xs all.1)

  -- an entry's place is a slot's
  pub Contains-entries : (slots : List (Slot V)) (q : List ℤ) → Contains (keys_of (entries_of slots)) q → Contains (places_of slots) q
  Contains-entries slots q has =
      let each = AllByRecursion-entries (Contains (places_of slots)) slots (recursion_from_All (Contains (places_of slots)) (places_of slots) (All-contains_itself (places_of slots))) in
      All-contains (Contains (places_of slots)) (keys_of (entries_of slots)) q (All-from_recursion (Contains (places_of slots)) (keys_of (entries_of slots)) each) has

  -- a place that is ready is a slot's
  pub ready-place : (slots : List (Slot V)) (q : List ℤ) → IsReady (index_of slots) q → Contains (places_of slots) q
  ready-place slots q (inl has) = Contains-entries slots q has
  ready-place slots q (inr has) = has

  -- a write over a slot leaves its place
  pub places-set : (slots : List (Slot V)) (i : ℕ) (s : Slot V) → slice_get (places_of slots) i ≡ Some s.place.items → places_of (slice_set slots i s) ≡ places_of slots
  places-set [] i s at = absurd (cc)
  places-set (x ∷ xs) zero s at = let same : x.place.items ≡ s.place.items = cc in ap (λ p. p ∷ places_of xs) (sym same)
  places-set (x ∷ xs) (suc i) s at = ap (λ ps. x.place.items ∷ ps) (places-set xs i s at)

  module _ (R : List ℤ → List ℤ → Ordering) where
    sorted-before : (p : List ℤ) (w : Option V) (es : List (List ℤ × V)) → AllByRecursion (λ q. R p q ≡ Less) (keys_of es) → IsStrictlySortedBy R (keys_of es)
        → IsStrictlySortedBy R (keys_of (before p w es))
    unfolding IsStrictlySortedBy
    sorted-before p None es above sorted = sorted
    sorted-before p (Some v) es above sorted = (above, sorted)

    -- the entries are in the slots' order
    pub sorted-entries : (slots : List (Slot V)) → IsStrictlySortedBy R (places_of slots) → IsStrictlySortedBy R (keys_of (entries_of slots))
    unfolding IsStrictlySortedBy
    sorted-entries [] sorted = tt
    sorted-entries (x ∷ xs) sorted =
        sorted-before x.place.items x.value (entries_of xs) (AllByRecursion-entries (λ q. R x.place.items q ≡ Less) xs sorted.0) (sorted-entries xs sorted.1)

    -- ---- at a place that no slot has

    lookup-before : (p q : List ℤ) (w : Option V) (es : List (List ℤ × V)) → is_at (R q) p ≡ false → lookup (is_at (R q)) (before p w es) ≡ lookup (is_at (R q)) es
    lookup-before p q None es apart = refl
    lookup-before p q (Some v) es apart = ap (λ b. cond b (Some v) (lookup (is_at (R q)) es)) apart

    pub lookup-absent : (slots : List (Slot V)) (q : List ℤ) → AllByRecursion (λ p. is_at (R q) p ≡ false) (places_of slots) → lookup (is_at (R q)) (entries_of slots) ≡ None
    lookup-absent [] q absent = refl
    lookup-absent (x ∷ xs) q absent =
        lookup-before x.place.items q x.value (entries_of xs) absent.0 ∙ lookup-absent xs q absent.1

    remove-before : (p q : List ℤ) (w : Option V) (es : List (List ℤ × V)) → is_at (R q) p ≡ false → remove_entry (is_at (R q)) (before p w es) ≡ before p w (remove_entry (is_at (R q)) es)
    remove-before p q None es apart = refl
    remove-before p q (Some v) es apart = ap (λ b. cond b es ((p, v) ∷ remove_entry (is_at (R q)) es)) apart

    pub remove-absent : (slots : List (Slot V)) (q : List ℤ) → AllByRecursion (λ p. is_at (R q) p ≡ false) (places_of slots)
        → remove_entry (is_at (R q)) (entries_of slots) ≡ entries_of slots
    remove-absent [] q absent = refl
    remove-absent (x ∷ xs) q absent =
        remove-before x.place.items q x.value (entries_of xs) absent.0 ∙ ap (λ es. before x.place.items x.value es) (remove-absent xs q absent.1)

  -- ---- at the place of a slot

  module _ {R : List ℤ → List ℤ → Ordering} (o : IsTotalOrder R) where
    none_above : (p : List ℤ) (slots : List (Slot V)) → AllByRecursion (λ q. R p q ≡ Less) (places_of slots) → AllByRecursion (λ q. is_at (R p) q ≡ false) (places_of slots)
    none_above p slots above = each_weaker (λ q. R p q ≡ Less) (λ q. is_at (R p) q ≡ false) (above_apart R p) (places_of slots) above

    lookup-here : (p : List ℤ) (w : Option V) (es : List (List ℤ × V)) → lookup (is_at (R p)) es ≡ None → lookup (is_at (R p)) (before p w es) ≡ w
    lookup-here p None es none = none
    lookup-here p (Some v) es none = ap (λ r. cond (is_eq r) (Some v) (lookup (is_at (R p)) es)) (tied_itself o p)

    -- the value that a slot holds is the one at its place
    pub lookup-at : (slots : List (Slot V)) (i : ℕ) (s : Slot V) → IsStrictlySortedBy R (places_of slots) → slice_get slots i ≡ Some s
        → lookup (is_at (R s.place.items)) (entries_of slots) ≡ s.value
    unfolding IsStrictlySortedBy
    lookup-at [] i s sorted at = absurd (cc)
    lookup-at (x ∷ xs) zero s sorted at =
        let same : x ≡ s = cc in
        subst (λ y. lookup (is_at (R y.place.items)) (entries_of (x ∷ xs)) ≡ y.value) same
        (lookup-here x.place.items x.value (entries_of xs) (lookup-absent R xs x.place.items (none_above x.place.items xs sorted.0)))
    lookup-at (x ∷ xs) (suc i) s sorted at =
        let less : R x.place.items s.place.items ≡ Less = each_found (λ q. R x.place.items q ≡ Less) (places_of xs) i s.place.items sorted.0
        (slice_get-map (λ slot. slot.place.items) xs i ∙ ap (option_map (λ slot. slot.place.items)) at) in
        lookup-before R x.place.items s.place.items x.value (entries_of xs) (below_apart o x.place.items s.place.items less) ∙ lookup-at xs i s sorted.1 at

    -- a value in a slot is put at its place
    put-here : (p : List ℤ) (v : V) (w : Option V) (es : List (List ℤ × V)) → AllByRecursion (λ q. R p q ≡ Less) (keys_of es) → insert_entry R (before p w es) p v ≡ (p, v) ∷ es
    put-here p v None [] above = refl
    put-here p v None (e ∷ es) above = ap (λ r. match_ordering r ((p, v) ∷ e ∷ es) ((e.0, v) ∷ es) (e ∷ insert_entry R es p v)) above.0
    put-here p v (Some u) es above = ap (λ r. match_ordering r ((p, v) ∷ (p, u) ∷ es) ((p, v) ∷ es) ((p, u) ∷ insert_entry R es p v)) (tied_itself o p)

    put-before : (p q : List ℤ) (v : V) (w : Option V) (es : List (List ℤ × V)) → R p q ≡ Less → insert_entry R (before p w es) q v ≡ before p w (insert_entry R es q v)
    put-before p q v None es less = refl
    put-before p q v (Some u) es less =
        ap (λ r. match_ordering r ((q, v) ∷ (p, u) ∷ es) ((p, v) ∷ es) ((p, u) ∷ insert_entry R es q v)) (o.antisymm q p ∙ ap ordering_reverse less)

    pub put-at : (slots : List (Slot V)) (i : ℕ) (s : Slot V) (v : V) → IsStrictlySortedBy R (places_of slots) → slice_get (places_of slots) i ≡ Some s.place.items
        → s.value ≡ Some v → entries_of (slice_set slots i s) ≡ insert_entry R (entries_of slots) s.place.items v
    unfolding IsStrictlySortedBy
    put-at [] i s v sorted at is = absurd (cc)
    put-at (x ∷ xs) zero s v sorted at is =
        let same : x.place.items ≡ s.place.items = cc in
        ap (λ w. before s.place.items w (entries_of xs)) is
        ∙ sym (subst (λ p. insert_entry R (before x.place.items x.value (entries_of xs)) p v ≡ (p, v) ∷ entries_of xs) same
        (put-here x.place.items v x.value (entries_of xs) (AllByRecursion-entries (λ q. R x.place.items q ≡ Less) xs sorted.0)))
    put-at (x ∷ xs) (suc i) s v sorted at is =
        let less : R x.place.items s.place.items ≡ Less = each_found (λ q. R x.place.items q ≡ Less) (places_of xs) i s.place.items sorted.0 at in
        ap (λ es. before x.place.items x.value es) (put-at xs i s v sorted.1 at is)
        ∙ sym (put-before x.place.items s.place.items v x.value (entries_of xs) less)

    -- a slot that is emptied has no entry at its place
    remove-here : (p : List ℤ) (w : Option V) (es : List (List ℤ × V)) → remove_entry (is_at (R p)) es ≡ es → remove_entry (is_at (R p)) (before p w es) ≡ es
    remove-here p None es none = none
    remove-here p (Some v) es none = ap (λ r. cond (is_eq r) es ((p, v) ∷ remove_entry (is_at (R p)) es)) (tied_itself o p)

    pub remove-at : (slots : List (Slot V)) (i : ℕ) (s : Slot V) → IsStrictlySortedBy R (places_of slots) → slice_get (places_of slots) i ≡ Some s.place.items
        → s.value ≡ None → entries_of (slice_set slots i s) ≡ remove_entry (is_at (R s.place.items)) (entries_of slots)
    unfolding IsStrictlySortedBy
    remove-at [] i s sorted at is = absurd (cc)
    remove-at (x ∷ xs) zero s sorted at is =
        let same : x.place.items ≡ s.place.items = cc in
        ap (λ w. before s.place.items w (entries_of xs)) is
        ∙ sym (subst (λ p. remove_entry (is_at (R p)) (before x.place.items x.value (entries_of xs)) ≡ entries_of xs) same
        (remove-here x.place.items x.value (entries_of xs) (remove-absent R xs x.place.items (none_above x.place.items xs sorted.0))))
    remove-at (x ∷ xs) (suc i) s sorted at is =
        let less : R x.place.items s.place.items ≡ Less = each_found (λ q. R x.place.items q ≡ Less) (places_of xs) i s.place.items sorted.0 at in
        ap (λ es. before x.place.items x.value es) (remove-at xs i s sorted.1 at is)
        ∙ sym (remove-before R x.place.items s.place.items x.value (entries_of xs) (below_apart o x.place.items s.place.items less))

-- ---- at an index of the slots, where a search has found a place

module _ {V : Type 0} where
  -- the index is within
  pub within-slots : (slots : List (Slot V)) (i : ℕ) (p : List ℤ) → slice_get (places_of slots) i ≡ Some p → i < length slots
  within-slots slots i p at = omega (arith, slice_get_within (places_of slots) i p at, length-map slots (λ slot. slot.place.items))

  -- a search in the slots, seen as a slice, that answers an index
  pub found-index : (slice slots : List (Slot V)) (p : List ℤ) (r : Result ℕ ℕ) (i : ℕ) → slice ≡ slots → r ≡ Ok i
      → IfOk r (λ k. slice_get (places_of slice) k ≡ Some p) → slice_get (places_of slots) i ≡ Some p
  found-index slice slots p r i same is found =
      subst (λ xs. slice_get (places_of xs) i ≡ Some p) same (subst (λ s. IfOk s (λ k. slice_get (places_of slice) k ≡ Some p)) is found)

  -- the slot there is that place's
  pub place-read : (slots : List (Slot V)) (i : ℕ) (p : List ℤ) (s : Slot V) → slice_get (places_of slots) i ≡ Some p → s ≡ get_or slots i s → s.place.items ≡ p
  place-read slots i p s at is =
      let here : slice_get slots i ≡ Some s = slice_get_read slots (length slots) i s refl (within-slots slots i p at) is in
      same_Some s.place.items p (sym (slice_get-map (λ slot. slot.place.items) slots i ∙ ap (option_map (λ slot. slot.place.items)) here) ∙ at)

  -- its value is the one at the place
  pub value-read : (slots : List (Slot V)) (i : ℕ) (p : List ℤ) (s : Slot V) → IsStrictlySortedBy row_major (places_of slots) → slice_get (places_of slots) i ≡ Some p
      → s ≡ get_or slots i s → lookup (is_at (row_major p)) (entries_of slots) ≡ s.value
  value-read slots i p s sorted at is =
      let here : slice_get slots i ≡ Some s = slice_get_read slots (length slots) i s refl (within-slots slots i p at) is in
      subst (λ q. lookup (is_at (row_major q)) (entries_of slots) ≡ s.value) (place-read slots i p s at is) (lookup-at row_major_total slots i s sorted here)

  module _ (slots : List (Slot V)) (i : ℕ) (p : List ℤ) (t : Slot V) (sorted : IsStrictlySortedBy row_major (places_of slots))
      (at : slice_get (places_of slots) i ≡ Some p) (place : t.place.items ≡ p) where
    at_new : slice_get (places_of slots) i ≡ Some t.place.items
    at_new = at ∙ ap Some (sym place)

    -- after a value is put there
    pub entries-put : (v : V) → t.value ≡ Some v → entries_of (slice_set slots i t) ≡ insert_entry row_major (entries_of slots) p v
    entries-put v is = subst (λ q. entries_of (slice_set slots i t) ≡ insert_entry row_major (entries_of slots) q v) place (put-at row_major_total slots i t v sorted at_new is)

    -- after the value there is taken out
    pub entries-removed : t.value ≡ None → entries_of (slice_set slots i t) ≡ remove_entry (is_at (row_major p)) (entries_of slots)
    entries-removed is = subst (λ q. entries_of (slice_set slots i t) ≡ remove_entry (is_at (row_major q)) (entries_of slots)) place (remove-at row_major_total slots i t sorted at_new is)

    -- the places stay, in their order
    pub places-written : places_of (slice_set slots i t) ≡ places_of slots
    places-written = places-set slots i t at_new

    pub sorted-written : IsStrictlySortedBy row_major (places_of (slice_set slots i t))
    sorted-written = subst (IsStrictlySortedBy row_major) (sym places-written) sorted

    -- what was ready stays ready
    pub ready-written : (q : List ℤ) → IsReady (index_of slots) q → IsReady (index_of (slice_set slots i t)) q
    ready-written q ready = inr (subst (λ ps. Contains ps q) (sym places-written) (ready-place slots q ready))
