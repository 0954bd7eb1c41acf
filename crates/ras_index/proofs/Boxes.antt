-- The places in a box: the computing test, and the slots that can have them.
use Rattle.std.proofs.Common.{◌≡◌, ℕ, zero, suc, ℤ, ◌↔◌, Bool, true, false, cond, ◌&&◌, IsTrue, List, [], ◌∷◌, ◌++◌, length, get_or, take, drop, ◌+◌, ◌<◌, add-one, Contains, Option, Some, None, refl, sym, subst, ap, ◌∙◌, arith}
use Rattle.std.specs.Cmp.{IsTotalOrder}
use Rattle.std.specs.List.{AllByRecursion, filter, slice_get}
use Rattle.std.specs.List.Sorted.{IsStrictlySortedBy}
use Rattle.std.specs.Map.{keys_of}
use Rattle.std.specs.Ordering.{ordering_reverse}
use Rattle.std.specs.declared.cmp.Ordering.{Ordering}
use Rattle.std.specs.declared.cmp.Ordering.TheVariants.{Less, Equal, Greater}
use Rattle.std.proofs.lemmas.Cmp.{tied_itself}
use Rattle.std.proofs.lemmas.List.{append-nil, map-append, take-append-drop}
use Rattle.std.proofs.Math.Seq.{take-suc}
use Rattle.std.specs.Option.{is_some}
use Rattle.std.proofs.lemmas.List.Elements.{All-contains, All-contains_itself, All-from_recursion, recursion_from_All, Contains-append_right, filter-append, filter_map-append}
use Rattle.ras_domain.specs.declared.region.Interval.{Interval}
use Rattle.ras_domain.specs.Region.{IsIn, points_of, is_in}
use Rattle.ras_domain.proofs.Points.{Contains-IsIn}
use Rattle.ras_domain.proofs.RowOrder.{points_of-ascends}
use Rattle.ras_index.specs.declared.slot.Slot.{Slot}
use Rattle.ras_index.specs.Index.{row_major, places_in}
use Rattle.ras_index.specs.Slots.{places_of, entry_of, entries_of}
use Rattle.ras_index.proofs.Slots.{row_major_total, before}
use Rattle.law_lists.proofs.Each.{each_found, each_weaker}
use Rattle.ras_domain.proofs.BoxTests.{IsIn-is_in}

-- ---- the entries in a box

keys_of_one : {V : Type 0} (b : Bool) (e : List ℤ × V) → keys_of (cond b (e ∷ []) []) ≡ cond b (e.0 ∷ []) []
keys_of_one true e = refl
keys_of_one false e = refl

module _ {V : Type 0} (box : List Interval) where
  keys_kept : (P : List ℤ → Type 0) (b : Bool) (e : List ℤ × V) (es : List (List ℤ × V)) → P e.0 → AllByRecursion P (keys_of es) → AllByRecursion P (keys_of (cond b (e ∷ es) es))
  keys_kept P true e es here rest = (here, rest)
  keys_kept P false e es here rest = rest

  -- what holds of each key holds of each in the box
  AllByRecursion-places_in : (P : List ℤ → Type 0) (es : List (List ℤ × V)) → AllByRecursion P (keys_of es) → AllByRecursion P (places_in box es)
  AllByRecursion-places_in P [] all = tt
  AllByRecursion-places_in P (e ∷ es) all =
      keys_kept P (is_in e.0 box) e (filter (λ d. is_in d.0 box) es) all.0 (AllByRecursion-places_in P es all.1)

  sorted_kept : (R : List ℤ → List ℤ → Ordering) (b : Bool) (e : List ℤ × V) (es : List (List ℤ × V)) → AllByRecursion (λ q. R e.0 q ≡ Less) (keys_of es)
      → IsStrictlySortedBy R (keys_of es) → IsStrictlySortedBy R (keys_of (cond b (e ∷ es) es))
  unfolding IsStrictlySortedBy
  sorted_kept R true e es above sorted = (above, sorted)
  sorted_kept R false e es above sorted = sorted

  -- they are in the entries' order
  pub sorted-places_in : (R : List ℤ → List ℤ → Ordering) (es : List (List ℤ × V)) → IsStrictlySortedBy R (keys_of es) → IsStrictlySortedBy R (places_in box es)
  unfolding IsStrictlySortedBy
  sorted-places_in R [] sorted = tt
  sorted-places_in R (e ∷ es) sorted =
      sorted_kept R (is_in e.0 box) e (filter (λ d. is_in d.0 box) es) (AllByRecursion-places_in (λ q. R e.0 q ≡ Less) es sorted.0) (sorted-places_in R es sorted.1)

  passes_kept : (b : Bool) (e : List ℤ × V) (es : List (List ℤ × V)) → is_in e.0 box ≡ b → AllByRecursion (λ q. is_in q box ≡ true) (keys_of es)
      → AllByRecursion (λ q. is_in q box ≡ true) (keys_of (cond b (e ∷ es) es))
  passes_kept true e es is rest = (is, rest)
  passes_kept false e es is rest = rest

  -- each is in the box
  within-places_in : (es : List (List ℤ × V)) → AllByRecursion (λ q. is_in q box ≡ true) (places_in box es)
  within-places_in [] = tt
  within-places_in (e ∷ es) =
      passes_kept (is_in e.0 box) e (filter (λ d. is_in d.0 box) es) refl (within-places_in es)

  has_kept : (b : Bool) (e : List ℤ × V) (es : List (List ℤ × V)) (q : List ℤ) → Contains (keys_of es) q → Contains (keys_of (cond b (e ∷ es) es)) q
  has_kept true e es q has = Contains-append_right (e.0 ∷ []) (keys_of es) q has
  has_kept false e es q has = has

  has_first : (b : Bool) (e : List ℤ × V) (es : List (List ℤ × V)) → b ≡ true → Contains (keys_of (cond b (e ∷ es) es)) e.0
  has_first true e es is = (0, omega arith, refl)
  has_first false e es is = absurd (cc)

  -- each key in the box is among them
  all-places_in : (es : List (List ℤ × V)) → AllByRecursion (λ q. is_in q box ≡ true → Contains (places_in box es) q) (keys_of es)
  all-places_in [] = tt
  all-places_in (e ∷ es) =
      let kept = filter (λ d. is_in d.0 box) es in (
        has_first (is_in e.0 box) e kept,
        each_weaker (λ q. is_in q box ≡ true → Contains (keys_of kept) q) (λ q. is_in q box ≡ true → Contains (keys_of (cond (is_in e.0 box) (e ∷ kept) kept)) q)
            (λ q later is. has_kept (is_in e.0 box) e kept q (later is)) (keys_of es) (all-places_in es),
      )

  pub Contains-places_in : (es : List (List ℤ × V)) (q : List ℤ) → Contains (places_in box es) q ↔ (Contains (keys_of es) q × IsIn q box)
  Contains-places_in es q =
      let keys = recursion_from_All (Contains (keys_of es)) (keys_of es) (All-contains_itself (keys_of es)) in (
        λ has. (
          All-contains (Contains (keys_of es)) (places_in box es) q
              (All-from_recursion (Contains (keys_of es)) (places_in box es) (AllByRecursion-places_in (Contains (keys_of es)) es keys)) has,
          (IsIn-is_in q box).0 (All-contains (λ p. is_in p box ≡ true) (places_in box es) q (All-from_recursion (λ p. is_in p box ≡ true) (places_in box es) (within-places_in es)) has),
        ),
        λ both. All-contains (λ p. is_in p box ≡ true → Contains (places_in box es) p) (keys_of es) q
            (All-from_recursion (λ p. is_in p box ≡ true → Contains (places_in box es) p) (keys_of es) (all-places_in es)) both.0 ((IsIn-is_in q box).1 both.1),
      )

  -- ---- of slots

  -- of two lists of slots, joined
  pub places_in-append : (xs ys : List (Slot V)) → places_in box (entries_of (xs ++ ys)) ≡ places_in box (entries_of xs) ++ places_in box (entries_of ys)
  places_in-append xs ys =
      ap (places_in box) (filter_map-append entry_of xs ys)
      ∙ ap keys_of (filter-append (λ d. is_in d.0 box) (entries_of xs) (entries_of ys))
      ∙ map-append (λ d. d.0) (filter (λ d. is_in d.0 box) (entries_of xs)) (filter (λ d. is_in d.0 box) (entries_of ys))

  none_before : (p : List ℤ) (w : Option V) (es : List (List ℤ × V)) → is_in p box ≡ false → places_in box (before p w es) ≡ places_in box es
  none_before p None es out = refl
  none_before p (Some v) es out = ap (λ b. keys_of (cond b ((p, v) ∷ filter (λ d. is_in d.0 box) es) (filter (λ d. is_in d.0 box) es))) out

  -- slots that are all outside
  pub places_in-none : (xs : List (Slot V)) → AllByRecursion (λ q. is_in q box ≡ false) (places_of xs) → places_in box (entries_of xs) ≡ []
  places_in-none [] out = refl
  places_in-none (x ∷ xs) out = none_before x.place.items x.value (entries_of xs) out.0 ∙ places_in-none xs out.1

  -- one more slot
  pub places_in_more : (xs : List (Slot V)) (i : ℕ) (x : Slot V) → i < length xs → x ≡ get_or xs i x
      → places_in box (entries_of (take (i + 1) xs)) ≡ places_in box (entries_of (take i xs)) ++ places_in box (entries_of (x ∷ []))
  places_in_more xs i x within is =
      ap (λ n. places_in box (entries_of (take n xs))) (add-one i)
      ∙ ap (λ ys. places_in box (entries_of ys)) (take-suc xs i x within ∙ ap (λ y. take i xs ++ y ∷ []) (sym is))
      ∙ places_in-append (take i xs) (x ∷ [])

  one_slot : (p : List ℤ) (w : Option V) → places_in box (before p w []) ≡ cond (is_some w && is_in p box) (p ∷ []) []
  one_slot p None = refl
  one_slot p (Some v) = keys_of_one (is_in p box) (p, v)

-- two tests that imply each other
same_test : (a b : Bool) → (a ≡ true → b ≡ true) → (b ≡ true → a ≡ true) → a ≡ b
same_test true b gives back = sym (gives refl)
same_test false true gives back = back refl
same_test false false gives back = refl

-- the place of one slot, if it has a value in the box
pub place_of_one : {V : Type 0} (box : List Interval) (p : List ℤ) (w : Option V) (within : Bool) → IsTrue within ↔ IsIn p box
    → places_in box (before p w []) ≡ cond (is_some w && within) (p ∷ []) []
place_of_one box p w within is =
    one_slot box p w ∙ ap (λ b. cond (is_some w && b) (p ∷ []) [])
    (same_test (is_in p box) within (λ inside. is.1 ((IsIn-is_in p box).0 inside)) (λ inside. (IsIn-is_in p box).1 (is.0 inside)))

-- ---- the first and the last point of a box

false_unless : (b : Bool) → ¬ (b ≡ true) → b ≡ false
false_unless true never = absurd (never refl)
false_unless false never = refl

module _ {K : Type 0} {R : K → K → Ordering} (o : IsTotalOrder R) where
  not_less : (p q : K) (r : Ordering) → R p q ≡ r → ¬ (r ≡ Less) → ¬ (R p q ≡ Less)
  not_less p q r is never = λ less. never (sym is ∙ less)

  -- none is below the first of an ascending list
  first_least : (ks : List K) (a : K) → IsStrictlySortedBy R ks → slice_get ks 0 ≡ Some a → AllByRecursion (λ q. ¬ (R q a ≡ Less)) ks
  unfolding IsStrictlySortedBy
  first_least [] a sorted at = absurd (cc)
  first_least (k ∷ ks) a sorted at =
      let same : k ≡ a = cc in
      subst (λ b. AllByRecursion (λ q. ¬ (R q b ≡ Less)) (k ∷ ks)) same (
        not_less k k Equal (tied_itself o k) (λ is. absurd (cc)),
        each_weaker (λ q. R k q ≡ Less) (λ q. ¬ (R q k ≡ Less)) (λ q less. not_less q k Greater (o.antisymm q k ∙ ap ordering_reverse less) (λ is. absurd (cc))) ks sorted.0,
      )

  -- none is above the last
  last_greatest : (ks : List K) (i : ℕ) (a : K) → IsStrictlySortedBy R ks → length ks ≡ suc i → slice_get ks i ≡ Some a → AllByRecursion (λ q. ¬ (R a q ≡ Less)) ks
  unfolding IsStrictlySortedBy
  last_greatest [] i a sorted long at = absurd (cc)
  last_greatest (k ∷ []) zero a sorted long at =
      let same : k ≡ a = cc in
      (subst (λ b. ¬ (R b k ≡ Less)) same (not_less k k Equal (tied_itself o k) (λ is. absurd (cc))), tt)
  last_greatest (k ∷ l ∷ ks) zero a sorted long at = absurd (omega (arith, long))
  last_greatest (k ∷ ks) (suc i) a sorted long at =
      let less : R k a ≡ Less = each_found (λ q. R k q ≡ Less) ks i a sorted.0 at in (
        not_less a k Greater (o.antisymm a k ∙ ap ordering_reverse less) (λ is. absurd (cc)),
        last_greatest ks i a sorted.1 (omega (arith, long)) at,
      )

-- what is below the first point of a box is outside
pub below_first : (box : List Interval) (first q : List ℤ) → slice_get (points_of box) 0 ≡ Some first → row_major q first ≡ Less → is_in q box ≡ false
below_first box first q at less =
    false_unless (is_in q box) (λ is. All-contains (λ p. ¬ (row_major p first ≡ Less)) (points_of box) q
    (All-from_recursion (λ p. ¬ (row_major p first ≡ Less)) (points_of box) (first_least row_major_total (points_of box) first (points_of-ascends box) at))
    ((Contains-IsIn box q).1 ((IsIn-is_in q box).0 is)) less)

-- what is above the last
pub above_last : (box : List Interval) (last q : List ℤ) (i : ℕ) → length (points_of box) ≡ suc i → slice_get (points_of box) i ≡ Some last → row_major last q ≡ Less → is_in q box ≡ false
above_last box last q i long at less =
    false_unless (is_in q box) (λ is. All-contains (λ p. ¬ (row_major last p ≡ Less)) (points_of box) q
    (All-from_recursion (λ p. ¬ (row_major last p ≡ Less)) (points_of box) (last_greatest row_major_total (points_of box) i last (points_of-ascends box) long at))
    ((Contains-IsIn box q).1 ((IsIn-is_in q box).0 is)) less)

-- the slots before the first point and after the last have no place in the box
pub places_in-span : {V : Type 0} (box : List Interval) (slots rest found : List (Slot V)) (n m : ℕ) → rest ≡ drop n slots → found ≡ take m rest
    → AllByRecursion (λ q. is_in q box ≡ false) (places_of (take n slots)) → AllByRecursion (λ q. is_in q box ≡ false) (places_of (drop m rest))
    → places_in box (entries_of found) ≡ places_in box (entries_of slots)
places_in-span box slots rest found n m is_rest is_found front back =
    let upto : places_in box (entries_of rest) ≡ places_in box (entries_of (take m rest)) =
    ap (λ xs. places_in box (entries_of xs)) (sym (take-append-drop m rest)) ∙ places_in-append box (take m rest) (drop m rest)
    ∙ ap (λ ps. places_in box (entries_of (take m rest)) ++ ps) (places_in-none box (drop m rest) back) ∙ append-nil (places_in box (entries_of (take m rest))) in
    let from : places_in box (entries_of slots) ≡ places_in box (entries_of (drop n slots)) =
    ap (λ xs. places_in box (entries_of xs)) (sym (take-append-drop n slots)) ∙ places_in-append box (take n slots) (drop n slots)
    ∙ ap (λ ps. ps ++ places_in box (entries_of (drop n slots))) (places_in-none box (take n slots) front) in
    ap (λ xs. places_in box (entries_of xs)) is_found ∙ sym upto ∙ ap (λ xs. places_in box (entries_of xs)) is_rest ∙ sym from
