-- What is found first in a list, and that it is the same wherever looking begins where one element alone passes.
use Rattle.std.proofs.Common.{◌≡◌, ℕ, ◌+◌, ◌-◌, ◌<◌, ◌≤◌, List, [], ◌∷◌, ◌++◌, length, get_or, take, drop, refl, sym, ◌∙◌, ap, arith, cond, true, false, Bool, take-append-drop, length-append}
use Rattle.std.proofs.lemmas.List.Folds.{find-append}
use Rattle.std.proofs.lemmas.List.Elements.{filter-append}
use Rattle.std.proofs.lemmas.List.{drop_more, take_more, take_all, length-drop, length-take, get_or-drop, get_or-take}
use Rattle.std.proofs.lemmas.Option.{slice_get-get_or}
use Rattle.std.specs.Prelude.{Option, Some, None, find, filter, slice_get}
use Rattle.std.specs.Option.{option_or}

-- the slice from a place on
pub slice_behind : {X : Type 0} (xs : List X) (at : ℕ) → take (length xs - at) (drop at xs) ≡ drop at xs
slice_behind xs at = take_all (length xs - at) (drop at xs) (omega (arith, length-drop at xs))

module _ {X : Type 0} (p : X → Bool) where
  length-kept : (b : Bool) (y x : X) (later : Option X) (kept : List X) → (later ≡ Some x → 1 ≤ length kept) → cond b (Some y) later ≡ Some x
      → 1 ≤ length (cond b (y ∷ kept) kept)
  length-kept true y x later kept h e = omega arith
  length-kept false y x later kept h e = h e

  -- where one is found, one passes
  pub length-filter_found : (xs : List X) (x : X) → find p xs ≡ Some x → 1 ≤ length (filter p xs)
  length-filter_found [] x e = absurd cc
  length-filter_found (y ∷ ys) x e = length-kept (p y) y x (find p ys) (filter p ys) (length-filter_found ys x) e

  behind : (before : Option X) (xs ys : List X) (y : X) → find p xs ≡ before → length (filter p (xs ++ ys)) ≤ 1 → find p ys ≡ Some y → option_or before (find p ys) ≡ Some y
  behind None xs ys y e one found = found
  behind (Some x) xs ys y e one found =
      let first = length-filter_found xs x e in
      let second = length-filter_found ys y found in
      let parts : length (filter p (xs ++ ys)) ≡ length (filter p xs) + length (filter p ys) =
      ap length (filter-append p xs ys) ∙ length-append (filter p xs) (filter p ys) in
      absurd (omega arith)

  -- what is found behind a place is what is found in the whole
  pub found_behind : (xs : List X) (at : ℕ) (y : X) → length (filter p xs) ≤ 1 → find p (drop at xs) ≡ Some y → find p xs ≡ Some y
  found_behind xs at y one found =
      let whole : take at xs ++ drop at xs ≡ xs = take-append-drop at xs in
      let once : length (filter p (take at xs ++ drop at xs)) ≤ 1 = rw whole one in
      let split : find p xs ≡ option_or (find p (take at xs)) (find p (drop at xs)) = ap (find p) (sym whole) ∙ find-append p (take at xs) (drop at xs) in
      split ∙ behind (find p (take at xs)) (take at xs) (drop at xs) y refl once found

  -- where nothing is found behind a place, it is what is found before it
  pub found_before : (xs : List X) (at : ℕ) (before : Option X) → find p (drop at xs) ≡ None → find p (take at xs) ≡ before → find p xs ≡ before
  found_before xs at before none found =
      let whole : take at xs ++ drop at xs ≡ xs = take-append-drop at xs in
      let split : find p xs ≡ option_or (find p (take at xs)) (find p (drop at xs)) = ap (find p) (sym whole) ∙ find-append p (take at xs) (drop at xs) in
      split ∙ rw (none, found) (or_none before)
    where
      or_none : (before : Option X) → option_or before None ≡ before
      or_none None = refl
      or_none (Some x) = refl

  -- what is found in the slice from a place on is what is found in the whole
  pub found_from : (xs : List X) (at place : ℕ) (y : X) → length (filter p xs) ≤ 1 → place < length (take (length xs - at) (drop at xs))
      → find p (take (length xs - at) (drop at xs)) ≡ slice_get (take (length xs - at) (drop at xs)) place → y ≡ get_or xs (at + place) y → find p xs ≡ Some y
  found_from xs at place y one within found is =
      let whole = slice_behind xs at in
      let inside : place < length (drop at xs) = rw whole at within in
      let here : find p (drop at xs) ≡ slice_get (drop at xs) place = rw whole at found in
      let read : slice_get (drop at xs) place ≡ Some y = slice_get-get_or (drop at xs) place y inside ∙ ap Some (get_or-drop at xs place y ∙ sym is) in
      found_behind xs at y one (here ∙ read)

  -- where there is none in it, it is what is found before the place
  pub found_to : (xs : List X) (at : ℕ) (before : Option X) → find p (take (length xs - at) (drop at xs)) ≡ None → find p (take at xs) ≡ before → find p xs ≡ before
  found_to xs at before none found = let gone = rw (slice_behind xs at) at none in found_before xs at before gone found

  -- the same, where it is read at its place
  pub found_at : (xs : List X) (at place : ℕ) (y : X) → find p (take (length xs - at) (drop at xs)) ≡ None → place < length (take at xs)
      → find p (take at xs) ≡ slice_get (take at xs) place → y ≡ get_or xs place y → find p xs ≡ Some y
  found_at xs at place y none within found is =
      let inside : place < at = omega (arith, length-take at xs) in
      let read : slice_get (take at xs) place ≡ Some y = slice_get-get_or (take at xs) place y within ∙ ap Some (get_or-take at xs place y inside ∙ sym is) in
      found_to xs at (Some y) none (found ∙ read)

  -- one more element that doesn't pass
  pub none_more : (xs : List X) (i : ℕ) (x : X) → i < length xs → find p (take i xs) ≡ None → x ≡ get_or xs i x → p x ≡ false → find p (take (i + 1) xs) ≡ None
  none_more xs i x h none is fails =
      let more : take (i + 1) xs ≡ take i xs ++ x ∷ [] = take_more xs i x h ∙ ap (λ y. take i xs ++ y ∷ []) (sym is) in
      ap (find p) more ∙ find-append p (take i xs) (x ∷ []) ∙ rw (none, fails) refl

  -- the first one that passes
  pub found_item : (xs : List X) (i : ℕ) (x : X) → i < length xs → find p (take i xs) ≡ None → x ≡ get_or xs i x → p x ≡ true → find p xs ≡ Some x
  found_item xs i x h none is passes =
      let split : find p xs ≡ option_or (find p (take i xs)) (find p (drop i xs)) =
      ap (find p) (sym (take-append-drop i xs)) ∙ find-append p (take i xs) (drop i xs) in
      let later : drop i xs ≡ x ∷ drop (i + 1) xs = drop_more xs i x h ∙ ap (λ y. y ∷ drop (i + 1) xs) (sym is) in
      let here : find p (drop i xs) ≡ Some x = ap (find p) later ∙ rw passes refl in
      split ∙ rw (none, here) refl
