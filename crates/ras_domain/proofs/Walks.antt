-- A walk over the points of a box, from the first to the last, that makes one item at each.
use Rattle.std.proofs.Common.{◌≡◌, ℕ, ◌+◌, ◌-◌, ◌<◌, ◌≤◌, ℤ, List, [], ◌∷◌, ◌++◌, map, length, take, Option, Some, None, inl, inr, refl, sym, ◌∙◌, ap, arith}
use Rattle.std.specs.List.{slice_get}
use Rattle.std.proofs.lemmas.List.{map-append, take_more, take_all, length_push}
use Rattle.std.proofs.lemmas.Option.{slice_get_within, slice_get_cases, get_or_from_slice_get, none-some}
use Rattle.ras_domain.specs.declared.region.Interval.{Interval}
use Rattle.ras_domain.specs.Region.{IsIn, points_of}
use Rattle.ras_domain.proofs.Points.{Contains-IsIn}

-- an item was made at each of the first points, and `next` is the point after them
pub record IsWalk {A : Type 0} (f : List ℤ → A) (axes : List Interval) (next : Option (List ℤ)) (made : List A) : Type 0 where
  pub made_is : made ≡ map f (take (length made) (points_of axes))
  pub next_is : next ≡ slice_get (points_of axes) (length made)

-- before the first point
pub IsWalk-first : {A : Type 0} (f : List ℤ → A) (axes : List Interval) (p : List ℤ) → slice_get (points_of axes) 0 ≡ Some p → IsWalk f axes (Some p) []
IsWalk-first f axes p at = record { made_is = refl; next_is = sym at }

-- one more point
pub IsWalk-more : {A : Type 0} (f : List ℤ → A) (axes : List Interval) (p : List ℤ) (next : Option (List ℤ)) (made more : List A) → IsWalk f axes (Some p) made
    → ((place : ℕ) → slice_get (points_of axes) place ≡ Some p → next ≡ slice_get (points_of axes) (place + 1)) → more ≡ made ++ f p ∷ [] → IsWalk f axes next more
IsWalk-more f axes p next made more h after is =
    let ps : List (List ℤ) = points_of axes in
    let k : ℕ = length made in
    let at : slice_get ps k ≡ Some p = sym h.next_is in
    let one : length more ≡ k + 1 = ap length is ∙ length_push made (f p) in
    let grown : take (k + 1) ps ≡ take k ps ++ p ∷ [] =
    take_more ps k p (slice_get_within ps k p at) ∙ ap (λ q. take k ps ++ q ∷ []) (get_or_from_slice_get ps k p p at) in
    record {
      made_is = is ∙ ap (λ xs. xs ++ f p ∷ []) h.made_is ∙ sym (ap (λ n. map f (take n ps)) one ∙ ap (map f) grown ∙ map-append f (take k ps) (p ∷ []));
      next_is = after k at ∙ ap (slice_get ps) (sym one);
    }

-- the point at a place of the box is within it
pub IsIn-at_place : (axes : List Interval) (place : ℕ) (p : List ℤ) → slice_get (points_of axes) place ≡ Some p → IsIn p axes
IsIn-at_place axes place p at =
    (Contains-IsIn axes p).0 (place, slice_get_within (points_of axes) place p at, get_or_from_slice_get (points_of axes) place p p at)

-- the point that comes next is within the box
pub IsWalk-within : {A : Type 0} (f : List ℤ → A) (axes : List Interval) (p : List ℤ) (made : List A) → IsWalk f axes (Some p) made → IsIn p axes
IsWalk-within f axes p made h = IsIn-at_place axes (length made) p (sym h.next_is)

-- after one more point fewer are left
pub IsWalk-falls : {A : Type 0} (f : List ℤ → A) (axes : List Interval) (p : List ℤ) (made more : List A) → IsWalk f axes (Some p) made → more ≡ made ++ f p ∷ []
    → length (points_of axes) - length more < length (points_of axes) - length made
IsWalk-falls f axes p made more h is =
    let one : length more ≡ length made + 1 = ap length is ∙ length_push made (f p) in
    omega (arith, slice_get_within (points_of axes) (length made) p (sym h.next_is))

-- after the last point
pub IsWalk-end : {A : Type 0} (f : List ℤ → A) (axes : List Interval) (made : List A) → IsWalk f axes None made → made ≡ map f (points_of axes)
IsWalk-end f axes made h =
    let ps : List (List ℤ) = points_of axes in
    let past : length ps ≤ length made = elim (slice_get_cases ps (length made)).1 [ inl at ↦ absurd (none-some at.0 (h.next_is ∙ at.2)) | inr at ↦ at.0 ] in
    h.made_is ∙ ap (map f) (take_all (length made) ps past)

-- what was made of each point, and the point that is read from it again
map_back : {A : Type 0} (f : List ℤ → A) (back : A → List ℤ) → ((p : List ℤ) → back (f p) ≡ p) → (ps : List (List ℤ)) → map back (map f ps) ≡ ps
map_back f back reads [] = refl
map_back f back reads (p ∷ ps) = let first = reads p in let rest = map_back f back reads ps in cc

-- after the last point, where each item tells its point
pub IsWalk-read : {A : Type 0} (f : List ℤ → A) (back : A → List ℤ) → ((p : List ℤ) → back (f p) ≡ p) → (axes : List Interval) (made : List A) → IsWalk f axes None made
    → map back made ≡ points_of axes
IsWalk-read f back reads axes made h = ap (map back) (IsWalk-end f axes made h) ∙ map_back f back reads (points_of axes)
