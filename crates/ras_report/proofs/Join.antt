-- Lists that are written with a mark between their elements.
use Rattle.std.proofs.Common.{◌≡◌, ℕ, ◌+◌, ◌-◌, ◌≤◌, List, [], ◌∷◌, ◌++◌, Result, length, get_or, take, drop, refl, sym, ◌∙◌, subst, ap, arith, append-nil, append_assoc, take-append-drop}
use Rattle.std.proofs.lemmas.List.{take_all, take_more, length-drop, length-take-le}
use Rattle.std.proofs.lemmas.List.Concat.{flat_map-append}
use Rattle.std.proofs.lemmas.Option.{slice_get_within, get_or_from_slice_get}
use Rattle.std.proofs.lemmas.Bool.Decides.{nat_tests}
use Rattle.std.specs.Prelude.{Option, Some, false, suc, flat_map, slice_get, if◌then◌else◌, ◌==◌}
use Rattle.std.specs.List.{join_by}
use Rattle.ras_edges.specs.Sink.{Wrote, Stopped, Writes}
use Rattle.ras_edges.proofs.Writing.{Wrote-more, Stopped-later, Stopped-longer, Writes-after}

-- the first element, and then each other one after the mark
pub join_by-first : {X : Type 0} (f : X → List ℕ) (mark : List ℕ) (xs : List X) (d : X) → 1 ≤ length xs → join_by f mark xs ≡ f (get_or xs 0 d) ++ flat_map (λ y. mark ++ f y) (drop 1 xs)
join_by-first f mark [] d h = absurd (omega arith)
join_by-first f mark (x ∷ xs) d h = refl

module _ {K X : Type 0} {taken : K → Option (List ℕ)} {faults : K → ℕ} (f : X → List ℕ) (mark : List ℕ) where
  -- a stop within the first element
  pub Stopped-first : {a b : K} (xs : List X) (d : X) → 1 ≤ length xs → Stopped taken faults a b (f (get_or xs 0 d)) → Stopped taken faults a b (join_by f mark xs)
  Stopped-first {a} {b} xs d h p =
      subst (Stopped taken faults a b) (sym (join_by-first f mark xs d h)) (Stopped-longer (flat_map (λ y. mark ++ f y) (drop 1 xs)) p)

  -- the first element, and then the others
  pub Writes-others : {E : Type 0} {a b : K} (c : K) (xs : List X) (d : X) (result : Result (Unit {0}) E) → 1 ≤ length xs → Wrote taken faults a b (f (get_or xs 0 d))
      → Writes taken faults b c result (flat_map (λ y. mark ++ f y) (take (length xs - 1) (drop 1 xs))) → Writes taken faults a c result (join_by f mark xs)
  Writes-others {E} {a} {b} c xs d result h p q =
      let whole : take (length xs - 1) (drop 1 xs) ≡ drop 1 xs = take_all (length xs - 1) (drop 1 xs) (omega (arith, length-drop 1 xs)) in
      let P : List ℕ → Type 0 = λ text. Writes taken faults a c result text in
      let Q : List X → Type 0 = λ ys. Writes taken faults b c result (flat_map (λ y. mark ++ f y) ys) in
      subst P (sym (join_by-first f mark xs d h)) (Writes-after c (flat_map (λ y. mark ++ f y) (drop 1 xs)) result p (subst Q whole q))

-- one more element, after the mark unless it is the first
pub join_by-push : {X : Type 0} (f : X → List ℕ) (mark : List ℕ) (xs : List X) (x : X) → join_by f mark (xs ++ x ∷ []) ≡ join_by f mark xs ++ ((if length xs == 0 then [] else mark) ++ f x)
join_by-push f mark [] x = append-nil (f x)
join_by-push f mark (y ∷ ys) x =
    let later : (suc (length ys) == 0) ≡ false = grind (arith, nat_tests) in
    rw later (ap (λ t. f y ++ t) (flat_map-append (λ z. mark ++ f z) ys (x ∷ []) ∙ ap (λ t. flat_map (λ z. mark ++ f z) ys ++ t) (append-nil (mark ++ f x)))
    ∙ sym (append_assoc (f y) (flat_map (λ z. mark ++ f z) ys) (mark ++ f x)))

-- a list up to the element after place i
pub join_by-take : {X : Type 0} (f : X → List ℕ) (mark : List ℕ) (xs : List X) (i : ℕ) (x : X) → slice_get xs i ≡ Some x
    → join_by f mark (take (i + 1) xs) ≡ join_by f mark (take i xs) ++ ((if i == 0 then [] else mark) ++ f x)
join_by-take f mark xs i x e =
    let within = slice_get_within xs i x e in
    let read : get_or xs i x ≡ x = get_or_from_slice_get xs i x x e in
    let len : length (take i xs) ≡ i = length-take-le i xs (omega (arith, within)) in
    let pushed = join_by-push f mark (take i xs) x in
    ap (join_by f mark) (take_more xs i x within ∙ ap (λ y. take i xs ++ y ∷ []) read) ∙ rw len at pushed

-- the elements of a list that isn't empty, and then more
pub join_by-append : {X : Type 0} (f : X → List ℕ) (mark : List ℕ) (xs ys : List X) → 1 ≤ length xs → join_by f mark (xs ++ ys) ≡ join_by f mark xs ++ flat_map (λ z. mark ++ f z) ys
join_by-append f mark [] ys h = absurd (omega arith)
join_by-append f mark (x ∷ xs) ys h =
    ap (λ t. f x ++ t) (flat_map-append (λ z. mark ++ f z) xs ys) ∙ sym (append_assoc (f x) (flat_map (λ z. mark ++ f z) xs) (flat_map (λ z. mark ++ f z) ys))

-- a list that is written element by element
module _ {K X : Type 0} {taken : K → Option (List ℕ)} {faults : K → ℕ} (f : X → List ℕ) (mark : List ℕ) where
  -- the element at place i was written too
  pub Wrote-among : {a b c : K} (xs : List X) (i : ℕ) (x : X) → slice_get xs i ≡ Some x → Wrote taken faults a b (join_by f mark (take i xs))
      → Wrote taken faults b c ((if i == 0 then [] else mark) ++ f x) → Wrote taken faults a c (join_by f mark (take (i + 1) xs))
  Wrote-among xs i x e p q = rw (join_by-take f mark xs i x e) (Wrote-more p q)

  -- it stopped within the element at place i
  pub Stopped-among : {a b c : K} (xs : List X) (i : ℕ) (x : X) → slice_get xs i ≡ Some x → Wrote taken faults a b (join_by f mark (take i xs))
      → Stopped taken faults b c ((if i == 0 then [] else mark) ++ f x) → Stopped taken faults a c (join_by f mark xs)
  Stopped-among xs i x e p q =
      let within = slice_get_within xs i x e in
      let front : 1 ≤ length (take (i + 1) xs) = omega (arith, within, length-take-le (i + 1) xs) in
      let parts = ap (join_by f mark) (sym (take-append-drop (i + 1) xs)) ∙ join_by-append f mark (take (i + 1) xs) (drop (i + 1) xs) front in
      let all : join_by f mark xs ≡ (join_by f mark (take i xs) ++ ((if i == 0 then [] else mark) ++ f x)) ++ flat_map (λ z. mark ++ f z) (drop (i + 1) xs) =
      rw (join_by-take f mark xs i x e) at parts in
      subst (Stopped taken faults _ _) (sym all) (Stopped-longer (flat_map (λ z. mark ++ f z) (drop (i + 1) xs)) (Stopped-later p q))
