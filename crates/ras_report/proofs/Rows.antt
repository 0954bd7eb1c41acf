-- Lists whose elements are read by their place, and written one after another.
use Rattle.std.proofs.Common.{◌≡◌, ℕ, ◌+◌, ◌<◌, length, refl, List, [], ◌∷◌, ◌++◌, get_or, take, sym, ◌∙◌, ap, subst, append-nil}
use Rattle.std.proofs.lemmas.List.{take_more}
use Rattle.std.proofs.lemmas.List.Concat.{flat_map-append}
use Rattle.std.proofs.lemmas.Option.{slice_get_within, slice_get_read, get_or_from_slice_get}
use Rattle.std.specs.Prelude.{Option, Some, flat_map, slice_get}
use Rattle.ras_edges.specs.Sink.{Wrote, Stopped}
use Rattle.ras_edges.proofs.Writing.{Wrote-more, Stopped-in}

module _ {K X : Type 0} {taken : K → Option (List ℕ)} {faults : K → ℕ} (f : X → List ℕ) where
  -- the element at a place was written too
  pub Wrote-next : {a b c : K} (xs : List X) (i : ℕ) (x : X) → slice_get xs i ≡ Some x → Wrote taken faults a b (flat_map f (take i xs))
      → Wrote taken faults b c (f x) → Wrote taken faults a c (flat_map f (take (i + 1) xs))
  Wrote-next xs i x e p q =
      let read : get_or xs i x ≡ x = get_or_from_slice_get xs i x x e in
      let parts : flat_map f (take (i + 1) xs) ≡ flat_map f (take i xs) ++ f x =
      ap (flat_map f) (take_more xs i x (slice_get_within xs i x e) ∙ ap (λ y. take i xs ++ y ∷ []) read)
      ∙ flat_map-append f (take i xs) (x ∷ []) ∙ ap (λ t. flat_map f (take i xs) ++ t) (append-nil (f x)) in
      subst (Wrote taken faults _ _) (sym parts) (Wrote-more p q)

  -- it stopped within the element at a place
  pub Stopped-next : {a b c : K} (xs : List X) (i : ℕ) (x : X) → slice_get xs i ≡ Some x → Wrote taken faults a b (flat_map f (take i xs))
      → Stopped taken faults b c (f x) → Stopped taken faults a c (flat_map f xs)
  Stopped-next {a} {b} {c} xs i x e p q =
      let read : x ≡ get_or xs i x = sym (get_or_from_slice_get xs i x x e) in
      Stopped-in f xs i x (slice_get_within xs i x e) p (subst (λ (y : X). Stopped taken faults b c (f y)) read q)

  -- the same, where the element has a name of its own
  pub Wrote-item : {a b c : K} (xs : List X) (i : ℕ) (x : X) → i < length xs → x ≡ get_or xs i x → Wrote taken faults a b (flat_map f (take i xs))
      → Wrote taken faults b c (f x) → Wrote taken faults a c (flat_map f (take (i + 1) xs))
  Wrote-item xs i x h is p q = Wrote-next xs i x (slice_get_read xs (length xs) i x refl h is) p q
