-- What a copy of slots holds, slot by slot.
use Rattle.std.proofs.Common.{◌≡◌, ℤ, List, [], ◌∷◌, Option, Some, None, refl, sym, ap, subst, ◌∙◌}
use Rattle.std.specs.List.{AllZip}
use Rattle.std.specs.List.Sorted.{IsStrictlySortedBy}
use Rattle.std.specs.Option.{MatchOption, IsSomeAnd}
use Rattle.ras_index.specs.declared.slot.Slot.{Slot}
use Rattle.ras_index.specs.Index.{row_major}
use Rattle.ras_index.specs.Slots.{places_of, entries_of, IsCopyOf}
use Rattle.ras_index.proofs.Slots.{before}

module _ {V : Type 0} (C : V → V → Type 0) where
  -- the places are the same
  places_of-copies : (slots copies : List (Slot V)) → AllZip (IsCopyOf C) slots copies → places_of copies ≡ places_of slots
  places_of-copies [] [] all = refl
  places_of-copies [] (t ∷ copies) all = absurd all
  places_of-copies (s ∷ slots) [] all = absurd all
  places_of-copies (s ∷ slots) (t ∷ copies) all =
      ap (λ p. p ∷ places_of copies) all.0.0 ∙ ap (λ ps. s.place.items ∷ ps) (places_of-copies slots copies all.1)

  pub sorted-copies : (slots copies : List (Slot V)) → AllZip (IsCopyOf C) slots copies → IsStrictlySortedBy row_major (places_of slots) → IsStrictlySortedBy row_major (places_of copies)
  sorted-copies slots copies all sorted = subst (IsStrictlySortedBy row_major) (sym (places_of-copies slots copies all)) sorted

  -- an entry beside its copy
  clones-before : (p q : List ℤ) (w x : Option V) (es ds : List (List ℤ × V)) → q ≡ p → MatchOption w (x ≡ None) (λ v. IsSomeAnd x (C v))
      → AllZip (λ e d. (d.0 ≡ e.0) × C e.1 d.1) es ds → AllZip (λ e d. (d.0 ≡ e.0) × C e.1 d.1) (before p w es) (before q x ds)
  clones-before p q None None es ds same clone rest = rest
  clones-before p q None (Some u) es ds same clone rest = absurd (cc)
  clones-before p q (Some v) None es ds same clone rest = absurd clone
  clones-before p q (Some v) (Some u) es ds same clone rest = ((same, clone), rest)

  -- each entry's value is a clone
  pub clones-of : (slots copies : List (Slot V)) → AllZip (IsCopyOf C) slots copies → AllZip (λ e d. (d.0 ≡ e.0) × C e.1 d.1) (entries_of slots) (entries_of copies)
  clones-of [] [] all = tt
  clones-of [] (t ∷ copies) all = absurd all
  clones-of (s ∷ slots) [] all = absurd all
  clones-of (s ∷ slots) (t ∷ copies) all =
      clones-before s.place.items t.place.items s.value t.value (entries_of slots) (entries_of copies) all.0.0 all.0.1 (clones-of slots copies all.1)
