-- Slots whose values are taken out one after another.
use Rattle.std.proofs.Common.{◌≡◌, ℕ, zero, suc, ◌<◌, ◌+◌, List, [], ◌∷◌, ◌++◌, length, get_or, take, None, refl, ap, ◌∙◌, arith}
use Rattle.std.specs.List.{slice_set}
use Rattle.std.proofs.lemmas.List.{take_more_set}
use Rattle.std.proofs.lemmas.List.Elements.{filter_map-append}
use Rattle.ras_index.specs.declared.slot.Slot.{Slot}
use Rattle.ras_index.specs.Slots.{places_of, entry_of, entries_of}

module _ {V : Type 0} where
  -- the slot at this index without its value
  abbrev emptied : List (Slot V) → ℕ → Slot V → Slot V
  emptied slots i d = record { place = (get_or slots i d).place; value = None }

  pub places-emptied : (slots : List (Slot V)) (i : ℕ) (d : Slot V) → i < length slots → places_of (slice_set slots i (emptied slots i d)) ≡ places_of slots
  places-emptied [] i d within = absurd (omega (arith, within))
  places-emptied (x ∷ xs) zero d within = refl
  places-emptied (x ∷ xs) (suc i) d within = ap (λ ps. x.place.items ∷ ps) (places-emptied xs i d (omega (arith, within)))

  pub entries-emptied : (slots : List (Slot V)) (i : ℕ) (d : Slot V) → i < length slots → entries_of (take i slots) ≡ []
      → entries_of (take (i + 1) (slice_set slots i (emptied slots i d))) ≡ []
  entries-emptied slots i d within none =
      ap (λ xs. entries_of xs) (take_more_set slots i (emptied slots i d) within)
      ∙ filter_map-append entry_of (take i slots) (emptied slots i d ∷ []) ∙ ap (λ es. es ++ []) none
