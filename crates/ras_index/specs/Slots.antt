-- What a vector of slots says of an index.
use Rattle.std.specs.Prelude.{◌≡◌, ℤ, List, map, Option, None, option_map, MatchOption, IsSomeAnd}
use Rattle.std.specs.List.{filter_map}
use Rattle.ras_index.specs.Index.{Index}
use Rattle.ras_index.specs.declared.slot.Slot.{Slot}

-- the places of the slots
abbrev pub places_of : {V : Type 0} → List (Slot V) → List (List ℤ)
places_of slots = map (λ slot. slot.place.items) slots

-- the entry that a slot holds, if it holds one
abbrev pub entry_of : {V : Type 0} → Slot V → Option (List ℤ × V)
entry_of slot = option_map (λ value. (slot.place.items, value)) slot.value

-- the entries of the slots that hold a value
abbrev pub entries_of : {V : Type 0} → List (Slot V) → List (List ℤ × V)
entries_of slots = filter_map entry_of slots

-- the index that the slots hold: the place of each slot is ready
abbrev pub index_of : {V : Type 0} → List (Slot V) → Index V
index_of slots = record { entries = entries_of slots; ready = places_of slots }

-- a slot with the same place, and with a clone of the value if there is one. C ties a value to its clones
abbrev pub IsCopyOf : {V : Type 0} → (V → V → Type 0) → Slot V → Slot V → Type 0
IsCopyOf C slot copy =
    (copy.place.items ≡ slot.place.items) × MatchOption slot.value (copy.value ≡ None) (λ value. IsSomeAnd copy.value (C value))
