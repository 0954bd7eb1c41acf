-- Cells: lists of numbers, one a component.
use Rattle.std.specs.Prelude.{◌≡◌, ◌<◌, ℕ, ℤ, pos, List, map, length, slice_get, slice_index_or}

-- no two cells differ
abbrev pub AreEqual : List (List ℤ) → Type 0
AreEqual cells = (j k : ℕ) → j < length cells → k < length cells → slice_get cells j ≡ slice_get cells k

-- the numbers of one component, in the order of the cells
abbrev pub numbers_of : ℕ → List (List ℤ) → List ℤ
numbers_of component cells = map (λ cell. slice_index_or cell component (pos 0)) cells
