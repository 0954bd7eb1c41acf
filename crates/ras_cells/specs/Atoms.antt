-- The ranges of the atoms, in one table.
use Rattle.std.specs.Prelude.{◌^◌, ◌-◌, ℤ, pos, negsuc, ◌≤ℤ◌, int_le, ◌&&◌, Bool as Truth, List, [], ◌∷◌, true, false}
use Rattle.ras_cells.specs.declared.atom.Atom.{Atom}
use Rattle.ras_cells.specs.declared.atom.Atom.TheVariants.{Bool, Octet, Char, Short, Ushort, Long, Ulong, Wide}

-- the least and the greatest number; `negsuc n` is -(n + 1)
abbrev pub range_of : Atom → ℤ × ℤ
range_of Bool = (pos 0, pos 1)
range_of Octet = (negsuc 127, pos 127)
range_of Char = (pos 0, pos 255)
range_of Short = (negsuc 32767, pos 32767)
range_of Ushort = (pos 0, pos 65535)
range_of Long = (negsuc 2147483647, pos 2147483647)
range_of Ulong = (pos 0, pos 4294967295)
range_of Wide = (negsuc (2 ^ 63 - 1), pos (2 ^ 63 - 1))

-- the number lies in the range of the atom
abbrev pub IsInRange : Atom → ℤ → Type 0
IsInRange atom z = ((range_of atom).0 ≤ℤ z) × (z ≤ℤ (range_of atom).1)

-- the same, as a test
abbrev pub is_in_range : Atom → ℤ → Truth
is_in_range atom z = int_le (range_of atom).0 z && int_le z (range_of atom).1

-- there is one number for each atom, in its range
abbrev pub AreInRange : List Atom → List ℤ → Type 0
AreInRange [] [] = Unit {0}
AreInRange (atom ∷ atoms) (z ∷ zs) = IsInRange atom z × AreInRange atoms zs
AreInRange [] (z ∷ zs) = ⊥
AreInRange (atom ∷ atoms) [] = ⊥

-- the same, as a test
abbrev pub are_in_range : List Atom → List ℤ → Truth
are_in_range [] [] = true
are_in_range (atom ∷ atoms) (z ∷ zs) = is_in_range atom z && are_in_range atoms zs
are_in_range [] (z ∷ zs) = false
are_in_range (atom ∷ atoms) [] = false
