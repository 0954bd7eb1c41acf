-- How the numbers of a component are lent.
use Rattle.std.specs.Prelude.{◌≡◌, ◌⊎◌}
use Rattle.ras_cells.specs.declared.atom.Atom.{Atom}
use Rattle.ras_cells.specs.declared.atom.Atom.TheVariants.{Bool, Octet, Char, Short, Ushort, Long, Ulong, Wide}
use Rattle.ras_cells.specs.declared.run.Run.{Run}
use Rattle.ras_cells.specs.declared.run.Run.TheVariants.{Uniform, U8, I8, U16, I16, U32, I32, Plain}

-- as one number that stands for all
abbrev pub IsUniform : Run → Type 0
IsUniform (Uniform number) = Unit {0}
IsUniform run = ⊥

-- as numbers of 64 bits
abbrev pub IsPlain : Run → Type 0
IsPlain (Plain numbers) = Unit {0}
IsPlain run = ⊥

-- as numbers in the width of the atom's range: a byte for truth values, chars and octets, two for ushorts and shorts, four
-- for ulongs and longs, and 64 bits for what operations give
abbrev pub IsPackedAs : Atom → Run → Type 0
IsPackedAs atom (Uniform number) = ⊥
IsPackedAs atom (U8 bytes) = (atom ≡ Bool) ⊎ (atom ≡ Char)
IsPackedAs atom (I8 bytes) = atom ≡ Octet
IsPackedAs atom (U16 shorts) = atom ≡ Ushort
IsPackedAs atom (I16 shorts) = atom ≡ Short
IsPackedAs atom (U32 longs) = atom ≡ Ulong
IsPackedAs atom (I32 longs) = atom ≡ Long
IsPackedAs atom (Plain numbers) = atom ≡ Wide
