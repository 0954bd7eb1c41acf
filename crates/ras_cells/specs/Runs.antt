-- Runs: the numbers of one component of some cells, in the width that they are kept in.
use Rattle.std.specs.Prelude.{◌≡◌, ℕ, ℤ, pos, List, length, map, All}
use Rattle.ras_cells.specs.declared.run.Run.{Run}
use Rattle.ras_cells.specs.declared.run.Run.TheVariants.{Uniform, U8, I8, U16, I16, U32, I32, Plain}

-- these are the numbers of the run; one that is kept as one number may have any length
abbrev pub IsRunOf : List ℤ → Run → Type 0
IsRunOf numbers (Uniform number) = All (λ n. n ≡ number) numbers
IsRunOf numbers (U8 bytes) = numbers ≡ map pos bytes.now
IsRunOf numbers (I8 bytes) = numbers ≡ bytes.now
IsRunOf numbers (U16 shorts) = numbers ≡ map pos shorts.now
IsRunOf numbers (I16 shorts) = numbers ≡ shorts.now
IsRunOf numbers (U32 longs) = numbers ≡ map pos longs.now
IsRunOf numbers (I32 longs) = numbers ≡ longs.now
IsRunOf numbers (Plain plain) = numbers ≡ plain.now

-- the run of numbers has this length; one that is kept as one number has any
abbrev pub HasLength : Run → ℕ → Type 0
HasLength (Uniform number) n = Unit {0}
HasLength (U8 bytes) n = length bytes.now ≡ n
HasLength (I8 bytes) n = length bytes.now ≡ n
HasLength (U16 shorts) n = length shorts.now ≡ n
HasLength (I16 shorts) n = length shorts.now ≡ n
HasLength (U32 longs) n = length longs.now ≡ n
HasLength (I32 longs) n = length longs.now ≡ n
HasLength (Plain numbers) n = length numbers.now ≡ n
