-- Why a source could not be read to its end.
use Rattle.std.specs.Prelude.{ℕ, ◌<◌, List, length, Option, IfSome}
use Rattle.ras_edges.specs.Faults.{Rose}
use Rattle.ras_top.specs.declared.read_all.ReadAllFault.{ReadAllFault}
use Rattle.ras_top.specs.declared.read_all.ReadAllFault.TheVariants.{Read, TooLong, Memory}

-- what must hold for each fault, of a source with these bytes, where it tells them, and of its count of
-- faults before and after. Want of memory alone may come at any time
abbrev pub IsReadFault : ℕ → Option (List ℕ) → ℕ → ℕ → ReadAllFault → Type 0
IsReadFault limit input before after Read = Rose before after
IsReadFault limit input before after TooLong = IfSome input (λ text. limit < length text)
IsReadFault limit input before after Memory = Unit {0}
