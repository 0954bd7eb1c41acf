-- Modes of locks that are wanted more than once.
use Rattle.std.specs.Prelude.{Option, Some, None}
use Rattle.ras_domain.specs.declared.lock.Mode.{Mode}
use Rattle.spec_statements.specs.Locks.{stronger}

abbrev pub mode_with : Mode → Option Mode → Mode
mode_with mode None = mode
mode_with mode (Some other) = stronger mode other
