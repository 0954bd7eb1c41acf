-- Changes that replace the same, whoever shares their tiles.
use Rattle.std.specs.Prelude.{◌≡◌, List, map, Option}
use Rattle.ras_domain.specs.declared.lock.LockName.{LockName}
use Rattle.ras_store.specs.declared.change.Change.{Change}
use Rattle.ras_store.specs.Kept.{Kept, name_changed}
use Rattle.ras_store.specs.Piece.{kept_by}

-- the name of what a change replaces, and what is there from then on
abbrev pub put_by : Change → LockName × Option Kept
put_by change = (name_changed change, kept_by change)

-- the same is put under the same names, in the same order
abbrev pub AreCopies : List Change → List Change → Type 0
AreCopies changes copies = map put_by copies ≡ map put_by changes
