-- What a store keeps.
use Rattle.std.specs.Prelude.{List, Option, All}
use Rattle.ras_domain.specs.declared.lock.LockName.{LockName}
use Rattle.ras_store.specs.declared.change.Change.{Change}
use Rattle.ras_store.specs.declared.store.Store.{Store}
use Rattle.ras_store.specs.Kept.{HasRoomFor, Kept, kept_in}

-- what is kept under the name of a lock, none where nothing is
abbrev pub store_kept : Store → LockName → Option Kept
store_kept store name = kept_in store.contents name

-- applying these changes takes no memory
abbrev pub HasRoomForAll : Store → List Change → Type 0
HasRoomForAll store changes = All (HasRoomFor store.contents) changes
