-- What a view shows.
use Rattle.std.specs.Prelude.{List, Option, All}
use Rattle.ras_domain.specs.declared.lock.LockName.{LockName}
use Rattle.ras_store.specs.declared.change.Change.{Change}
use Rattle.ras_store.specs.declared.view.View.{View}
use Rattle.ras_store.specs.Kept.{HasRoomFor, Kept, kept_in}

-- what is seen under the name of a lock, none where nothing is
abbrev pub view_kept : View → LockName → Option Kept
view_kept view name = kept_in view.contents name

-- applying these changes to the view takes no memory
abbrev pub ViewHasRoomForAll : View → List Change → Type 0
ViewHasRoomForAll view changes = All (HasRoomFor view.contents) changes
