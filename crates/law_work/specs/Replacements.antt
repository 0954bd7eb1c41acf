-- Changes as what is held shows them: each replaces what is held under one name.
use Rattle.std.specs.Prelude.{ℕ, Bool, false, ◌&&◌, if◌then◌else◌, List, [], ◌∷◌, Option, Some, None, option_map, nat_eq}
use Rattle.std.specs.BTreeMap.{is_at}
use Rattle.std.specs.Cmp.Lexicographic.{slice_cmp}
use Rattle.std.specs.List.{list_any}
use Rattle.std.specs.Ordering.{nat_cmp}
use Rattle.ras_domain.specs.declared.lock.LockName.{LockName}
use Rattle.ras_domain.specs.declared.lock.LockName.TheVariants.{Collection, Domain, Tile}
use Rattle.ras_index.specs.Index.{row_major}
use Rattle.ras_store.specs.declared.change.Change.{Change}
use Rattle.ras_store.specs.Databases.{holding_kept}
use Rattle.ras_store.specs.Kept.{name_changed}
use Rattle.ras_store.specs.Piece.{kept_by}
use Rattle.spec_statements.specs.Locks.{collection_in}
use Rattle.spec_views.specs.Holdings.{Holding, collection_held}
use Rattle.spec_views.specs.Work.{Rewrites}

-- a name, and what is held there from now on
abbrev pub Replacement : Type 0
Replacement = LockName × Option Holding

-- what a change replaces
abbrev pub replacement_of : Change → Replacement
replacement_of change = (name_changed change, option_map holding_kept (kept_by change))

-- an identifier is one of a collection's that is held
abbrev pub is_member : Option Holding → ℕ → Bool
is_member (Some (collection_held set_type next identifiers)) id = list_any (nat_eq id) identifiers
is_member other id = false

-- under a name of the same collection. A collection's arrays that aren't among its identifiers are taken out
abbrev pub replaced_under : LockName → Option Holding → LockName → Option Holding → Option Holding
replaced_under (Collection name) held (Collection other) before = held
replaced_under (Collection name) held (Domain other oid) before = if is_member held oid then before else None
replaced_under (Collection name) held (Tile other oid place) before = if is_member held oid then before else None
replaced_under (Domain name id) held (Collection other) before = before
replaced_under (Domain name id) held (Domain other oid) before = if is_at (nat_cmp id) oid then held else before
replaced_under (Domain name id) held (Tile other oid place) before = before
replaced_under (Tile name id at) held (Collection other) before = before
replaced_under (Tile name id at) held (Domain other oid) before = before
replaced_under (Tile name id at) held (Tile other oid place) before =
    if is_at (nat_cmp id) oid && is_at (row_major at.items) place.items then held else before

-- under any name
abbrev pub replaced_by : Replacement → Rewrites
replaced_by replacement name before =
    if is_at (slice_cmp nat_cmp (collection_in replacement.0)) (collection_in name) then replaced_under replacement.0 replacement.1 name before else before

-- and after several in order
abbrev pub replaced_by_all : List Replacement → Rewrites
replaced_by_all [] name before = before
replaced_by_all (replacement ∷ replacements) name before = replaced_by_all replacements name (replaced_by replacement name before)
