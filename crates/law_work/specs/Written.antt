-- The names under which changes have written: what was there before makes no difference there.
use Rattle.std.specs.Prelude.{Bool, true, false, not, ◌&&◌, List}
use Rattle.std.specs.BTreeMap.{is_at}
use Rattle.std.specs.Cmp.Lexicographic.{slice_cmp}
use Rattle.std.specs.List.{list_any}
use Rattle.std.specs.Ordering.{nat_cmp}
use Rattle.ras_domain.specs.declared.lock.LockName.{LockName}
use Rattle.ras_domain.specs.declared.lock.LockName.TheVariants.{Collection, Domain, Tile}
use Rattle.ras_index.specs.Index.{row_major}
use Rattle.ras_store.specs.declared.change.Change.{Change}
use Rattle.ras_store.specs.declared.change.Change.TheVariants.{Collection as CollectionChange, Domain as DomainChange, Tile as TileChange}
use Rattle.ras_store.specs.Kept.{is_listed, name_changed}
use Rattle.spec_statements.specs.Locks.{collection_in}

-- a change writes under its own name, and one of a collection also under the names of the arrays that it takes out
abbrev pub writes_under : Change → LockName → Bool
writes_under (CollectionChange name info) (Collection other) = true
writes_under (CollectionChange name info) (Domain other oid) = not (is_listed info oid)
writes_under (CollectionChange name info) (Tile other oid place) = not (is_listed info oid)
writes_under (DomainChange name id domain) (Collection other) = false
writes_under (DomainChange name id domain) (Domain other oid) = is_at (nat_cmp id) oid
writes_under (DomainChange name id domain) (Tile other oid place) = false
writes_under (TileChange name id at tile) (Collection other) = false
writes_under (TileChange name id at tile) (Domain other oid) = false
writes_under (TileChange name id at tile) (Tile other oid place) = is_at (nat_cmp id) oid && is_at (row_major at.items) place.items

abbrev pub is_written_by : Change → LockName → Bool
is_written_by change name = is_at (slice_cmp nat_cmp (collection_in (name_changed change))) (collection_in name) && writes_under change name

-- some change writes there
abbrev pub is_written : List Change → LockName → Bool
is_written changes name = list_any (λ change. is_written_by change name) changes
