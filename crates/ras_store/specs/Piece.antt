-- What a piece holds.
use Rattle.std.specs.Prelude.{◌≡◌, ◌⊎◌, ℕ, Bool, false, ◌&&◌, if◌then◌else◌, List, [], ◌∷◌, map, Option, Some, None, option_map}
use Rattle.std.specs.BTreeMap.{is_at}
use Rattle.std.specs.Cmp.Lexicographic.{slice_cmp}
use Rattle.std.specs.Ordering.{nat_cmp}
use Rattle.std.specs.declared.alloc.Global.{Global}
use Rattle.std.specs.declared.sync.Arc.{Arc}
use Rattle.std.specs.Prelude.{ℤ}
use Rattle.arrayvec.specs.ArrayVec.{ArrayVec}
use Rattle.ras_domain.specs.declared.lock.LockName.{LockName}
use Rattle.ras_domain.specs.declared.lock.LockName.TheVariants.{Collection, Domain, Tile}
use Rattle.ras_domain.specs.declared.region.Interval.{Interval}
use Rattle.ras_index.specs.Index.{row_major}
use Rattle.ras_tile.specs.Tile.{TileValue}
use Rattle.ras_store.specs.declared.change.Change.{Change}
use Rattle.ras_store.specs.declared.change.Change.TheVariants.{Collection as CollectionChange, Domain as DomainChange, Tile as TileChange}
use Rattle.ras_store.specs.declared.collection.CollectionInfo.{CollectionInfo}
use Rattle.ras_store.specs.declared.piece.Piece.{Piece}
use Rattle.ras_store.specs.Kept.{Kept, changed_by_all, collection_kept, domain_kept, kept_tile, name_changed}

-- each entry puts something under its name
abbrev pub collection_entry : List ℕ × Option CollectionInfo → Change
collection_entry entry = CollectionChange entry.0 entry.1

abbrev pub domain_entry : List ℕ × ℕ × List Interval → Change
domain_entry entry = DomainChange entry.0 entry.1 (Some entry.2)

abbrev pub tile_entry : List ℕ × ℕ × ArrayVec ℤ × Arc TileValue Global → Change
tile_entry entry = TileChange entry.0 entry.1 entry.2 (Some entry.3)

-- what a piece puts over what was there under a name: what the last of its entries there has; all stays where it has none
abbrev pub piece_over : Piece → LockName → Option Kept → Option Kept
piece_over piece (Collection name) before = changed_by_all (map collection_entry piece.collections) (Collection name) before
piece_over piece (Domain name oid) before = changed_by_all (map domain_entry piece.domains) (Domain name oid) before
piece_over piece (Tile name oid place) before = changed_by_all (map tile_entry piece.tiles) (Tile name oid place) before

-- what a piece holds under a name: what the last of its entries there has, none where there is no such entry
abbrev pub piece_kept : Piece → LockName → Option Kept
piece_kept piece name = piece_over piece name None

-- ---- taking, for the contracts of this crate alone

-- whether two names are the same
abbrev pub is_same_lock_name : LockName → LockName → Bool
is_same_lock_name (Collection name) (Collection other) = is_at (slice_cmp nat_cmp name) other
is_same_lock_name (Domain name id) (Domain other oid) = is_at (slice_cmp nat_cmp name) other && is_at (nat_cmp id) oid
is_same_lock_name (Tile name id at) (Tile other oid place) =
    is_at (slice_cmp nat_cmp name) other && (is_at (nat_cmp id) oid && is_at (row_major at.items) place.items)
is_same_lock_name _ _ = false

-- what was kept under one name is held under it now, and the rest as before. Nothing is added where nothing was kept
abbrev pub IsTakenWhere : Option Kept → Bool → Option Kept → Option Kept → Type 0
IsTakenWhere kept same old new = (new ≡ (if same then kept else old)) ⊎ ((kept ≡ None) × (new ≡ old))

-- ---- putting, for the contracts of this crate alone

-- what a change has under its own name
abbrev pub kept_by : Change → Option Kept
kept_by (CollectionChange name info) = option_map collection_kept info
kept_by (DomainChange name oid domain) = option_map domain_kept domain
kept_by (TileChange name oid place tile) = kept_tile tile

-- it is put there, and nothing else changes
abbrev pub placed_by : Change → LockName → Option Kept → Option Kept
placed_by change name before = if is_same_lock_name (name_changed change) name then kept_by change else before

abbrev pub placed_by_all : List Change → LockName → Option Kept → Option Kept
placed_by_all [] name before = before
placed_by_all (change ∷ changes) name before = placed_by_all changes name (placed_by change name before)
