-- Changes and what they replace.
use Rattle.std.proofs.Common.{◌≡◌, ℕ, cond, ◌&&◌, List, [], ◌∷◌, map, Option, Some, None, refl, ap, ◌∙◌}
use Rattle.std.specs.Arc.{arc_value}
use Rattle.std.specs.Option.{option_map}
use Rattle.std.specs.BTreeMap.{is_at}
use Rattle.std.specs.Cmp.Lexicographic.{slice_cmp}
use Rattle.std.specs.Ordering.{nat_cmp}
use Rattle.ras_domain.specs.declared.lock.LockName.{LockName}
use Rattle.ras_domain.specs.declared.lock.LockName.TheVariants.{Collection, Domain, Tile}
use Rattle.ras_index.specs.Index.{row_major}
use Rattle.ras_store.specs.declared.change.Change.{Change}
use Rattle.ras_store.specs.declared.change.Change.TheVariants.{Collection as CollectionChange, Domain as DomainChange, Tile as TileChange}
use Rattle.ras_store.specs.declared.collection.CollectionInfo.{CollectionInfo}
use Rattle.ras_store.specs.Databases.{holding_kept}
use Rattle.ras_store.specs.Kept.{Kept, all_changed_as, changed_as, collection_kept, domain_kept, is_listed, name_changed, replaced_as, tile_kept}
use Rattle.ras_store.specs.Piece.{kept_by}
use Rattle.spec_statements.specs.Locks.{collection_in}
use Rattle.spec_views.specs.Holdings.{Holding}
use Rattle.law_work.specs.Replacements.{is_member, replaced_by, replaced_by_all, replaced_under, replacement_of}

fused : {A : Type 0} (f : A → Kept) (o : Option A) → option_map (λ a. holding_kept (f a)) o ≡ option_map holding_kept (option_map f o)
fused f None = refl
fused f (Some a) = refl

listed-member : (info : Option CollectionInfo) (oid : ℕ) → is_listed info oid ≡ is_member (option_map holding_kept (option_map collection_kept info)) oid
listed-member None oid = refl
listed-member (Some info) oid = refl

replaced-under : (change : Change) (name : LockName) (before : Option Holding)
    → replaced_as holding_kept change name before ≡ replaced_under (name_changed change) (option_map holding_kept (kept_by change)) name before
replaced-under (CollectionChange n info) (Collection m) before = fused collection_kept info
replaced-under (CollectionChange n info) (Domain m oid) before = ap (λ b. cond b before None) (listed-member info oid)
replaced-under (CollectionChange n info) (Tile m oid place) before = ap (λ b. cond b before None) (listed-member info oid)
replaced-under (DomainChange n id domain) (Collection m) before = refl
replaced-under (DomainChange n id domain) (Domain m oid) before = ap (λ x. cond (is_at (nat_cmp id) oid) x before) (fused domain_kept domain)
replaced-under (DomainChange n id domain) (Tile m oid place) before = refl
replaced-under (TileChange n id at tile) (Collection m) before = refl
replaced-under (TileChange n id at tile) (Domain m oid) before = refl
replaced-under (TileChange n id at tile) (Tile m oid place) before =
    ap (λ x. cond (is_at (nat_cmp id) oid && is_at (row_major at.items) place.items) x before) (fused tile_kept (option_map arc_value tile))

changed-replaced : (change : Change) (name : LockName) (before : Option Holding) → changed_as holding_kept change name before ≡ replaced_by (replacement_of change) name before
changed-replaced change name before =
    ap (λ x. cond (is_at (slice_cmp nat_cmp (collection_in (name_changed change))) (collection_in name)) x before) (replaced-under change name before)

pub all-replaced : (changes : List Change) (name : LockName) (before : Option Holding)
    → all_changed_as holding_kept changes name before ≡ replaced_by_all (map replacement_of changes) name before
all-replaced [] name before = refl
all-replaced (change ∷ changes) name before =
    all-replaced changes name (changed_as holding_kept change name before)
    ∙ ap (replaced_by_all (map replacement_of changes) name) (changed-replaced change name before)
