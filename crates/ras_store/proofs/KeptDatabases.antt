-- What is kept, and the database that it is.
use Rattle.std.proofs.Common.{◌≡◌, ℕ, Bool, true, false, cond, ◌&&◌, List, [], ◌∷◌, Option, Some, None, refl, sym, ap, ◌∙◌}
use Rattle.std.specs.Option.{option_map}
use Rattle.std.specs.Map.{keys_of}
use Rattle.std.specs.BTreeMap.{is_at}
use Rattle.std.specs.Cmp.Lexicographic.{slice_cmp}
use Rattle.std.specs.Ordering.{nat_cmp}
use Rattle.ras_domain.specs.declared.lock.LockName.{LockName}
use Rattle.ras_domain.specs.declared.lock.LockName.TheVariants.{Collection, Domain, Tile}
use Rattle.ras_domain.specs.declared.region.Interval.{Interval}
use Rattle.ras_index.specs.Index.{row_major}
use Rattle.ras_syntax.specs.declared.types.SetType.{SetType}
use Rattle.ras_store.specs.declared.change.Change.{Change}
use Rattle.ras_store.specs.declared.change.Change.TheVariants.{Collection as CollectionChange, Domain as DomainChange, Tile as TileChange}
use Rattle.ras_store.specs.declared.collection.CollectionInfo.{CollectionInfo}
use Rattle.ras_store.specs.Databases.{Keeps, array_among, holding_kept, holdings_of, info_of, rewrites_of}
use Rattle.std.specs.Arc.{arc_value}
use Rattle.ras_store.specs.Kept.{Kept, all_changed_as, changed_as, changed_by, changed_by_all, collection_kept, domain_kept, is_listed, kept_tile, name_changed, replaced, replaced_as, tile_kept}
use Rattle.spec_expressions.specs.Database.{Array, Collection as CollectionOf, Database, array_of}
use Rattle.spec_statements.specs.Agree.{collection_seen, domain_seen, with_array}
use Rattle.spec_statements.specs.Locks.{collection_in}
use Rattle.spec_views.specs.Holdings.{Holding, holding_at, holding_in}
use Rattle.spec_views.specs.Work.{RewritesTo}

-- ---- changes

module _ {X : Type 0} (seen : Kept → X) where
  chosen : (b : Bool) (x y : Option Kept) → option_map seen (cond b x y) ≡ cond b (option_map seen x) (option_map seen y)
  chosen true x y = refl
  chosen false x y = refl

  fused : {A : Type 0} (f : A → Kept) (o : Option A) → option_map seen (option_map f o) ≡ option_map (λ a. seen (f a)) o
  fused f None = refl
  fused f (Some a) = refl

  seen-replaced : (change : Change) (name : LockName) (before : Option Kept) → option_map seen (replaced change name before) ≡ replaced_as seen change name (option_map seen before)
  seen-replaced (CollectionChange n info) (Collection m) before = fused collection_kept info
  seen-replaced (CollectionChange n info) (Domain m oid) before = chosen (is_listed info oid) before None
  seen-replaced (CollectionChange n info) (Tile m oid place) before = chosen (is_listed info oid) before None
  seen-replaced (DomainChange n id domain) (Collection m) before = refl
  seen-replaced (DomainChange n id domain) (Domain m oid) before =
      chosen (is_at (nat_cmp id) oid) (option_map domain_kept domain) before
      ∙ ap (λ x. cond (is_at (nat_cmp id) oid) x (option_map seen before)) (fused domain_kept domain)
  seen-replaced (DomainChange n id domain) (Tile m oid place) before = refl
  seen-replaced (TileChange n id at tile) (Collection m) before = refl
  seen-replaced (TileChange n id at tile) (Domain m oid) before = refl
  seen-replaced (TileChange n id at tile) (Tile m oid place) before =
      chosen (is_at (nat_cmp id) oid && is_at (row_major at.items) place.items) (kept_tile tile) before
      ∙ ap (λ x. cond (is_at (nat_cmp id) oid && is_at (row_major at.items) place.items) x (option_map seen before)) (fused tile_kept (option_map arc_value tile))

  seen-changed : (change : Change) (name : LockName) (before : Option Kept) → option_map seen (changed_by change name before) ≡ changed_as seen change name (option_map seen before)
  seen-changed change name before =
      chosen (is_at (slice_cmp nat_cmp (collection_in (name_changed change))) (collection_in name)) (replaced change name before) before
      ∙ ap (λ x. cond (is_at (slice_cmp nat_cmp (collection_in (name_changed change))) (collection_in name)) x (option_map seen before)) (seen-replaced change name before)

  pub seen-all-changed : (changes : List Change) (name : LockName) (before : Option Kept)
      → option_map seen (changed_by_all changes name before) ≡ all_changed_as seen changes name (option_map seen before)
  seen-all-changed [] name before = refl
  seen-all-changed (change ∷ changes) name before =
      seen-all-changed changes name (changed_by change name before) ∙ ap (all_changed_as seen changes name) (seen-changed change name before)

-- changes make the one database the other
pub changes-rewrite : (types : List SetType) (changes : List Change) (kept : LockName → Option Kept) (before next : Database)
    → Keeps types kept before → RewritesTo types (rewrites_of changes) before next
    → Keeps types (λ name. changed_by_all changes name (kept name)) next
changes-rewrite types changes kept before next keeps rewrites name =
    seen-all-changed holding_kept changes name (kept name) ∙ ap (all_changed_as holding_kept changes name) (keeps name) ∙ sym (rewrites name)

-- ---- look-ups

pub same_info : (i : Option CollectionInfo) (o : Option CollectionOf)
    → option_map holding_kept (option_map collection_kept i) ≡ holding_in (option_map (λ c. collection_seen c.set_type c.next (keys_of c.arrays)) o)
    → option_map collection_kept i ≡ option_map (λ c. collection_kept (info_of c)) o
same_info None None is = refl
same_info None (Some c) is = absurd (cc)
same_info (Some i) None is = absurd (cc)
same_info (Some i) (Some c) is =
    let set_type : i.set_type ≡ c.set_type = cc in
    let next : i.next ≡ c.next = cc in
    let oids : i.oids ≡ keys_of c.arrays = cc in
    let made : ℕ → ℕ → List ℕ → Option Kept = λ s n o. Some (collection_kept (record { set_type = s; next = n; oids = o })) in
    ap (λ s. made s i.next i.oids) set_type ∙ ap (λ n. made c.set_type n i.oids) next ∙ ap (λ o. made c.set_type c.next o) oids

same_box : (d : Option (List Interval)) (a : Option Array)
    → option_map holding_kept (option_map domain_kept d) ≡ holding_in (option_map (λ (x : Array). domain_seen x.domain) a)
    → option_map domain_kept d ≡ option_map (λ (x : Array). domain_kept x.domain) a
same_box None None is = refl
same_box None (Some a) is = absurd (cc)
same_box (Some d) None is = absurd (cc)
same_box (Some d) (Some a) is = let same : d ≡ a.domain = cc in ap (λ x. Some (domain_kept x)) same

pub same_domain : (d : Option (List Interval)) (c : Option CollectionOf) (oid : ℕ)
    → option_map holding_kept (option_map domain_kept d) ≡ holding_in (with_array (λ collection array. domain_seen array.domain) oid c)
    → option_map domain_kept d ≡ option_map (λ (x : Array). domain_kept x.domain) (array_among c oid)
same_domain d None oid is = same_box d None is
same_domain d (Some c) oid is = same_box d (array_of c oid) is
