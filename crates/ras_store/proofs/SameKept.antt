-- Copies keep the same under each name.
use Rattle.std.proofs.Common.{◌≡◌, ℕ, ℤ, List, Option, Some, None, refl, ap}
use Rattle.std.specs.BTreeMap.{get}
use Rattle.std.specs.Option.{option_map, IsSomeAnd, MatchOption}
use Rattle.std.specs.Ordering.{nat_cmp}
use Rattle.ras_domain.specs.declared.lock.LockName.{LockName}
use Rattle.ras_domain.specs.declared.lock.LockName.TheVariants.{Collection, Domain, Tile}
use Rattle.ras_store.specs.declared.array.KeptArray.{KeptArray}
use Rattle.ras_store.specs.declared.collection.KeptCollection.{KeptCollection}
use Rattle.ras_store.specs.Kept.{IsSameArray, IsSameCollection, collection_kept, domain_in, domain_kept, kept_under, tile_stored, tile_kept}

same_domain : (o n : Option KeptArray) → MatchOption o (n ≡ None) (λ a. IsSomeAnd n (IsSameArray a)) → domain_in n ≡ domain_in o
same_domain None n copies = ap domain_in copies
same_domain (Some a) None copies = absurd copies
same_domain (Some a) (Some w) copies = copies.domain

same_tile : (o n : Option KeptArray) (place : List ℤ) → MatchOption o (n ≡ None) (λ a. IsSomeAnd n (IsSameArray a)) → tile_stored n place ≡ tile_stored o place
same_tile None n place copies = ap (λ w. tile_stored w place) copies
same_tile (Some a) None place copies = absurd copies
same_tile (Some a) (Some w) place copies = copies.tiles place

same_collection : (a w : KeptCollection) → IsSameCollection a w → (name : LockName) → kept_under (Some w) name ≡ kept_under (Some a) name
same_collection a w copies (Collection n) = ap (λ i. option_map collection_kept i) copies.info
same_collection a w copies (Domain n oid) =
    ap (λ d. option_map domain_kept d) (same_domain (get nat_cmp a.arrays oid) (get nat_cmp w.arrays oid) (copies.arrays oid))
same_collection a w copies (Tile n oid place) =
    ap (λ t. option_map tile_kept t) (same_tile (get nat_cmp a.arrays oid) (get nat_cmp w.arrays oid) place.items (copies.arrays oid))

-- a copy of what is there, or of nothing
pub same-kept : (o n : Option KeptCollection) → MatchOption o (n ≡ None) (λ a. IsSomeAnd n (IsSameCollection a)) → (name : LockName) → kept_under n name ≡ kept_under o name
same-kept None n copies name = ap (λ w. kept_under w name) copies
same-kept (Some a) None copies name = absurd copies
same-kept (Some a) (Some w) copies name = same_collection a w copies name
