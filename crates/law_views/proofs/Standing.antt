-- Holdings that stand for databases.
use Rattle.std.proofs.Common.{◌≡◌, ℕ, ℤ, List, [], ◌∷◌, filter, Option, Some, None, option_map, refl, sym, ap, ◌∙◌}
use Rattle.std.specs.Map.{keys_of}
use Rattle.std.specs.Prelude.{slice_get}
use Rattle.ras_domain.specs.declared.lock.LockName.{LockName}
use Rattle.ras_domain.specs.declared.lock.LockName.TheVariants.{Collection, Domain, Tile}
use Rattle.ras_syntax.specs.declared.types.SetType.{SetType}
use Rattle.spec_expressions.specs.Database.{Array, Collection as CollectionOf, Database, array_of, collection_of}
use Rattle.spec_expressions.specs.Shape.{Box}
use Rattle.spec_statements.specs.Agree.{Agrees, Seen, collection_seen, domain_seen, extents_in, lies_at, look_at, stored_in_tile, tile_seen, with_array}
use Rattle.spec_statements.specs.Locks.{Lock}
use Rattle.spec_statements.specs.ReachLaw.{AreNamedIn, HasParents, Names}
use Rattle.spec_views.specs.Holdings.{Holdings, StandsFor, holding_at, holding_in, holding_of}

-- holdings that stand for a database on a list do so on a list of fewer names
pub stands-fewer : (types : List SetType) (holdings : Holdings) (small large : List Lock) (database : Database) → AreNamedIn small large
    → StandsFor types holdings large database → StandsFor types holdings small database
stands-fewer types holdings small large database fewer stands name named = stands name (fewer name named)

-- and for each database that agrees on the list
pub stands-moved : (types : List SetType) (holdings : Holdings) (list : List Lock) (one other : Database) → Agrees types list one other
    → StandsFor types holdings list one → StandsFor types holdings list other
stands-moved types holdings list one other agrees stands name named =
    stands name named ∙ ap holding_in (agrees name named.0 named.1)

-- ---- what is held tells what is shown

abbrev pub collection_shown : CollectionOf → Seen
collection_shown collection = collection_seen collection.set_type collection.next (keys_of collection.arrays)

collection_told : (a b : Option CollectionOf)
    → holding_in (option_map collection_shown a)
    ≡ holding_in (option_map collection_shown b)
    → option_map collection_shown a
    ≡ option_map collection_shown b
collection_told None None same = refl
collection_told None (Some b) same = absurd cc
collection_told (Some a) None same = absurd cc
collection_told (Some a) (Some b) same =
    let set_type : a.set_type ≡ b.set_type = cc in
    let next : a.next ≡ b.next = cc in
    let keys : keys_of a.arrays ≡ keys_of b.arrays = cc in
    λ i. Some (collection_seen (set_type i) (next i) (keys i))

abbrev pub domain_shown : CollectionOf → Array → Seen
domain_shown collection array = domain_seen array.domain

-- the domain of an array in a collection that may be there
domain_in : (id : ℕ) (a : Option CollectionOf) → (domain : Option Box) × (with_array domain_shown id a ≡ option_map domain_seen domain)
domain_in id None = (None, refl)
domain_in id (Some a) = at a (array_of a id)
  where
    at : (a : CollectionOf) (found : Option Array) → (domain : Option Box) × (option_map (domain_shown a) found ≡ option_map domain_seen domain)
    at a None = (None, refl)
    at a (Some array) = (Some array.domain, refl)

domains_told : (a b : Option Box) → holding_in (option_map domain_seen a) ≡ holding_in (option_map domain_seen b) → option_map domain_seen a ≡ option_map domain_seen b
domains_told None None same = refl
domains_told None (Some b) same = absurd cc
domains_told (Some a) None same = absurd cc
domains_told (Some a) (Some b) same = let e : a ≡ b = cc in ap (λ d. Some (domain_seen d)) e

domain_told : (id : ℕ) (a b : Option CollectionOf) → holding_in (with_array domain_shown id a) ≡ holding_in (with_array domain_shown id b)
    → with_array domain_shown id a ≡ with_array domain_shown id b
domain_told id a b same =
    let (first, first_is) = domain_in id a in
    let (second, second_is) = domain_in id b in
    first_is ∙ domains_told first second (sym (ap holding_in first_is) ∙ same ∙ ap holding_in second_is) ∙ sym second_is

abbrev pub tile_shown : List SetType → List ℤ → CollectionOf → Array → Seen
tile_shown types place collection array = stored_in_tile types collection place array

-- the points of a tile, whatever the set type
points_told : (s t : ℕ) (es fs : List (List ℤ × List ℤ)) → holding_of (tile_seen s es) ≡ holding_of (tile_seen t fs) → es ≡ fs
points_told s t [] [] same = refl
points_told s t [] (f ∷ fs) same = absurd cc
points_told s t (e ∷ es) [] same = absurd cc
points_told s t (e ∷ es) (f ∷ fs) same = cc

-- collections with the same set type, in which the array is there in both or in neither
tile_told : (types : List SetType) (id : ℕ) (place : List ℤ) (a b : Option CollectionOf)
    → option_map collection_shown a
    ≡ option_map collection_shown b
    → with_array domain_shown id a ≡ with_array domain_shown id b
    → holding_in (with_array (tile_shown types place) id a) ≡ holding_in (with_array (tile_shown types place) id b)
    → with_array (tile_shown types place) id a ≡ with_array (tile_shown types place) id b
tile_told types id place None None collections domains same = refl
tile_told types id place None (Some b) collections domains same = absurd cc
tile_told types id place (Some a) None collections domains same = absurd cc
tile_told types id place (Some a) (Some b) collections domains same =
    let type : a.set_type ≡ b.set_type = cc in
    at a b (array_of a id) (array_of b id) type domains same
  where
    at : (a b : CollectionOf) (x y : Option Array) → a.set_type ≡ b.set_type → option_map (domain_shown a) x ≡ option_map (domain_shown b) y
        → holding_in (option_map (tile_shown types place a) x) ≡ holding_in (option_map (tile_shown types place b) y)
        → option_map (tile_shown types place a) x ≡ option_map (tile_shown types place b) y
    at a b None None type domains same = refl
    at a b None (Some y) type domains same = absurd cc
    at a b (Some x) None type domains same = absurd cc
    at a b (Some x) (Some y) type domains same =
        let points = points_told a.set_type b.set_type
        (filter (λ entry. lies_at (extents_in (slice_get types a.set_type)) place entry.0) x.stored)
        (filter (λ entry. lies_at (extents_in (slice_get types b.set_type)) place entry.0) y.stored) same in
        λ i. Some (tile_seen (type i) (points i))

-- a name under which both have the same shows the same, where its parents do
abbrev AreParents : LockName → (LockName → Type 0) → Type 0
AreParents (Collection name) P = Unit {0}
AreParents (Domain name id) P = Unit {0}
AreParents (Tile name id place) P = P (Collection name) × P (Domain name id)

pub told_of_parents : (types : List SetType) (one other : Database) (name : LockName)
    → AreParents name (λ above. holding_at types above one ≡ holding_at types above other) → holding_at types name one ≡ holding_at types name other
    → look_at types name one ≡ look_at types name other
told_of_parents types one other (Collection name) parents same = collection_told (collection_of one name) (collection_of other name) same
told_of_parents types one other (Domain name id) parents same = domain_told id (collection_of one name) (collection_of other name) same
told_of_parents types one other (Tile name id place) parents same =
    tile_told types id place.items (collection_of one name) (collection_of other name) (collection_told (collection_of one name) (collection_of other name) parents.0)
    (domain_told id (collection_of one name) (collection_of other name) parents.1) same

-- databases that have the same under every name show the same under every lock
pub told : (types : List SetType) (one other : Database) (name : LockName)
    → ((above : LockName) → holding_at types above one ≡ holding_at types above other) → look_at types name one ≡ look_at types name other
told types one other (Collection name) same = told_of_parents types one other (Collection name) tt (same (Collection name))
told types one other (Domain name id) same = told_of_parents types one other (Domain name id) tt (same (Domain name id))
told types one other (Tile name id place) same =
    told_of_parents types one other (Tile name id place) (same (Collection name), same (Domain name id)) (same (Tile name id place))

-- databases for which the same holdings stand agree
pub stands_agree : (types : List SetType) (holdings : Holdings) (list : List Lock) (one other : Database) → HasParents list
    → StandsFor types holdings list one → StandsFor types holdings list other → Agrees types list one other
stands_agree types holdings list one other parents first second name mode has = told_of_parents types one other name (above name (mode, has)) (held name (mode, has))
  where
    held : (name : LockName) → Names list name → holding_at types name one ≡ holding_at types name other
    held name named = sym (first name named) ∙ second name named

    above : (name : LockName) → Names list name → AreParents name (λ above. holding_at types above one ≡ holding_at types above other)
    above (Collection name) named = tt
    above (Domain name id) named = tt
    above (Tile name id place) named =
        let domain = parents.tiles name id place named in
        (held (Collection name) (parents.domains name id domain), held (Domain name id) domain)
