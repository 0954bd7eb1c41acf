-- Rows over two databases whose collections are alike, member by member.
use Rattle.std.proofs.Common.{◌≡◌, ◌<◌, ◌≤◌, ℕ, suc, ℤ, Bool, true, false, cond, List, [], ◌∷◌, map, filter, Option, Some, option_map, Contains, refl, sym, ap, ◌∙◌, subst, arith}
use Rattle.std.specs.List.{AllByRecursion, AllZip, zip}
use Rattle.std.specs.Map.{keys_of}
use Rattle.ras_domain.specs.declared.lock.LockName.TheVariants.{Domain}
use Rattle.ras_domain.specs.declared.lock.Mode.TheVariants.{Shared}
use Rattle.ras_domain.specs.declared.region.Interval.{Interval}
use Rattle.ras_syntax.specs.declared.types.SetType.{SetType}
use Rattle.ras_syntax.specs.declared.typed.CheckedSource.{CheckedSource}
use Rattle.spec_expressions.specs.Tree.{NameOf}
use Rattle.spec_expressions.specs.Database.{Array, Collection as CollectionOf, Database, Member, array_of, collection_of}
use Rattle.spec_expressions.specs.Fits.{AreMembersOf, IsMemberOf}
use Rattle.spec_expressions.specs.SetTypes.{IsSetType}
use Rattle.spec_statements.specs.Agree.{Agrees, Seen, domain_seen, with_array}
use Rattle.spec_statements.specs.Locks.{Lock}
use Rattle.spec_statements.specs.ReachLaw.{Names}
use Rattle.spec_statements.specs.Rows.{Row, combinations, is_asked, member_of, members_in, members_of, with_row_numbers}
use Rattle.spec_statements.specs.Validity.{IsArrayOf}
use Rattle.law_lists.proofs.Each.{each_itself, each_both}
use Rattle.law_effects.proofs.Shown.{found_entry}
use Rattle.law_effects.proofs.Validity.{IsCollectionIn, IsEntryOf, collection-arrays}
use Rattle.law_reach.specs.Alike.{AreAlike}
use Rattle.law_locks.proofs.Collections.{IsAlikeCollection}
use Rattle.law_locks.proofs.Sides.{zip-flat_map, zip-map}
use Rattle.ras_syntax.specs.declared.limits.TheConstants.{MAX_IDENTIFIER}

-- ---- what is known of a source, and of the members of rows at its place

-- the collection of a source in two databases
pub record IsOver (types : List SetType) (one other : Database) (source : CheckedSource) : Type 0 where
  pub first : CollectionOf
  pub second : CollectionOf
  pub first_in : IsCollectionIn types one source.collection source.of first
  pub second_in : IsCollectionIn types other source.collection source.of second
  pub alike : IsAlikeCollection first second
  pub small : first.next ≤ MAX_IDENTIFIER
  pub type : IsSetType source.of

-- the member is one of the collection's arrays
pub record IsMemberAt (source : CheckedSource) (collection : CollectionOf) (member : Member) : Type 0 where
  pub iterator : member.iterator ≡ source.iterator
  pub of : member.of ≡ source.of
  pub given : member.oid < collection.next
  pub found : array_of collection member.oid ≡ Some member.array
  pub array : IsArrayOf source.of member.array

-- members with the same identifier
pub record IsPair (types : List SetType) (one other : Database) (source : CheckedSource) (a b : Member) : Type 0 where
  pub over : IsOver types one other source
  pub oid : a.oid ≡ b.oid
  pub left : IsMemberAt source over.first a
  pub right : IsMemberAt source over.second b

-- the same of rows
abbrev pub ArePairs : List SetType → Database → Database → List CheckedSource → Row → Row → Type 0
ArePairs types one other [] [] [] = Unit {0}
ArePairs types one other (source ∷ sources) (a ∷ as_) (b ∷ bs) = IsPair types one other source a b × ArePairs types one other sources as_ bs
ArePairs types one other [] [] (b ∷ bs) = ⊥
ArePairs types one other [] (a ∷ as_) bs = ⊥
ArePairs types one other (source ∷ sources) [] bs = ⊥
ArePairs types one other (source ∷ sources) (a ∷ as_) [] = ⊥

-- ---- entries of collections that are alike

-- entries with equal keys, with what holds of each
zip-keys : {X : Type 0} (P Q : ℕ × X → Type 0) (xs ys : List (ℕ × X)) → keys_of xs ≡ keys_of ys → AllByRecursion P xs → AllByRecursion Q ys → AllZip (λ x y. (x.0 ≡ y.0) × P x × Q y) xs ys
zip-keys P Q [] [] same first second = tt
zip-keys P Q [] (y ∷ ys) same first second = absurd cc
zip-keys P Q (x ∷ xs) [] same first second = absurd cc
zip-keys P Q (x ∷ xs) (y ∷ ys) same first second =
    let here : x.0 ≡ y.0 = cc in
    let later : keys_of xs ≡ keys_of ys = cc in
    ((here, first.0, second.0), zip-keys P Q xs ys later first.1 second.1)

-- those that pass the same test
pub filter_at : {A B : Type 0} (R : A → B → Type 0) (x : A) (y : B) (xs : List A) (ys : List B) (s t : Bool) → s ≡ t → R x y → AllZip R xs ys
    → AllZip R (cond s (x ∷ xs) xs) (cond t (y ∷ ys) ys)
filter_at R x y xs ys true true same here later = (here, later)
filter_at R x y xs ys false false same here later = later
filter_at R x y xs ys true false same here later = absurd cc
filter_at R x y xs ys false true same here later = absurd cc

zip-filter : {A B : Type 0} (R : A → B → Type 0) (s : A → Bool) (t : B → Bool) → ((a : A) (b : B) → R a b → s a ≡ t b) → (xs : List A) (ys : List B) → AllZip R xs ys
    → AllZip R (filter s xs) (filter t ys)
zip-filter R s t same [] [] all = tt
zip-filter R s t same [] (y ∷ ys) all = absurd all
zip-filter R s t same (x ∷ xs) [] all = absurd all
zip-filter R s t same (x ∷ xs) (y ∷ ys) all =
    filter_at R x y (filter s xs) (filter t ys) (s x) (t y) (same x y all.0) all.0 (zip-filter R s t same xs ys all.1)

-- an entry of a collection
abbrev IsEntryIn : SetType → CollectionOf → ℕ × Array → Type 0
IsEntryIn of collection entry = (entry.0 < collection.next) × (array_of collection entry.0 ≡ Some entry.1) × IsArrayOf of entry.1

entries_in : (types : List SetType) (database : Database) (name : List ℕ) (of : SetType) (collection : CollectionOf) → IsCollectionIn types database name of collection
    → AllByRecursion (IsEntryIn of collection) collection.arrays
entries_in types database name of collection is =
    let are = collection-arrays types of collection is.over is.type in
    each_both (Contains collection.arrays) (IsEntryOf of collection.next) (IsEntryIn of collection)
    (λ entry has e. (e.1, found_entry collection.arrays entry.0 entry.1 is.over.ordered has, e.2))
    collection.arrays (each_itself collection.arrays) are.each

-- ---- rows

module _ (types : List SetType) (one other : Database) where
  members_pair : (source : CheckedSource) (asked : List (NameOf × ℤ)) → IsOver types one other source
      → AllZip (IsPair types one other source) (members_of one asked source) (members_of other asked source)
  members_pair source asked over =
      let P : ℕ × Array → Type 0 = IsEntryIn source.of over.first in
      let Q : ℕ × Array → Type 0 = IsEntryIn source.of over.second in
      let R : ℕ × Array → ℕ × Array → Type 0 = λ e f. (e.0 ≡ f.0) × P e × Q f in
      let test : ℕ × Array → Bool = λ entry. is_asked asked source.iterator entry.0 in
      let entries : AllZip R over.first.arrays over.second.arrays =
      zip-keys P Q over.first.arrays over.second.arrays over.alike.keys
      (entries_in types one source.collection source.of over.first over.first_in) (entries_in types other source.collection source.of over.second over.second_in) in
      subst (λ (found : Option CollectionOf). AllZip (IsPair types one other source) (map (member_of source) (filter test (members_in found)))
      (members_of other asked source)) (sym over.first_in.found)
      (subst (λ (found : Option CollectionOf). AllZip (IsPair types one other source) (map (member_of source) (filter test over.first.arrays))
      (map (member_of source) (filter test (members_in found)))) (sym over.second_in.found)
      (zip-map R (IsPair types one other source) (member_of source) (member_of source)
      (λ e f both. record {
        over = over;
        oid = both.0;
        left = record { iterator = refl; of = refl; given = both.1.0; found = both.1.1; array = both.1.2 };
        right = record { iterator = refl; of = refl; given = both.2.0; found = both.2.1; array = both.2.2 };
      })
      (filter test over.first.arrays) (filter test over.second.arrays)
      (zip-filter R test test (λ e f both. ap (is_asked asked source.iterator) both.0) over.first.arrays over.second.arrays entries)))

  pub rows_pair : (sources : List CheckedSource) (asked : List (NameOf × ℤ)) → AllByRecursion (IsOver types one other) sources
      → AllZip (ArePairs types one other sources) (combinations (map (members_of one asked) sources)) (combinations (map (members_of other asked) sources))
  rows_pair [] asked over = (tt, tt)
  rows_pair (source ∷ sources) asked over =
      let rest = rows_pair sources asked over.1 in
      zip-flat_map (IsPair types one other source) (ArePairs types one other (source ∷ sources))
      (λ member. map (λ row. member ∷ row) (combinations (map (members_of one asked) sources)))
      (λ member. map (λ row. member ∷ row) (combinations (map (members_of other asked) sources)))
      (λ a b pair. zip-map (ArePairs types one other sources) (ArePairs types one other (source ∷ sources)) (λ row. a ∷ row) (λ row. b ∷ row) (λ r s pairs. (pair, pairs)) _ _ rest)
      (members_of one asked source) (members_of other asked source) (members_pair source asked over.0)

-- the same with numbers
pub zip-numbered : {A B : Type 0} (R : A → B → Type 0) (k : ℕ) (xs : List A) (ys : List B) → AllZip R xs ys
    → AllZip (λ x y. (x.0 ≡ y.0) × R x.1 y.1) (with_row_numbers k xs) (with_row_numbers k ys)
zip-numbered R k [] [] all = tt
zip-numbered R k [] (y ∷ ys) all = absurd all
zip-numbered R k (x ∷ xs) [] all = absurd all
zip-numbered R k (x ∷ xs) (y ∷ ys) all = ((refl, all.0), zip-numbered R (suc k) xs ys all.1)

-- ---- what the rows fit

member_fits : (source : CheckedSource) (collection : CollectionOf) (member : Member) → collection.next ≤ MAX_IDENTIFIER → IsMemberAt source collection member → IsMemberOf source member
member_fits source collection member small at = record {
  iterator = at.iterator;
  of = at.of;
  small_oid = omega (arith, at.given);
  region = at.array.region;
  axes = at.array.axes;
  few_numbers = at.array.few_numbers;
  each_point = at.array.each_point;
  in_range = at.array.in_range;
}

module _ (types : List SetType) (one other : Database) where
  pub left_fits : (sources : List CheckedSource) (r s : Row) → ArePairs types one other sources r s → AreMembersOf sources r
  left_fits [] [] [] pairs = tt
  left_fits [] [] (b ∷ bs) pairs = absurd pairs
  left_fits [] (a ∷ as_) bs pairs = absurd pairs
  left_fits (source ∷ sources) [] bs pairs = absurd pairs
  left_fits (source ∷ sources) (a ∷ as_) [] pairs = absurd pairs
  left_fits (source ∷ sources) (a ∷ as_) (b ∷ bs) pairs =
      (member_fits source pairs.0.over.first a pairs.0.over.small pairs.0.left, left_fits sources as_ bs pairs.1)

-- ---- what locks show of a pair

shown_at : (show : CollectionOf → Array → Seen) (id : ℕ) (found : Option CollectionOf) (collection : CollectionOf) (array : Array) → found ≡ Some collection
    → array_of collection id ≡ Some array → with_array show id found ≡ Some (show collection array)
shown_at show id found collection array is at = ap (with_array show id) is ∙ ap (option_map (show collection)) at

pub pair_seen : (types : List SetType) (one other : Database) (source : CheckedSource) (a b : Member) (pair : IsPair types one other source a b) (show : CollectionOf → Array → Seen)
    → with_array show a.oid (collection_of one source.collection) ≡ with_array show a.oid (collection_of other source.collection)
    → show pair.over.first a.array ≡ show pair.over.second b.array
pair_seen types one other source a b pair show same =
    let left : with_array show a.oid (collection_of one source.collection) ≡ Some (show pair.over.first a.array) =
    shown_at show a.oid (collection_of one source.collection) pair.over.first a.array pair.over.first_in.found pair.left.found in
    let right : with_array show a.oid (collection_of other source.collection) ≡ Some (show pair.over.second b.array) =
    shown_at show a.oid (collection_of other source.collection) pair.over.second b.array pair.over.second_in.found
    (subst (λ id. array_of pair.over.second id ≡ Some b.array) (sym pair.oid) pair.right.found) in
    some_same (show pair.over.first a.array) (show pair.over.second b.array) (sym left ∙ same ∙ right)
  where
    some_same : (x y : Seen) → Some x ≡ Some y → x ≡ y
    some_same x y is = cc

-- ---- domains

-- the list has each name of these locks
abbrev pub AreListed : List Lock → List Lock → Type 0
AreListed list = AllByRecursion (λ lock. Names list lock.0)

domain_same : (x y : List Interval) → domain_seen x ≡ domain_seen y → x ≡ y
domain_same x y is = cc

pub pairs_alike : (types : List SetType) (one other : Database) (list : List Lock) (sources : List CheckedSource) (r s : Row) → Agrees types list one other
    → AreListed list (map (λ x. (Domain x.0.collection x.1.oid, Shared)) (zip sources r)) → ArePairs types one other sources r s → AreAlike r s
pairs_alike types one other list [] [] [] agrees listed pairs = tt
pairs_alike types one other list [] [] (b ∷ bs) agrees listed pairs = absurd pairs
pairs_alike types one other list [] (a ∷ as_) bs agrees listed pairs = absurd pairs
pairs_alike types one other list (source ∷ sources) [] bs agrees listed pairs = absurd pairs
pairs_alike types one other list (source ∷ sources) (a ∷ as_) [] agrees listed pairs = absurd pairs
pairs_alike types one other list (source ∷ sources) (a ∷ as_) (b ∷ bs) agrees listed pairs = (
  record {
    iterator = pairs.0.left.iterator ∙ sym pairs.0.right.iterator;
    oid = pairs.0.oid;
    of = pairs.0.left.of ∙ sym pairs.0.right.of;
    domain = domain_same a.array.domain b.array.domain (pair_seen types one other source a b pairs.0 (λ collection array. domain_seen array.domain)
        (agrees (Domain source.collection a.oid) listed.0.0 listed.0.1));
  },
  pairs_alike types one other list sources as_ bs agrees listed.1 pairs.1,
)
