-- What each statement does to two databases that agree leaves databases that agree, where it does the same in both.
use Rattle.std.proofs.Common.{◌≡◌, ◌+◌, ℕ, cond, Contains, List, [], ◌∷◌, ◌++◌, flat_map, option_map, Some, None, IfSome, refl, sym, ap, ◌∙◌, subst}
use Rattle.std.specs.Cmp.{eq_by_cmp_equiv}
use Rattle.std.specs.Cmp.Lexicographic.{slice_cmp}
use Rattle.std.specs.BTreeMap.{insert_entry}
use Rattle.std.specs.List.{AllByRecursion}
use Rattle.std.specs.List.Sorted.{IsStrictlySortedBy}
use Rattle.std.specs.Map.{keys_of}
use Rattle.std.specs.Ordering.{eq_by_cmp, is_eq, nat_cmp}
use Rattle.std.proofs.lemmas.Cmp.{nat_list_cmp_total, tied_itself}
use Rattle.std.proofs.lemmas.Map.{lookup-remove_entry}
use Rattle.std.proofs.lemmas.Map.Keys.{IsDistinct-from_sorted}
use Rattle.ras_domain.specs.declared.lock.LockName.TheVariants.{Collection}
use Rattle.ras_syntax.specs.declared.types.SetType.{SetType}
use Rattle.spec_expressions.specs.Database.{Array, Collection as CollectionOf, Database, Member, collection_of}
use Rattle.spec_statements.specs.Agree.{Agrees, Seen}
use Rattle.spec_statements.specs.Plans.{Plan}
use Rattle.spec_statements.specs.Effects.{Stores, with_changed, empty_collection, grown_in, grown_of, insert_outcome, no_array, row_identifiers, with_arrays, with_collection, with_inserted, with_row, with_updated, without_array, without_arrays, without_collection, written_array}
use Rattle.spec_statements.specs.Locks.{Lock}
use Rattle.spec_statements.specs.ReachLaw.{Names}
use Rattle.spec_statements.specs.Rows.{Row}
use Rattle.spec_statements.specs.Validity.{IsCollectionOver, IsValidFor}
use Rattle.law_lists.proofs.Maps.{sorted-remove_entry}
use Rattle.law_effects.proofs.Shown.{IsRewritten, found_entry, updated-keys}
use Rattle.law_effects.proofs.Untouched.{with_collection-other, without_collection-other}
use Rattle.law_effects.proofs.Validity.{found_collection}
use Rattle.law_reach.specs.Alike.{AreAlike}
use Rattle.law_locks.specs.Plans.{AreAlikeMade, AreAlikePlans, IsAlikePlan}
use Rattle.law_locks.proofs.Collections.{IsAlikeCollection}
use Rattle.law_locks.proofs.EffectsMaps.{same_keys-insert, same_keys-remove, shown, shown-insert, shown-remove}
use Rattle.law_locks.proofs.EffectsShown.{IsChangedAlike, IsKept, changed-agree, collection_found, look_in, others-agree}

-- ---- the same array under the next identifier

inserted_alike : (c d : CollectionOf) (new other : Array) → new ≡ other → IsAlikeCollection c d → IsChangedAlike c d (with_inserted c new) (with_inserted d other)
inserted_alike c d new other same both = record {
  types = (refl, refl);
  nexts = ap (λ n. n + 1) both.next;
  keys = same_keys-insert nat_cmp c.next new other c.arrays d.arrays both.keys ∙ ap (λ n. keys_of (insert_entry nat_cmp d.arrays n other)) both.next;
  arrays = λ show kept id before.
      shown-insert show id c.next new other c.arrays d.arrays (λ at. ap show same) before
      ∙ ap (λ n. shown show id (insert_entry nat_cmp d.arrays n other)) both.next;
}

-- ---- the same identifiers taken out

without-keys : (es fs : List (ℕ × Array)) (ids : List ℕ) → keys_of es ≡ keys_of fs → keys_of (without_arrays es ids) ≡ keys_of (without_arrays fs ids)
without-keys es fs [] same = same
without-keys es fs (id ∷ ids) same =
    without-keys (without_array es id) (without_array fs id) ids (same_keys-remove (λ other. is_eq (nat_cmp id other)) es fs same)

without-shown : (show : Array → Seen) (id : ℕ) (es fs : List (ℕ × Array)) (ids : List ℕ) → IsStrictlySortedBy nat_cmp (keys_of es)
    → IsStrictlySortedBy nat_cmp (keys_of fs) → shown show id es ≡ shown show id fs
    → shown show id (without_arrays es ids) ≡ shown show id (without_arrays fs ids)
without-shown show id es fs [] first second before = before
without-shown show id es fs (k ∷ ids) first second before =
    without-shown show id (without_array es k) (without_array fs k) ids
    (sorted-remove_entry (λ other. is_eq (nat_cmp k other)) nat_cmp es first) (sorted-remove_entry (λ other. is_eq (nat_cmp k other)) nat_cmp fs second)
    (shown-remove show id k es fs first second before)

without_alike : (c d : CollectionOf) (ids : List ℕ) → IsStrictlySortedBy nat_cmp (keys_of c.arrays) → IsStrictlySortedBy nat_cmp (keys_of d.arrays) → IsAlikeCollection c d
    → IsChangedAlike c d (with_arrays c (without_arrays c.arrays ids)) (with_arrays d (without_arrays d.arrays ids))
without_alike c d ids first second both = record {
  types = (refl, refl);
  nexts = both.next;
  keys = without-keys c.arrays d.arrays ids both.keys;
  arrays = λ show kept id before. without-shown show id c.arrays d.arrays ids first second before;
}

-- ---- the same stored in the arrays of alike rows

-- the same domain is written
grown-same : (a b : Plan) → IsAlikePlan a b → grown_of a ≡ grown_of b
grown-same a b alike = ap grown_in alike.writing

-- the one member of alike rows has the same identifier
member-same : (row others : Row) (m n : Member) → AreAlike row others → row ≡ m ∷ [] → others ≡ n ∷ [] → m.oid ≡ n.oid
member-same row others m n alike first second =
    let P : Row → Type 0 = λ r. AreAlike r (n ∷ []) in
    let both : AreAlike (m ∷ []) (n ∷ []) = subst P first (subst (AreAlike row) second alike) in both.0.oid

-- what is shown of the entry at an identifier, row by row of the update, where both lists showed the same at first
module _ (first second : List (ℕ × Array)) (of : SetType) (sorted_first : IsStrictlySortedBy nat_cmp (keys_of first))
    (sorted_second : IsStrictlySortedBy nat_cmp (keys_of second)) (show : Array → Seen) (kept : IsKept show) (id : ℕ)
    (before : shown show id first ≡ shown show id second) where
  -- what stood at an identifier showed the same
  stood-same : (a b : Array) → Contains first (id, a) → Contains second (id, b) → show a ≡ show b
  stood-same a b has also =
      let e : option_map show (Some a) ≡ option_map show (Some b) = sym (ap (option_map show) (found_entry first id a sorted_first has)) ∙ before
      ∙ ap (option_map show) (found_entry second id b sorted_second also) in cc

  updated-alike : (es fs : List (ℕ × Array)) (made others : List (Plan × Stores)) → AreAlikeMade made others → AllByRecursion (IsRewritten first) made
      → AllByRecursion (IsRewritten second) others → shown show id es ≡ shown show id fs
      → shown show id (with_updated of es made) ≡ shown show id (with_updated of fs others)
  updated-alike es fs [] [] alike all also so_far = so_far
  updated-alike es fs [] (y ∷ ys) alike all also so_far = absurd alike
  updated-alike es fs (x ∷ xs) [] alike all also so_far = absurd alike
  updated-alike es fs (x ∷ xs) (y ∷ ys) alike all also so_far =
      let (m, m_is, m_has) = all.0 in
      let (n, n_is, n_has) = also.0 in
      let same : m.oid ≡ n.oid = member-same x.0.row y.0.row m n alike.0.row m_is n_is in
      let new : Array = written_array of m.array (grown_of x.0) x.1 in
      let other : Array = written_array of n.array (grown_of y.0) y.1 in
      let written : m.oid ≡ id → show new ≡ show other = λ at.
      kept of m.array n.array (grown_of x.0) x.1 (stood-same m.array n.array (subst (λ k. Contains {X = ℕ × Array} first (k, m.array)) at m_has)
      (subst (λ k. Contains {X = ℕ × Array} second (k, n.array)) (sym same ∙ at) n_has))
      ∙ (λ i. show (written_array of n.array (grown-same x.0 y.0 alike.0 i) (alike.1 i))) in
      updated-alike (with_row of es x.0.row (grown_of x.0) x.1) (with_row of fs y.0.row (grown_of y.0) y.1) xs ys alike.2 all.1 also.1
      (ap (λ r. shown show id (with_row of es r (grown_of x.0) x.1)) m_is
      ∙ shown-insert show id m.oid new other es fs written so_far
      ∙ ap (λ k. shown show id (insert_entry nat_cmp fs k other)) same
      ∙ sym (ap (λ r. shown show id (with_row of fs r (grown_of y.0) y.1)) n_is))

updated_alike : (c d : CollectionOf) (of : SetType) (made others : List (Plan × Stores)) → IsStrictlySortedBy nat_cmp (keys_of c.arrays)
    → IsStrictlySortedBy nat_cmp (keys_of d.arrays) → AreAlikeMade made others
    → AllByRecursion (IsRewritten c.arrays) made → AllByRecursion (IsRewritten d.arrays) others → IsAlikeCollection c d
    → IsChangedAlike c d (with_arrays c (with_updated of c.arrays made)) (with_arrays d (with_updated of d.arrays others))
updated_alike c d of made others first second alike all also both = record {
  types = (refl, refl);
  nexts = both.next;
  keys = updated-keys c.arrays of first c.arrays made all refl ∙ both.keys ∙ sym (updated-keys d.arrays of second d.arrays others also refl);
  arrays = λ show kept id before. updated-alike c.arrays d.arrays of first second show kept id before c.arrays d.arrays made others alike all also before;
}

-- ---- each statement

-- the arrays of a collection of a valid database are in the order of their identifiers
arrays-sorted : (types : List SetType) (database : Database) (name : List ℕ) (collection : CollectionOf) → IsValidFor types database
    → collection_of database name ≡ Some collection → IsStrictlySortedBy nat_cmp (keys_of collection.arrays)
arrays-sorted types database name collection valid found =
    let over = subst (λ o. IfSome o (IsCollectionOver types)) found (found_collection types database name valid) in over.ordered

-- a name that is taken out is no longer found
without_collection-none : (types : List SetType) (database : Database) (name : List ℕ) → IsValidFor types database → collection_of (without_collection name database) name ≡ None
without_collection-none types database name valid =
    lookup-remove_entry (eq_by_cmp_equiv nat_list_cmp_total) (eq_by_cmp (slice_cmp nat_cmp) name) ((eq_by_cmp_equiv nat_list_cmp_total).congr name) name database
    (IsDistinct-from_sorted (slice_cmp nat_cmp) (keys_of database) valid.ordered)
    ∙ ap (λ r. cond (is_eq r) None (collection_of database name)) (tied_itself nat_list_cmp_total name)

-- the same rows name the same identifiers
identifiers-same : (row others : Row) → AreAlike row others → row_identifiers row ≡ row_identifiers others
identifiers-same [] [] alike = refl
identifiers-same [] (y ∷ ys) alike = absurd alike
identifiers-same (x ∷ xs) [] alike = absurd alike
identifiers-same (x ∷ xs) (y ∷ ys) alike = λ i. alike.0.oid i ∷ identifiers-same xs ys alike.1 i

pub all_identifiers-same : (plans others : List Plan) → AreAlikePlans plans others → flat_map (λ plan. row_identifiers plan.row) plans ≡ flat_map (λ plan. row_identifiers plan.row) others
all_identifiers-same [] [] alike = refl
all_identifiers-same [] (y ∷ ys) alike = absurd alike
all_identifiers-same (x ∷ xs) [] alike = absurd alike
all_identifiers-same (x ∷ xs) (y ∷ ys) alike = λ i. identifiers-same x.row y.row alike.0.row i ++ all_identifiers-same xs ys alike.1 i

module _ (types : List SetType) (list : List Lock) (one other : Database) (agree : Agrees types list one other) where
  pub create-agree : (name : List ℕ) (place : ℕ) → Agrees types list (with_collection name (empty_collection place) one) (with_collection name (empty_collection place) other)
  create-agree name place =
      others-agree types list one other agree name (with_collection name (empty_collection place) one) (with_collection name (empty_collection place) other)
      (with_collection-other name (empty_collection place) one) (with_collection-other name (empty_collection place) other)
      (λ x named e. ap (look_in types x) (collection_found name (empty_collection place) one ∙ sym (collection_found name (empty_collection place) other)))

  pub drop-agree : (name : List ℕ) → IsValidFor types one → IsValidFor types other → Agrees types list (without_collection name one) (without_collection name other)
  drop-agree name first second =
      others-agree types list one other agree name (without_collection name one) (without_collection name other) (without_collection-other name one) (without_collection-other name other)
      (λ x named e. ap (look_in types x) (without_collection-none types one name first ∙ sym (without_collection-none types other name second)))

  pub insert-agree : (into : List ℕ) (of : SetType) (made others : List (Plan × Stores)) → Names list (Collection into) → AreAlikeMade made others
      → Agrees types list (insert_outcome into of one made).1 (insert_outcome into of other others).1
  insert-agree into of [] [] named alike = agree
  insert-agree into of [] (y ∷ ys) named alike = absurd alike
  insert-agree into of (x ∷ xs) [] named alike = absurd alike
  insert-agree into of (x ∷ xs) (y ∷ ys) named alike =
      let new : Array = written_array of no_array (grown_of x.0) x.1 in
      let also : Array = written_array of no_array (grown_of y.0) y.1 in
      changed-agree types list one other agree into (λ c. with_inserted c new) (λ d. with_inserted d also) named
      (λ c d first second. inserted_alike c d new also (λ i. written_array of no_array (grown-same x.0 y.0 alike.0 i) (alike.1 i)))

  pub delete-agree : (name : List ℕ) (ids : List ℕ) → Names list (Collection name) → IsValidFor types one → IsValidFor types other
      → Agrees types list (with_changed name (λ c. with_arrays c (without_arrays c.arrays ids)) one) (with_changed name (λ c. with_arrays c (without_arrays c.arrays ids)) other)
  delete-agree name ids named valid_one valid_other =
      changed-agree types list one other agree name (λ c. with_arrays c (without_arrays c.arrays ids)) (λ c. with_arrays c (without_arrays c.arrays ids)) named
      (λ c d first second. without_alike c d ids (arrays-sorted types one name c valid_one first) (arrays-sorted types other name d valid_other second))

  pub update-agree : (name : List ℕ) (of : SetType) (made others : List (Plan × Stores)) → Names list (Collection name) → IsValidFor types one → IsValidFor types other
      → AreAlikeMade made others
      → ((c : CollectionOf) → collection_of one name ≡ Some c → AllByRecursion (IsRewritten c.arrays) made)
      → ((d : CollectionOf) → collection_of other name ≡ Some d → AllByRecursion (IsRewritten d.arrays) others)
      → Agrees types list (with_changed name (λ c. with_arrays c (with_updated of c.arrays made)) one) (with_changed name (λ c. with_arrays c (with_updated of c.arrays others)) other)
  update-agree name of made others named valid_one valid_other alike all also =
      changed-agree types list one other agree name (λ c. with_arrays c (with_updated of c.arrays made)) (λ c. with_arrays c (with_updated of c.arrays others)) named
      (λ c d first second. updated_alike c d of made others (arrays-sorted types one name c valid_one first) (arrays-sorted types other name d valid_other second) alike
      (all c first) (also d second))
