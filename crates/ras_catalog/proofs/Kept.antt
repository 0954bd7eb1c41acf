-- The catalog as it is kept, and the names that were seen.
use Rattle.std.specs.Prelude.{◌≡◌, ℕ, zero, suc, ◌+◌, ◌<◌, ◌≤◌, Bool, true, false, cond, not, if◌then◌else◌, ◌||◌, List, [], ◌∷◌, length, drop, map, slice_get, unwrap_or, Option, Some, None, Ok, Err}
use Rattle.std.proofs.Common.{refl, sym, ap, ◌∙◌, get_or, add-one, arith}
use Rattle.std.proofs.lemmas.List.{drop_all}
use Rattle.std.proofs.lemmas.Cmp.{eq_by_cmp_equiv, nat_list_cmp_total}
use Rattle.std.proofs.Math.Seq.{drop-cons}
use Rattle.std.specs.Map.{lookup}
use Rattle.std.specs.List.{list_any}
use Rattle.std.specs.Ordering.{nat_cmp, is_eq}
use Rattle.std.specs.Cmp.Lexicographic.{slice_cmp, texts_ties}
use Rattle.std.specs.BTreeMap.{BTreeMap, get_by, IsEmpty, Updates}
use Rattle.std.specs.BTreeSet as sets
use Rattle.std.specs.BTreeSet.{BTreeSet}
use Rattle.std.specs.Borrow.{Bor}
use Rattle.ras_cells.specs.Outcomes.{◌>>=◌}
use Rattle.ras_syntax.specs.declared.faults.CheckFault.TheVariants.{DoubleName}
use Rattle.ras_syntax.specs.declared.span.Spanned.{Spanned}
use Rattle.ras_syntax.specs.declared.statement.SourceName.{SourceName}
use Rattle.ras_syntax.specs.declared.types.SetType.{SetType}
use Rattle.spec_expressions.specs.Tree.{NameOf, is_same_name}
use Rattle.spec_expressions.specs.Names.{place_among, next_place}
use Rattle.spec_statements.specs.CheckStatement.{Catalog, known_collection, known_source, iterator_of, once_each}
use Rattle.ras_catalog.specs.declared.fault.CheckError.{CheckError}
use Rattle.ras_catalog.specs.declared.fault.CheckError.TheVariants.{Fault}
use Rattle.ras_catalog.specs.Outcome.{IsChecked, unit_of}
use Rattle.ras_catalog.specs.CatalogView.{put_listed, listed_places, found_after, PutsPlace, HasTypesFrom}
use Rattle.ras_catalog.proofs.Joined.{stopped}

-- an order of names that are equal is the same as their equation
same_by_order : (a b : NameOf) → is_eq (slice_cmp nat_cmp a b) ≡ is_same_name b a
same_by_order a b = (eq_by_cmp_equiv nat_list_cmp_total).symm a b ∙ sym (texts_ties b a)

-- ---- collections

pub puts_some : (old new : BTreeMap (Bor (List ℕ)) ℕ) (key : Bor (List ℕ)) (name : NameOf) (place : ℕ) → key.now ≡ name
    → Updates (λ x y. slice_cmp nat_cmp x.now y.now) old new key (Some place) → PutsPlace old new name (Some place)
puts_some old new key name place named updates = record {
  found = λ q.
      let query : Bor (List ℕ) = record { ref_ptr = (0, 0); now = q } in
      updates.0 query
      ∙ ap (λ b. cond b (Some place) (get_by (λ key. slice_cmp nat_cmp q key.now) old)) (same_by_order key.now q ∙ ap (is_same_name q) named);
}

found_listed : (q name : NameOf) (place : Option ℕ) (others : List (NameOf × ℕ))
    → found_after q name place (lookup (is_same_name q) others) ≡ lookup (is_same_name q) (put_listed name place others)
found_listed q name None others = refl
found_listed q name (Some place) others = refl

pub types_none : (places : BTreeMap (Bor (List ℕ)) ℕ) (collections : List (NameOf × Option ℕ)) (n : ℕ) → IsEmpty places → length collections ≤ n → HasTypesFrom n places collections
types_none places collections n empty all = record { kept = λ name. rw (empty, drop_all n collections all) refl }

pub types_more : (left : ℕ) (old new : BTreeMap (Bor (List ℕ)) ℕ) (collections : List (NameOf × Option ℕ)) (entry : NameOf × Option ℕ)
    → left < length collections → get_or collections left entry ≡ entry → PutsPlace old new entry.0 entry.1
    → HasTypesFrom (suc left) old collections → HasTypesFrom left new collections
types_more left old new collections entry below is puts h = record {
  kept = λ q.
      puts.found q
      ∙ ap (found_after q entry.0 entry.1) (h.kept q)
      ∙ found_listed q entry.0 entry.1 (listed_places (drop (suc left) collections))
      ∙ ap (λ entries. lookup (is_same_name q) (listed_places entries))
      (sym (drop-cons collections left entry below ∙ ap (λ first. first ∷ drop (suc left) collections) is));
}

-- ---- types

abbrev pub names_in : List SetType → List NameOf
names_in types = map (λ of. of.name) types

abbrev pub from_place : ℕ → Option ℕ → Option ℕ
from_place place None = None
from_place place (Some p) = Some (p + place)

-- the name is none of the types before a place
pub record IsNotBefore (name : NameOf) (types : List SetType) (place : ℕ) : Type 0 where
  pub rest : place_among name (names_in types) ≡ from_place place (place_among name (names_in (drop place types)))

opened : {A : Type 0} (xs : List A) (i : ℕ) (x : A) → slice_get xs i ≡ Some x → drop i xs ≡ x ∷ drop (suc i) xs
opened [] i x e = cc
opened (y ∷ ys) zero x e = ap (λ first. first ∷ ys) (ap (λ found. unwrap_or found x) e)
opened (y ∷ ys) (suc i) x e = opened ys i x e

from_start : (r : Option ℕ) → r ≡ from_place 0 r
from_start None = refl
from_start (Some p) = let e : p ≡ p + 0 = omega arith in ap Some e

moved : (place : ℕ) (r : Option ℕ) → from_place place (next_place r) ≡ from_place (suc place) r
moved place None = refl
moved place (Some p) = let e : suc p + place ≡ p + suc place = omega arith in ap Some e

miss : (b : Bool) (place : ℕ) (r : Option ℕ) → b ≡ false → from_place place (if b then Some 0 else next_place r) ≡ from_place (suc place) r
miss true place r e = cc
miss false place r e = moved place r

hit : (b : Bool) (place : ℕ) (r : Option ℕ) → b ≡ true → from_place place (if b then Some 0 else next_place r) ≡ Some place
hit true place r e = let zero_first : 0 + place ≡ place = omega arith in ap Some zero_first
hit false place r e = cc

at_place : (name : NameOf) (types : List SetType) (place : ℕ) (of : SetType) → slice_get types place ≡ Some of
    → place_among name (names_in (drop place types)) ≡ (if is_same_name name of.name then Some 0 else next_place (place_among name (names_in (drop (suc place) types))))
at_place name types place of e = ap (λ rest. place_among name (names_in rest)) (opened types place of e)

pub types_first : (name : NameOf) (types : List SetType) → IsNotBefore name types 0
types_first name types = record { rest = from_start (place_among name (names_in types)) }

pub types_next : (name : NameOf) (types : List SetType) (place : ℕ) (of : SetType) → slice_get types place ≡ Some of → is_same_name name of.name ≡ false
    → IsNotBefore name types place → IsNotBefore name types (place + 1)
types_next name types place of e differs h = rw add-one (record {
  rest =
      h.rest ∙ ap (from_place place) (at_place name types place of e)
      ∙ miss (is_same_name name of.name) place (place_among name (names_in (drop (suc place) types))) differs;
})

pub types_found : (name : NameOf) (types : List SetType) (place : ℕ) (of : SetType) → slice_get types place ≡ Some of → is_same_name name of.name ≡ true
    → IsNotBefore name types place → Some place ≡ place_among name (names_in types)
types_found name types place of e same h = sym (
    h.rest ∙ ap (from_place place) (at_place name types place of e)
    ∙ hit (is_same_name name of.name) place (place_among name (names_in (drop (suc place) types))) same)

pub types_end : (name : NameOf) (types : List SetType) (place : ℕ) → length types ≤ place → IsNotBefore name types place → None ≡ place_among name (names_in types)
types_end name types place all h = sym (h.rest ∙ ap (λ rest. from_place place (place_among name (names_in rest))) (drop_all place types all))

-- ---- sources

pub source_known : (catalog : Catalog) (source : SourceName) (of : SetType) (collection iterator : NameOf)
    → IsChecked (known_collection catalog source.collection) (Ok of) → collection ≡ source.collection.name → iterator ≡ (iterator_of source).name
    → IsChecked (known_source catalog source) (Ok (record { collection = collection; iterator = iterator; of = of }))
source_known catalog source of collection iterator h named called = rw (named, called) (record {
  tells =
      ap (λ known. known >>= (λ type. Ok (record { collection = source.collection.name; iterator = (iterator_of source).name; of = type }))) h.tells;
})

pub source_unknown : (catalog : Catalog) (source : SourceName) (e : CheckError)
    → IsChecked (known_collection catalog source.collection) (Err e) → IsChecked (known_source catalog source) (Err e)
source_unknown catalog source e h =
    stopped (known_collection catalog source.collection) (λ type. Ok (record { collection = source.collection.name; iterator = (iterator_of source).name; of = type })) e h

-- the names of the iterators before a place: as the definition keeps them, and as the set does
pub record HasSeen (seen : BTreeSet (Bor (List ℕ))) (sources : List SourceName) (place : ℕ) : Type 0 where
  pub names : List NameOf
  pub rest : once_each [] (map iterator_of sources) ≡ once_each names (map iterator_of (drop place sources))
  pub has : (name : NameOf) → sets.contains_by (λ key. slice_cmp nat_cmp name key.now) seen ≡ list_any (is_same_name name) names

pub seen_none : (seen : BTreeSet (Bor (List ℕ))) (sources : List SourceName) → sets.IsEmpty seen → HasSeen seen sources 0
seen_none seen sources empty = record { names = []; rest = refl; has = λ name. rw empty refl }

first_or : (b c d e : Bool) → b ≡ c → d ≡ e → cond b true d ≡ (c || e)
first_or true true d e p q = refl
first_or false false d e p q = q
first_or true false d e p q = cc
first_or false true d e p q = cc

is_new_name : (b c : Bool) → b ≡ not c → b ≡ true → c ≡ false
is_new_name true true p q = cc
is_new_name true false p q = refl
is_new_name false c p q = cc

is_old_name : (b c : Bool) → b ≡ not c → b ≡ false → c ≡ true
is_old_name true c p q = cc
is_old_name false true p q = refl
is_old_name false false p q = cc

passes : {A : Type 0} (b : Bool) (x y : A) → b ≡ false → (if b then x else y) ≡ y
passes true x y e = cc
passes false x y e = refl

stops : {A : Type 0} (b : Bool) (x y : A) → b ≡ true → (if b then x else y) ≡ x
stops true x y e = refl
stops false x y e = cc

module _ (sources : List SourceName) (place : ℕ) (source : SourceName) (below : place < length sources) (is : get_or sources place source ≡ source)
    (old : BTreeSet (Bor (List ℕ))) (h : HasSeen old sources place)
    (iterator : Spanned) (given : iterator ≡ iterator_of source) (key : Bor (List ℕ)) (named : key.now ≡ iterator.name) where
  at_source : once_each [] (map iterator_of sources) ≡ (if list_any (is_same_name iterator.name) h.names then Err (iterator.span, DoubleName)
      else once_each (iterator.name ∷ h.names) (map iterator_of (drop (suc place) sources)))
  at_source = h.rest
      ∙ ap (λ rest. once_each h.names (map iterator_of rest)) (drop-cons sources place source below ∙ ap (λ first. first ∷ drop (suc place) sources) is)
      ∙ ap (λ (first : Spanned). once_each h.names (first ∷ map iterator_of (drop (suc place) sources))) (sym given)

  has_key : sets.contains (λ x y. slice_cmp nat_cmp x.now y.now) old key ≡ list_any (is_same_name iterator.name) h.names
  has_key = h.has key.now ∙ ap (λ name. list_any (is_same_name name) h.names) named

  pub seen_more : (new : BTreeSet (Bor (List ℕ))) (added : Bool) → added ≡ not (sets.contains (λ x y. slice_cmp nat_cmp x.now y.now) old key) → added ≡ true
      → sets.Updates (λ x y. slice_cmp nat_cmp x.now y.now) old new key true → HasSeen new sources (place + 1)
  seen_more new added tells is_new updates = rw add-one (record {
    names = iterator.name ∷ h.names;
    rest = at_source ∙ passes (list_any (is_same_name iterator.name) h.names) _ _
        (sym has_key ∙ is_new_name added (sets.contains (λ x y. slice_cmp nat_cmp x.now y.now) old key) tells is_new);
    has = λ name.
        let query : Bor (List ℕ) = record { ref_ptr = (0, 0); now = name } in
        updates.0 query
        ∙ first_or (is_eq (slice_cmp nat_cmp key.now name)) (is_same_name name iterator.name) _ _ (same_by_order key.now name ∙ ap (is_same_name name) named) (h.has name);
  })

  pub seen_twice : (added : Bool) → added ≡ not (sets.contains (λ x y. slice_cmp nat_cmp x.now y.now) old key) → added ≡ false
      → IsChecked (unit_of (once_each [] (map iterator_of sources))) (Err (Fault iterator.span DoubleName))
  seen_twice added tells is_old = record {
    tells = ap unit_of (at_source ∙ stops (list_any (is_same_name iterator.name) h.names) _ _
        (sym has_key ∙ is_old_name added (sets.contains (λ x y. slice_cmp nat_cmp x.now y.now) old key) tells is_old));
  }

pub seen_all : (sources : List SourceName) (place : ℕ) (seen : BTreeSet (Bor (List ℕ))) → length sources ≤ place → HasSeen seen sources place
    → IsChecked (unit_of (once_each [] (map iterator_of sources))) (Ok tt)
seen_all sources place seen all h = record {
  tells =
      ap unit_of (h.rest ∙ ap (λ rest. once_each h.names (map iterator_of rest)) (drop_all place sources all));
}
