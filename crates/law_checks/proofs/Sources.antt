-- The collections, types and iterators that a statement names.
use Rattle.std.proofs.Common.{◌≡◌, Bool, true, false, List, [], ◌∷◌, map, length, refl, sym, ap, subst, arith}
use Rattle.std.specs.Prelude.{ℕ, suc, ◌<◌, ◌≢◌, Option, Some, None, Ok, All, AllPairs, if◌then◌else◌}
use Rattle.std.specs.List.{list_any}
use Rattle.std.specs.Cmp.Lexicographic.{bytes_decides}
use Rattle.std.proofs.lemmas.Bool.{or_parts, both_ways}
use Rattle.std.proofs.lemmas.List.Elements.{All-nil, All-cons, All-weaker}
use Rattle.std.proofs.lemmas.List.Kept.{AllPairs-cons}
use Rattle.ras_syntax.specs.declared.span.Span.{Span}
use Rattle.ras_syntax.specs.declared.types.SetType.{SetType}
use Rattle.ras_syntax.specs.declared.faults.CheckFault.{CheckFault}
use Rattle.ras_syntax.specs.declared.statement.SourceName.{SourceName}
use Rattle.ras_syntax.specs.declared.typed.CheckedSource.{CheckedSource}
use Rattle.spec_expressions.specs.Tree.{NameOf, is_same_name}
use Rattle.spec_expressions.specs.Names.{place_among, next_place}
use Rattle.spec_expressions.specs.Check.{found_at}
use Rattle.spec_statements.specs.CheckStatement.{Catalog, known_collection, known_source, known_sources, iterator_of, once_each}
use Rattle.law_shapes.proofs.Outcomes.{bind_ok, unless_ok}
use Rattle.law_checks.specs.Statements.{IsSourceIn}

-- what was found, where there is no fault
pub found_at-given : {A : Type 0} (span : Span) (fault : CheckFault) (o : Option A) (a : A) → found_at span fault o ≡ Ok a → o ≡ Some a
found_at-given span fault (Some b) a is = let e : b ≡ a = cc in ap Some e
found_at-given span fault None a is = absurd cc

first_place : (same : Bool) (later : Option ℕ) (n place : ℕ) → ((p : ℕ) → later ≡ Some p → p < n) → (if same then Some 0 else next_place later) ≡ Some place → place < suc n
first_place true later n place within is = let e : 0 ≡ place = cc in omega arith
first_place false (Some p) n place within is = let e : suc p ≡ place = cc in let h = within p refl in omega arith
first_place false None n place within is = absurd cc

pub place_of-within : (name : NameOf) (names : List NameOf) (place : ℕ) → place_among name names ≡ Some place → place < length names
place_of-within name [] place is = absurd cc
place_of-within name (other ∷ others) place is = first_place (is_same_name name other) (place_among name others) (length others) place (λ p. place_of-within name others p) is

-- ---- sources

abbrev source_as : SourceName → SetType → CheckedSource
source_as source of = record { collection = source.collection.name; iterator = (iterator_of source).name; of = of }

-- a source is the one that the catalog knows, under the iterator that is written
record IsKnown (catalog : Catalog) (source : SourceName) (x : CheckedSource) : Type 0 where
  known : IsSourceIn catalog x
  iterator : x.iterator ≡ (iterator_of source).name

known_source-known : (catalog : Catalog) (source : SourceName) (x : CheckedSource) → known_source catalog source ≡ Ok x → IsKnown catalog source x
known_source-known catalog source x is =
    let (of, first, rest) = bind_ok (known_collection catalog source.collection) _ x is in
    let e : source_as source of ≡ x = cc in
    subst (IsKnown catalog source) e (record { known = found_at-given _ _ _ of first; iterator = refl })

pub source-known : (catalog : Catalog) (source : SourceName) (x : CheckedSource) → known_source catalog source ≡ Ok x → IsSourceIn catalog x
source-known catalog source x is = (known_source-known catalog source x is).known

-- the sources are known, and their iterators differ from each other and from the names before them
pub record AreApart (catalog : Catalog) (seen : List NameOf) (xs : List CheckedSource) : Type 0 where
  pub known : All (IsSourceIn catalog) xs
  pub apart : AllPairs (λ a b. a.iterator ≢ b.iterator) xs
  pub unseen : All (λ x. list_any (is_same_name x.iterator) seen ≡ false) xs

more-apart : (catalog : Catalog) (seen : List NameOf) (x : CheckedSource) (xs : List CheckedSource) → IsSourceIn catalog x → list_any (is_same_name x.iterator) seen ≡ false
    → AreApart catalog (x.iterator ∷ seen) xs → AreApart catalog seen (x ∷ xs)
more-apart catalog seen x xs known new others = record {
  known = All-cons (IsSourceIn catalog) x xs known others.known;
  apart = AllPairs-cons (λ a b. a.iterator ≢ b.iterator) x xs
      (All-weaker (λ y. list_any (is_same_name y.iterator) (x.iterator ∷ seen) ≡ false) (λ y. x.iterator ≢ y.iterator)
      (λ y differs same. both_ways (is_same_name y.iterator x.iterator) (or_parts _ _ differs).0 ((bytes_decides y.iterator x.iterator).1 (sym same))) xs others.unseen)
      others.apart;
  unseen = All-cons (λ y. list_any (is_same_name y.iterator) seen ≡ false) x xs new
      (All-weaker (λ y. list_any (is_same_name y.iterator) (x.iterator ∷ seen) ≡ false) (λ y. list_any (is_same_name y.iterator) seen ≡ false)
      (λ y differs. (or_parts (is_same_name y.iterator x.iterator) (list_any (is_same_name y.iterator) seen) differs).1) xs others.unseen);
}

pub sources-apart : (catalog : Catalog) (sources : List SourceName) (seen names : List NameOf) (xs : List CheckedSource) → known_sources catalog sources ≡ Ok xs
    → once_each seen (map iterator_of sources) ≡ Ok names → AreApart catalog seen xs
sources-apart catalog [] seen names xs is once =
    let e : [] ≡ xs = cc in
    subst (AreApart catalog seen) e (record {
      known = All-nil (IsSourceIn catalog);
      apart = λ i j d below within. absurd (omega arith);
      unseen = All-nil
          (λ x. list_any (is_same_name x.iterator) seen ≡ false);
    })
sources-apart catalog (source ∷ sources) seen names xs is once =
    let (y, first, rest) = bind_ok (known_source catalog source) _ xs is in
    let (ys, others, last) = bind_ok (known_sources catalog sources) _ xs rest in
    let e : y ∷ ys ≡ xs = cc in
    let k = known_source-known catalog source y first in
    let r = unless_ok (list_any (is_same_name (iterator_of source).name) seen) _ (once_each ((iterator_of source).name ∷ seen) (map iterator_of sources)) names once in
    subst (AreApart catalog seen) e (more-apart catalog seen y ys k.known (subst (λ a. list_any (is_same_name a) seen ≡ false) (sym k.iterator) r.0)
    (sources-apart catalog sources (y.iterator ∷ seen) names ys others (subst (λ a. once_each (a ∷ seen) (map iterator_of sources) ≡ Ok names) (sym k.iterator) r.1)))
