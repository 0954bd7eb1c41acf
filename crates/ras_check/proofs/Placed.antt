-- Names as they are looked up: variables from the innermost one, and sources in a map.
use Rattle.std.specs.Prelude.{◌≡◌, ℕ, suc, ◌+◌, ◌<◌, ◌≤◌, Bool, true, false, cond, if◌then◌else◌, List, [], ◌∷◌, ◌++◌, ◌||◌, length, drop, take, map, reverse, Option, Some, None, is_some, option_map}
use Rattle.std.proofs.Common.{refl, sym, ap, ◌∙◌, get_or, add-one}
use Rattle.std.proofs.lemmas.List.{drop_all, reverse-append}
use Rattle.std.proofs.lemmas.Cmp.{eq_by_cmp_equiv, nat_list_cmp_total}
use Rattle.std.proofs.Math.Seq.{drop-cons, take-suc}
use Rattle.std.specs.Map.{lookup}
use Rattle.std.specs.List.{list_any}
use Rattle.std.specs.Ordering.{nat_cmp, is_eq}
use Rattle.std.specs.Cmp.Lexicographic.{slice_cmp, texts_ties}
use Rattle.std.specs.BTreeMap.{BTreeMap, get_by, IsEmpty, Updates}
use Rattle.std.specs.Borrow.{Bor}
use Rattle.ras_syntax.specs.declared.typed.CheckedSource.{CheckedSource}
use Rattle.spec_expressions.specs.Tree.{NameOf, is_same_name}
use Rattle.spec_expressions.specs.Names.{source_from, is_iterator, Scope}
use Rattle.ras_check.specs.declared.scope.Variable.{Variable}
use Rattle.ras_check.specs.declared.scope.Place.{Place}
use Rattle.ras_check.specs.ScopeView.{place_seen, variable_seen, variables_seen, HasPlacesFrom}

-- ---- variables

-- one more variable is the innermost one
pub variables_more : (variables : List Variable) (left : ℕ) (variable : Variable) → left < length variables → get_or variables left variable ≡ variable
    → variables_seen (take (suc left) variables) ≡ variable_seen variable ∷ variables_seen (take left variables)
variables_more variables left variable below is =
    ap variables_seen (take-suc variables left variable below)
    ∙ ap (λ last. variables_seen (take left variables ++ last ∷ [])) is
    ∙ ap (map variable_seen) (reverse-append (take left variables) (variable ∷ []))

skipped : (b : Bool) (axes : ℕ) (other : Option ℕ) → b ≡ false → cond b (Some axes) other ≡ other
skipped true axes other e = cc
skipped false axes other e = refl

taken : (b : Bool) (axes : ℕ) (other : Option ℕ) → b ≡ true → cond b (Some axes) other ≡ Some axes
taken true axes other e = refl
taken false axes other e = cc

pub innermost_skips : (name : NameOf) (variables : List Variable) (left : ℕ) (variable : Variable) → left < length variables → get_or variables left variable ≡ variable
    → is_same_name name variable.name.now ≡ false
    → lookup (is_same_name name) (variables_seen (take (suc left) variables)) ≡ lookup (is_same_name name) (variables_seen (take left variables))
innermost_skips name variables left variable below is differs =
    ap (lookup (is_same_name name)) (variables_more variables left variable below is)
    ∙ skipped (is_same_name name variable.name.now) variable.axes (lookup (is_same_name name) (variables_seen (take left variables))) differs

pub innermost_found : (name : NameOf) (variables : List Variable) (left : ℕ) (variable : Variable) → left < length variables → get_or variables left variable ≡ variable
    → is_same_name name variable.name.now ≡ true
    → lookup (is_same_name name) (variables_seen (take (suc left) variables)) ≡ Some variable.axes
innermost_found name variables left variable below is same =
    ap (lookup (is_same_name name)) (variables_more variables left variable below is)
    ∙ taken (is_same_name name variable.name.now) variable.axes (lookup (is_same_name name) (variables_seen (take left variables))) same

pub skips_to : (name : NameOf) (variables : List Variable) (left next : ℕ) (variable : Variable) → left ≡ suc next → next < length variables → get_or variables next variable ≡ variable
    → is_same_name name variable.name.now ≡ false
    → lookup (is_same_name name) (variables_seen (take left variables)) ≡ lookup (is_same_name name) (variables_seen (take next variables))
skips_to name variables left next variable e below is differs = rw e (innermost_skips name variables next variable below is differs)

pub found_at : (name : NameOf) (variables : List Variable) (left next : ℕ) (variable : Variable) → left ≡ suc next → next < length variables → get_or variables next variable ≡ variable
    → is_same_name name variable.name.now ≡ true
    → lookup (is_same_name name) (variables_seen (take left variables)) ≡ Some variable.axes
found_at name variables left next variable e below is same = rw e (innermost_found name variables next variable below is same)

-- ---- sources

-- an order of names that are equal is the same as their equation
pub same_by_order : (a b : NameOf) → is_eq (slice_cmp nat_cmp a b) ≡ is_same_name b a
same_by_order a b = (eq_by_cmp_equiv nat_list_cmp_total).symm a b ∙ sym (texts_ties b a)

found_or : (b c : Bool) (place : Place) (other : Option Place) (seen : ℕ × CheckedSource) (rest : Option (ℕ × CheckedSource))
    → b ≡ c → place_seen place ≡ seen → option_map place_seen other ≡ rest → option_map place_seen (cond b (Some place) other) ≡ (if c then Some seen else rest)
found_or true true place other seen rest e p r = ap Some p
found_or false false place other seen rest e p r = r
found_or true false place other seen rest e p r = cc
found_or false true place other seen rest e p r = cc

pub placed_none : (places : BTreeMap (Bor (List ℕ)) Place) (sources : List CheckedSource) (n : ℕ) → IsEmpty places → length sources ≤ n → HasPlacesFrom n places sources
placed_none places sources n empty all = record { kept = λ name. rw (empty, drop_all n sources all) refl }

pub placed_more : (left : ℕ) (old new : BTreeMap (Bor (List ℕ)) Place) (sources : List CheckedSource) (key : Bor (List ℕ)) (place : Place) (source : CheckedSource)
    → left < length sources → get_or sources left source ≡ source → key.now ≡ source.iterator → place_seen place ≡ (left, source)
    → Updates (λ x y. slice_cmp nat_cmp x.now y.now) old new key (Some place)
    → HasPlacesFrom (suc left) old sources → HasPlacesFrom left new sources
placed_more left old new sources key place source below is named seen updates h = record {
  kept = λ name.
      let query : Bor (List ℕ) = record { ref_ptr = (0, 0); now = name } in
      ap (option_map place_seen) (updates.0 query)
      ∙ found_or (is_eq (slice_cmp nat_cmp key.now name)) (is_same_name name source.iterator) place (get_by (λ y. slice_cmp nat_cmp name y.now) old) (left, source)
      (source_from (suc left) name (drop (suc left) sources))
      (same_by_order key.now name ∙ ap (is_same_name name) named) seen (h.kept name)
      ∙ ap (source_from left name) (sym (drop-cons sources left source below ∙ ap (λ first. first ∷ drop (suc left) sources) is));
}

-- ---- whether a name is in scope

any_first : (found : Option (ℕ × CheckedSource)) (rest : Bool) (place : ℕ × CheckedSource) (b : Bool) → is_some found ≡ rest
    → is_some (if b then Some place else found) ≡ (b || rest)
any_first found rest place true e = refl
any_first found rest place false e = e

any_from : (n : ℕ) (name : NameOf) (sources : List CheckedSource) → is_some (source_from n name sources) ≡ list_any (λ source. is_same_name name source.iterator) sources
any_from n name [] = refl
any_from n name (source ∷ sources) =
    any_first (source_from (suc n) name sources) (list_any (λ source. is_same_name name source.iterator) sources) (n, source) (is_same_name name source.iterator) (any_from (suc n) name sources)

pub is_iterator_is : (scope : Scope) (name : NameOf) → is_iterator scope name ≡ is_some (source_from 0 name scope.sources)
is_iterator_is scope name = sym (any_from 0 name scope.sources)

pub is_some_seen : (place : Option Place) → is_some (option_map place_seen place) ≡ is_some place
is_some_seen None = refl
is_some_seen (Some place) = refl
