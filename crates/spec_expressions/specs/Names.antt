-- Names: the iterators and variables in scope, and the names of components.
use Rattle.std.specs.Prelude.{ℕ, zero, suc, Bool, ◌||◌, if◌then◌else◌, List, [], ◌∷◌, Option, Some, None, is_some}
use Rattle.std.specs.List.{list_any}
use Rattle.std.specs.Map.{lookup}
use Rattle.ras_syntax.specs.declared.typed.CheckedSource.{CheckedSource}
use Rattle.spec_expressions.specs.Tree.{is_same_name, NameOf, Tree, Form, Trees, Pairs, node, iterator, binary, index, at_point, choice, marray, shift, extend, concat, no_trees, trees, no_pairs, pairs}

-- the statement's sources in order, and the variables in scope with their numbers of axes, innermost first
pub record Scope : Type 0 where
  pub sources : List CheckedSource
  pub variables : List (NameOf × ℕ)

abbrev pub with_variable : NameOf → ℕ → Scope → Scope
with_variable x axes scope = record scope { variables = (x, axes) ∷ scope.variables }

-- how many axes a variable has
abbrev pub variable_axes : Scope → NameOf → Option ℕ
variable_axes scope x = lookup (is_same_name x) scope.variables

abbrev pub source_from : ℕ → NameOf → List CheckedSource → Option (ℕ × CheckedSource)
source_from place a [] = None
source_from place a (source ∷ sources) =
    if is_same_name a source.iterator then Some (place, source) else source_from (suc place) a sources

-- the source of an iterator, with its place among the sources
abbrev pub source_named : Scope → NameOf → Option (ℕ × CheckedSource)
source_named scope a = source_from 0 a scope.sources

abbrev pub is_iterator : Scope → NameOf → Bool
is_iterator scope a = list_any (λ source. is_same_name a source.iterator) scope.sources

-- an iterator or a variable has this name already
abbrev pub is_in_scope : Scope → NameOf → Bool
is_in_scope scope x = is_some (variable_axes scope x) || is_iterator scope x

-- ---- components

abbrev pub next_place : Option ℕ → Option ℕ
next_place None = None
next_place (Some place) = Some (suc place)

-- the place of a name in a list of names
abbrev pub place_among : NameOf → List NameOf → Option ℕ
place_among name [] = None
place_among name (other ∷ others) = if is_same_name name other then Some 0 else next_place (place_among name others)

abbrev pub names_from : ℕ → List CheckedSource → List NameOf
names_from place [] = []
names_from zero (source ∷ sources) = source.of.names
names_from (suc place) (source ∷ sources) = names_from place sources

-- the names of an expression's components: an iterator has its set type's, {..} has none, and any other form with composite
-- cells has those of its first part with composite cells. The conditions of a case and the positions of an index are no such
-- parts, and neither is a domain
abbrev mutual
  pub names_of : List CheckedSource → Tree → List NameOf
  names_of sources (node span kind form) = form_names sources form

  pub form_names : List CheckedSource → Form → List NameOf
  form_names sources (iterator place) = names_from place sources
  form_names sources (binary op a b) = names_of sources a
  form_names sources (index e axes) = names_of sources e
  form_names sources (at_point e x) = names_of sources e
  form_names sources (choice arms other) = branch_names sources arms (names_of sources other)
  form_names sources (marray x domain e) = names_of sources e
  form_names sources (shift e offsets) = names_of sources e
  form_names sources (extend e domain) = names_of sources e
  form_names sources (concat parts along) = first_names sources parts
  form_names sources other = []

  pub first_names : List CheckedSource → Trees → List NameOf
  first_names sources no_trees = []
  first_names sources (trees e es) = names_of sources e

  pub branch_names : List CheckedSource → Pairs → List NameOf → List NameOf
  branch_names sources no_pairs names = names
  branch_names sources (pairs c e arms) names = names_of sources e
