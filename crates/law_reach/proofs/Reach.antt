-- The law of reach, by recursion over expressions.
use Rattle.std.proofs.Common.{◌≡◌, ℤ, List, refl, ap, ◌∙◌}
use Rattle.std.specs.Prelude.{Ok}
use Rattle.ras_domain.specs.Region.{IsIn}
use Rattle.ras_syntax.specs.declared.span.Span.{Span}
use Rattle.ras_syntax.specs.declared.typed.CheckedSource.{CheckedSource}
use Rattle.ras_syntax.specs.declared.typed.Kind.{Kind}
use Rattle.spec_expressions.specs.Eval.{Environment, cell_at, domains_in}
use Rattle.spec_expressions.specs.Fits.{AreMembersOf, IsAround, LieWithin}
use Rattle.spec_expressions.specs.Reach.{Boxes, reach_of}
use Rattle.spec_expressions.specs.Shape.{Box, Shape, shape_of}
use Rattle.spec_expressions.specs.Tree.{Tree, Form, Trees, Pairs, Axes, Condition, node, truth, number, iterator, variable, coordinate, unary, cast, binary, index, at_point, component, choice, composite, marray, condense, folded, shift, extend, concat, domain_of, interval_of, bound_of, oid, no_trees, trees, no_pairs, pairs, no_axes, position, trim, always, only_where}
use Rattle.spec_expressions.specs.WellTyped.{AreWellTyped, AreWellTypedAxes, AreWellTypedPairs, HasKind, IsWellTyped, Variables}
use Rattle.law_reach.specs.Alike.{AreAlike, StoreSame}
use Rattle.law_reach.proofs.Index.{index_same}
use Rattle.law_reach.proofs.Moved.{concat_same, extend_same, folded_same, shift_same}
use Rattle.law_reach.proofs.Settings.{Setting, ArePairsSame, ArePositionsSame, AreSame, IsConditionAlways, IsSame}
use Rattle.law_reach.proofs.Simple.{binary_same, bound_of_same, cast_same, choice_same, component_same, composite_same, iterator_same, oid_same, unary_same}
use Rattle.law_reach.proofs.Variables.{at_point_same, condense_same, marray_same}

mutual
  tree_same : (e : Tree) (at : Setting) → IsWellTyped at.sources at.variables e → IsSame at e
  tree_same (node span kind form) at typed = form_same form span kind at typed

  form_same : (form : Form) (span : Span) (kind : Kind) (at : Setting) → HasKind at.sources at.variables kind form → IsSame at (node span kind form)
  form_same (truth b) span kind at typed = λ shape around p shaped lies store within. refl
  form_same (number z atom) span kind at typed = λ shape around p shaped lies store within. refl
  form_same (iterator place) span kind at typed = iterator_same at span kind place
  form_same (variable x) span kind at typed = λ shape around p shaped lies store within. refl
  form_same (coordinate x k) span kind at typed = λ shape around p shaped lies store within. refl
  form_same (unary op e) span kind at typed = unary_same at span kind op e (tree_same e at typed.0)
  form_same (cast atom e) span kind at typed = cast_same at span kind atom e (tree_same e at typed.0)
  form_same (binary op a b) span kind at typed = binary_same at span kind op a b (tree_same a at typed.0) (tree_same b at typed.1)
  form_same (index e axes) span kind at typed =
      index_same at span kind e axes typed.0 typed.1 typed.2 typed.3 typed.4 typed.5 (tree_same e at typed.2) (positions_same axes at typed.3)
  form_same (at_point e x) span kind at typed = at_point_same at span kind e x (tree_same e at typed.2)
  form_same (component e k) span kind at typed = component_same at span kind e k (tree_same e at typed.1)
  form_same (choice arms other) span kind at typed = choice_same at span kind arms other (pairs_same arms at typed.0) (tree_same other at typed.1)
  form_same (composite es) span kind at typed = composite_same at span kind es (trees_same es at typed.0)
  form_same (marray x domain e) span kind at typed =
      marray_same at span kind x domain e typed.0 typed typed.2 typed.3 typed.5 (λ next typed_e. tree_same e next typed_e)
  form_same (condense op x domain condition e) span kind at typed =
      condense_same at span kind op x domain condition e typed.0 typed.2 typed.3 typed.4 (condition_same condition) (λ next typed_e. tree_same e next typed_e)
  form_same (folded f e) span kind at typed = folded_same at span kind f e (tree_same e at typed.0)
  form_same (shift e offsets) span kind at typed = shift_same at span kind e offsets (tree_same e at typed.2)
  form_same (extend e domain) span kind at typed = extend_same at span kind e domain (tree_same e at typed.2)
  form_same (concat parts along) span kind at typed = concat_same at span kind parts along typed.0 typed.1 (trees_same parts at typed.0)
  form_same (domain_of e) span kind at typed = λ shape around p shaped lies store within. refl
  form_same (interval_of e k) span kind at typed = λ shape around p shaped lies store within. refl
  form_same (bound_of side e k) span kind at typed = bound_of_same at span kind side e k
  form_same (oid a) span kind at typed = oid_same at span kind a

  trees_same : (es : Trees) (at : Setting) → AreWellTyped at.sources at.variables es → AreSame at es
  trees_same no_trees at typed = tt
  trees_same (trees e es) at typed = (tree_same e at typed.0, trees_same es at typed.1)

  pairs_same : (ps : Pairs) (at : Setting) → AreWellTypedPairs at.sources at.variables ps → ArePairsSame at ps
  pairs_same no_pairs at typed = tt
  pairs_same (pairs a b ps) at typed = (tree_same a at typed.0, tree_same b at typed.1, pairs_same ps at typed.2)

  positions_same : (axes : Axes) (at : Setting) → AreWellTypedAxes at.sources at.variables axes → ArePositionsSame at axes
  positions_same no_axes at typed = tt
  positions_same (position e axes) at typed = (tree_same e at typed.0, positions_same axes at typed.1)
  positions_same (trim a b axes) at typed = positions_same axes at typed.2

  condition_same : (condition : Condition) → IsConditionAlways condition
  condition_same always = tt
  condition_same (only_where c) = λ at typed. tree_same c at typed

-- over rows that are the same on what is reached, an expression has the same cells
pub reach-covers : (sources : List CheckedSource) (variables : Variables) (boxes : Boxes) (one other : Environment) (tree : Tree) (shape : Shape) (around : Box)
    (p : List ℤ) → IsWellTyped sources variables tree → AreMembersOf sources one.row → AreAlike one.row other.row → one.variables ≡ other.variables
    → LieWithin boxes one.variables → shape_of (domains_in one) tree ≡ Ok shape → IsAround shape around
    → StoreSame one.row other.row (reach_of (domains_in one) boxes tree around) → IsIn p around → cell_at one tree p ≡ cell_at other tree p
reach-covers sources variables boxes one other tree shape around p typed members alike same lies_in shaped lies store within =
    let at : Setting = record {
      sources = sources;
      variables = variables;
      boxes = boxes;
      one = one.row;
      other = other.row;
      points = one.variables;
      members = members;
      alike = alike;
      within = lies_in;
    } in
    tree_same tree at typed shape around p shaped lies store within
    ∙ ap (λ points. cell_at (record { row = other.row; variables = points }) tree p) same
