-- A cell that an expression has is one of its type.
use Rattle.std.proofs.Common.{List, ◌∷◌}
use Rattle.ras_syntax.specs.declared.typed.CheckedSource.{CheckedSource}
use Rattle.ras_syntax.specs.declared.typed.Kind.{Kind}
use Rattle.ras_syntax.specs.declared.span.Span.{Span}
use Rattle.spec_expressions.specs.Tree.{Tree, Form, Trees, Pairs, node, truth, number, iterator, variable, coordinate, unary, cast, binary, index, at_point, component, choice, composite, marray, condense, folded, shift, extend, concat, domain_of, interval_of, bound_of, oid, no_trees, trees, no_pairs, pairs}
use Rattle.spec_expressions.specs.Eval.{Environment, domains_in, with_point}
use Rattle.spec_expressions.specs.Fits.{AreMembersOf}
use Rattle.spec_expressions.specs.Shape.{Shape}
use Rattle.spec_expressions.specs.WellTyped.{AreWellTyped, AreWellTypedPairs, HasKind, IsWellTyped, Variables, axes_of_domain, kinds_in}
use Rattle.law_shapes.proofs.Agree.{shape-agrees, shapes-agree}
use Rattle.law_shapes.proofs.Fitting.{AreOfKinds}
use Rattle.law_shapes.proofs.Parts.{AreShapesOf}
use Rattle.law_cells.proofs.Scopes.{AreSmall, domains-members, small-more, sound-members}
use Rattle.law_cells.proofs.Forms.{AreBranchesTyped, AreTyped, IsTyped, at_point-typed, binary_cells-typed, cast-typed, choice-typed, component_cells-typed, composite_cells-typed, index-typed, unary-typed}
use Rattle.law_cells.proofs.Leaves.{coordinate_form-typed, domain_of-typed, interval_of-typed, iterator_form-typed, number-typed, oid_form-typed, truth_form-typed, variable-typed}
use Rattle.law_cells.proofs.ArrayForms.{AreOfKind, bound_of-typed, concat-typed, condense-typed, extend-typed, folded_cells-typed, marray-typed, shift-typed, small-box}

-- ---- shapes over a row

-- the shapes of well-typed expressions fit their kinds
kind-shapes : (sources : List CheckedSource) (variables : Variables) (scope : Environment) (e : Tree) → AreMembersOf sources scope.row → IsWellTyped sources variables e → AreOfKind scope e
kind-shapes sources variables scope e members typed s is =
    shape-agrees sources variables (domains_in scope) e s typed (domains-members sources scope.row members) is

all-kind-shapes : (sources : List CheckedSource) (variables : Variables) (scope : Environment) (es : Trees) (xs : List Shape) → AreMembersOf sources scope.row
    → AreWellTyped sources variables es → AreShapesOf (domains_in scope) es xs → AreOfKinds (kinds_in es) xs
all-kind-shapes sources variables scope es xs members typed are =
    shapes-agree sources variables (domains_in scope) es xs typed (domains-members sources scope.row members) are

-- ---- the recursion

mutual
  pub tree-typed : (sources : List CheckedSource) (variables : Variables) (scope : Environment) (e : Tree) → AreMembersOf sources scope.row → AreSmall scope.variables
      → IsWellTyped sources variables e → IsTyped scope e
  tree-typed sources variables scope (node span kind form) members small typed = form-typed sources variables scope span kind form members small typed

  pub form-typed : (sources : List CheckedSource) (variables : Variables) (scope : Environment) (span : Span) (kind : Kind) (form : Form)
      → AreMembersOf sources scope.row → AreSmall scope.variables → HasKind sources variables kind form → IsTyped scope (node span kind form)
  form-typed sources variables scope span kind (truth b) members small typed = truth_form-typed scope span kind b typed
  form-typed sources variables scope span kind (number z atom) members small typed =
      number-typed scope span kind z atom typed.0 typed.1
  form-typed sources variables scope span kind (iterator place) members small typed =
      iterator_form-typed sources scope span kind place typed.0 members typed.1 typed.2
  form-typed sources variables scope span kind (variable x) members small typed = variable-typed scope span kind x typed.0 typed.2
  form-typed sources variables scope span kind (coordinate x k) members small typed =
      coordinate_form-typed scope span kind x k small typed.3
  form-typed sources variables scope span kind (unary op e) members small typed = unary-typed scope span kind op e typed.1
  form-typed sources variables scope span kind (cast atom e) members small typed = cast-typed scope span kind atom e typed.1
  form-typed sources variables scope span kind (binary op a b) members small typed =
      binary_cells-typed scope span kind op a b (tree-typed sources variables scope a members small typed.0) (tree-typed sources variables scope b members small typed.1) typed.2
  form-typed sources variables scope span kind (index e axes) members small typed =
      index-typed scope span kind e axes typed.0 typed.1 (tree-typed sources variables scope e members small typed.2) typed.4 typed.5
  form-typed sources variables scope span kind (at_point e x) members small typed =
      at_point-typed scope span kind e x typed.0 typed.1 (tree-typed sources variables scope e members small typed.2) typed.4 typed.5
  form-typed sources variables scope span kind (component e k) members small typed =
      component_cells-typed scope span kind e k typed.0 (tree-typed sources variables scope e members small typed.1) typed.2 typed.3
  form-typed sources variables scope span kind (choice arms other) members small typed =
      choice-typed scope span kind arms other (branches-typed sources variables scope arms members small typed.0) (tree-typed sources variables scope other members small typed.1) typed.2
  form-typed sources variables scope span kind (composite es) members small typed =
      composite_cells-typed scope span kind es (trees-typed sources variables scope es members small typed.0) typed.1
  form-typed sources variables scope span kind (marray x domain e) members small typed =
      marray-typed scope span kind x domain e typed.0 (axes_of_domain domain) (small-box scope domain (sound-members sources scope.row members))
      (kind-shapes sources ((x, axes_of_domain domain) ∷ variables) scope e members typed.2)
      (λ p near. tree-typed sources ((x, axes_of_domain domain) ∷ variables) (with_point x p scope) e members (small-more x p scope.variables near small) typed.2)
      typed.3 typed.5
  form-typed sources variables scope span kind (condense op x domain condition e) members small typed =
      condense-typed scope span kind op x domain condition e typed.0 (small-box scope domain (sound-members sources scope.row members))
      (kind-shapes sources ((x, axes_of_domain domain) ∷ variables) scope e members typed.3)
      (λ p near. tree-typed sources ((x, axes_of_domain domain) ∷ variables) (with_point x p scope) e members (small-more x p scope.variables near small) typed.3)
      typed.4 typed.6
  form-typed sources variables scope span kind (folded f e) members small typed =
      folded_cells-typed scope span kind f e (tree-typed sources variables scope e members small typed.0) typed.1
  form-typed sources variables scope span kind (shift e offsets) members small typed =
      shift-typed scope span kind e offsets typed.0 typed.1 (tree-typed sources variables scope e members small typed.2) typed.4 typed.8
  form-typed sources variables scope span kind (extend e domain) members small typed =
      extend-typed scope span kind e domain typed.0 typed.1 (tree-typed sources variables scope e members small typed.2) typed.4 typed.7
  form-typed sources variables scope span kind (concat parts along) members small typed =
      concat-typed scope span kind parts along (trees-typed sources variables scope parts members small typed.0)
      (λ xs. all-kind-shapes sources variables scope parts xs members typed.0) typed.1
  form-typed sources variables scope span kind (domain_of e) members small typed = domain_of-typed scope span kind e typed.1 typed.4
  form-typed sources variables scope span kind (interval_of e k) members small typed = interval_of-typed scope span kind e k typed.5
  form-typed sources variables scope span kind (bound_of side e k) members small typed =
      bound_of-typed scope span kind side e k (sound-members sources scope.row members) typed.5
  form-typed sources variables scope span kind (oid a) members small typed = oid_form-typed sources scope span kind a members typed.2

  trees-typed : (sources : List CheckedSource) (variables : Variables) (scope : Environment) (es : Trees) → AreMembersOf sources scope.row → AreSmall scope.variables
      → AreWellTyped sources variables es → AreTyped scope es
  trees-typed sources variables scope no_trees members small typed = tt
  trees-typed sources variables scope (trees e es) members small typed =
      (tree-typed sources variables scope e members small typed.0, trees-typed sources variables scope es members small typed.1)

  branches-typed : (sources : List CheckedSource) (variables : Variables) (scope : Environment) (ps : Pairs) → AreMembersOf sources scope.row → AreSmall scope.variables
      → AreWellTypedPairs sources variables ps → AreBranchesTyped scope ps
  branches-typed sources variables scope no_pairs members small typed = tt
  branches-typed sources variables scope (pairs a b ps) members small typed =
      (tree-typed sources variables scope b members small typed.1, branches-typed sources variables scope ps members small typed.2)
