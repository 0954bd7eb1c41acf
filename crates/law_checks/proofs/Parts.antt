-- The tree that the check makes, and the trees of lists of parts.
use Rattle.std.proofs.Common.{◌≡◌, true, List, [], ◌∷◌, map, length, refl, sym, ap, subst, ◌∙◌}
use Rattle.std.specs.Prelude.{ℕ, ◌&&◌, Option, Some, None, Result, Ok, Err}
use Rattle.std.specs.Option.{option_map}
use Rattle.std.specs.List.{list_all}
use Rattle.std.proofs.lemmas.Bool.{and_parts}
use Rattle.ras_cells.specs.Outcomes.{◌>>=◌}
use Rattle.ras_syntax.specs.declared.span.Span.{Span}
use Rattle.ras_syntax.specs.declared.faults.CheckFault.{CheckFault}
use Rattle.ras_syntax.specs.declared.typed.Kind.{Kind}
use Rattle.ras_syntax.specs.declared.typed.CheckedSource.{CheckedSource}
use Rattle.ras_syntax.specs.declared.typed.TypedAxis.{TypedAxis}
use Rattle.ras_syntax.specs.declared.typed.TypedAxis.TheVariants as taxis
use Rattle.ras_syntax.specs.declared.typed.TypedExpr.{TypedExpr, roll-TypedExpr, fold_out-TypedExpr}
use Rattle.ras_syntax.specs.declared.typed.TypedForm.{TypedForm}
use Rattle.spec_expressions.specs.Tree.{Tree, Form, Trees, Pairs, Axes, Domain, tree_of, trees_of, pairs_of, edge_of, condition_of, axis_tree_step, domain_tree_step, form_tree_step, expr_tree_step}
use Rattle.spec_expressions.specs.Kinds.{is_scalar_number}
use Rattle.spec_expressions.specs.Shape.{is_static}
use Rattle.spec_expressions.specs.Check.{CheckMisfit, kind_of, kinds_of, typed_of, is_number_tree, is_test, tree_of_axes, has_number_bounds, has_static_bounds}
use Rattle.spec_expressions.specs.WellTyped.{Variables, IsWellTyped, AreWellTyped, AreWellTypedPairs, AreWellTypedAxes, IsWellTypedEdge, IsWellTypedCondition, HasKind, kind_in, kinds_in, firsts_in, seconds_in, count_trees, count_pairs, all_trees, all_pairs}
use Rattle.spec_statements.proofs.CheckedForms.{form_of, axis_tree, tree_is, tree_at_is, tree_trim_is}

-- ---- the kind of an expression is that of its tree

pub kind_in-tree_of : (x : TypedExpr) → kind_in (tree_of x) ≡ kind_of x
kind_in-tree_of x = ap kind_in (fold_out-TypedExpr (Axes → Axes) Domain Form Tree axis_tree_step domain_tree_step form_tree_step expr_tree_step x)

pub is_number_tree-tree_of : (x : TypedExpr) → is_number_tree (tree_of x) ≡ is_scalar_number (kind_of x)
is_number_tree-tree_of x = ap is_number_tree (fold_out-TypedExpr (Axes → Axes) Domain Form Tree axis_tree_step domain_tree_step form_tree_step expr_tree_step x)

abbrev pub trees_in : List TypedExpr → Trees
trees_in xs = trees_of (map tree_of xs)

abbrev pub pairs_in : List (TypedExpr × TypedExpr) → Pairs
pairs_in ps = pairs_of (map (λ p. (tree_of p.0, tree_of p.1)) ps)

pub kinds_in-trees : (xs : List TypedExpr) → kinds_in (trees_in xs) ≡ kinds_of xs
kinds_in-trees [] = refl
kinds_in-trees (x ∷ xs) = let e = kind_in-tree_of x in let es = kinds_in-trees xs in cc

pub count_trees-trees : (xs : List TypedExpr) → count_trees (trees_in xs) ≡ length xs
count_trees-trees [] = refl
count_trees-trees (x ∷ xs) = ap ℕ.suc (count_trees-trees xs)

pub firsts_in-pairs : (ps : List (TypedExpr × TypedExpr)) → firsts_in (pairs_in ps) ≡ map (λ p. kind_of p.0) ps
firsts_in-pairs [] = refl
firsts_in-pairs (p ∷ ps) = let e = kind_in-tree_of p.0 in let es = firsts_in-pairs ps in cc

pub seconds_in-pairs : (ps : List (TypedExpr × TypedExpr)) → seconds_in (pairs_in ps) ≡ map (λ p. kind_of p.1) ps
seconds_in-pairs [] = refl
seconds_in-pairs (p ∷ ps) = let e = kind_in-tree_of p.1 in let es = seconds_in-pairs ps in cc

pub count_pairs-pairs : (ps : List (TypedExpr × TypedExpr)) → count_pairs (pairs_in ps) ≡ length ps
count_pairs-pairs [] = refl
count_pairs-pairs (p ∷ ps) = ap ℕ.suc (count_pairs-pairs ps)

-- what a test of the check tells of the trees
pub number_trees : (xs : List TypedExpr) → list_all (λ x. is_scalar_number (kind_of x)) xs ≡ true → all_trees is_number_tree (trees_in xs) ≡ true
number_trees [] is = refl
number_trees (x ∷ xs) is =
    let both = and_parts (is_scalar_number (kind_of x)) (list_all (λ y. is_scalar_number (kind_of y)) xs) is in
    ap (λ b. b && all_trees is_number_tree (trees_in xs)) (is_number_tree-tree_of x ∙ both.0) ∙ number_trees xs both.1

pub static_trees : (xs : List TypedExpr) → list_all (λ x. is_static (tree_of x)) xs ≡ true → all_trees is_static (trees_in xs) ≡ true
static_trees [] is = refl
static_trees (x ∷ xs) is =
    let both = and_parts (is_static (tree_of x)) (list_all (λ y. is_static (tree_of y)) xs) is in
    ap (λ b. b && all_trees is_static (trees_in xs)) both.0 ∙ static_trees xs both.1

pub number_pairs : (ps : List (TypedExpr × TypedExpr)) → list_all has_number_bounds ps ≡ true → all_pairs is_number_tree (pairs_in ps) ≡ true
number_pairs [] is = refl
number_pairs (p ∷ ps) is =
    let both = and_parts (has_number_bounds p) (list_all has_number_bounds ps) is in
    let ends = and_parts (is_scalar_number (kind_of p.0)) (is_scalar_number (kind_of p.1)) both.0 in
    ap (λ b. b && (is_number_tree (tree_of p.1) && all_pairs is_number_tree (pairs_in ps))) (is_number_tree-tree_of p.0 ∙ ends.0)
    ∙ ap (λ b. b && all_pairs is_number_tree (pairs_in ps)) (is_number_tree-tree_of p.1 ∙ ends.1) ∙ number_pairs ps both.1

pub static_pairs : (ps : List (TypedExpr × TypedExpr)) → list_all has_static_bounds ps ≡ true → all_pairs is_static (pairs_in ps) ≡ true
static_pairs [] is = refl
static_pairs (p ∷ ps) is =
    let both = and_parts (has_static_bounds p) (list_all has_static_bounds ps) is in
    let ends = and_parts (is_static (tree_of p.0)) (is_static (tree_of p.1)) both.0 in
    ap (λ b. b && (is_static (tree_of p.1) && all_pairs is_static (pairs_in ps))) ends.0
    ∙ ap (λ b. b && all_pairs is_static (pairs_in ps)) ends.1 ∙ static_pairs ps both.1

-- ---- outcomes that are well typed

module _ (sources : List CheckedSource) (variables : Variables) where
  abbrev pub IsTyped : Result TypedExpr CheckMisfit → Type 0
  IsTyped r = (x : TypedExpr) → r ≡ Ok x → IsWellTyped sources variables (tree_of x)

  abbrev pub AreTyped : Result (List TypedExpr) CheckMisfit → Type 0
  AreTyped r = (xs : List TypedExpr) → r ≡ Ok xs → AreWellTyped sources variables (trees_in xs)

  abbrev pub ArePairsTyped : Result (List (TypedExpr × TypedExpr)) CheckMisfit → Type 0
  ArePairsTyped r = (ps : List (TypedExpr × TypedExpr)) → r ≡ Ok ps → AreWellTypedPairs sources variables (pairs_in ps)

  abbrev pub AreAxesTyped : Result (List TypedAxis) CheckMisfit → Type 0
  AreAxesTyped r = (xs : List TypedAxis) → r ≡ Ok xs → AreWellTypedAxes sources variables (tree_of_axes xs)

  -- an axis keeps the axes bind_ok it well typed
  abbrev pub IsAxisTyped : Result TypedAxis CheckMisfit → Type 0
  IsAxisTyped r = (x : TypedAxis) → r ≡ Ok x → (rest : Axes) → AreWellTypedAxes sources variables rest → AreWellTypedAxes sources variables (axis_tree x rest)

  -- what is missing is well typed
  abbrev pub IsOptionTyped : Result (Option TypedExpr) CheckMisfit → Type 0
  IsOptionTyped r = (c : Option TypedExpr) → r ≡ Ok c → IsWellTypedEdge sources variables (edge_of (option_map tree_of c))

  pub condition-typed : (c : Option TypedExpr) → IsWellTypedEdge sources variables (edge_of (option_map tree_of c)) → is_test c ≡ true
      → IsWellTypedCondition sources variables (condition_of (option_map tree_of c))
  condition-typed None typed is = tt
  condition-typed (Some c) typed is = (typed, rw (kind_in-tree_of c) is)

  -- an expression is well typed where its form is of the kind that the rule gives
  pub made-typed : (s : Span) (form : TypedForm) (f : Form) (rule : Result Kind CheckFault) (x : TypedExpr) → form_of form ≡ f
      → typed_of s form rule ≡ Ok x → ((kind : Kind) → rule ≡ Ok kind → HasKind sources variables kind f) → IsWellTyped sources variables (tree_of x)
  made-typed s form f (Ok kind) x form_is is typed =
      let e : roll-TypedExpr (record { span = s; kind = kind; form = form }) ≡ x = cc in
      subst (λ y. IsWellTyped sources variables (tree_of y)) e
      (subst (IsWellTyped sources variables) (sym (tree_is s kind form)) (subst (HasKind sources variables kind) (sym form_is) (typed kind refl)))
  made-typed s form f (Err fault) x form_is is typed = absurd cc

  -- ---- lists of parts, one more at a time

  pub none-typed : AreTyped (Ok [])
  none-typed xs is = let e : [] ≡ xs = cc in subst (λ ys. AreWellTyped sources variables (trees_in ys)) e tt

  pub more-typed : (r : Result TypedExpr CheckMisfit) (rs : Result (List TypedExpr) CheckMisfit) → IsTyped r → AreTyped rs
      → AreTyped (do
        y ← r
        ys ← rs
        Ok (y ∷ ys))
  more-typed (Ok y) (Ok ys) one others xs is =
      let e : y ∷ ys ≡ xs = cc in subst (λ zs. AreWellTyped sources variables (trees_in zs)) e (one y refl, others ys refl)
  more-typed (Ok y) (Err fault) one others xs is = absurd cc
  more-typed (Err fault) rs one others xs is = absurd cc

  pub no_pairs-typed : ArePairsTyped (Ok [])
  no_pairs-typed ps is = let e : [] ≡ ps = cc in subst (λ qs. AreWellTypedPairs sources variables (pairs_in qs)) e tt

  pub more_pairs-typed : (r t : Result TypedExpr CheckMisfit) (rs : Result (List (TypedExpr × TypedExpr)) CheckMisfit) → IsTyped r → IsTyped t → ArePairsTyped rs
      → ArePairsTyped (do
        y ← r
        z ← t
        ys ← rs
        Ok ((y, z) ∷ ys))
  more_pairs-typed (Ok y) (Ok z) (Ok ys) one other others ps is =
      let e : (y, z) ∷ ys ≡ ps = cc in subst (λ qs. AreWellTypedPairs sources variables (pairs_in qs)) e (one y refl, other z refl, others ys refl)
  more_pairs-typed (Ok y) (Ok z) (Err fault) one other others ps is = absurd cc
  more_pairs-typed (Ok y) (Err fault) rs one other others ps is = absurd cc
  more_pairs-typed (Err fault) t rs one other others ps is = absurd cc

  pub no_axes-typed : AreAxesTyped (Ok [])
  no_axes-typed xs is = let e : [] ≡ xs = cc in subst (λ ys. AreWellTypedAxes sources variables (tree_of_axes ys)) e tt

  pub more_axes-typed : (r : Result TypedAxis CheckMisfit) (rs : Result (List TypedAxis) CheckMisfit) → IsAxisTyped r → AreAxesTyped rs
      → AreAxesTyped (do
        y ← r
        ys ← rs
        Ok (y ∷ ys))
  more_axes-typed (Ok y) (Ok ys) one others xs is =
      let e : y ∷ ys ≡ xs = cc in subst (λ zs. AreWellTypedAxes sources variables (tree_of_axes zs)) e (one y refl (tree_of_axes ys) (others ys refl))
  more_axes-typed (Ok y) (Err fault) one others xs is = absurd cc
  more_axes-typed (Err fault) rs one others xs is = absurd cc

  pub no_option-typed : IsOptionTyped (Ok None)
  no_option-typed c is = let e : None ≡ c = cc in subst (λ d. IsWellTypedEdge sources variables (edge_of (option_map tree_of d))) e tt

  pub option-typed : (r : Result TypedExpr CheckMisfit) → IsTyped r
      → IsOptionTyped (do
        y ← r
        Ok (Some y))
  option-typed (Ok y) one c is = let e : Some y ≡ c = cc in subst (λ d. IsWellTypedEdge sources variables (edge_of (option_map tree_of d))) e (one y refl)
  option-typed (Err fault) one c is = absurd cc

  -- ---- one axis

  pub at-typed : (r : Result TypedExpr CheckMisfit) → IsTyped r
      → IsAxisTyped (do
        y ← r
        Ok (taxis.At y))
  at-typed (Ok y) one x is rest typed =
      let e : taxis.At y ≡ x = cc in
      subst (λ a. AreWellTypedAxes sources variables (axis_tree a rest)) e
      (subst (AreWellTypedAxes sources variables) (sym (tree_at_is y rest)) (one y refl, typed))
  at-typed (Err fault) one x is rest typed = absurd cc

  pub trim-typed : (r t : Result (Option TypedExpr) CheckMisfit) → IsOptionTyped r → IsOptionTyped t
      → IsAxisTyped (do
        y ← r
        z ← t
        Ok (taxis.Trim y z))
  trim-typed (Ok y) (Ok z) one other x is rest typed =
      let e : taxis.Trim y z ≡ x = cc in
      subst (λ a. AreWellTypedAxes sources variables (axis_tree a rest)) e
      (subst (AreWellTypedAxes sources variables) (sym (tree_trim_is y z rest)) (one y refl, other z refl, typed))
  trim-typed (Ok y) (Err fault) one other x is rest typed = absurd cc
  trim-typed (Err fault) t one other x is rest typed = absurd cc
