-- The forms with a domain: marray, condense and extend.
use Rattle.std.proofs.Common.{◌≡◌, Bool, true, List, ◌∷◌, refl, sym, ap, subst, ◌∙◌}
use Rattle.std.specs.Prelude.{ℕ, ◌≤◌, ◌==◌, Option, Some, None, Result, Ok, Err}
use Rattle.std.specs.Option.{option_map}
use Rattle.std.proofs.lemmas.Bool.{and_parts, leb-true, eqb-true}
use Rattle.ras_cells.specs.Outcomes.{◌>>=◌}
use Rattle.ras_cells.specs.declared.cell.CellType.{CellType}
use Rattle.ras_domain.specs.declared.TheConstants.{MAX_AXES}
use Rattle.ras_syntax.specs.declared.expr.FoldOp.{FoldOp}
use Rattle.ras_syntax.specs.declared.span.Span.{Span}
use Rattle.ras_syntax.specs.declared.span.Spanned.{Spanned}
use Rattle.ras_syntax.specs.declared.faults.CheckFault.TheVariants.{TypeMismatch}
use Rattle.ras_syntax.specs.declared.typed.Kind.{Kind}
use Rattle.ras_syntax.specs.declared.typed.Kind.TheVariants as kinds
use Rattle.ras_syntax.specs.declared.typed.CheckedSource.{CheckedSource}
use Rattle.ras_syntax.specs.declared.typed.TypedExpr.{TypedExpr}
use Rattle.ras_syntax.specs.declared.typed.TypedForm.TheVariants as typed
use Rattle.ras_syntax.specs.declared.typed.TypedDomain.TheVariants as tdomain
use Rattle.spec_expressions.specs.Tree.{tree_of, edge_of, condition_of, marray, condense, extend}
use Rattle.spec_expressions.specs.Kinds.{array_cell, scalar_cell, axes_of_kind, on_scalar, fold_type}
use Rattle.spec_expressions.specs.Names.{Scope, with_variable, is_in_scope}
use Rattle.spec_expressions.specs.Check.{CheckMisfit, Check, DomainCheck, CheckedDomain, kind_of, typed_of, new_name, checked_option, literal_domain, like_domain, has_few_axes, array_over, scalar_over, is_test, condense_kind, extend_kind}
use Rattle.spec_expressions.specs.WellTyped.{Variables, IsWellTyped, IsWellTypedEdge, IsWellTypedCondition, IsWellTypedDomain, axes_of_domain}
use Rattle.spec_statements.proofs.CheckedForms.{domain_tree, tree_marray_is, tree_condense_is, tree_extend_is, tree_literal_is, tree_domain_sdom_is}
use Rattle.law_shapes.proofs.Outcomes.{bind_ok, where_ok, unless_ok}
use Rattle.law_shapes.proofs.Rules.{ruled-ok}
use Rattle.law_checks.proofs.Parts.{IsTyped, ArePairsTyped, IsOptionTyped, condition-typed, kind_in-tree_of, count_pairs-pairs, number_pairs, static_pairs, made-typed}
use Rattle.law_checks.proofs.Forms.{array_kind}

-- a domain is well typed where its bounds are static numbers, and it has as many axes as it says
pub record IsDomainTyped (sources : List CheckedSource) (variables : Variables) (on : CheckedDomain) : Type 0 where
  pub axes : axes_of_domain (domain_tree on.domain) ≡ on.axes
  pub typed : on.has_numbers ≡ true → on.is_fixed ≡ true → IsWellTypedDomain sources variables (domain_tree on.domain)

abbrev pub DomainTyped : List CheckedSource → Variables → Result CheckedDomain CheckMisfit → Type 0
DomainTyped sources variables r = (on : CheckedDomain) → r ≡ Ok on → IsDomainTyped sources variables on

-- what the rule of a domain gives
record IsMadeOn (on : CheckedDomain) (fit : Bool) (given : Option CellType) (as_kind : CellType → Kind) (kind : Kind) : Type 0 where
  cell : CellType
  is : given ≡ Some cell
  numbers : on.has_numbers ≡ true
  few : on.axes ≤ MAX_AXES
  fits : fit ≡ true
  fixed : on.is_fixed ≡ true
  kind_is : kind ≡ as_kind cell

array_on-made : (on : CheckedDomain) (fit : Bool) (given : Option CellType) (kind : Kind) → array_over on fit given ≡ Ok kind
    → IsMadeOn on fit given (λ cell. kinds.Array cell on.axes) kind
array_on-made on fit None kind rule = absurd cc
array_on-made on fit (Some cell) kind rule =
    let parts = ruled-ok _ _ _ _ _ rule in
    let both = and_parts (has_few_axes on) fit parts.1 in
    record { cell = cell; is = refl; numbers = parts.0; few = leb-true _ _ both.0; fits = both.1; fixed = parts.2; kind_is = sym parts.3 }

scalar_over-made : (on : CheckedDomain) (given : Option CellType) (kind : Kind) → scalar_over on given ≡ Ok kind
    → IsMadeOn on true given (λ cell. kinds.Scalar cell) kind
scalar_over-made on None kind rule = absurd cc
scalar_over-made on (Some cell) kind rule =
    let parts = ruled-ok _ _ _ _ _ rule in
    record { cell = cell; is = refl; numbers = parts.0; few = leb-true _ _ parts.1; fits = refl; fixed = parts.2; kind_is = sym parts.3 }

scalar_kind : (kind : Kind) (cell : CellType) → scalar_cell kind ≡ Some cell → kind ≡ kinds.Scalar cell
scalar_kind (kinds.Scalar other) cell is = cc
scalar_kind (kinds.Array other axes) cell is = absurd cc
scalar_kind (kinds.Domain axes) cell is = absurd cc
scalar_kind (kinds.Point axes) cell is = absurd cc

abbrev record_of : TypedExpr → ℕ → CheckedDomain
record_of y axes = record { domain = tdomain.Sdom y; axes = axes; has_numbers = true; is_fixed = true }

-- a name that is new is the name that was given
same_name : (scope : Scope) (name new : Spanned) → new_name name scope ≡ Ok new → name ≡ new
same_name scope name new is = let free = unless_ok (is_in_scope scope name.name) _ (Ok name) new is in cc (free.1)

module _ (sources : List CheckedSource) (variables : Variables) (s : Span) (x : TypedExpr) where
  marray-made : (new : Spanned) (on : CheckedDomain) (y : TypedExpr)
      → typed_of s (typed.Marray new on.domain y) (array_over on true (scalar_cell (kind_of y))) ≡ Ok x
      → IsDomainTyped sources variables on → IsWellTyped sources ((new.name, on.axes) ∷ variables) (tree_of y) → IsWellTyped sources variables (tree_of x)
  marray-made new on y is d e =
      made-typed sources variables s (typed.Marray new on.domain y) (marray new.name (domain_tree on.domain) (tree_of y)) (array_over on true (scalar_cell (kind_of y)))
      x (tree_marray_is new on.domain y) is
      (λ kind rule. let m = array_on-made on true (scalar_cell (kind_of y)) kind rule in (
        m.cell,
        d.typed m.numbers m.fixed,
        subst (λ n. IsWellTyped sources ((new.name, n) ∷ variables) (tree_of y)) (sym d.axes) e,
        kind_in-tree_of y ∙ scalar_kind _ _ m.is,
        subst (λ n. n ≤ MAX_AXES) (sym d.axes) m.few,
        m.kind_is ∙ ap (λ n. kinds.Array m.cell n) (sym d.axes),
      ))

  condense-made : (op : FoldOp) (new : Spanned) (on : CheckedDomain) (c : Option TypedExpr) (y : TypedExpr)
      → typed_of s (typed.Condense op new on.domain c y) (condense_kind op on c (kind_of y)) ≡ Ok x
      → IsDomainTyped sources variables on → IsWellTypedEdge sources ((new.name, on.axes) ∷ variables) (edge_of (option_map tree_of c))
      → IsWellTyped sources ((new.name, on.axes) ∷ variables) (tree_of y) → IsWellTyped sources variables (tree_of x)
  condense-made op new on c y is d test e =
      made-typed sources variables s (typed.Condense op new on.domain c y) (condense op new.name (domain_tree on.domain) (condition_of (option_map tree_of c)) (tree_of y))
      (condense_kind op on c (kind_of y)) x (tree_condense_is op new on.domain c y) is
      (λ kind rule. let r = where_ok (is_test c) TypeMismatch (scalar_over on (on_scalar (fold_type op) (kind_of y))) kind rule in
      let m = scalar_over-made on (on_scalar (fold_type op) (kind_of y)) kind r.1 in (
        m.cell,
        d.typed m.numbers m.fixed,
        subst (λ n. IsWellTypedCondition sources ((new.name, n) ∷ variables) (condition_of (option_map tree_of c))) (sym d.axes)
            (condition-typed sources ((new.name, on.axes) ∷ variables) c test r.0),
        subst (λ n. IsWellTyped sources ((new.name, n) ∷ variables) (tree_of y)) (sym d.axes) e,
        ap (on_scalar (fold_type op)) (kind_in-tree_of y) ∙ m.is,
        subst (λ n. n ≤ MAX_AXES) (sym d.axes) m.few,
        m.kind_is,
      ))

  extend-made : (on : CheckedDomain) (y : TypedExpr)
      → typed_of s (typed.Extend y on.domain) (extend_kind (kind_of y) on) ≡ Ok x
      → IsDomainTyped sources variables on → IsWellTyped sources variables (tree_of y) → IsWellTyped sources variables (tree_of x)
  extend-made on y is d e =
      made-typed sources variables s (typed.Extend y on.domain) (extend (tree_of y) (domain_tree on.domain)) (extend_kind (kind_of y) on) x (tree_extend_is y on.domain) is
      (λ kind rule. let m = array_on-made on (on.axes == axes_of_kind (kind_of y)) (array_cell (kind_of y)) kind rule in
      let same : on.axes ≡ axes_of_kind (kind_of y) = eqb-true _ _ m.fits in (
        m.cell,
        on.axes,
        e,
        d.typed m.numbers m.fixed,
        kind_in-tree_of y ∙ array_kind _ _ m.is ∙ ap (λ n. kinds.Array m.cell n) (sym same),
        d.axes,
        m.few,
        m.kind_is,
      ))

  pub extend-typed : (e : Result TypedExpr CheckMisfit) (domain : Result CheckedDomain CheckMisfit)
      → (do
        y ← e
        on ← domain
        typed_of s (typed.Extend y on.domain) (extend_kind (kind_of y) on)) ≡ Ok x
      → IsTyped sources variables e → DomainTyped sources variables domain → IsWellTyped sources variables (tree_of x)
  extend-typed (Ok y) (Ok on) is e d = extend-made on y is (d on refl) (e y refl)
  extend-typed (Ok y) (Err fault) is e d = absurd cc
  extend-typed (Err fault) domain is e d = absurd cc

-- ---- domains alone

module _ (sources : List CheckedSource) (variables : Variables) where
  pub literal-typed : (ps : Result (List (TypedExpr × TypedExpr)) CheckMisfit) → ArePairsTyped sources variables ps
      → DomainTyped sources variables (do
        ys ← ps
        Ok (literal_domain ys))
  literal-typed (Err fault) typed on is = absurd cc
  literal-typed (Ok ys) typed on is =
      let e : literal_domain ys ≡ on = cc in
      subst (IsDomainTyped sources variables) e (record {
        axes = ap axes_of_domain (tree_literal_is ys) ∙ count_pairs-pairs ys;
        typed = λ numbers fixed. subst (IsWellTypedDomain sources variables) (sym (tree_literal_is ys)) (typed ys refl, number_pairs ys numbers, static_pairs ys fixed);
      })

  like-kind : (y : TypedExpr) (kind : Kind) (on : CheckedDomain) → kind_of y ≡ kind → like_domain y kind ≡ Ok on → IsWellTyped sources variables (tree_of y)
      → IsDomainTyped sources variables on
  like-kind y (kinds.Domain axes) on old is e =
      let same = kind_in-tree_of y ∙ old in
      let given : record_of y axes ≡ on = cc in
      subst (IsDomainTyped sources variables) given (record {
        axes = ap axes_of_domain (tree_domain_sdom_is y) ∙ ap axes_of_kind same;
        typed = λ numbers fixed. subst (IsWellTypedDomain sources variables) (sym (tree_domain_sdom_is y)) (axes, e, same);
      })
  like-kind y (kinds.Scalar cell) on old is e = absurd cc
  like-kind y (kinds.Array cell axes) on old is e = absurd cc
  like-kind y (kinds.Point axes) on old is e = absurd cc

  pub like-typed : (e : Result TypedExpr CheckMisfit) → IsTyped sources variables e
      → DomainTyped sources variables (do
        y ← e
        like_domain y (kind_of y))
  like-typed (Ok y) e on is = like-kind y (kind_of y) on refl is (e y refl)
  like-typed (Err fault) e on is = absurd cc

-- the parts stand in the scope with the variable, whose name is new
module _ (scope : Scope) (s : Span) (x : TypedExpr) (name : Spanned) (domain : DomainCheck) (e : Check) where
  pub marray-typed : (do
    on ← domain scope
    y ← e (with_variable name.name on.axes scope)
    new ← new_name name scope
    typed_of s (typed.Marray new on.domain y) (array_over on true (scalar_cell (kind_of y)))) ≡ Ok x
      → DomainTyped scope.sources scope.variables (domain scope)
      → ((inner : Scope) → IsTyped inner.sources inner.variables (e inner)) → IsWellTyped scope.sources scope.variables (tree_of x)
  marray-typed is d typed =
      let (on, first, rest) = bind_ok (domain scope) _ x is in
      let (y, second, more) = bind_ok (e (with_variable name.name on.axes scope)) _ x rest in
      let (new, third, last) = bind_ok (new_name name scope) _ x more in
      marray-made scope.sources scope.variables s x new on y last (d on first)
      (subst (λ (n : Spanned). IsWellTyped scope.sources ((n.name, on.axes) ∷ scope.variables) (tree_of y)) (same_name scope name new third)
      (typed (with_variable name.name on.axes scope) y second))

  pub condense-typed : (op : FoldOp) (cond : Option Check)
      → (do
        on ← domain scope
        c ← checked_option cond (with_variable name.name on.axes scope)
        y ← e (with_variable name.name on.axes scope)
        new ← new_name name scope
        typed_of s (typed.Condense op new on.domain c y) (condense_kind op on c (kind_of y))) ≡ Ok x
      → DomainTyped scope.sources scope.variables (domain scope)
      → ((inner : Scope) → IsOptionTyped inner.sources inner.variables (checked_option cond inner))
      → ((inner : Scope) → IsTyped inner.sources inner.variables (e inner)) → IsWellTyped scope.sources scope.variables (tree_of x)
  condense-typed op cond is d test typed =
      let (on, first, rest) = bind_ok (domain scope) _ x is in
      let (c, tested, others) = bind_ok (checked_option cond (with_variable name.name on.axes scope)) _ x rest in
      let (y, second, more) = bind_ok (e (with_variable name.name on.axes scope)) _ x others in
      let (new, third, last) = bind_ok (new_name name scope) _ x more in
      let same = same_name scope name new third in
      condense-made scope.sources scope.variables s x op new on c y last (d on first)
      (subst (λ (n : Spanned). IsWellTypedEdge scope.sources ((n.name, on.axes) ∷ scope.variables) (edge_of (option_map tree_of c))) same
      (test (with_variable name.name on.axes scope) c tested))
      (subst (λ (n : Spanned). IsWellTyped scope.sources ((n.name, on.axes) ∷ scope.variables) (tree_of y)) same
      (typed (with_variable name.name on.axes scope) y second))
