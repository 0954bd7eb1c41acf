-- Induction over written expressions: what each layer has where its parts have it, every expression has.
use Rattle.std.proofs.Common.{subst}
use Rattle.ras_syntax.specs.declared.expr.Expr.{Expr, roll-Expr, map-Expr, ind-Expr}
use Rattle.ras_syntax.specs.declared.expr.ExprForm.{ExprForm, roll-ExprForm, map-ExprForm}
use Rattle.ras_syntax.specs.declared.expr.Axis.{Axis, roll-Axis, map-Axis, ind-Axis}
use Rattle.ras_syntax.specs.declared.expr.DomainExpr.{DomainExpr, roll-DomainExpr, map-DomainExpr}
use Rattle.ras_syntax.specs.declared.expr.Axis.TheOpen.{Expr-F, ExprForm-F, Axis-F, DomainExpr-F}

-- something with what holds of it
abbrev pub Such : (A : Type 0) → (A → Type 0) → Type 0
Such A P = (a : A) × P a

-- a layer of parts, without what holds of them
module _ (A : Axis → Type 0) (D : DomainExpr → Type 0) (F : ExprForm → Type 0) (E : Expr → Type 0) where
  abbrev pub bare_axis : Axis-F (Such Axis A) (Such DomainExpr D) (Such ExprForm F) (Such Expr E) → Axis-F Axis DomainExpr ExprForm Expr
  bare_axis = map-Axis (Such Axis A) (Such DomainExpr D) (Such ExprForm F) (Such Expr E) Axis DomainExpr ExprForm Expr (λ e. e.0) (λ e. e.0) (λ e. e.0) (λ e. e.0)

  abbrev pub bare_domain : DomainExpr-F (Such Axis A) (Such DomainExpr D) (Such ExprForm F) (Such Expr E) → DomainExpr-F Axis DomainExpr ExprForm Expr
  bare_domain = map-DomainExpr (Such Axis A) (Such DomainExpr D) (Such ExprForm F) (Such Expr E) Axis DomainExpr ExprForm Expr (λ e. e.0) (λ e. e.0) (λ e. e.0) (λ e. e.0)

  abbrev pub bare_form : ExprForm-F (Such Axis A) (Such DomainExpr D) (Such ExprForm F) (Such Expr E) → ExprForm-F Axis DomainExpr ExprForm Expr
  bare_form = map-ExprForm (Such Axis A) (Such DomainExpr D) (Such ExprForm F) (Such Expr E) Axis DomainExpr ExprForm Expr (λ e. e.0) (λ e. e.0) (λ e. e.0) (λ e. e.0)

  abbrev pub bare_expr : Expr-F (Such Axis A) (Such DomainExpr D) (Such ExprForm F) (Such Expr E) → Expr-F Axis DomainExpr ExprForm Expr
  bare_expr = map-Expr (Such Axis A) (Such DomainExpr D) (Such ExprForm F) (Such Expr E) Axis DomainExpr ExprForm Expr (λ e. e.0) (λ e. e.0) (λ e. e.0) (λ e. e.0)

  module _ (axis : (y : Axis-F (Such Axis A) (Such DomainExpr D) (Such ExprForm F) (Such Expr E)) → A (roll-Axis (bare_axis y)))
      (domain : (y : DomainExpr-F (Such Axis A) (Such DomainExpr D) (Such ExprForm F) (Such Expr E)) → D (roll-DomainExpr (bare_domain y)))
      (form : (y : ExprForm-F (Such Axis A) (Such DomainExpr D) (Such ExprForm F) (Such Expr E)) → F (roll-ExprForm (bare_form y)))
      (expr : (y : Expr-F (Such Axis A) (Such DomainExpr D) (Such ExprForm F) (Such Expr E)) → E (roll-Expr (bare_expr y))) where
    pub each_expr : (e : Expr) → E e
    each_expr = ind-Expr A D F E
        (λ x y is. subst (λ z. A (roll-Axis z)) is (axis y)) (λ x y is. subst (λ z. D (roll-DomainExpr z)) is (domain y))
        (λ x y is. subst (λ z. F (roll-ExprForm z)) is (form y)) (λ x y is. subst (λ z. E (roll-Expr z)) is (expr y))

    pub each_axis : (a : Axis) → A a
    each_axis = ind-Axis A D F E
        (λ x y is. subst (λ z. A (roll-Axis z)) is (axis y)) (λ x y is. subst (λ z. D (roll-DomainExpr z)) is (domain y))
        (λ x y is. subst (λ z. F (roll-ExprForm z)) is (form y)) (λ x y is. subst (λ z. E (roll-Expr z)) is (expr y))
