-- Lists of the definition are lists that are checked from left to right.
use Rattle.std.specs.Prelude.{◌≡◌, List, [], ◌∷◌, map, Result, Ok, Err}
use Rattle.std.proofs.Common.{refl, ap, ◌∙◌}
use Rattle.ras_cells.specs.Outcomes.{◌>>=◌}
use Rattle.ras_syntax.specs.declared.expr.Expr.{Expr}
use Rattle.ras_syntax.specs.declared.expr.Axis.{Axis}
use Rattle.spec_expressions.specs.Names.{Scope}
use Rattle.spec_expressions.specs.Check.{CheckMisfit, checked_expr, checked_axis, checked_all, checked_pairs, checked_axes}
use Rattle.ras_catalog.specs.Outcome.{each_of}
use Rattle.ras_check.specs.Walk.{checked_both}

pub all_is : (es : List Expr) (scope : Scope) → checked_all (map checked_expr es) scope ≡ each_of (λ e. checked_expr e scope) es
all_is [] scope = refl
all_is (e ∷ es) scope = ap (λ rest. checked_expr e scope >>= (λ x. rest >>= (λ xs. Ok (x ∷ xs)))) (all_is es scope)

pub axes_is : (axes : List Axis) (scope : Scope) → checked_axes (map checked_axis axes) scope ≡ each_of (λ axis. checked_axis axis scope) axes
axes_is [] scope = refl
axes_is (axis ∷ axes) scope = ap (λ rest. checked_axis axis scope >>= (λ x. rest >>= (λ xs. Ok (x ∷ xs)))) (axes_is axes scope)

-- steps group either way
grouped : {A B C : Type 0} (a : Result A CheckMisfit) (b : Result B CheckMisfit) (rule : A × B → Result C CheckMisfit)
    → (a >>= (λ x. b >>= (λ y. rule (x, y)))) ≡ ((a >>= (λ x. b >>= (λ y. Ok (x, y)))) >>= rule)
grouped (Ok x) (Ok y) rule = refl
grouped (Ok x) (Err f) rule = refl
grouped (Err f) b rule = refl

pub pairs_is : (ps : List (Expr × Expr)) (scope : Scope) → checked_pairs (map (λ p. (checked_expr p.0, checked_expr p.1)) ps) scope ≡ each_of (checked_both scope) ps
pairs_is [] scope = refl
pairs_is (p ∷ ps) scope =
    ap (λ rest. checked_expr p.0 scope >>= (λ x. checked_expr p.1 scope >>= (λ y. rest >>= (λ xs. Ok ((x, y) ∷ xs))))) (pairs_is ps scope)
    ∙ grouped (checked_expr p.0 scope) (checked_expr p.1 scope) (λ both. each_of (checked_both scope) ps >>= (λ xs. Ok (both ∷ xs)))
