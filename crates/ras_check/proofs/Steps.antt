-- Facts of the walk at equal values, and what stands within a variable's scope.
use Rattle.std.specs.Prelude.{◌≡◌, ℕ, Bool, false, ◌||◌, List, Option, Some, is_some, option_map, Result, Ok, Err}
use Rattle.std.proofs.Common.{refl, sym, ap, ◌∙◌, subst}
use Rattle.ras_cells.specs.Outcomes.{◌>>=◌}
use Rattle.ras_syntax.specs.declared.expr.Expr.{Expr}
use Rattle.ras_syntax.specs.declared.expr.Axis.{Axis}
use Rattle.ras_syntax.specs.declared.typed.TypedExpr.{TypedExpr}
use Rattle.spec_expressions.specs.Tree.{NameOf}
use Rattle.spec_expressions.specs.Names.{Scope, with_variable, variable_axes, source_named, is_in_scope, is_iterator}
use Rattle.spec_expressions.specs.Check.{CheckMisfit, checked_axis, checked_expr}
use Rattle.ras_catalog.specs.declared.fault.CheckError.{CheckError}
use Rattle.ras_check.specs.declared.scope.Place.{Place}
use Rattle.ras_catalog.specs.Outcome.{IsChecked, Joins, GoesOnOne}
use Rattle.ras_check.specs.ScopeView.{Enters, place_seen}
use Rattle.ras_catalog.proofs.Joined.{goes_on}
use Rattle.ras_check.proofs.Placed.{is_iterator_is, is_some_seen}

pub at_came : {A : Type 0} {wanted : Result A CheckMisfit} {a b : Result A CheckError} → a ≡ b → IsChecked wanted a → IsChecked wanted b
at_came {wanted = wanted} e h = subst (λ r. IsChecked wanted r) e h

module _ {A : Type 0} {outcome : Result A CheckError} where
  pub at_step : {X : Type 0} (step : X → Scope → Result A CheckMisfit) (old new : Scope) (x y : X) → x ≡ y → new ≡ old → IsChecked (step x new) outcome → IsChecked (step y old) outcome
  at_step step old new x y e s h = subst (λ v. IsChecked (step v old) outcome) e (subst (λ v. IsChecked (step x v) outcome) s h)

some_goes_on : {A : Type 0} (inner : ℕ → Result A CheckMisfit) (axes : Result ℕ CheckError) (e : Result A CheckError) (outcome : Result (Option A) CheckError)
    → GoesOnOne inner axes e → GoesOnOne (λ x. Ok (Some x)) e outcome → GoesOnOne (λ n. inner n >>= (λ x. Ok (Some x))) axes outcome
some_goes_on inner (Ok n) e outcome j k = goes_on (inner n) (λ x. Ok (Some x)) e outcome j k
some_goes_on inner (Err f) e outcome j k = subst (λ r. GoesOnOne (λ x. Ok (Some x)) r outcome) j k

pub some_within : {A : Type 0} (inner : ℕ → Result A CheckMisfit) {axes : Result ℕ CheckError} {e : Result A CheckError} {outcome : Result (Option A) CheckError}
    → Joins inner axes e → Joins (λ x. Ok (Some x)) e outcome → Joins (λ n. inner n >>= (λ x. Ok (Some x))) axes outcome
some_within inner {axes = axes} {e = e} {outcome = outcome} j k = record { goes_on = some_goes_on inner axes e outcome j.goes_on k.goes_on }

pub not_entered : {A : Type 0} (name : NameOf) (old new : Scope) (rule : ℕ → Result A CheckMisfit) (axes : Result ℕ CheckError) (e : CheckError) → Enters name old axes (Err e) new →
    GoesOnOne rule axes (Err e)
not_entered name old new rule (Ok n) e h = rw h.0 (record { tells = tt })
not_entered name old new rule (Err f) e h = ap Err h.0

pub entered : (name : NameOf) (old new : Scope) (e : Expr) (axes : Result ℕ CheckError) (done : Unit {0}) (outcome : Result TypedExpr CheckError) → Enters name old axes (Ok done) new →
    IsChecked (checked_expr e new) outcome
    → GoesOnOne (λ n. checked_expr e (with_variable name n old)) axes outcome
entered name old new e (Ok n) done outcome h k = subst (λ s. IsChecked (checked_expr e s) outcome) h k
entered name old new e (Err f) done outcome h k = absurd h

no_variable : (v : Option ℕ) (b : Bool) → is_some v ≡ false → (is_some v || b) ≡ b
no_variable v b e = rw e refl

pub in_scope_by_source : (scope : Scope) (name : NameOf) (v : Option ℕ) (place : Option Place) → v ≡ variable_axes scope name → is_some v ≡ false
    → option_map place_seen place ≡ source_named scope name → is_some place ≡ is_in_scope scope name
in_scope_by_source scope name v place is none found =
    sym (is_some_seen place) ∙ ap is_some found ∙ sym (is_iterator_is scope name)
    ∙ sym (no_variable (variable_axes scope name) (is_iterator scope name) (ap is_some (sym is) ∙ none))
