-- What the check gives of an expression is well typed.
use Rattle.std.proofs.Common.{Bool, true, List, [], ◌∷◌, map, refl, sym, subst}
use Rattle.std.specs.Prelude.{◌&&◌, IsTrue, Some, None, Ok}
use Rattle.std.proofs.lemmas.Bool.{and_parts}
use Rattle.ras_syntax.specs.Literals as fits
use Rattle.ras_syntax.specs.Literals.{numbers_fit, axis_numbers_fit, all_fit, pairs_fit}
use Rattle.ras_syntax.specs.declared.span.Span.{Span}
use Rattle.ras_syntax.specs.declared.expr.Expr.{Expr, roll-Expr, fold-roll-Expr}
use Rattle.ras_syntax.specs.declared.expr.ExprForm.{ExprForm, fold-ExprForm, roll-ExprForm, map-ExprForm, fold-roll-ExprForm}
use Rattle.ras_syntax.specs.declared.expr.Axis.{Axis, roll-Axis, map-Axis, fold-roll-Axis}
use Rattle.ras_syntax.specs.declared.expr.DomainExpr.{DomainExpr, fold-DomainExpr, roll-DomainExpr, map-DomainExpr, fold-roll-DomainExpr}
use Rattle.ras_syntax.specs.declared.expr.Axis.TheOpen.{Expr-F, ExprForm-F, Axis-F, DomainExpr-F}
use Rattle.spec_expressions.specs.Names.{Scope, variable_axes, source_named}
use Rattle.spec_expressions.specs.Check.{AxisCheck, DomainCheck, FormCheck, Check, check_axis, check_domain, check_form, check_expr, checked_expr, checked_axis, checked_all, checked_pairs, checked_axes}
use Rattle.spec_statements.proofs.CheckedForms.{checked_form_of, checked_domain}
use Rattle.law_checks.proofs.Induction.{Such, bare_axis, bare_domain, bare_form, bare_expr, each_expr, each_axis}
use Rattle.law_checks.proofs.Parts.{IsTyped, AreTyped, ArePairsTyped, AreAxesTyped, IsAxisTyped, none-typed, more-typed, no_pairs-typed, more_pairs-typed, no_axes-typed, more_axes-typed, no_option-typed, option-typed, at-typed, trim-typed}
use Rattle.law_checks.proofs.Forms.{bool-typed, number-typed, named-typed, unary-typed, cast-typed, binary-typed, choice-typed, composite-typed, folded-typed, concat-typed, shift-typed, domain_of-typed, oid-typed}
use Rattle.law_checks.proofs.Domains.{DomainTyped, marray-typed, condense-typed, extend-typed, literal-typed, like-typed}
use Rattle.law_checks.proofs.Indexes.{index-typed, part-typed}

-- ---- the numbers of each form

abbrev form_fits : ExprForm → Bool
form_fits = fold-ExprForm Bool Bool Bool Bool fits.axis_fits fits.domain_fits fits.form_fits fits.expr_fits

abbrev domain_fits : DomainExpr → Bool
domain_fits = fold-DomainExpr Bool Bool Bool Bool fits.axis_fits fits.domain_fits fits.form_fits fits.expr_fits

-- ---- what holds of each check

abbrev IsSound : Check → Type 0
IsSound check = (scope : Scope) → IsTyped scope.sources scope.variables (check scope)

abbrev IsSoundForm : FormCheck → Type 0
IsSoundForm check = (s : Span) → IsSound (check s)

abbrev IsSoundAxis : AxisCheck → Type 0
IsSoundAxis check = (scope : Scope) → IsAxisTyped scope.sources scope.variables (check scope)

abbrev IsSoundDomain : DomainCheck → Type 0
IsSoundDomain check = (scope : Scope) → DomainTyped scope.sources scope.variables (check scope)

-- ---- the same of each expression whose numbers fit

abbrev OfExpr : Expr → Type 0
OfExpr e = IsTrue (numbers_fit e) → IsSound (checked_expr e)

abbrev OfForm : ExprForm → Type 0
OfForm f = IsTrue (form_fits f) → IsSoundForm (checked_form_of f)

abbrev OfAxis : Axis → Type 0
OfAxis a = IsTrue (axis_numbers_fit a) → IsSoundAxis (checked_axis a)

abbrev OfDomain : DomainExpr → Type 0
OfDomain d = IsTrue (domain_fits d) → IsSoundDomain (checked_domain d)

abbrev AxisPart : Type 0
AxisPart = Such Axis OfAxis

abbrev DomainPart : Type 0
DomainPart = Such DomainExpr OfDomain

abbrev FormPart : Type 0
FormPart = Such ExprForm OfForm

abbrev ExprPart : Type 0
ExprPart = Such Expr OfExpr

-- ---- lists of parts

all-typed : (es : List ExprPart) → IsTrue (all_fit (map numbers_fit (map (λ e. e.0) es))) → (scope : Scope)
    → AreTyped scope.sources scope.variables (checked_all (map checked_expr (map (λ e. e.0) es)) scope)
all-typed [] fit scope = none-typed scope.sources scope.variables
all-typed (e ∷ es) fit scope =
    let both = and_parts (numbers_fit e.0) (all_fit (map numbers_fit (map (λ e. e.0) es))) fit in
    more-typed scope.sources scope.variables _ _ (e.1 both.0 scope) (all-typed es both.1 scope)

pairs-typed : (ps : List (ExprPart × ExprPart)) → IsTrue (pairs_fit
    (map (λ (p : Expr × Expr). (numbers_fit p.0, numbers_fit p.1)) (map (λ (p : ExprPart × ExprPart). (p.0.0, p.1.0)) ps))) → (scope : Scope)
    → ArePairsTyped scope.sources scope.variables (checked_pairs
    (map (λ (p : Expr × Expr). (checked_expr p.0, checked_expr p.1)) (map (λ (p : ExprPart × ExprPart). (p.0.0, p.1.0)) ps)) scope)
pairs-typed [] fit scope = no_pairs-typed scope.sources scope.variables
pairs-typed (p ∷ ps) fit scope =
    let both = and_parts (numbers_fit p.0.0 && numbers_fit p.1.0)
    (pairs_fit (map (λ (p : Expr × Expr). (numbers_fit p.0, numbers_fit p.1)) (map (λ (p : ExprPart × ExprPart). (p.0.0, p.1.0)) ps))) fit in
    let ends = and_parts (numbers_fit p.0.0) (numbers_fit p.1.0) both.0 in
    more_pairs-typed scope.sources scope.variables _ _ _ (p.0.1 ends.0 scope) (p.1.1 ends.1 scope) (pairs-typed ps both.1 scope)

axis_parts-typed : (axes : List AxisPart) → IsTrue (all_fit (map axis_numbers_fit (map (λ e. e.0) axes))) → (scope : Scope)
    → AreAxesTyped scope.sources scope.variables (checked_axes (map checked_axis (map (λ e. e.0) axes)) scope)
axis_parts-typed [] fit scope = no_axes-typed scope.sources scope.variables
axis_parts-typed (a ∷ axes) fit scope =
    let both = and_parts (axis_numbers_fit a.0) (all_fit (map axis_numbers_fit (map (λ e. e.0) axes))) fit in
    more_axes-typed scope.sources scope.variables _ _ (a.1 both.0 scope) (axis_parts-typed axes both.1 scope)

-- ---- what each layer has

form_layer : (y : ExprForm-F AxisPart DomainPart FormPart ExprPart)
    → IsTrue (fits.form_fits (map-ExprForm Axis DomainExpr ExprForm Expr Bool Bool Bool Bool axis_numbers_fit domain_fits form_fits numbers_fit (bare_form OfAxis OfDomain OfForm OfExpr y)))
    → IsSoundForm (check_form (map-ExprForm Axis DomainExpr ExprForm Expr AxisCheck DomainCheck FormCheck Check checked_axis checked_domain checked_form_of checked_expr
    (bare_form OfAxis OfDomain OfForm OfExpr y)))
form_layer (ExprForm-F.Bool b) fit s scope x is = bool-typed scope.sources scope.variables s x b is
form_layer (ExprForm-F.Number z atom) fit s scope x is = number-typed scope.sources scope.variables s x z atom fit is
form_layer (ExprForm-F.Name name) fit s scope x is =
    named-typed scope.sources scope.variables s x name (variable_axes scope name) (source_named scope name) refl refl is
form_layer (ExprForm-F.Unary op e) fit s scope x is = unary-typed scope.sources scope.variables s x op _ is (e.1 fit scope)
form_layer (ExprForm-F.Cast to e) fit s scope x is = cast-typed scope.sources scope.variables s x to _ is (e.1 fit scope)
form_layer (ExprForm-F.Binary op a b) fit s scope x is =
    let both = and_parts (numbers_fit a.0) (numbers_fit b.0) fit in
    binary-typed scope.sources scope.variables s x op _ _ is (a.1 both.0 scope) (b.1 both.1 scope)
form_layer (ExprForm-F.Index e axes) fit s scope x is =
    let both = and_parts (numbers_fit e.0) (all_fit (map axis_numbers_fit (map (λ a. a.0) axes))) fit in
    index-typed scope.sources scope.variables s x _ _ is (e.1 both.0 scope) (axis_parts-typed axes both.1 scope)
form_layer (ExprForm-F.Part e part) fit s scope x is = part-typed scope.sources scope.variables s x part _ is (e.1 fit scope)
form_layer (ExprForm-F.Case arms other) fit s scope x is =
    let both = and_parts (pairs_fit (map (λ (p : Expr × Expr). (numbers_fit p.0, numbers_fit p.1)) (map (λ (p : ExprPart × ExprPart). (p.0.0, p.1.0)) arms))) (numbers_fit other.0) fit in
    choice-typed scope.sources scope.variables s x _ _ is (pairs-typed arms both.0 scope) (other.1 both.1 scope)
form_layer (ExprForm-F.Build es) fit s scope x is = composite-typed scope.sources scope.variables s x _ is (all-typed es fit scope)
form_layer (ExprForm-F.Marray name domain e) fit s scope x is =
    let both = and_parts (domain_fits domain.0) (numbers_fit e.0) fit in
    marray-typed scope s x name (checked_domain domain.0) (checked_expr e.0) is (domain.1 both.0 scope) (e.1 both.1)
form_layer (ExprForm-F.Condense op name domain None e) fit s scope x is =
    let both = and_parts (domain_fits domain.0) (numbers_fit e.0) fit in
    condense-typed scope s x name (checked_domain domain.0) (checked_expr e.0) op None is (domain.1 both.0 scope)
    (λ inner. no_option-typed inner.sources inner.variables) (e.1 both.1)
form_layer (ExprForm-F.Condense op name domain (Some cond) e) fit s scope x is =
    let both = and_parts (domain_fits domain.0) (numbers_fit cond.0 && numbers_fit e.0) fit in
    let ends = and_parts (numbers_fit cond.0) (numbers_fit e.0) both.1 in
    condense-typed scope s x name (checked_domain domain.0) (checked_expr e.0) op (Some (checked_expr cond.0)) is (domain.1 both.0 scope)
    (λ inner. option-typed inner.sources inner.variables _ (cond.1 ends.0 inner)) (e.1 ends.1)
form_layer (ExprForm-F.Cells f e) fit s scope x is = folded-typed scope.sources scope.variables s x f _ is (e.1 fit scope)
form_layer (ExprForm-F.Shift e offsets) fit s scope x is =
    let both = and_parts (numbers_fit e.0) (all_fit (map numbers_fit (map (λ e. e.0) offsets))) fit in
    shift-typed scope.sources scope.variables s x _ _ is (e.1 both.0 scope) (all-typed offsets both.1 scope)
form_layer (ExprForm-F.Extend e domain) fit s scope x is =
    let both = and_parts (numbers_fit e.0) (domain_fits domain.0) fit in
    extend-typed scope.sources scope.variables s x _ _ is (e.1 both.0 scope) (domain.1 both.1 scope)
form_layer (ExprForm-F.Concat parts along) fit s scope x is = concat-typed scope.sources scope.variables s x along _ is (all-typed parts fit scope)
form_layer (ExprForm-F.«ExprForm::Sdom» e) fit s scope x is = domain_of-typed scope.sources scope.variables s x _ is (e.1 fit scope)
form_layer (ExprForm-F.Oid a) fit s scope x is = oid-typed scope.sources scope.variables s x a (variable_axes scope a.name) (source_named scope a.name) refl is

axis_layer : (y : Axis-F AxisPart DomainPart FormPart ExprPart)
    → IsTrue (fits.axis_fits (map-Axis Axis DomainExpr ExprForm Expr Bool Bool Bool Bool axis_numbers_fit domain_fits form_fits numbers_fit (bare_axis OfAxis OfDomain OfForm OfExpr y)))
    → IsSoundAxis (check_axis (map-Axis Axis DomainExpr ExprForm Expr AxisCheck DomainCheck FormCheck Check checked_axis checked_domain checked_form_of checked_expr
    (bare_axis OfAxis OfDomain OfForm OfExpr y)))
axis_layer (Axis-F.At e) fit scope = at-typed scope.sources scope.variables _ (e.1 fit scope)
axis_layer (Axis-F.Trim None None) fit scope =
    trim-typed scope.sources scope.variables (Ok None) (Ok None) (no_option-typed scope.sources scope.variables) (no_option-typed scope.sources scope.variables)
axis_layer (Axis-F.Trim None (Some b)) fit scope =
    trim-typed scope.sources scope.variables (Ok None) _ (no_option-typed scope.sources scope.variables) (option-typed scope.sources scope.variables _ (b.1 fit scope))
axis_layer (Axis-F.Trim (Some a) None) fit scope =
    let both = and_parts (numbers_fit a.0) true fit in
    trim-typed scope.sources scope.variables _ (Ok None) (option-typed scope.sources scope.variables _ (a.1 both.0 scope)) (no_option-typed scope.sources scope.variables)
axis_layer (Axis-F.Trim (Some a) (Some b)) fit scope =
    let both = and_parts (numbers_fit a.0) (numbers_fit b.0) fit in
    trim-typed scope.sources scope.variables _ _ (option-typed scope.sources scope.variables _ (a.1 both.0 scope)) (option-typed scope.sources scope.variables _ (b.1 both.1 scope))

domain_layer : (y : DomainExpr-F AxisPart DomainPart FormPart ExprPart)
    → IsTrue (fits.domain_fits (map-DomainExpr Axis DomainExpr ExprForm Expr Bool Bool Bool Bool axis_numbers_fit domain_fits form_fits numbers_fit
    (bare_domain OfAxis OfDomain OfForm OfExpr y)))
    → IsSoundDomain (check_domain (map-DomainExpr Axis DomainExpr ExprForm Expr AxisCheck DomainCheck FormCheck Check checked_axis checked_domain checked_form_of
    checked_expr (bare_domain OfAxis OfDomain OfForm OfExpr y)))
domain_layer (DomainExpr-F.Literal ps) fit scope = literal-typed scope.sources scope.variables _ (pairs-typed ps fit scope)
domain_layer (DomainExpr-F.«DomainExpr::Sdom» e) fit scope = like-typed scope.sources scope.variables _ (e.1 fit scope)

form_is_sound : (y : ExprForm-F AxisPart DomainPart FormPart ExprPart) → OfForm (roll-ExprForm (bare_form OfAxis OfDomain OfForm OfExpr y))
form_is_sound y fit =
    subst IsSoundForm (sym (fold-roll-ExprForm AxisCheck DomainCheck FormCheck Check check_axis check_domain check_form check_expr (bare_form OfAxis OfDomain OfForm OfExpr y)))
    (form_layer y (subst IsTrue (fold-roll-ExprForm Bool Bool Bool Bool fits.axis_fits fits.domain_fits fits.form_fits fits.expr_fits (bare_form OfAxis OfDomain OfForm OfExpr y)) fit))

axis_is_sound : (y : Axis-F AxisPart DomainPart FormPart ExprPart) → OfAxis (roll-Axis (bare_axis OfAxis OfDomain OfForm OfExpr y))
axis_is_sound y fit =
    subst IsSoundAxis (sym (fold-roll-Axis AxisCheck DomainCheck FormCheck Check check_axis check_domain check_form check_expr (bare_axis OfAxis OfDomain OfForm OfExpr y)))
    (axis_layer y (subst IsTrue (fold-roll-Axis Bool Bool Bool Bool fits.axis_fits fits.domain_fits fits.form_fits fits.expr_fits (bare_axis OfAxis OfDomain OfForm OfExpr y)) fit))

domain_is_sound : (y : DomainExpr-F AxisPart DomainPart FormPart ExprPart) → OfDomain (roll-DomainExpr (bare_domain OfAxis OfDomain OfForm OfExpr y))
domain_is_sound y fit =
    subst IsSoundDomain (sym (fold-roll-DomainExpr AxisCheck DomainCheck FormCheck Check check_axis check_domain check_form check_expr (bare_domain OfAxis OfDomain OfForm OfExpr y)))
    (domain_layer y (subst IsTrue (fold-roll-DomainExpr Bool Bool Bool Bool fits.axis_fits fits.domain_fits fits.form_fits fits.expr_fits (bare_domain OfAxis OfDomain OfForm OfExpr y)) fit))

expr_is_sound : (y : Expr-F AxisPart DomainPart FormPart ExprPart) → OfExpr (roll-Expr (bare_expr OfAxis OfDomain OfForm OfExpr y))
expr_is_sound y fit =
    subst IsSound (sym (fold-roll-Expr AxisCheck DomainCheck FormCheck Check check_axis check_domain check_form check_expr (bare_expr OfAxis OfDomain OfForm OfExpr y)))
    (y.form.1 (subst IsTrue (fold-roll-Expr Bool Bool Bool Bool fits.axis_fits fits.domain_fits fits.form_fits fits.expr_fits (bare_expr OfAxis OfDomain OfForm OfExpr y)) fit) y.span)

pub expr-typed : (e : Expr) → OfExpr e
expr-typed = each_expr OfAxis OfDomain OfForm OfExpr axis_is_sound domain_is_sound form_is_sound expr_is_sound

pub axis-typed : (a : Axis) → OfAxis a
axis-typed = each_axis OfAxis OfDomain OfForm OfExpr axis_is_sound domain_is_sound form_is_sound expr_is_sound

pub axes-typed : (axes : List Axis) → IsTrue (all_fit (map axis_numbers_fit axes)) → (scope : Scope) → AreAxesTyped scope.sources scope.variables (checked_axes (map checked_axis axes) scope)
axes-typed [] fit scope = no_axes-typed scope.sources scope.variables
axes-typed (a ∷ axes) fit scope =
    let both = and_parts (axis_numbers_fit a) (all_fit (map axis_numbers_fit axes)) fit in
    more_axes-typed scope.sources scope.variables (checked_axis a scope) (checked_axes (map checked_axis axes) scope) (axis-typed a both.0 scope) (axes-typed axes both.1 scope)
