-- What the check gives of a statement is well typed.
use Rattle.std.proofs.Common.{◌≡◌, true, false, List, [], ◌∷◌, map, refl, sym, ap, subst, ◌∙◌}
use Rattle.std.specs.Prelude.{ℕ, ◌==◌, ◌&&◌, IsTrue, is_some, Option, Some, None, Result, Ok, Err}
use Rattle.std.specs.Option.{option_map}
use Rattle.std.proofs.lemmas.Bool.{and_parts, eqb-true}
use Rattle.std.proofs.lemmas.List.{length-map}
use Rattle.ras_syntax.specs.Literals.{numbers_fit, condition_numbers_fit, target_numbers_fit, statement_numbers_fit}
use Rattle.ras_syntax.specs.declared.expr.Expr.{Expr}
use Rattle.ras_syntax.specs.declared.expr.Axis.{Axis}
use Rattle.ras_syntax.specs.declared.faults.CheckFault.{CheckFault}
use Rattle.ras_syntax.specs.declared.span.Span.{Span}
use Rattle.ras_syntax.specs.declared.span.Spanned.{Spanned}
use Rattle.ras_syntax.specs.declared.types.SetType.{SetType}
use Rattle.ras_syntax.specs.declared.statement.SourceName.{SourceName}
use Rattle.ras_syntax.specs.declared.statement.Statement.{Statement}
use Rattle.ras_syntax.specs.declared.statement.StatementForm.{StatementForm}
use Rattle.ras_syntax.specs.declared.statement.StatementForm.TheVariants.{Select, Insert, Delete, Update, Create, Drop, Word}
use Rattle.ras_syntax.specs.declared.typed.Checked.{Checked}
use Rattle.ras_syntax.specs.declared.typed.CheckedForm.{CheckedForm}
use Rattle.ras_syntax.specs.declared.typed.CheckedForm.TheVariants as checked
use Rattle.ras_syntax.specs.declared.typed.CheckedSource.{CheckedSource}
use Rattle.ras_syntax.specs.declared.typed.Kind.{Kind}
use Rattle.ras_syntax.specs.declared.typed.Kind.TheVariants as kinds
use Rattle.ras_syntax.specs.declared.typed.TypedExpr.{TypedExpr}
use Rattle.ras_syntax.specs.declared.typed.TypedAxis.{TypedAxis}
use Rattle.spec_expressions.specs.Tree.{tree_of, edge_of, condition_of}
use Rattle.spec_expressions.specs.Kinds.{axes_of_kind, is_scalar_bool}
use Rattle.spec_expressions.specs.Names.{Scope}
use Rattle.spec_expressions.specs.Check.{placed_at, kind_of, checked_expr, checked_axis, checked_axes}
use Rattle.spec_statements.specs.CheckStatement.{Catalog, collection_type, known_collection, known_source, known_sources, known_type, new_collection, iterator_of, once_each, same_iterator, scope_of, checked_condition, checked_target, is_result, result_body, bool_condition, axes_of_set_type, is_stored, whole_body, written_body, written_axes, checked_form, checked_statement}
use Rattle.spec_expressions.specs.WellTyped.{IsWellTyped, IsWellTypedEdge}
use Rattle.spec_statements.specs.Statement.{request_of, statement_tree_of, target_axes}
use Rattle.law_shapes.proofs.Outcomes.{bind_ok, where_ok, unless_ok, same_ok}
use Rattle.law_shapes.proofs.Rules.{ruled-ok}
use Rattle.law_checks.specs.Statements.{IsStoredArray, IsTest, IsTarget, IsWritten, IsWellTypedRequest}
use Rattle.law_checks.proofs.Parts.{IsOptionTyped, kind_in-tree_of, condition-typed, no_option-typed, option-typed}
use Rattle.law_checks.proofs.Expressions.{expr-typed, axes-typed}
use Rattle.law_checks.proofs.Sources.{found_at-given, place_of-within, source-known, sources-apart}

-- ---- conditions and targets

written_condition-typed : (c : Option Expr) → IsTrue (condition_numbers_fit c) → (scope : Scope) → IsOptionTyped scope.sources scope.variables (checked_condition c scope)
written_condition-typed None fit scope = no_option-typed scope.sources scope.variables
written_condition-typed (Some c) fit scope = option-typed scope.sources scope.variables (checked_expr c scope) (expr-typed c fit scope)

-- a condition is a test, and stays as it is
test-typed : (sources : List CheckedSource) (c test : Option TypedExpr) → bool_condition c ≡ Ok test → IsWellTypedEdge sources [] (edge_of (option_map tree_of c))
    → IsTest sources (condition_of (option_map tree_of test))
test-typed sources None test is typed = let e : None ≡ test = cc in subst (λ t. IsTest sources (condition_of (option_map tree_of t))) e tt
test-typed sources (Some c) test is typed =
    let k = where_ok (is_scalar_bool (kind_of c)) _ (Ok (Some c)) test is in
    let e : Some c ≡ test = cc (k.1) in
    subst (λ t. IsTest sources (condition_of (option_map tree_of t))) e (condition-typed sources [] (Some c) typed k.0)

pub placed_at-given : {A : Type 0} (span : Span) (r : Result A CheckFault) (a : A) → placed_at span r ≡ Ok a → r ≡ Ok a
placed_at-given span (Ok b) a is = let e : b ≡ a = cc in ap Ok e
placed_at-given span (Err fault) a is = absurd cc

target-typed : (target : Span) (source : CheckedSource) (axes : Option (List Axis)) (xs region : Option (List TypedAxis)) → IsTrue (target_numbers_fit axes)
    → checked_target axes (scope_of (source ∷ [])) ≡ Ok xs → written_axes target source.of xs ≡ Ok region
    → (xs ≡ region) × IsTarget source (option_map target_axes region)
target-typed target source None xs region fit is rule =
    let e : None ≡ xs = cc in let P : Option (List TypedAxis) → Type 0 = λ ys. written_axes target source.of ys ≡ Ok region in
    let f : None ≡ region = cc (subst P (sym e) rule) in
    (sym e ∙ f, subst (λ r. IsTarget source (option_map target_axes r)) f tt)
target-typed target source (Some axes) xs region fit is rule =
    let (ys, first, last) = bind_ok (checked_axes (map checked_axis axes) (scope_of (source ∷ []))) _ xs is in
    let e : Some ys ≡ xs = cc in let P : Option (List TypedAxis) → Type 0 = λ zs. written_axes target source.of zs ≡ Ok region in
    let parts = ruled-ok _ _ _ (Some ys) region (placed_at-given target _ region (subst P (sym e) rule)) in (
      sym e ∙ parts.3,
      subst (λ r. IsTarget source (option_map target_axes r)) parts.3 (record {
        typed = axes-typed axes fit (scope_of (source ∷ [])) ys first;
        count = eqb-true _ _ parts.1;
        numbers = parts.0;
        static = parts.2;
      }),
    )

-- ---- bodies

stored_kind : (of : SetType) (kind : Kind) (axes : ℕ) (body : TypedExpr) → kind_of body ≡ kind → is_stored of kind ≡ true → axes_of_kind kind ≡ axes → IsStoredArray of axes (tree_of body)
stored_kind of (kinds.Array cell n) axes body is stored count = record { cell = cell; kind = kind_in-tree_of body ∙ is ∙ ap (λ m. kinds.Array cell m) count; stored = stored }
stored_kind of (kinds.Scalar cell) axes body is stored count = absurd cc
stored_kind of (kinds.Domain n) axes body is stored count = absurd cc
stored_kind of (kinds.Point n) axes body is stored count = absurd cc

whole-stored : (of : SetType) (body whole : TypedExpr) → whole_body of body ≡ Ok whole → (body ≡ whole) × IsStoredArray of (axes_of_set_type of) (tree_of whole)
whole-stored of body whole rule =
    let parts = ruled-ok (is_stored of (kind_of body)) (axes_of_kind (kind_of body) == axes_of_set_type of) true body whole (placed_at-given _ _ whole rule) in
    (parts.3, subst (λ b. IsStoredArray of (axes_of_set_type of) (tree_of b)) parts.3 (stored_kind of (kind_of body) (axes_of_set_type of) body refl parts.0 (eqb-true _ _ parts.1)))

written-stored : (axes : Option (List TypedAxis)) (of : SetType) (body written : TypedExpr) → written_body axes of body ≡ Ok written
    → (body ≡ written) × IsWritten of (option_map target_axes axes) (tree_of written)
written-stored None of body written rule = whole-stored of body written rule
written-stored (Some axes) of body written rule =
    let parts = ruled-ok (is_stored of (kind_of body)) true true body written (placed_at-given _ _ written rule) in
    (parts.3, subst (λ b. (n : ℕ) × IsStoredArray of n (tree_of b)) parts.3 (axes_of_kind (kind_of body), stored_kind of (kind_of body) _ body refl parts.0 refl))

-- ---- statements

-- the form is what was checked
abbrev IsTypedForm : Catalog → CheckedForm → Type 0
IsTypedForm catalog f = IsWellTypedRequest catalog (request_of f)

select-typed : (catalog : Catalog) (size : ℕ) (body : Expr) (sources : List SourceName) (cond : Option Expr) (f : CheckedForm) → IsTrue (statement_numbers_fit (Select body sources cond))
    → checked_form catalog size (Select body sources cond) ≡ Ok f → IsTypedForm catalog f
select-typed catalog size body sources cond f fit is =
    let both = and_parts (numbers_fit body) (condition_numbers_fit cond) fit in
    let (from, known, is1) = bind_ok (known_sources catalog sources) _ f is in
    let (names, once, is2) = bind_ok (once_each [] (map iterator_of sources)) _ f is1 in
    let (e, typed, is3) = bind_ok (checked_expr body (scope_of from)) _ f is2 in
    let (c, tested, is4) = bind_ok (checked_condition cond (scope_of from)) _ f is3 in
    let (result, fine, is5) = bind_ok (result_body e) _ f is4 in
    let (test, true_or_false, last) = bind_ok (bool_condition c) _ f is5 in
    let apart = sources-apart catalog sources [] names from known once in
    let k = where_ok (is_result (tree_of e)) _ (Ok e) result fine in
    let same : e ≡ result = cc (k.1) in
    let done : checked.Select result from test ≡ f = same_ok _ f last in
    subst (IsTypedForm catalog) done (record {
      known = apart.known;
      iterators_differ = apart.apart;
      body_typed = subst (λ x. IsWellTyped from [] (tree_of x)) same (expr-typed body both.0 (scope_of from) e typed);
      result = subst (λ x. is_result (tree_of x) ≡ true) same k.0;
      condition_typed = test-typed from c test true_or_false (written_condition-typed cond both.1 (scope_of from) c tested);
    })

insert-typed : (catalog : Catalog) (size : ℕ) (into : Spanned) (body : Expr) (f : CheckedForm) → IsTrue (numbers_fit body)
    → checked_form catalog size (Insert into body) ≡ Ok f → IsTypedForm catalog f
insert-typed catalog size into body f fit is =
    let (of, known, is1) = bind_ok (known_collection catalog into) _ f is in
    let (e, typed, is2) = bind_ok (checked_expr body (scope_of [])) _ f is1 in
    let (whole, stored, last) = bind_ok (whole_body of e) _ f is2 in
    let w = whole-stored of e whole stored in
    let done : checked.Insert into.name of whole ≡ f = same_ok _ f last in
    subst (IsTypedForm catalog) done (record {
      known = found_at-given _ _ _ of known;
      body_typed = subst (λ x. IsWellTyped [] [] (tree_of x)) w.0 (expr-typed body fit (scope_of []) e typed);
      stored = w.1;
    })

delete-typed : (catalog : Catalog) (size : ℕ) (source : SourceName) (cond : Option Expr) (f : CheckedForm) → IsTrue (condition_numbers_fit cond)
    → checked_form catalog size (Delete source cond) ≡ Ok f → IsTypedForm catalog f
delete-typed catalog size source cond f fit is =
    let (from, known, is1) = bind_ok (known_source catalog source) _ f is in
    let (c, tested, is2) = bind_ok (checked_condition cond (scope_of (from ∷ []))) _ f is1 in
    let (test, true_or_false, last) = bind_ok (bool_condition c) _ f is2 in
    let done : checked.Delete from test ≡ f = same_ok _ f last in
    subst (IsTypedForm catalog) done (record {
      known = source-known catalog source from known;
      condition_typed = test-typed (from ∷ []) c test true_or_false (written_condition-typed cond fit (scope_of (from ∷ [])) c tested);
    })

update-typed : (catalog : Catalog) (size : ℕ) (source : SourceName) (set : Spanned) (axes : Option (List Axis)) (target : Span) (body : Expr) (cond : Option Expr) (f : CheckedForm)
    → IsTrue (statement_numbers_fit (Update source set axes target body cond))
    → checked_form catalog size (Update source set axes target body cond) ≡ Ok f → IsTypedForm catalog f
update-typed catalog size source set axes target body cond f fit is =
    let both = and_parts (target_numbers_fit axes) (numbers_fit body && condition_numbers_fit cond) fit in
    let parts = and_parts (numbers_fit body) (condition_numbers_fit cond) both.1 in
    let (from, known, is1) = bind_ok (known_source catalog source) _ f is in
    let (name, same, is2) = bind_ok (same_iterator set from.iterator) _ f is1 in
    let (xs, placed, is3) = bind_ok (checked_target axes (scope_of (from ∷ []))) _ f is2 in
    let (e, typed, is4) = bind_ok (checked_expr body (scope_of (from ∷ []))) _ f is3 in
    let (c, tested, is5) = bind_ok (checked_condition cond (scope_of (from ∷ []))) _ f is4 in
    let (region, ruled, is6) = bind_ok (written_axes target from.of xs) _ f is5 in
    let (written, stored, is7) = bind_ok (written_body xs from.of e) _ f is6 in
    let (test, true_or_false, last) = bind_ok (bool_condition c) _ f is7 in
    let t = target-typed target from axes xs region both.0 placed ruled in
    let w = written-stored xs from.of e written stored in
    let done : checked.Update from region target written test ≡ f = same_ok _ f last in
    subst (IsTypedForm catalog) done (record {
      known = source-known catalog source from known;
      target = t.1;
      body_typed = subst (λ x. IsWellTyped (from ∷ []) [] (tree_of x)) w.0 (expr-typed body parts.0 (scope_of (from ∷ [])) e typed);
      written = subst (λ ys. IsWritten from.of (option_map target_axes ys) (tree_of written)) t.0 w.1;
      condition_typed = test-typed (from ∷ []) c test true_or_false (written_condition-typed cond parts.1 (scope_of (from ∷ [])) c tested);
    })

no_type : (o : Option SetType) → is_some o ≡ false → o ≡ None
no_type None is = refl
no_type (Some of) is = absurd cc

create-typed : (catalog : Catalog) (size : ℕ) (name of : Spanned) (f : CheckedForm) → checked_form catalog size (Create name of) ≡ Ok f → IsTypedForm catalog f
create-typed catalog size name of f is =
    let (new, free, is1) = bind_ok (new_collection catalog name) _ f is in
    let (place, known, last) = bind_ok (known_type catalog of) _ f is1 in
    let r = unless_ok (is_some (collection_type catalog name.name)) _ (Ok name.name) new free in
    let same : name.name ≡ new = cc (r.1) in
    let done : checked.Create new place ≡ f = same_ok _ f last in
    let within = place_of-within of.name (map (λ t. t.name) catalog.types) place (found_at-given _ _ _ place known) in
    subst (IsTypedForm catalog) done (record {
      free = subst (λ n. collection_type catalog n ≡ None) same (no_type _ r.0);
      known = simp length-map at within;
    })

drop-typed : (catalog : Catalog) (size : ℕ) (name : Spanned) (f : CheckedForm) → checked_form catalog size (Drop name) ≡ Ok f → IsTypedForm catalog f
drop-typed catalog size name f is =
    let (of, known, last) = bind_ok (known_collection catalog name) _ f is in
    let done : checked.Drop name.name ≡ f = same_ok _ f last in
    subst (IsTypedForm catalog) done (of, found_at-given _ _ _ of known)

form-typed : (catalog : Catalog) (size : ℕ) (form : StatementForm) (f : CheckedForm) → IsTrue (statement_numbers_fit form) → checked_form catalog size form ≡ Ok f → IsTypedForm catalog f
form-typed catalog size (Select body sources cond) f fit is = select-typed catalog size body sources cond f fit is
form-typed catalog size (Insert into body) f fit is = insert-typed catalog size into body f fit is
form-typed catalog size (Delete source cond) f fit is = delete-typed catalog size source cond f fit is
form-typed catalog size (Update source set axes target body cond) f fit is = update-typed catalog size source set axes target body cond f fit is
form-typed catalog size (Create name of) f fit is = create-typed catalog size name of f is
form-typed catalog size (Drop name) f fit is = drop-typed catalog size name f is
form-typed catalog size (Word word) f fit is = absurd cc

pub statement-typed : (catalog : Catalog) (statement : Statement) (checked : Checked) → IsTrue (statement_numbers_fit statement.form) → checked_statement catalog statement ≡ Ok checked
    → IsWellTypedRequest catalog (statement_tree_of checked).request
statement-typed catalog statement checked fit is =
    let (f, first, last) = bind_ok (checked_form catalog statement.length statement.form) _ checked is in
    let done : (record { form = f; length = statement.length }) ≡ checked = same_ok _ checked last in
    subst (λ c. IsWellTypedRequest catalog (statement_tree_of c).request) done (form-typed catalog statement.length statement.form f fit first)
