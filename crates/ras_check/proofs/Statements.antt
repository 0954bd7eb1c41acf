-- What a statement comes to, from what its parts come to.
use Rattle.std.specs.Prelude.{◌≡◌, ℕ, List, [], ◌∷◌, map, Option, Some, None, Result, Ok, Err}
use Rattle.std.proofs.Common.{refl, ap, ◌∙◌}
use Rattle.ras_cells.specs.Outcomes.{◌>>=◌}
use Rattle.ras_syntax.specs.declared.span.Span.{Span}
use Rattle.ras_syntax.specs.declared.span.Spanned.{Spanned}
use Rattle.ras_syntax.specs.declared.types.SetType.{SetType}
use Rattle.ras_syntax.specs.declared.expr.Expr.{Expr}
use Rattle.ras_syntax.specs.declared.expr.Axis.{Axis}
use Rattle.ras_syntax.specs.declared.statement.SourceName.{SourceName}
use Rattle.ras_syntax.specs.declared.statement.Statement.{Statement}
use Rattle.ras_syntax.specs.declared.statement.StatementForm.TheVariants as form
use Rattle.ras_syntax.specs.declared.typed.Checked.{Checked}
use Rattle.ras_syntax.specs.declared.typed.CheckedForm.{CheckedForm}
use Rattle.ras_syntax.specs.declared.typed.CheckedForm.TheVariants as checked
use Rattle.ras_syntax.specs.declared.typed.CheckedSource.{CheckedSource}
use Rattle.ras_syntax.specs.declared.typed.TypedExpr.{TypedExpr}
use Rattle.ras_syntax.specs.declared.typed.TypedAxis.{TypedAxis}
use Rattle.spec_expressions.specs.Tree.{NameOf}
use Rattle.spec_expressions.specs.Names.{Scope}
use Rattle.spec_expressions.specs.Check.{CheckMisfit, checked_axis, checked_axes, checked_expr}
use Rattle.spec_statements.specs.CheckStatement as spec
use Rattle.spec_statements.specs.CheckStatement.{Catalog, scope_of}
use Rattle.ras_catalog.specs.declared.fault.CheckError.{CheckError}
use Rattle.ras_catalog.specs.Outcome.{IsChecked, Joins, JoinsTwo, JoinsThree, GoesOnOne, GoesOnThree, unit_of, each_of}
use Rattle.ras_catalog.proofs.Joined.{stopped, goes_on, joined, joined_two, unit_joined}
use Rattle.ras_check.specs.Statements as steps
use Rattle.ras_check.proofs.Listed.{axes_is}

-- what an expression, a source and the like came to
abbrev Came : Type 0 → Type 0
Came A = Result A CheckError

-- what follows a part that has an outcome
pub goes : {A B : Type 0} (wanted : Result A CheckMisfit) (rule : A → Result B CheckMisfit) {x : A} {outcome : Came B}
    → IsChecked wanted (Ok x) → IsChecked (rule x) outcome → IsChecked (wanted >>= rule) outcome
goes wanted rule h k = rw h.tells k

-- the same of a part whose outcome is not looked at
pub passes : {A B : Type 0} (wanted : Result A CheckMisfit) (rest : Result B CheckMisfit) {u : Unit {0}} {outcome : Came B}
    → IsChecked (unit_of wanted) (Ok u) → IsChecked rest outcome → IsChecked (wanted >>= (λ x. rest)) outcome
passes wanted rest {u = u} {outcome = outcome} h k = unit_joined wanted rest {part = Ok u} {outcome = outcome} h (record { goes_on = k })

pub halts : {A B : Type 0} (wanted : Result A CheckMisfit) (rest : Result B CheckMisfit) {e : CheckError}
    → IsChecked (unit_of wanted) (Err e) → IsChecked (wanted >>= (λ x. rest)) (Err e)
halts wanted rest {e = e} h = unit_joined wanted rest {part = Err e} {outcome = Err e} h (record { goes_on = refl })

three_goes : {A B C D : Type 0} (second : Result B CheckMisfit) (third : Result C CheckMisfit) (rule : A → B → C → Result D CheckMisfit)
    (a : Came A) (b : Came B) (c : Came C) (outcome : Came D) → IsChecked second b → IsChecked third c → GoesOnThree rule a b c outcome
    → GoesOnOne (λ x. second >>= (λ y. third >>= rule x y)) a outcome
three_goes second third rule (Ok x) b c outcome k l j = joined_two second third (rule x) {a = b} {b = c} {outcome = outcome} k l (record { goes_on = j })
three_goes second third rule (Err e) b c outcome k l j = j

pub joined_three : {A B C D : Type 0} (first : Result A CheckMisfit) (second : Result B CheckMisfit) (third : Result C CheckMisfit) (rule : A → B → C → Result D CheckMisfit)
    {a : Came A} {b : Came B} {c : Came C} {outcome : Came D} → IsChecked first a → IsChecked second b → IsChecked third c → JoinsThree rule a b c outcome
    → IsChecked (first >>= (λ x. second >>= (λ y. third >>= rule x y))) outcome
joined_three first second third rule {a = a} {b = b} {c = c} {outcome = outcome} h k l j =
    goes_on first (λ x. second >>= (λ y. third >>= rule x y)) a outcome h (three_goes second third rule a b c outcome k l j.goes_on)

-- ---- expressions

pub condition-checked : (test : Expr) (scope : Scope) {x : Came TypedExpr} {outcome : Came (Option TypedExpr)}
    → IsChecked (checked_expr test scope) x → Joins (λ y. Ok (Some y)) x outcome → IsChecked (spec.checked_condition (Some test) scope) outcome
condition-checked test scope h k = joined (checked_expr test scope) (λ y. Ok (Some y)) h k

pub target-stops : (axes : List Axis) (scope : Scope) {e : CheckError}
    → IsChecked (each_of (λ axis. checked_axis axis scope) axes) (Err e) → IsChecked (spec.checked_target (Some axes) scope) (Err e)
target-stops axes scope {e = e} h = rw (axes_is axes scope) (stopped (each_of (λ axis. checked_axis axis scope) axes) (λ xs. Ok (Some xs)) e h)

pub target-checked : (axes : List Axis) (scope : Scope) {xs : List TypedAxis}
    → IsChecked (each_of (λ axis. checked_axis axis scope) axes) (Ok xs) → IsChecked (spec.checked_target (Some axes) scope) (Ok (Some xs))
target-checked axes scope {xs = xs} h = rw (axes_is axes scope) (goes (each_of (λ axis. checked_axis axis scope) axes) (λ xs. Ok (Some xs)) h (record { tells = refl }))

-- ---- rules, where the parts are checked

module _ (from : List CheckedSource) {body : Came TypedExpr} {cond : Came (Option TypedExpr)} (x : TypedExpr) (t : Option TypedExpr) where
  pub selected-no_result : {e : CheckError} → body ≡ Ok x → cond ≡ Ok t → IsChecked (spec.result_body x) (Err e) → JoinsTwo (steps.selected_of from) body cond (Err e)
  selected-no_result {e = e} eb ec h = rw (eb, ec) (record { goes_on = stopped (spec.result_body x) (λ r. spec.bool_condition t >>= (λ s. Ok (checked.Select r from s))) e h })

  pub selected-no_test : {e : CheckError} → body ≡ Ok x → cond ≡ Ok t → IsChecked (spec.result_body x) (Ok x) → IsChecked (spec.bool_condition t) (Err e)
      → JoinsTwo (steps.selected_of from) body cond (Err e)
  selected-no_test {e = e} eb ec h k = rw (eb, ec) (record {
    goes_on =
        goes (spec.result_body x) (λ r. spec.bool_condition t >>= (λ s. Ok (checked.Select r from s))) h (stopped (spec.bool_condition t) (λ s. Ok (checked.Select x from s)) e k);
  })

  pub selected-all : body ≡ Ok x → cond ≡ Ok t → IsChecked (spec.result_body x) (Ok x) → IsChecked (spec.bool_condition t) (Ok t)
      → JoinsTwo (steps.selected_of from) body cond (Ok (checked.Select x from t))
  selected-all eb ec h k = rw (eb, ec) (record {
    goes_on =
        goes (spec.result_body x) (λ r. spec.bool_condition t >>= (λ s. Ok (checked.Select r from s))) h (goes (spec.bool_condition t) (λ s. Ok (checked.Select x from s)) k
        (record { tells = refl }));
  })

module _ (into : NameOf) (of : SetType) {body : Came TypedExpr} (x : TypedExpr) where
  pub inserted-no_body : {e : CheckError} → body ≡ Ok x → IsChecked (spec.whole_body of x) (Err e) → Joins (steps.inserted_of into of) body (Err e)
  inserted-no_body {e = e} eb h = rw eb (record { goes_on = stopped (spec.whole_body of x) (λ w. Ok (checked.Insert into of w)) e h })

  pub inserted-all : body ≡ Ok x → IsChecked (spec.whole_body of x) (Ok x) → Joins (steps.inserted_of into of) body (Ok (checked.Insert into of x))
  inserted-all eb h = rw eb (record { goes_on = goes (spec.whole_body of x) (λ w. Ok (checked.Insert into of w)) h (record { tells = refl }) })

module _ (from : CheckedSource) {cond : Came (Option TypedExpr)} (t : Option TypedExpr) where
  pub deleted-no_test : {e : CheckError} → cond ≡ Ok t → IsChecked (spec.bool_condition t) (Err e) → Joins (steps.deleted_of from) cond (Err e)
  deleted-no_test {e = e} ec h = rw ec (record { goes_on = stopped (spec.bool_condition t) (λ s. Ok (checked.Delete from s)) e h })

  pub deleted-all : cond ≡ Ok t → IsChecked (spec.bool_condition t) (Ok t) → Joins (steps.deleted_of from) cond (Ok (checked.Delete from t))
  deleted-all ec h = rw ec (record { goes_on = goes (spec.bool_condition t) (λ s. Ok (checked.Delete from s)) h (record { tells = refl }) })

module _ (from : CheckedSource) (target : Span) {axes : Came (Option (List TypedAxis))} {body : Came TypedExpr} {cond : Came (Option TypedExpr)}
    (xs : Option (List TypedAxis)) (x : TypedExpr) (t : Option TypedExpr) where
  pub updated-no_axes : {e : CheckError} → axes ≡ Ok xs → body ≡ Ok x → cond ≡ Ok t → IsChecked (spec.written_axes target from.of xs) (Err e)
      → JoinsThree (steps.updated_of from target) axes body cond (Err e)
  updated-no_axes {e = e} ea eb ec h = rw (ea, eb, ec) (record {
    goes_on =
        stopped (spec.written_axes target from.of xs)
        (λ region. spec.written_body xs from.of x >>= (λ written. spec.bool_condition t >>= (λ test. Ok (checked.Update from region target written test)))) e h;
  })

  pub updated-no_body : {e : CheckError} → axes ≡ Ok xs → body ≡ Ok x → cond ≡ Ok t → IsChecked (spec.written_axes target from.of xs) (Ok xs)
      → IsChecked (spec.written_body xs from.of x) (Err e) → JoinsThree (steps.updated_of from target) axes body cond (Err e)
  updated-no_body {e = e} ea eb ec h k = rw (ea, eb, ec) (record {
    goes_on =
        goes (spec.written_axes target from.of xs)
        (λ region. spec.written_body xs from.of x >>= (λ written. spec.bool_condition t >>= (λ test. Ok (checked.Update from region target written test)))) h
        (stopped (spec.written_body xs from.of x) (λ written. spec.bool_condition t >>= (λ test. Ok (checked.Update from xs target written test))) e k);
  })

  pub updated-no_test : {e : CheckError} → axes ≡ Ok xs → body ≡ Ok x → cond ≡ Ok t → IsChecked (spec.written_axes target from.of xs) (Ok xs)
      → IsChecked (spec.written_body xs from.of x) (Ok x) → IsChecked (spec.bool_condition t) (Err e) → JoinsThree (steps.updated_of from target) axes body cond (Err e)
  updated-no_test {e = e} ea eb ec h k l = rw (ea, eb, ec) (record {
    goes_on =
        goes (spec.written_axes target from.of xs)
        (λ region. spec.written_body xs from.of x >>= (λ written. spec.bool_condition t >>= (λ test. Ok (checked.Update from region target written test)))) h
        (goes (spec.written_body xs from.of x) (λ written. spec.bool_condition t >>= (λ test. Ok (checked.Update from xs target written test))) k
        (stopped (spec.bool_condition t) (λ test. Ok (checked.Update from xs target x test)) e l));
  })

  pub updated-all : axes ≡ Ok xs → body ≡ Ok x → cond ≡ Ok t → IsChecked (spec.written_axes target from.of xs) (Ok xs)
      → IsChecked (spec.written_body xs from.of x) (Ok x) → IsChecked (spec.bool_condition t) (Ok t)
      → JoinsThree (steps.updated_of from target) axes body cond (Ok (checked.Update from xs target x t))
  updated-all ea eb ec h k l = rw (ea, eb, ec) (record {
    goes_on =
        goes (spec.written_axes target from.of xs)
        (λ region. spec.written_body xs from.of x >>= (λ written. spec.bool_condition t >>= (λ test. Ok (checked.Update from region target written test)))) h
        (goes (spec.written_body xs from.of x) (λ written. spec.bool_condition t >>= (λ test. Ok (checked.Update from xs target written test))) k
        (goes (spec.bool_condition t) (λ test. Ok (checked.Update from xs target x test)) l (record { tells = refl })));
  })

-- ---- forms

module _ (catalog : Catalog) (size : ℕ) (body : Expr) (sources : List SourceName) (cond : Option Expr) where
  pub select-unknown : {e : CheckError} → IsChecked (spec.known_sources catalog sources) (Err e) → IsChecked (spec.checked_form catalog size (form.Select body sources cond)) (Err e)
  select-unknown {e = e} h = stopped (spec.known_sources catalog sources) (steps.select_from body sources cond) e h

  pub select-double : {from : List CheckedSource} {e : CheckError} → IsChecked (spec.known_sources catalog sources) (Ok from)
      → IsChecked (unit_of (spec.once_each [] (map spec.iterator_of sources))) (Err e) → IsChecked (spec.checked_form catalog size (form.Select body sources cond)) (Err e)
  select-double {from = from} h k =
      goes (spec.known_sources catalog sources) (steps.select_from body sources cond) h
      (halts (spec.once_each [] (map spec.iterator_of sources)) (steps.select_over body cond from) k)

  pub select-checked : {from : List CheckedSource} {u : Unit {0}} {x : Came TypedExpr} {t : Came (Option TypedExpr)} {outcome : Came CheckedForm}
      → IsChecked (spec.known_sources catalog sources) (Ok from) → IsChecked (unit_of (spec.once_each [] (map spec.iterator_of sources))) (Ok u)
      → IsChecked (checked_expr body (scope_of from)) x → IsChecked (spec.checked_condition cond (scope_of from)) t → JoinsTwo (steps.selected_of from) x t outcome
      → IsChecked (spec.checked_form catalog size (form.Select body sources cond)) outcome
  select-checked {from = from} h k hx ht j =
      goes (spec.known_sources catalog sources) (steps.select_from body sources cond) h
      (passes (spec.once_each [] (map spec.iterator_of sources)) (steps.select_over body cond from) k
      (joined_two (checked_expr body (scope_of from)) (spec.checked_condition cond (scope_of from)) (steps.selected_of from) hx ht j))

module _ (catalog : Catalog) (size : ℕ) (into : Spanned) (body : Expr) where
  pub insert-unknown : {e : CheckError} → IsChecked (spec.known_collection catalog into) (Err e) → IsChecked (spec.checked_form catalog size (form.Insert into body)) (Err e)
  insert-unknown {e = e} h = stopped (spec.known_collection catalog into) (steps.insert_of into.name body) e h

  pub insert-checked : {of : SetType} {x : Came TypedExpr} {outcome : Came CheckedForm}
      → IsChecked (spec.known_collection catalog into) (Ok of) → IsChecked (checked_expr body (scope_of [])) x → Joins (steps.inserted_of into.name of) x outcome
      → IsChecked (spec.checked_form catalog size (form.Insert into body)) outcome
  insert-checked {of = of} h hx j =
      goes (spec.known_collection catalog into) (steps.insert_of into.name body) h (joined (checked_expr body (scope_of [])) (steps.inserted_of into.name of) hx j)

module _ (catalog : Catalog) (size : ℕ) (source : SourceName) (cond : Option Expr) where
  pub delete-unknown : {e : CheckError} → IsChecked (spec.known_source catalog source) (Err e) → IsChecked (spec.checked_form catalog size (form.Delete source cond)) (Err e)
  delete-unknown {e = e} h = stopped (spec.known_source catalog source) (steps.delete_of cond) e h

  pub delete-checked : {from : CheckedSource} {t : Came (Option TypedExpr)} {outcome : Came CheckedForm}
      → IsChecked (spec.known_source catalog source) (Ok from) → IsChecked (spec.checked_condition cond (scope_of (from ∷ []))) t → Joins (steps.deleted_of from) t outcome
      → IsChecked (spec.checked_form catalog size (form.Delete source cond)) outcome
  delete-checked {from = from} h ht j =
      goes (spec.known_source catalog source) (steps.delete_of cond) h (joined (spec.checked_condition cond (scope_of (from ∷ []))) (steps.deleted_of from) ht j)

module _ (catalog : Catalog) (source : SourceName) (set : Spanned) where
  pub source-unknown : {e : CheckError} → IsChecked (spec.known_source catalog source) (Err e) → IsChecked (steps.updated_source catalog source set) (Err e)
  source-unknown {e = e} h = stopped (spec.known_source catalog source) (λ from. spec.same_iterator set from.iterator >>= (λ name. Ok from)) e h

  pub source-other : {from : CheckedSource} {e : CheckError} → IsChecked (spec.known_source catalog source) (Ok from) → IsChecked (spec.same_iterator set from.iterator) (Err e)
      → IsChecked (steps.updated_source catalog source set) (Err e)
  source-other {from = from} {e = e} h k =
      goes (spec.known_source catalog source) (λ from. spec.same_iterator set from.iterator >>= (λ name. Ok from)) h
      (stopped (spec.same_iterator set from.iterator) (λ name. Ok from) e k)

  pub source-named : {from : CheckedSource} → IsChecked (spec.known_source catalog source) (Ok from) → IsChecked (spec.same_iterator set from.iterator) (Ok from.iterator)
      → IsChecked (steps.updated_source catalog source set) (Ok from)
  source-named {from = from} h k =
      goes (spec.known_source catalog source) (λ from. spec.same_iterator set from.iterator >>= (λ name. Ok from)) h
      (goes (spec.same_iterator set from.iterator) (λ name. Ok from) k (record { tells = refl }))

-- steps group either way
regrouped_named : {A N C : Type 0} (named : Result N CheckMisfit) (x : A) (rule : A → Result C CheckMisfit)
    → (named >>= (λ n. rule x)) ≡ ((named >>= (λ n. Ok x)) >>= rule)
regrouped_named (Ok n) x rule = refl
regrouped_named (Err f) x rule = refl

regrouped : {A N C : Type 0} (part : Result A CheckMisfit) (named : A → Result N CheckMisfit) (rule : A → Result C CheckMisfit)
    → (part >>= (λ x. named x >>= (λ n. rule x))) ≡ ((part >>= (λ x. named x >>= (λ n. Ok x))) >>= rule)
regrouped (Ok x) named rule = regrouped_named (named x) x rule
regrouped (Err f) named rule = refl

-- what an update is of its source, the name after set being the iterator
pub update-over : (axes : Option (List Axis)) (target : Span) (body : Expr) (cond : Option Expr) {source : Came CheckedSource} (from : CheckedSource)
    {xs : Came (Option (List TypedAxis))} {x : Came TypedExpr} {t : Came (Option TypedExpr)} {outcome : Came CheckedForm}
    → source ≡ Ok from
    → IsChecked (spec.checked_target axes (scope_of (from ∷ []))) xs → IsChecked (checked_expr body (scope_of (from ∷ []))) x
    → IsChecked (spec.checked_condition cond (scope_of (from ∷ []))) t → JoinsThree (steps.updated_of from target) xs x t outcome
    → Joins (steps.update_over axes target body cond) source outcome
update-over axes target body cond from es ha hx ht j = rw es (record {
  goes_on =
      joined_three (spec.checked_target axes (scope_of (from ∷ []))) (checked_expr body (scope_of (from ∷ []))) (spec.checked_condition cond (scope_of (from ∷ [])))
      (steps.updated_of from target) ha hx ht j;
})

pub update-checked : (catalog : Catalog) (size : ℕ) (source : SourceName) (set : Spanned) (axes : Option (List Axis)) (target : Span) (body : Expr) (cond : Option Expr)
    {from : Came CheckedSource} {outcome : Came CheckedForm}
    → IsChecked (steps.updated_source catalog source set) from → Joins (steps.update_over axes target body cond) from outcome
    → IsChecked (spec.checked_form catalog size (form.Update source set axes target body cond)) outcome
update-checked catalog size source set axes target body cond h j =
    rw (regrouped (spec.known_source catalog source) (λ from. spec.same_iterator set from.iterator) (steps.update_over axes target body cond))
    (joined (steps.updated_source catalog source set) (steps.update_over axes target body cond) h j)

module _ (catalog : Catalog) (size : ℕ) (name of : Spanned) where
  pub create-known : {e : CheckError} → IsChecked (spec.new_collection catalog name) (Err e) → IsChecked (spec.checked_form catalog size (form.Create name of)) (Err e)
  create-known {e = e} h = stopped (spec.new_collection catalog name) (λ new. spec.known_type catalog of >>= (λ place. Ok (checked.Create new place))) e h

  pub create-no_type : {new : NameOf} {e : CheckError} → IsChecked (spec.new_collection catalog name) (Ok new) → IsChecked (spec.known_type catalog of) (Err e)
      → IsChecked (spec.checked_form catalog size (form.Create name of)) (Err e)
  create-no_type {new = new} {e = e} h k =
      goes (spec.new_collection catalog name) (λ new. spec.known_type catalog of >>= (λ place. Ok (checked.Create new place))) h
      (stopped (spec.known_type catalog of) (λ place. Ok (checked.Create new place)) e k)

  pub create-checked : {new : NameOf} {place : ℕ} → IsChecked (spec.new_collection catalog name) (Ok new) → IsChecked (spec.known_type catalog of) (Ok place)
      → IsChecked (spec.checked_form catalog size (form.Create name of)) (Ok (checked.Create new place))
  create-checked {new = new} {place = place} h k =
      goes (spec.new_collection catalog name) (λ new. spec.known_type catalog of >>= (λ place. Ok (checked.Create new place))) h
      (goes (spec.known_type catalog of) (λ place. Ok (checked.Create new place)) k (record { tells = refl }))

module _ (catalog : Catalog) (size : ℕ) (name : Spanned) where
  pub drop-unknown : {e : CheckError} → IsChecked (unit_of (spec.known_collection catalog name)) (Err e) → IsChecked (spec.checked_form catalog size (form.Drop name)) (Err e)
  drop-unknown h = halts (spec.known_collection catalog name) (Ok (checked.Drop name.name)) h

  pub drop-checked : {u : Unit {0}} → IsChecked (unit_of (spec.known_collection catalog name)) (Ok u)
      → IsChecked (spec.checked_form catalog size (form.Drop name)) (Ok (checked.Drop name.name))
  drop-checked h = passes (spec.known_collection catalog name) (Ok (checked.Drop name.name)) h (record { tells = refl })

module _ (catalog : Catalog) (statement : Statement) where
  pub statement-stops : {e : CheckError} → IsChecked (spec.checked_form catalog statement.length statement.form) (Err e) → IsChecked (spec.checked_statement catalog statement) (Err e)
  statement-stops {e = e} h = stopped (spec.checked_form catalog statement.length statement.form) (λ f. Ok (record { form = f; length = statement.length })) e h

  pub statement-checked : {f : CheckedForm} → IsChecked (spec.checked_form catalog statement.length statement.form) (Ok f)
      → IsChecked (spec.checked_statement catalog statement) (Ok (record { form = f; length = statement.length }))
  statement-checked {f = f} h =
      goes (spec.checked_form catalog statement.length statement.form) (λ f. Ok (record { form = f; length = statement.length })) h (record { tells = refl })
