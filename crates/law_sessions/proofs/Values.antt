-- The replies of texts' statements have a text: each cell of a value that isn't null has a number.
use Rattle.std.proofs.Common.{◌≡◌, ◌≢◌, ℕ, ◌≤◌, ℤ, Bool, true, false, if◌then◌else◌, List, [], ◌∷◌, length, map, None, Result, Ok, Err, refl, sym, subst, arith}
use Rattle.std.specs.List.{AllByRecursion, AllZip}
use Rattle.std.proofs.lemmas.List.Elements.{All-from_recursion, All-nil}
use Rattle.ras_cells.specs.Atoms.{AreInRange}
use Rattle.ras_cells.specs.declared.atom.Atom.{Atom}
use Rattle.ras_cells.specs.declared.cell.Cell.{Cell}
use Rattle.ras_cells.specs.declared.cell.Cell.TheVariants.{Null, Value}
use Rattle.ras_cells.specs.declared.cell.CellFault.{CellFault}
use Rattle.ras_cells.specs.declared.cell.CellType.{CellType}
use Rattle.ras_cells.specs.declared.cell.CellType.TheVariants as types
use Rattle.ras_cells.specs.Laws.{IsCellOf}
use Rattle.ras_cells.specs.Outcomes.{◌>>=◌}
use Rattle.ras_cells.specs.Stored.{atoms_of}
use Rattle.ras_domain.proofs.BoxTests.{each_point}
use Rattle.ras_domain.specs.Region.{points_of}
use Rattle.ras_syntax.specs.declared.faults.ShapeFault.TheVariants.{TooManyLocks}
use Rattle.ras_syntax.specs.declared.statement.Statement.{Statement}
use Rattle.ras_syntax.specs.declared.statement.StatementForm.{StatementForm}
use Rattle.ras_syntax.specs.declared.statement.StatementForm.TheVariants as written
use Rattle.ras_syntax.specs.declared.typed.Checked.{Checked}
use Rattle.ras_syntax.specs.declared.typed.CheckedForm.{CheckedForm}
use Rattle.ras_syntax.specs.declared.typed.CheckedForm.TheVariants as made
use Rattle.ras_syntax.specs.declared.typed.CheckedSource.{CheckedSource}
use Rattle.ras_syntax.specs.declared.typed.Kind.{Kind}
use Rattle.ras_syntax.specs.declared.typed.Kind.TheVariants as kinds
use Rattle.ras_syntax.specs.declared.types.SetType.{SetType}
use Rattle.spec_expressions.specs.Check.{CheckMisfit, checked_expr, kind_of}
use Rattle.spec_expressions.specs.Database.{Database}
use Rattle.spec_expressions.specs.Eval.{Environment, all_outcomes, box_in, cell_at, cells_of, domains_in, with_place}
use Rattle.spec_expressions.specs.Fits.{AreMembersOf, IsCellOfKind, IsPointOf}
use Rattle.spec_expressions.specs.SetTypes.{HasComponents}
use Rattle.spec_expressions.specs.Shape.{Shape, ShapeMisfit, array, box, box_of, scalar, shape_of}
use Rattle.spec_expressions.specs.Tree.{Condition, Tree, always, only_where, tree_of}
use Rattle.spec_expressions.specs.WellTyped.{IsWellTyped, kind_in}
use Rattle.spec_statements.specs.CheckStatement.{Catalog, bool_condition, checked_condition, checked_form, checked_statement, checked_target, is_result, iterator_of, known_collection, known_source, known_sources, known_type, new_collection, once_each, result_body, same_iterator, scope_of, whole_body, written_axes, written_body}
use Rattle.spec_statements.specs.Effects.{StatementOutcome, Stores, faulty_in, insert_outcome, outcome_of, outcome_of_plans, plan_stores, reply_in, row_reply, stores_of_plans, values_of_plans}
use Rattle.spec_statements.specs.Limits.{is_select, limited_locks, limited_reply}
use Rattle.spec_statements.specs.Machine.{catalog_of, checked_over, first_list, is_too_long, reply_after_check, reply_of}
use Rattle.spec_statements.specs.Phases.{first_failing, phase_2_list, phase_3_list, phase_4_list, shaped_condition, until_bodies, until_condition, until_domains, until_passing, until_plans, until_rows}
use Rattle.spec_statements.specs.Plans.{Plan, misfit_in, plans_of, read_plan, row_plan}
use Rattle.spec_statements.specs.ReachLaw.{IsSetting}
use Rattle.spec_statements.specs.Reply.{Reply, RowReply, misfit, values}
use Rattle.spec_statements.specs.Rows.{Row, environment_of, passing_of, rows_of, sources_of, where_of}
use Rattle.spec_statements.specs.Statement.{Request, StatementTree, create, delete, drop, insert, request_of, select, statement_tree_of, update}
use Rattle.spec_sessions.specs.Printable.{HasAnyNumber, ReplyHasText, RowHasText}
use Rattle.law_cells.proofs.CellKinds.{tree-typed}
use Rattle.law_cells.proofs.Scopes.{AreSmall}
use Rattle.law_checks.proofs.Parts.{kind_in-tree_of}
use Rattle.law_effects.proofs.Rows.{until_bodies_ok, until_plans-each}
use Rattle.law_lists.proofs.Choices.{ok_keeps}
use Rattle.law_lists.proofs.Each.{each_any, each_weaker}
use Rattle.law_locks.proofs.Known.{known}
use Rattle.law_locks.proofs.Pairs.{ArePairs, IsOver, left_fits, rows_pair}
use Rattle.law_locks.proofs.Planned.{IsTypedBody, body_in}
use Rattle.law_shapes.proofs.Outcomes.{bind_ok, where_ok}
use Rattle.law_sessions.proofs.WideExpressions.{IsBodyWide, IsSourceWide}
use Rattle.law_sessions.proofs.Widths.{IsWide, IsWideKind}

-- ---- replies that stop a statement are no values

abbrev StopsWithText : {A : Type 0} → Result A Reply → Type 0
StopsWithText r = (reply : Reply) → r ≡ Err reply → ReplyHasText reply

ok-stops : {A : Type 0} (a : A) → StopsWithText {A = A} (Ok a)
ok-stops a reply is = absurd cc

err-stops : {A : Type 0} (first : Reply) → ReplyHasText first → StopsWithText {A = A} (Err first)
err-stops {A = A} first has reply is = subst ReplyHasText (same first reply is) has
  where
    same : (x y : Reply) → (let r : Result A Reply = Err x in r ≡ Err y) → x ≡ y
    same x y e = cc

bind-stops : {A B : Type 0} (r : Result A Reply) (f : A → Result B Reply) → StopsWithText r → ((a : A) → StopsWithText (f a)) → StopsWithText (r >>= f)
bind-stops (Ok a) f first later = later a
bind-stops {A = A} {B = B} (Err fault) f first later = err-stops {A = B} fault (first fault refl)

if-stops : {A : Type 0} (b : Bool) (first : Reply) (a : A) → ReplyHasText first → StopsWithText (if b then Err first else Ok a)
if-stops {A = A} true first a has = err-stops {A = A} first has
if-stops false first a has = ok-stops a

misfit-stops : {A : Type 0} (k : ℕ) (r : Result A ShapeMisfit) → StopsWithText (misfit_in k r)
misfit-stops k (Ok a) = ok-stops a
misfit-stops {A = A} k (Err fault) = err-stops {A = A} _ tt

faulty-stops : {A : Type 0} (k : ℕ) (r : Result A (List ℤ × CellFault)) → StopsWithText (faulty_in k r)
faulty-stops k (Ok a) = ok-stops a
faulty-stops {A = A} k (Err fault) = err-stops {A = A} _ tt

locks-stop : (tree : StatementTree) (asked : List _) → StopsWithText (limited_locks tree asked)
locks-stop tree asked = if-stops _ _ asked tt

rows-stop : (tree : StatementTree) (database : Database) → StopsWithText (until_rows tree database)
rows-stop tree database = if-stops _ _ _ tt

domains-stop : (tree : StatementTree) (database : Database) → StopsWithText (until_domains tree database)
domains-stop tree database =
    bind-stops (until_rows tree database) _ (rows-stop tree database) (λ rows.
    bind-stops (limited_locks tree (phase_2_list tree rows)) _ (locks-stop tree (phase_2_list tree rows)) (λ asked. ok-stops rows))

shaped-stops : (condition : Condition) (rows : List (ℕ × Row)) → StopsWithText (shaped_condition condition rows)
shaped-stops always rows = ok-stops rows
shaped-stops (only_where c) [] = ok-stops []
shaped-stops (only_where c) (row ∷ rows) =
    bind-stops (misfit_in row.0 (shape_of (domains_in (environment_of row.1)) c)) _ (misfit-stops row.0 (shape_of (domains_in (environment_of row.1)) c)) (λ shape.
    bind-stops (shaped_condition (only_where c) rows) _ (shaped-stops (only_where c) rows) (λ others. ok-stops (row ∷ others)))

condition-stops : (tree : StatementTree) (database : Database) → StopsWithText (until_condition tree database)
condition-stops tree database =
    bind-stops (until_domains tree database) _ (domains-stop tree database) (λ rows. shaped-stops (where_of tree.request) rows)

first-stops : (r : Result (List (ℕ × Row)) (ℕ × CellFault)) → StopsWithText (first_failing r)
first-stops (Ok rows) = ok-stops rows
first-stops (Err fault) = err-stops {A = List (ℕ × Row)} _ tt

passing-stops : (tree : StatementTree) (database : Database) → StopsWithText (until_passing tree database)
passing-stops tree database =
    bind-stops (until_condition tree database) _ (condition-stops tree database) (λ rows.
    bind-stops (limited_locks tree (phase_3_list tree rows)) _ (locks-stop tree (phase_3_list tree rows)) (λ asked.
    first-stops (passing_of (where_of tree.request) rows)))

made-stops : (request : Request) (rows : List (ℕ × Row)) → StopsWithText (plans_of request rows)
made-stops request [] = ok-stops []
made-stops request (row ∷ rows) =
    bind-stops (misfit_in row.0 (row_plan request row)) _ (misfit-stops row.0 (row_plan request row)) (λ plan.
    bind-stops (plans_of request rows) _ (made-stops request rows) (λ plans. ok-stops (plan ∷ plans)))

limited-stops : (selects : Bool) (tree : StatementTree) (plans : List Plan) → StopsWithText (if selects then limited_reply tree plans else Ok plans)
limited-stops true tree plans = if-stops _ _ plans tt
limited-stops false tree plans = ok-stops plans

plans-stop : (tree : StatementTree) (database : Database) → StopsWithText (until_plans tree database)
plans-stop tree database =
    bind-stops (until_passing tree database) _ (passing-stops tree database) (λ rows.
    bind-stops (plans_of tree.request rows) _ (made-stops tree.request rows) (λ plans. limited-stops (is_select tree.request) tree plans))

bodies-stop : (tree : StatementTree) (database : Database) → StopsWithText (until_bodies tree database)
bodies-stop tree database =
    bind-stops (until_plans tree database) _ (plans-stop tree database) (λ plans.
    bind-stops (limited_locks tree (phase_4_list tree plans)) _ (locks-stop tree (phase_4_list tree plans)) (λ asked. ok-stops plans))

values-stop : (body : Tree) (plans : List Plan) → StopsWithText (values_of_plans body plans)
values-stop body [] = ok-stops []
values-stop body (plan ∷ plans) =
    bind-stops (faulty_in plan.number (cells_of (environment_of plan.row) body)) _ (faulty-stops plan.number (cells_of (environment_of plan.row) body)) (λ cells.
    bind-stops (values_of_plans body plans) _ (values-stop body plans) (λ others. ok-stops (row_reply plan.shape cells ∷ others)))

stores-stop : (store : _) (body : Tree) (plans : List Plan) → StopsWithText (stores_of_plans store body plans)
stores-stop store body [] = ok-stops []
stores-stop store body (plan ∷ plans) =
    bind-stops (plan_stores store body plan) _ (faulty-stops plan.number _) (λ stores.
    bind-stops (stores_of_plans store body plans) _ (stores-stop store body plans) (λ others. ok-stops ((plan, stores) ∷ others)))

done-stops : (request : Request) (plans : List Plan) (database : Database) → StopsWithText (outcome_of_plans request plans database)
done-stops (select body sources condition) plans database =
    bind-stops (values_of_plans body plans) _ (values-stop body plans) (λ rows. ok-stops (values rows, database))
done-stops (insert into of body) plans database =
    bind-stops (stores_of_plans _ body plans) _ (stores-stop _ body plans) (λ stores. ok-stops (insert_outcome into of database stores))
done-stops (delete source condition) plans database = ok-stops _
done-stops (update source axes target body condition) plans database =
    bind-stops (stores_of_plans _ body plans) _ (stores-stop _ body plans) (λ stores. ok-stops _)
done-stops (create name of) plans database = ok-stops _
done-stops (drop name) plans database = ok-stops _

-- ---- cells

some-range : (atoms : List Atom) (zs : List ℤ) → AreInRange atoms zs → 1 ≤ length atoms → zs ≢ []
some-range [] zs within some = absurd (omega (arith, some))
some-range (atom ∷ atoms) [] within some = absurd within
some-range (atom ∷ atoms) (z ∷ zs) within some = λ is. cc

typed-cell : (type : CellType) (cell : Cell) → IsCellOf (atoms_of type) cell → IsWide type → HasAnyNumber cell
typed-cell type Null is wide = tt
typed-cell type (Value numbers) is wide = some-range (atoms_of type) numbers.items is wide

cell-text : (kind : Kind) (cell : Cell) → IsCellOfKind kind cell → IsWideKind kind → HasAnyNumber cell
cell-text (kinds.Scalar type) cell is wide = typed-cell type cell is wide
cell-text (kinds.Array type n) cell is wide = typed-cell type cell is wide
cell-text (kinds.Domain n) cell is wide = subst HasAnyNumber (sym is) tt
cell-text (kinds.Point n) cell is wide = subst HasAnyNumber (sym is) tt

shape-points : (shape : Shape) → AllByRecursion (IsPointOf shape) (points_of (box_of shape))
shape-points scalar = each_any (IsPointOf scalar) (λ p. tt) (points_of (box_of scalar))
shape-points (array axes) = each_point axes
shape-points (box axes) = each_any (IsPointOf (box axes)) (λ p. tt) (points_of axes)

placed-ok : (p : List ℤ) (r : Result Cell CellFault) (cell : Cell) → with_place p r ≡ Ok cell → r ≡ Ok cell
placed-ok p (Ok x) cell is = let e : x ≡ cell = cc in cc
placed-ok p (Err fault) cell is = absurd cc

outcomes-text : (cells : List ℤ → Result Cell CellFault) (P : List ℤ → Type 0) (ps : List (List ℤ)) (found : List Cell)
    → ((p : List ℤ) (cell : Cell) → P p → cells p ≡ Ok cell → HasAnyNumber cell) → AllByRecursion P ps → all_outcomes cells ps ≡ Ok found
    → AllByRecursion HasAnyNumber found
outcomes-text cells P [] found has each is = ok_keeps (AllByRecursion HasAnyNumber) [] found is tt
outcomes-text cells P (p ∷ ps) found has each is =
    let (x, first, then_1) = bind_ok (with_place p (cells p)) _ found is in
    let (xs, others, last) = bind_ok (all_outcomes cells ps) _ found then_1 in
    ok_keeps (AllByRecursion HasAnyNumber) (x ∷ xs) found last (has p x each.0 (placed-ok p (cells p) x first), outcomes-text cells P ps xs has each.1 others)

row-text : (shape : Shape) (cells : List Cell) → AllByRecursion HasAnyNumber cells → RowHasText (row_reply shape cells)
row-text scalar [] each = tt
row-text scalar (cell ∷ cells) each = each.0
row-text (array axes) cells each = All-from_recursion HasAnyNumber cells each
row-text (box axes) cells each = tt

faulty-ok : {A : Type 0} (k : ℕ) (r : Result A (List ℤ × CellFault)) (a : A) → faulty_in k r ≡ Ok a → r ≡ Ok a
faulty-ok k (Ok x) a is = let e : x ≡ a = cc in cc
faulty-ok k (Err fault) a is = absurd cc

-- ---- a select

module _ (sources : List CheckedSource) (body : Tree) (typed : IsWellTyped sources [] body) (wide : IsWideKind (kind_in body)) where
  -- a plan whose row fits the sources, and whose shape is the body's
  abbrev IsFitPlan : Plan → Type 0
  IsFitPlan plan = AreMembersOf sources plan.row × (shape_of (domains_in (environment_of plan.row)) body ≡ Ok plan.shape)

  no_variables : (row : Row) → AreSmall (environment_of row).variables
  no_variables row = All-nil _

  plan-text : (plan : Plan) (cells : List Cell) → IsFitPlan plan → cells_of (environment_of plan.row) body ≡ Ok cells → AllByRecursion HasAnyNumber cells
  plan-text plan cells fit is =
      let scope : Environment = environment_of plan.row in
      let points : AllByRecursion (IsPointOf plan.shape) (points_of (box_in (shape_of (domains_in scope) body))) = subst
      (λ r. AllByRecursion (IsPointOf plan.shape) (points_of (box_in r))) (sym fit.1) (shape-points plan.shape) in
      outcomes-text (cell_at scope body) (IsPointOf plan.shape) (points_of (box_in (shape_of (domains_in scope) body))) cells
      (λ p cell at found. cell-text (kind_in body) cell (tree-typed sources [] scope body fit.0 (no_variables plan.row) typed plan.shape p cell fit.1 at found) wide) points is

  values-text : (plans : List Plan) (rows : List RowReply) → AllByRecursion IsFitPlan plans → values_of_plans body plans ≡ Ok rows → AllByRecursion RowHasText rows
  values-text [] rows fit is = ok_keeps (AllByRecursion RowHasText) [] rows is tt
  values-text (plan ∷ plans) rows fit is =
      let (cells, found, then_1) = bind_ok (faulty_in plan.number (cells_of (environment_of plan.row) body)) _ rows is in
      let (others, later, last) = bind_ok (values_of_plans body plans) _ rows then_1 in
      ok_keeps (AllByRecursion RowHasText) (row_reply plan.shape cells ∷ others) rows last
      (row-text plan.shape cells (plan-text plan cells fit.0 (faulty-ok plan.number (cells_of (environment_of plan.row) body) cells found)), values-text plans others fit.1 later)

  read-fit : (row : ℕ × Row) (plan : Plan) → AreMembersOf sources row.1 → read_plan body row ≡ Ok plan → IsFitPlan plan
  read-fit row plan members is =
      let (shape, shaped, last) = bind_ok (shape_of (domains_in (environment_of row.1)) body) _ plan is in
      ok_keeps IsFitPlan (record { number = row.0; row = row.1; shape = shape; cuts = []; writing = None }) plan last (members, shaped)

-- what holds of the first of each pair
zip-first : {A B : Type 0} (R : A → B → Type 0) (P : A → Type 0) → ((a : A) (b : B) → R a b → P a) → (xs : List A) (ys : List B) → AllZip R xs ys → AllByRecursion P xs
zip-first R P gives [] [] all = tt
zip-first R P gives [] (y ∷ ys) all = absurd all
zip-first R P gives (x ∷ xs) [] all = absurd all
zip-first R P gives (x ∷ xs) (y ∷ ys) all = (gives x y all.0, zip-first R P gives xs ys all.1)

-- ---- what the check gives

abbrev IsSelectWide : Request → Type 0
IsSelectWide (select body sources condition) = AllByRecursion IsSourceWide sources → IsWideKind (kind_in body)
IsSelectWide (insert into of body) = Unit {0}
IsSelectWide (delete source condition) = Unit {0}
IsSelectWide (update source axes target body condition) = Unit {0}
IsSelectWide (create name of) = Unit {0}
IsSelectWide (drop name) = Unit {0}

form-select : (catalog : Catalog) (size : ℕ) (form : StatementForm) (checked : CheckedForm) → IsBodyWide form → checked_form catalog size form ≡ Ok checked
    → IsSelectWide (request_of checked)
form-select catalog size (written.Select body sources condition) checked wide is =
    let (from, known_from, then_1) = bind_ok (known_sources catalog sources) _ checked is in
    let (names, once, then_2) = bind_ok (once_each [] (map iterator_of sources)) _ checked then_1 in
    let (e, checked_e, then_3) = bind_ok (checked_expr body (scope_of from)) _ checked then_2 in
    let (c, checked_c, then_4) = bind_ok (checked_condition condition (scope_of from)) _ checked then_3 in
    let (result, is_body, then_5) = bind_ok (result_body e) _ checked then_4 in
    let (test, is_test, last) = bind_ok (bool_condition c) _ checked then_5 in
    let same : e ≡ result = ok_keeps (λ x. e ≡ x) e result (where_ok (is_result (tree_of e)) _ _ result is_body).1 refl in
    ok_keeps (λ f. IsSelectWide (request_of f)) (made.Select result from test) checked last
    (λ sources_wide. subst IsWideKind (sym (kind_in-tree_of result)) (subst (λ x. IsWideKind (kind_of x)) same (wide (scope_of from) e sources_wide checked_e)))
form-select catalog size (written.Insert into body) checked wide is =
    let (of, known_of, then_1) = bind_ok (known_collection catalog into) _ checked is in
    let (e, checked_e, then_2) = bind_ok (checked_expr body (scope_of [])) _ checked then_1 in
    let (whole, is_whole, last) = bind_ok (whole_body of e) _ checked then_2 in
    ok_keeps (λ f. IsSelectWide (request_of f)) (made.Insert _ of whole) checked last tt
form-select catalog size (written.Delete source condition) checked wide is =
    let (from, known_from, then_1) = bind_ok (known_source catalog source) _ checked is in
    let (c, checked_c, then_2) = bind_ok (checked_condition condition (scope_of (from ∷ []))) _ checked then_1 in
    let (test, is_test, last) = bind_ok (bool_condition c) _ checked then_2 in
    ok_keeps (λ f. IsSelectWide (request_of f)) (made.Delete from test) checked last tt
form-select catalog size (written.Update source set axes target body condition) checked wide is =
    let (from, known_from, then_1) = bind_ok (known_source catalog source) _ checked is in
    let (name, is_name, then_2) = bind_ok (same_iterator set from.iterator) _ checked then_1 in
    let (xs, checked_xs, then_3) = bind_ok (checked_target axes (scope_of (from ∷ []))) _ checked then_2 in
    let (e, checked_e, then_4) = bind_ok (checked_expr body (scope_of (from ∷ []))) _ checked then_3 in
    let (c, checked_c, then_5) = bind_ok (checked_condition condition (scope_of (from ∷ []))) _ checked then_4 in
    let (region, is_region, then_6) = bind_ok (written_axes target from.of xs) _ checked then_5 in
    let (body', is_body, then_7) = bind_ok (written_body xs from.of e) _ checked then_6 in
    let (test, is_test, last) = bind_ok (bool_condition c) _ checked then_7 in
    ok_keeps (λ f. IsSelectWide (request_of f)) (made.Update from region target body' test) checked last tt
form-select catalog size (written.Create name of) checked wide is =
    let (new, is_new, then_1) = bind_ok (new_collection catalog name) _ checked is in
    let (place, is_place, last) = bind_ok (known_type catalog of) _ checked then_1 in
    ok_keeps (λ f. IsSelectWide (request_of f)) (made.Create new place) checked last tt
form-select catalog size (written.Drop name) checked wide is =
    let (of, known_of, last) = bind_ok (known_collection catalog name) _ checked is in
    ok_keeps (λ f. IsSelectWide (request_of f)) (made.Drop _) checked last tt
form-select catalog size (written.Word word') checked wide is = absurd cc

statement-select : (catalog : Catalog) (statement : Statement) (checked : Checked) → IsBodyWide statement.form → checked_statement catalog statement ≡ Ok checked
    → IsSelectWide (statement_tree_of checked).request
statement-select catalog statement checked wide is =
    let (form, found, last) = bind_ok (checked_form catalog statement.length statement.form) _ checked is in
    ok_keeps (λ c. IsSelectWide (statement_tree_of c).request) (record { form = form; length = statement.length }) checked last
    (form-select catalog statement.length statement.form form wide found)

-- a declared type has an atom
components-wide : (type : CellType) (names : List (List ℕ)) → HasComponents type names → IsWide type
components-wide (types.Atom atom) names has = omega arith
components-wide (types.Composite atoms) names has = has.0

-- ---- replies

outcome-text : (request : Request) (plans : List Plan) (database : Database) (o : StatementOutcome)
    → ((body : Tree) (sources : List CheckedSource) (condition : Condition) (rows : List RowReply) → request ≡ select body sources condition
    → values_of_plans body plans ≡ Ok rows → AllByRecursion RowHasText rows)
    → outcome_of_plans request plans database ≡ Ok o → ReplyHasText o.0
outcome-text (select body sources condition) plans database o has is =
    let (rows, found, last) = bind_ok (values_of_plans body plans) _ o is in
    ok_keeps (λ (v : StatementOutcome). ReplyHasText v.0) (values rows, database) o last (All-from_recursion RowHasText rows (has body sources condition rows refl found))
outcome-text (insert into of body) plans database o has is =
    let (stores, found, last) = bind_ok (stores_of_plans _ body plans) _ o is in
    ok_keeps (λ (v : StatementOutcome). ReplyHasText v.0) (insert_outcome into of database stores) o last (inserted stores)
  where
    inserted : (stores : List (Plan × Stores)) → ReplyHasText (insert_outcome into of database stores).0
    inserted [] = tt
    inserted (one ∷ others) = tt
outcome-text (delete source condition) plans database o has is = ok_keeps (λ (v : StatementOutcome). ReplyHasText v.0) _ o is tt
outcome-text (update source axes target body condition) plans database o has is =
    let (stores, found, last) = bind_ok (stores_of_plans _ body plans) _ o is in
    ok_keeps (λ (v : StatementOutcome). ReplyHasText v.0) _ o last tt
outcome-text (create name of) plans database o has is = ok_keeps (λ (v : StatementOutcome). ReplyHasText v.0) _ o is tt
outcome-text (drop name) plans database o has is = ok_keeps (λ (v : StatementOutcome). ReplyHasText v.0) _ o is tt

in-text : (r : Result StatementOutcome Reply) → StopsWithText r → ((o : StatementOutcome) → r ≡ Ok o → ReplyHasText o.0) → ReplyHasText (reply_in r)
in-text (Ok o) stops gives = gives o refl
in-text (Err reply) stops gives = stops reply refl

module _ (types' : List SetType) (statement : Statement) (database : Database) (setting : IsSetting types' statement database) (wide : IsBodyWide statement.form) where
  module _ (checked : Checked) (short : is_too_long (first_list statement) ≡ false) (is : checked_over types' statement database ≡ Ok checked) where
    abbrev request : Request
    request = (statement_tree_of checked).request

    over : AllByRecursion (IsOver types' database database) (sources_of request)
    over = (known types' statement database database (first_list statement) checked setting setting.valid (λ name mode has. refl) short (λ name named. named) is).over

    selected-text : (tree : StatementTree) (body : Tree) (sources : List CheckedSource) (condition : Condition) (plans : List Plan) (rows : List RowReply)
        → tree.request ≡ select body sources condition → AllByRecursion (IsOver types' database database) (sources_of tree.request) → IsSelectWide tree.request
        → IsWellTyped sources [] body → until_plans tree database ≡ Ok plans → values_of_plans body plans ≡ Ok rows → AllByRecursion RowHasText rows
    selected-text tree body sources condition plans rows same all select_wide typed are_plans are_rows =
        let sources_over : AllByRecursion (IsOver types' database database) sources = subst (λ r. AllByRecursion (IsOver types' database database) (sources_of r)) same all in
        let sources_wide : AllByRecursion IsSourceWide sources =
        each_weaker (IsOver types' database database) IsSourceWide (λ source h. components-wide source.of.cell source.of.names h.type.components) sources sources_over in
        let body_wide : IsWideKind (kind_in body) = (subst IsSelectWide same select_wide) sources_wide in
        let all_rows : AllByRecursion (AreMembersOf sources) (rows_of tree.request database) = subst (λ r. AllByRecursion (AreMembersOf sources) (rows_of r database)) (sym same)
        (zip-first (ArePairs types' database database sources) (AreMembersOf sources) (left_fits types' database database sources) _ _ (rows_pair types' database database sources _ sources_over)) in
        values-text sources body typed body_wide plans rows
        (until_plans-each tree database (AreMembersOf sources) (IsFitPlan sources body typed body_wide)
        (λ row plan members planned. read-fit sources body typed body_wide row plan members (subst (λ r. row_plan r row ≡ Ok plan) same planned)) plans all_rows are_plans) are_rows

    -- its reply
    checked-text : ReplyHasText (reply_in (outcome_of (statement_tree_of checked) database))
    checked-text =
        let tree : StatementTree = statement_tree_of checked in
        let facts = known types' statement database database (first_list statement) checked setting setting.valid (λ name mode has. refl) short (λ name named. named) is in
        let stops : StopsWithText (outcome_of tree database) = bind-stops (until_bodies tree database) (λ plans. outcome_of_plans tree.request plans database) (bodies-stop tree database)
        (λ plans. done-stops tree.request plans database) in
        in-text (outcome_of tree database) stops (λ o found.
        let (plans, are_plans, last) = bind_ok (until_bodies tree database) _ o found in
        outcome-text tree.request plans database o (λ body sources condition rows same are_rows.
        selected-text tree body sources condition plans rows same over (statement-select (catalog_of types' database) statement checked wide is)
        (subst (λ r. IsTypedBody (sources_of r) (body_in r)) same facts.body) (until_bodies_ok tree database plans are_plans).0 are_rows) last)

  pub reply-text : ReplyHasText (reply_of types' statement database)
  reply-text = at (is_too_long (first_list statement)) refl
    where
      checked-or-not : is_too_long (first_list statement) ≡ false → (r : Result Checked CheckMisfit) → checked_over types' statement database ≡ r
          → ReplyHasText (reply_after_check r database)
      checked-or-not short (Ok checked) is = checked-text checked short is
      checked-or-not short (Err fault) is = tt

      at : (long : Bool) → is_too_long (first_list statement) ≡ long
          → ReplyHasText (if long then misfit 0 (record { from = 0; to = statement.length }) TooManyLocks else reply_after_check (checked_over types' statement database) database)
      at true is = tt
      at false is = checked-or-not is (checked_over types' statement database) refl
