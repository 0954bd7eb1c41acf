-- What holds of each name that a phase lists.
use Rattle.std.proofs.Common.{◌≡◌, ℕ, suc, ℤ, false, if◌then◌else◌, List, [], ◌∷◌, map, flat_map, slice_get, Contains, Option, Some, None, Result, Ok, Err, refl, sym, ap, subst}
use Rattle.std.specs.List.{AllByRecursion, zip}
use Rattle.arrayvec.specs.ArrayVec.{ArrayVec}
use Rattle.ras_cells.specs.Outcomes.{◌>>=◌}
use Rattle.ras_domain.specs.declared.lock.LockName.{LockName}
use Rattle.ras_domain.specs.declared.lock.LockName.TheVariants.{Domain, Tile}
use Rattle.ras_domain.specs.declared.lock.Mode.{Mode}
use Rattle.ras_domain.specs.declared.lock.Mode.TheVariants.{Shared, Exclusive}
use Rattle.ras_grid.specs.Grid.{places_meeting}
use Rattle.ras_syntax.specs.declared.statement.Statement.{Statement}
use Rattle.ras_syntax.specs.declared.types.SetType.{SetType}
use Rattle.ras_syntax.specs.declared.typed.Checked.{Checked}
use Rattle.ras_syntax.specs.declared.typed.CheckedSource.{CheckedSource}
use Rattle.spec_expressions.specs.Check.{CheckMisfit}
use Rattle.spec_expressions.specs.Database.{Database, Member}
use Rattle.spec_expressions.specs.Eval.{domains_in}
use Rattle.spec_expressions.specs.Shape.{Box, cuts_of, kept_axes, box_of, shape_of}
use Rattle.ras_domain.specs.Boxes.{is_same_box}
use Rattle.spec_expressions.specs.Tree.{Condition, Tree, always, only_where}
use Rattle.spec_statements.specs.Plans.{Plan, Writing, equal_domains, row_plan, span_in, target_box, updated_domain}
use Rattle.spec_statements.specs.Reply.{Reply}
use Rattle.spec_statements.specs.Phases.{changed_tiles, condition_tiles, domain_locks, extents_of, grown_locks, list_or_none, member_tiles, needs_2, needs_3, needs_4, phase_2_list, phase_3_list, phase_4_list, plan_locks, reached_tiles, read_tiles, tile_lock, tiles_met, until_condition, until_domains, until_plans, until_rows, write_locks}
use Rattle.spec_statements.specs.Limits.{limited_locks}
use Rattle.spec_statements.specs.Locks.{Lock}
use Rattle.spec_statements.specs.Machine.{checked_over, first_list, is_too_long, later_list, list_after_check, needs_of}
use Rattle.spec_statements.specs.Rows.{Row, environment_of, sources_of, where_of}
use Rattle.spec_statements.specs.Statement.{Request, StatementTree, statement_tree_of, select, insert, delete, update, create, drop}
use Rattle.law_shapes.proofs.Outcomes.{bind_ok}
use Rattle.law_lists.proofs.Each.{append_all, each_flat_map, each_itself, each_any}
use Rattle.law_lists.proofs.Choices.{either_way, ok_keeps}
use Rattle.law_effects.proofs.LockNames.{each-lock_list}
use Rattle.law_effects.proofs.Plans.{written_plan_ok}
use Rattle.law_effects.proofs.Rows.{limited_is, passing-each, plans-each, until_condition_ok, until_domains_ok, until_passing_ok, until_plans_ok}

-- each name of the list has it
abbrev pub EachName : (LockName → Type 0) → List Lock → Type 0
EachName P = AllByRecursion (λ lock. P lock.0)

-- a source and the member of the row at its place
abbrev pub Stand : List CheckedSource → Row → CheckedSource → Member → Type 0
Stand sources row source member = (i : ℕ) × (slice_get sources i ≡ Some source) × (slice_get row i ≡ Some member)

-- what holds of the domains of a row, and of the tiles of them
abbrev pub OfDomains : (LockName → Type 0) → List CheckedSource → Row → Type 0
OfDomains P sources row = (source : CheckedSource) (member : Member) → Stand sources row source member → P (Domain source.collection member.oid)

abbrev pub OfTiles : (LockName → Type 0) → List CheckedSource → Row → Type 0
OfTiles P sources row =
    (source : CheckedSource) (member : Member) (place : ArrayVec ℤ) → Stand sources row source member → P (Tile source.collection member.oid place)

-- ---- the locks of a row

-- the locks on domains
domains-each : (P : LockName → Type 0) (sources : List CheckedSource) (members : Row) → OfDomains P sources members
    → EachName P (map (λ x. (Domain x.0.collection x.1.oid, Shared)) (zip sources members))
domains-each P [] members of_domains = tt
domains-each P (source ∷ sources) [] of_domains = tt
domains-each P (source ∷ sources) (member ∷ members) of_domains =
    (of_domains source member (0, refl, refl), domains-each P sources members (λ s m at. of_domains s m (suc at.0, at.1, at.2)))

-- the locks on tiles
tiles-each : (P : LockName → Type 0) (collection : List ℕ) (id : ℕ) (mode : Mode) → ((place : ArrayVec ℤ) → P (Tile collection id place)) → (places : List (List ℤ))
    → EachName P (map (tile_lock collection id mode) places)
tiles-each P collection id mode gives [] = tt
tiles-each P collection id mode gives (place ∷ places) = (gives (record { items = place }), tiles-each P collection id mode gives places)

member_tiles-each : (P : LockName → Type 0) (source : Option CheckedSource) (member : Option Member) (axes : Box)
    → ((s : CheckedSource) (m : Member) (place : ArrayVec ℤ) → source ≡ Some s → member ≡ Some m → P (Tile s.collection m.oid place)) → EachName P (member_tiles source member axes)
member_tiles-each P None member axes gives = tt
member_tiles-each P (Some s) None axes gives = tt
member_tiles-each P (Some s) (Some m) axes gives =
    tiles-each P s.collection m.oid Shared (λ place. gives s m place refl refl) (tiles_met (extents_of m) m.array.domain axes)

-- what an expression reads, and a condition
read_tiles-each : (P : LockName → Type 0) (sources : List CheckedSource) (e : Tree) (row : ℕ × Row) → OfTiles P sources row.1 → EachName P (read_tiles sources e row)
read_tiles-each P sources e row of_tiles =
    each_flat_map (λ reached. Unit {0}) (λ lock. P lock.0) (reached_tiles sources row.1)
    (λ reached _. member_tiles-each P (slice_get sources reached.0) (slice_get row.1 reached.0) reached.1 (λ s m place first second. of_tiles s m place (reached.0, first, second)))
    _ (each_any (λ reached. Unit {0}) (λ reached. tt) _)

condition_tiles-each : (P : LockName → Type 0) (sources : List CheckedSource) (condition : Condition) (row : ℕ × Row) → OfTiles P sources row.1
    → EachName P (condition_tiles sources condition row)
condition_tiles-each P sources always row of_tiles = tt
condition_tiles-each P sources (only_where c) row of_tiles = read_tiles-each P sources c row of_tiles

-- what an update writes
write_locks-each : (P : LockName → Type 0) (source : CheckedSource) (row : Row) (writing : Option Writing) → OfTiles P (source ∷ []) row → OfDomains P (source ∷ []) row
    → EachName P (write_locks source.collection row writing)
write_locks-each P source row None of_tiles of_domains = tt
write_locks-each P source [] (Some writing) of_tiles of_domains = tt
write_locks-each P source (member ∷ others) (Some writing) of_tiles of_domains =
    let tile : (place : ArrayVec ℤ) → P (Tile source.collection member.oid place) = λ place. of_tiles source member place (0, refl, refl) in
    append_all (λ lock. P lock.0) (map (tile_lock source.collection member.oid Exclusive) (places_meeting (extents_of member) writing.region)) (grown_locks source.collection member writing)
    (tiles-each P source.collection member.oid Exclusive tile (places_meeting (extents_of member) writing.region))
    (either_way (EachName P) (is_same_box member.array.domain writing.grown) [] _ (λ same. tt) (λ grows.
    (of_domains source member (0, refl, refl), tiles-each P source.collection member.oid Exclusive tile (changed_tiles (extents_of member) member.array.domain writing.grown))))

-- what a plan asks for
plan_locks-each : (P : LockName → Type 0) (request : Request) (plan : Plan) → OfTiles P (sources_of request) plan.row → OfDomains P (sources_of request) plan.row
    → EachName P (plan_locks request plan)
plan_locks-each P (select body sources condition) plan of_tiles of_domains = read_tiles-each P sources body (plan.number, plan.row) of_tiles
plan_locks-each P (insert into of body) plan of_tiles of_domains = tt
plan_locks-each P (delete source condition) plan of_tiles of_domains = tt
plan_locks-each P (update source axes target body condition) plan of_tiles of_domains =
    append_all (λ lock. P lock.0) (read_tiles (source ∷ []) body (plan.number, plan.row)) (write_locks source.collection plan.row plan.writing)
    (read_tiles-each P (source ∷ []) body (plan.number, plan.row) of_tiles) (write_locks-each P source plan.row plan.writing of_tiles of_domains)
plan_locks-each P (create name of) plan of_tiles of_domains = tt
plan_locks-each P (drop name) plan of_tiles of_domains = tt

-- a plan is one for its row
abbrev IsForRow : ℕ × Row → Plan → Type 0
IsForRow row plan = row ≡ (plan.number, plan.row)

-- each plan has the row that it was made for
row_plan-row : (request : Request) (row : ℕ × Row) (plan : Plan) → row_plan request row ≡ Ok plan → row ≡ (plan.number, plan.row)
row_plan-row (select body sources condition) row plan is =
    let (shape, is_shape, last) = bind_ok (shape_of (domains_in (environment_of row.1)) body) _ plan is in ok_keeps (IsForRow row) _ plan last refl
row_plan-row (insert into of body) row plan is =
    let (shape, is_shape, last) = bind_ok (shape_of (domains_in (environment_of row.1)) body) _ plan is in
    subst (IsForRow row) (written_plan_ok of body [] shape _ row plan last).0 refl
row_plan-row (delete source condition) row plan is = ok_keeps (IsForRow row) _ plan is refl
row_plan-row (update source None target body condition) row plan is =
    let (shape, is_shape, last) = bind_ok (shape_of (domains_in (environment_of row.1)) body) _ plan is in
    subst (IsForRow row) (written_plan_ok source.of body [] shape _ row plan last).0 refl
row_plan-row (update source (Some axes) target body condition) row plan is =
    let (cuts, are_cuts, then_1) = bind_ok (cuts_of (domains_in (environment_of row.1)) axes (updated_domain row.1)) _ plan is in
    let (region, is_region, then_2) = bind_ok (target_box target _ cuts) _ plan then_1 in
    let (shape, is_shape, then_3) = bind_ok (shape_of (domains_in (environment_of row.1)) body) _ plan then_2 in
    let (same, are_same, last) = bind_ok (equal_domains (span_in body) (box_of shape) (kept_axes cuts)) _ plan then_3 in
    subst (IsForRow row) (written_plan_ok source.of body cuts shape _ row plan last).0 refl
row_plan-row (create name of) row plan is = ok_keeps (IsForRow row) _ plan is refl
row_plan-row (drop name) row plan is = ok_keeps (IsForRow row) _ plan is refl

-- ---- the lists of the phases

-- a list that is asked for, or none
list_each : {A : Type 0} (Q : List Lock → Type 0) (r : Result A Reply) (f : A → Result (List Lock) Reply) → Q []
    → ((a : A) (asked : List Lock) → r ≡ Ok a → f a ≡ Ok asked → Q asked) → Q (list_or_none (r >>= f))
list_each Q (Ok a) f none some = given (f a) (λ asked is. some a asked refl is)
  where
    given : (r : Result (List Lock) Reply) → ((asked : List Lock) → r ≡ Ok asked → Q asked) → Q (list_or_none r)
    given (Ok asked) each = each asked refl
    given (Err reply) each = none
list_each Q (Err reply) f none some = none

-- what holds of the rows that a phase speaks of
abbrev pub OfRows : (Row → Type 0) → StatementTree → Database → Type 0
OfRows R statement database =
    (rows : List (ℕ × Row)) → until_domains statement database ≡ Ok rows → (row : ℕ × Row) → Contains rows row → R row.1

-- the second, third and fourth phase
pub needs_2-each : (P : LockName → Type 0) (statement : StatementTree) (database : Database) → ((row : Row) → OfDomains P (sources_of statement.request) row)
    → EachName P (needs_2 statement database)
needs_2-each P statement database of_domains =
    list_each (EachName P) (until_rows statement database) (λ rows. limited_locks statement (phase_2_list statement rows)) tt (λ rows asked are_rows last.
    subst (EachName P) (limited_is statement (phase_2_list statement rows) asked last)
    (each-lock_list P (flat_map (domain_locks (sources_of statement.request)) rows)
    (each_flat_map (λ row. Unit {0}) (λ lock. P lock.0) (domain_locks (sources_of statement.request))
    (λ row _. domains-each P (sources_of statement.request) row.1 (of_domains row.1)) rows (each_any (λ row. Unit {0}) (λ row. tt) rows))))

pub needs_3-each : (P : LockName → Type 0) (statement : StatementTree) (database : Database) → OfRows (OfTiles P (sources_of statement.request)) statement database
    → EachName P (needs_3 statement database)
needs_3-each P statement database of_tiles =
    list_each (EachName P) (until_condition statement database) (λ rows. limited_locks statement (phase_3_list statement rows)) tt (λ rows asked are_rows last.
    subst (EachName P) (limited_is statement (phase_3_list statement rows) asked last)
    (each-lock_list P _ (each_flat_map (Contains rows) (λ lock. P lock.0) (condition_tiles (sources_of statement.request) (where_of statement.request))
    (λ row has. condition_tiles-each P (sources_of statement.request) (where_of statement.request) row
    (of_tiles rows (until_condition_ok statement database rows are_rows) row has)) rows (each_itself rows))))

pub needs_4-each : (P : LockName → Type 0) (statement : StatementTree) (database : Database) → OfRows (OfTiles P (sources_of statement.request)) statement database
    → OfRows (OfDomains P (sources_of statement.request)) statement database → EachName P (needs_4 statement database)
needs_4-each P statement database of_tiles of_domains =
    list_each (EachName P) (until_plans statement database) (λ plans. limited_locks statement (phase_4_list statement plans)) tt (λ plans asked are_plans last.
    let (passing, are_passing, made) = until_plans_ok statement database plans are_plans in
    let (rows, are_rows, pass) = until_passing_ok statement database passing are_passing in
    let Kept : Plan → Type 0 = λ plan. Contains rows (plan.number, plan.row) in
    let kept : AllByRecursion Kept plans =
    plans-each statement.request (Contains rows) Kept (λ row plan has planned. subst (Contains rows) (row_plan-row statement.request row plan planned) has) passing plans
    (passing-each (Contains rows) (where_of statement.request) rows passing pass (each_itself rows)) made in
    let all_rows = until_condition_ok statement database rows are_rows in
    subst (EachName P) (limited_is statement (phase_4_list statement plans) asked last)
    (each-lock_list P _ (each_flat_map Kept (λ lock. P lock.0) (plan_locks statement.request)
    (λ plan has. plan_locks-each P statement.request plan (of_tiles rows all_rows (plan.number, plan.row) has) (of_domains rows all_rows (plan.number, plan.row) has)) plans kept)))

-- the list of the second phase, where it was granted
pub needs_2-is : (statement : StatementTree) (database : Database) (rows : List (ℕ × Row)) → until_domains statement database ≡ Ok rows
    → phase_2_list statement rows ≡ needs_2 statement database
needs_2-is statement database rows is =
    let (all_rows, asked) = until_domains_ok statement database rows is in
    let e : (until_rows statement database >>= λ rows. limited_locks statement (phase_2_list statement rows)) ≡ Ok (phase_2_list statement rows) = subst
    (λ r. (r >>= λ rows. limited_locks statement (phase_2_list statement rows)) ≡ Ok (phase_2_list statement rows)) (sym all_rows) asked in
    sym (ap list_or_none e)

-- ---- of a statement as it is written

-- a list of a checked statement, or none
check_each : (Q : List Lock → Type 0) (needs : StatementTree → Database → List Lock) (r : Result Checked CheckMisfit) (database : Database) → Q []
    → ((checked : Checked) → r ≡ Ok checked → Q (needs (statement_tree_of checked) database)) → Q (list_after_check needs r database)
check_each Q needs (Ok checked) database none some = some checked refl
check_each Q needs (Err fault) database none some = none

-- what a later phase lists where it lists something
pub later_each : (Q : List Lock → Type 0) (needs : StatementTree → Database → List Lock) (types : List SetType) (statement : Statement) (database : Database) → Q []
    → (is_too_long (first_list statement) ≡ false → (checked : Checked) → checked_over types statement database ≡ Ok checked
    → Q (needs (statement_tree_of checked) database)) → Q (later_list needs types statement database)
later_each Q needs types statement database none some =
    either_way Q (is_too_long (first_list statement)) [] (list_after_check needs (checked_over types statement database) database) (λ long. none)
    (λ short. check_each Q needs (checked_over types statement database) database none (some short))

-- the lists where the first is not too long and the check has no fault
pub first_is : (types : List SetType) (statement : Statement) (database : Database) → is_too_long (first_list statement) ≡ false → needs_of types statement 1 database ≡ first_list statement
first_is types statement database short = ap (λ b. if b then [] else first_list statement) short

pub later_is : (needs : StatementTree → Database → List Lock) (types : List SetType) (statement : Statement) (database : Database) (checked : Checked)
    → is_too_long (first_list statement) ≡ false → checked_over types statement database ≡ Ok checked
    → later_list needs types statement database ≡ needs (statement_tree_of checked) database
later_is needs types statement database checked short is = λ i. if short i then [] else list_after_check needs (is i) database
