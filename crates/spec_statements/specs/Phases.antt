-- What a checked statement asks for, phase by phase, and the steps in which a reply may come before its bodies are looked at.
use Rattle.std.specs.Prelude.{ℕ, ◌+◌, ℤ, not, if◌then◌else◌, List, ◌∷◌, ◌++◌, map, filter, flat_map, slice_get, Option, Some, None, Result, Ok, Err, []}
use Rattle.std.specs.List.{list_any, zip}
use Rattle.ras_cells.specs.declared.cell.CellFault.{CellFault}
use Rattle.ras_domain.specs.declared.lock.LockName.TheVariants as locks
use Rattle.ras_domain.specs.declared.lock.Mode.{Mode}
use Rattle.ras_domain.specs.declared.lock.Mode.TheVariants.{Shared, Exclusive}
use Rattle.ras_domain.specs.Boxes.{meet_of, is_same_box}
use Rattle.ras_grid.specs.Grid.{places_meeting, tile_in}
use Rattle.ras_syntax.specs.declared.typed.CheckedSource.{CheckedSource}
use Rattle.spec_statements.specs.Statement.{Request, StatementTree, select, insert, delete, update, create, drop}
use Rattle.spec_expressions.specs.Tree.{Tree, Condition, always, only_where}
use Rattle.spec_expressions.specs.Database.{Database, Member}
use Rattle.spec_expressions.specs.Shape.{Box, array, shape_of}
use Rattle.ras_domain.specs.Region.{is_empty}
use Rattle.spec_expressions.specs.Eval.{box_in, domains_in}
use Rattle.spec_expressions.specs.Reach.{reach_of}
use Rattle.spec_statements.specs.Rows.{Row, passing_of, rows_of, environment_of, sources_of, where_of}
use Rattle.spec_statements.specs.Locks.{Lock, lock_list}
use Rattle.spec_statements.specs.Reply.{Reply, faulty}
use Rattle.spec_statements.specs.Plans.{misfit_in, Writing, Plan, plans_of}
use Rattle.spec_statements.specs.Limits.{limited_rows, limited_locks, limited_plans}
use Rattle.ras_cells.specs.Outcomes.{◌>>=◌}

abbrev pub tile_lock : List ℕ → ℕ → Mode → List ℤ → Lock
tile_lock collection id mode place = (locks.Tile collection id (record { items = place }), mode)

abbrev pub extents_of : Member → List ℕ
extents_of member = member.of.extents.items

-- the tiles of a domain that meet a box
abbrev pub tiles_met : List ℕ → Box → Box → List (List ℤ)
tiles_met extents domain axes = if list_any is_empty (meet_of axes domain) then [] else places_meeting extents (meet_of axes domain)

-- the tiles that a box reaches in the array of the iterator at a place of a row
abbrev pub member_tiles : Option CheckedSource → Option Member → Box → List Lock
member_tiles None member axes = []
member_tiles (Some source) None axes = []
member_tiles (Some source) (Some member) axes =
    map (tile_lock source.collection member.oid Shared) (tiles_met (extents_of member) member.array.domain axes)

abbrev pub reached_tiles : List CheckedSource → Row → ℕ × Box → List Lock
reached_tiles sources row reached = member_tiles (slice_get sources reached.0) (slice_get row reached.0) reached.1

-- the tiles that an expression reads in a row, for the result points of its shape
abbrev pub read_tiles : List CheckedSource → Tree → ℕ × Row → List Lock
read_tiles sources e row =
    flat_map (reached_tiles sources row.1)
    (reach_of (domains_in (environment_of row.1)) [] e (box_in (shape_of (domains_in (environment_of row.1)) e)))

abbrev pub condition_tiles : List CheckedSource → Condition → ℕ × Row → List Lock
condition_tiles sources always row = []
condition_tiles sources (only_where c) row = read_tiles sources c row

abbrev pub domain_locks : List CheckedSource → ℕ × Row → List Lock
domain_locks sources row = map (λ x. (locks.Domain x.0.collection x.1.oid, Shared)) (zip sources row.1)

-- the tiles that the written region meets, and where the domain grows the domain and each tile whose box changes
abbrev pub changed_tiles : List ℕ → Box → Box → List (List ℤ)
changed_tiles extents old new =
    filter (λ place. not (is_same_box (tile_in extents old place) (tile_in extents new place))) (places_meeting extents new)

abbrev pub grown_locks : List ℕ → Member → Writing → List Lock
grown_locks collection member writing =
    if is_same_box member.array.domain writing.grown then [] else
    (locks.Domain collection member.oid, Exclusive)
    ∷ map (tile_lock collection member.oid Exclusive) (changed_tiles (extents_of member) member.array.domain writing.grown)

abbrev pub write_locks : List ℕ → Row → Option Writing → List Lock
write_locks collection row None = []
write_locks collection [] (Some writing) = []
write_locks collection (member ∷ others) (Some writing) =
    map (tile_lock collection member.oid Exclusive) (places_meeting (extents_of member) writing.region)
    ++ grown_locks collection member writing

abbrev pub plan_locks : Request → Plan → List Lock
plan_locks (select body sources condition) plan = read_tiles sources body (plan.number, plan.row)
plan_locks (insert into of body) plan = []
plan_locks (delete source condition) plan = []
plan_locks (update source axes target body condition) plan =
    read_tiles (source ∷ []) body (plan.number, plan.row) ++ write_locks source.collection plan.row plan.writing
plan_locks (create name of) plan = []
plan_locks (drop name) plan = []

abbrev pub phase_2_list : StatementTree → List (ℕ × Row) → List Lock
phase_2_list statement rows = lock_list (flat_map (domain_locks (sources_of statement.request)) rows)

abbrev pub phase_3_list : StatementTree → List (ℕ × Row) → List Lock
phase_3_list statement rows = lock_list (flat_map (condition_tiles (sources_of statement.request) (where_of statement.request)) rows)

abbrev pub phase_4_list : StatementTree → List Plan → List Lock
phase_4_list statement plans = lock_list (flat_map (plan_locks statement.request) plans)

-- the condition has a shape in each row
abbrev pub shaped_condition : Condition → List (ℕ × Row) → Result (List (ℕ × Row)) Reply
shaped_condition always rows = Ok rows
shaped_condition (only_where c) [] = Ok []
shaped_condition (only_where c) (row ∷ rows) = do
  shape ← misfit_in row.0 (shape_of (domains_in (environment_of row.1)) c)
  others ← shaped_condition (only_where c) rows
  Ok (row ∷ others)

abbrev pub first_failing : Result (List (ℕ × Row)) (ℕ × CellFault) → Result (List (ℕ × Row)) Reply
first_failing (Ok rows) = Ok rows
first_failing (Err fault) = Err (faulty fault.0 [] fault.1)

abbrev pub passing_rows : Condition → List (ℕ × Row) → Result (List (ℕ × Row)) Reply
passing_rows condition rows = first_failing (passing_of condition rows)

abbrev pub until_rows : StatementTree → Database → Result (List (ℕ × Row)) Reply
until_rows statement database = limited_rows statement (rows_of statement.request database)

abbrev pub until_domains : StatementTree → Database → Result (List (ℕ × Row)) Reply
until_domains statement database = do
  rows ← until_rows statement database
  asked ← limited_locks statement (phase_2_list statement rows)
  Ok rows

abbrev pub until_condition : StatementTree → Database → Result (List (ℕ × Row)) Reply
until_condition statement database = do
  rows ← until_domains statement database
  shaped_condition (where_of statement.request) rows

abbrev pub until_passing : StatementTree → Database → Result (List (ℕ × Row)) Reply
until_passing statement database = do
  rows ← until_condition statement database
  asked ← limited_locks statement (phase_3_list statement rows)
  passing_rows (where_of statement.request) rows

abbrev pub until_plans : StatementTree → Database → Result (List Plan) Reply
until_plans statement database = do
  rows ← until_passing statement database
  plans ← plans_of statement.request rows
  limited_plans statement plans

-- the statement's plans, where all its phases may be asked for
abbrev pub until_bodies : StatementTree → Database → Result (List Plan) Reply
until_bodies statement database = do
  plans ← until_plans statement database
  asked ← limited_locks statement (phase_4_list statement plans)
  Ok plans

abbrev pub list_or_none : Result (List Lock) Reply → List Lock
list_or_none (Ok asked) = asked
list_or_none (Err reply) = []

abbrev pub needs_2 : StatementTree → Database → List Lock
needs_2 statement database = list_or_none (do
  rows ← until_rows statement database
  limited_locks statement (phase_2_list statement rows))

abbrev pub needs_3 : StatementTree → Database → List Lock
needs_3 statement database = list_or_none (do
  rows ← until_condition statement database
  limited_locks statement (phase_3_list statement rows))

abbrev pub needs_4 : StatementTree → Database → List Lock
needs_4 statement database = list_or_none (do
  plans ← until_plans statement database
  limited_locks statement (phase_4_list statement plans))
