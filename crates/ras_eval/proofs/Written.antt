-- What is written, row by row.
use Rattle.std.proofs.Common.{◌≡◌, ℕ, ◌<◌, ◌≤◌, List, [], ◌∷◌, ◌++◌, length, get_or, map, Result, Ok, Err, Some, None, IfOk, refl, sym, ap, ◌∙◌, subst, arith}
use Rattle.std.specs.Prelude.{ℤ, Option}
use Rattle.std.specs.List.{zip}
use Rattle.ras_cells.specs.declared.cell.Cell.{Cell}
use Rattle.ras_cells.specs.declared.cell.CellFault.{CellFault}
use Rattle.ras_cells.specs.Outcomes.{◌>>=◌}
use Rattle.ras_domain.specs.Region.{points_of}
use Rattle.law_work.specs.Writes.{numbers_stored, stores_of_write}
use Rattle.ras_eval.specs.Cells.{CellStore, cells_for, each_in_order}
use Rattle.ras_eval.specs.Computed.{deleted_writing, inserted_writing, row_stores, row_written, stores_seen, updated_writing, writing_in_row}
use Rattle.ras_eval.specs.Given.{IsCellStop, reply_stop}
use Rattle.ras_eval.specs.declared.stops.CellStop.{CellStop}
use Rattle.ras_eval.proofs.Answered.{faulty_stop}
use Rattle.ras_eval.proofs.PassingRows.{stops_bind}
use Rattle.ras_rows.specs.declared.stop.Stop.{Stop}
use Rattle.ras_rows.specs.declared.stop.Stop.TheVariants as stops
use Rattle.ras_rows.specs.Stops.{GivesOrStops, IsStop}
use Rattle.ras_store.specs.declared.write.Write.{Write}
use Rattle.ras_syntax.specs.declared.span.Span.{Span}
use Rattle.ras_syntax.specs.declared.types.SetType.{SetType}
use Rattle.ras_syntax.specs.declared.typed.CheckedSource.{CheckedSource}
use Rattle.spec_expressions.specs.Database.{Member}
use Rattle.spec_expressions.specs.Eval.{CellOutcome, Environment, cell_at}
use Rattle.spec_expressions.specs.Shape.{Box, Cut}
use Rattle.spec_expressions.specs.Tree.{Axes, Condition, NameOf, Tree}
use Rattle.spec_statements.specs.Effects.{Stores, at_body_point, body_points, faulty_in, grown_in, grown_of, insert_store, plan_stores, row_identifiers, stores_at, stores_of_plans, update_store}
use Rattle.spec_statements.specs.Plans.{Plan, Writing, target_point}
use Rattle.spec_statements.specs.Reply.{Reply}
use Rattle.spec_statements.specs.Rows.{Row, environment_of}
use Rattle.spec_statements.specs.Statement.{Request, insert, delete, update}
use Rattle.spec_views.specs.Writings.{RowWriting, row_writing, writings_of_plans}

-- ---- a row after another

abbrev Stored : Type 0
Stored = Result Stores Reply

one-writing : (plan : Plan) (out : Stored) (rest : Result (List (Plan × Stores)) Reply) (other : Result (List RowWriting) Reply) → (rest >>= λ made. Ok (map row_writing made)) ≡ other
    → ((out >>= λ stores. rest >>= λ others. Ok ((plan, stores) ∷ others)) >>= λ made. Ok (map row_writing made))
    ≡ ((out >>= λ stores. Ok (row_writing (plan, stores))) >>= λ y. other >>= λ ys. Ok (y ∷ ys))
one-writing plan (Err reply) rest other same = refl
one-writing plan (Ok stores) (Err reply) other same = ap (λ (r : Result (List RowWriting) Reply). r >>= λ ys. Ok (row_writing (plan, stores) ∷ ys)) same
one-writing plan (Ok stores) (Ok made) other same = ap (λ (r : Result (List RowWriting) Reply). r >>= λ ys. Ok (row_writing (plan, stores) ∷ ys)) same

stores_each : (store : CellStore) (body : Tree) (plans : List Plan)
    → (stores_of_plans store body plans >>= λ made. Ok (map row_writing made)) ≡ each_in_order (writing_in_row store body) plans
stores_each store body [] = refl
stores_each store body (plan ∷ plans) =
    one-writing plan (plan_stores store body plan) (stores_of_plans store body plans) (each_in_order (writing_in_row store body) plans) (stores_each store body plans)

nothing_each : (plans : List Plan) → Ok (map (λ plan. row_writing (plan, [])) plans) ≡ each_in_order {E = Reply} (λ plan. Ok (row_writing (plan, []))) plans
nothing_each [] = refl
nothing_each (plan ∷ plans) = ap (λ (r : Result (List RowWriting) Reply). r >>= λ ys. Ok (row_writing (plan, []) ∷ ys)) (nothing_each plans)

pub inserts_each : (into : NameOf) (of : SetType) (body : Tree) (plans : List Plan)
    → writings_of_plans (insert into of body) plans ≡ each_in_order (row_written (insert into of body)) plans
inserts_each into of body plans = stores_each (insert_store of) body plans

pub updates_each : (source : CheckedSource) (axes : Option Axes) (target : Span) (body : Tree) (condition : Condition) (plans : List Plan)
    → writings_of_plans (update source axes target body condition) plans ≡ each_in_order (row_written (update source axes target body condition)) plans
updates_each source axes target body condition plans = stores_each (update_store source.of) body plans

pub deletes_each : (source : CheckedSource) (condition : Condition) (plans : List Plan)
    → writings_of_plans (delete source condition) plans ≡ each_in_order (row_written (delete source condition)) plans
deletes_each source condition plans = nothing_each plans

-- ---- what is stored in a row

abbrev zipped : CellStore → List (List ℤ) → Result (List Cell) (List ℤ × CellFault) → Result Stores (List ℤ × CellFault)
zipped store ps cells = cells >>= λ xs. Ok (zip ps (map (λ cell. numbers_stored (store cell)) xs))

one-store : (store : CellStore) (p q : List ℤ) (ps : List (List ℤ)) (o : CellOutcome) (rest : Result (List Cell) (List ℤ × CellFault))
    (other : Result Stores (List ℤ × CellFault)) → other ≡ zipped store ps rest
    → (at_body_point p o >>= λ cell. at_body_point p (store cell) >>= λ stored. other >>= λ others. Ok ((q, stored) ∷ others))
    ≡ zipped store (q ∷ ps) ((at_body_point p o >>= λ cell. at_body_point p (store cell) >>= λ stored. Ok cell) >>= λ y. rest >>= λ ys. Ok (y ∷ ys))
one-store store p q ps (Err fault) rest other same = refl
one-store store p q ps (Ok x) rest other same = stored_as (store x) refl
  where
    joined : (cells : Result (List Cell) (List ℤ × CellFault)) (stored : Option (List ℤ)) → store x ≡ Ok stored
        → (zipped store ps cells >>= λ others. Ok ((q, stored) ∷ others)) ≡ zipped store (q ∷ ps) (cells >>= λ ys. Ok (x ∷ ys))
    joined (Err fault) stored is = refl
    joined (Ok cells) stored is = ap (λ (r : Result (Option (List ℤ)) CellFault). Ok ((q, numbers_stored r) ∷ zip ps (map (λ cell. numbers_stored (store cell)) cells))) (sym is)

    stored_as : (r : Result (Option (List ℤ)) CellFault) → store x ≡ r
        → (at_body_point p (store x) >>= λ stored. other >>= λ others. Ok ((q, stored) ∷ others))
        ≡ zipped store (q ∷ ps) ((at_body_point p (store x) >>= λ stored. Ok x) >>= λ y. rest >>= λ ys. Ok (y ∷ ys))
    stored_as (Err fault) is =
        subst (λ (r : Result (Option (List ℤ)) CellFault). (at_body_point p r >>= λ stored. other >>= λ others. Ok ((q, stored) ∷ others))
        ≡ zipped store (q ∷ ps) ((at_body_point p r >>= λ stored. Ok x) >>= λ y. rest >>= λ ys. Ok (y ∷ ys))) (sym is) refl
    stored_as (Ok stored) is =
        subst (λ (r : Result (Option (List ℤ)) CellFault). (at_body_point p r >>= λ stored. other >>= λ others. Ok ((q, stored) ∷ others))
        ≡ zipped store (q ∷ ps) ((at_body_point p r >>= λ stored. Ok x) >>= λ y. rest >>= λ ys. Ok (y ∷ ys))) (sym is)
        (ap (λ (o : Result Stores (List ℤ × CellFault)). o >>= λ others. Ok ((q, stored) ∷ others)) same ∙ joined rest stored is)

stores_cells : (store : CellStore) (scope : Environment) (body : Tree) (cuts : List Cut) (ps : List (List ℤ))
    → stores_at store scope body cuts ps ≡ zipped store (map (target_point cuts) ps) (cells_for store (cell_at scope body) ps)
stores_cells store scope body cuts [] = refl
stores_cells store scope body cuts (p ∷ ps) =
    one-store store p (target_point cuts p) (map (target_point cuts) ps) (cell_at scope body p) (cells_for store (cell_at scope body) ps) (stores_at store scope body cuts ps)
    (stores_cells store scope body cuts ps)

faulty_zipped : (k : ℕ) (store : CellStore) (ps : List (List ℤ)) (cells : Result (List Cell) (List ℤ × CellFault))
    → faulty_in k (zipped store ps cells) ≡ (faulty_in k cells >>= λ xs. Ok (zip ps (map (λ cell. numbers_stored (store cell)) xs)))
faulty_zipped k store ps (Ok cells) = refl
faulty_zipped k store ps (Err fault) = refl

module _ (store : CellStore) (body : Tree) (plan : Plan) where
  abbrev cells-of-body : Result (List Cell) Reply
  cells-of-body = faulty_in plan.number (cells_for store (cell_at (environment_of plan.row) body) (body_points plan))

  stores-by : plan_stores store body plan
      ≡ (cells-of-body >>= λ xs. Ok (zip (map (target_point plan.cuts) (body_points plan)) (map (λ cell. numbers_stored (store cell)) xs)))
  stores-by =
      ap (faulty_in plan.number) (stores_cells store (environment_of plan.row) body plan.cuts (body_points plan))
      ∙ faulty_zipped plan.number store (map (target_point plan.cuts) (body_points plan)) (cells_for store (cell_at (environment_of plan.row) body) (body_points plan))

  pub stores_made : (writing : Writing) (write : Write) → plan.writing ≡ Some writing → points_of writing.region ≡ map (target_point plan.cuts) (body_points plan)
      → cells-of-body ≡ Ok write.cells.cells → write.grown ≡ writing.grown → write.region ≡ writing.region → row_stores store body plan ≡ Ok (stores_seen store write)
  stores_made writing write is points cells grown region =
      let stored : plan_stores store body plan ≡ Ok (stores_of_write store write) =
      stores-by ∙ ap (λ (r : Result (List Cell) Reply). r >>= λ xs. Ok (zip (map (target_point plan.cuts) (body_points plan)) (map (λ cell. numbers_stored (store cell)) xs))) cells
      ∙ ap (λ (ps : List (List ℤ)). Ok (zip ps (map (λ cell. numbers_stored (store cell)) write.cells.cells))) (sym points ∙ ap points_of (sym region)) in
      let after : grown_of plan ≡ write.grown = ap grown_in is ∙ sym grown in
      ap (λ (r : Stored). r >>= λ s. Ok (grown_of plan, s)) stored ∙ ap (λ (g : Box). Ok (g, stores_of_write store write)) after

  pub stores_stop : (stop : Stop) → IsStop cells-of-body stop → IsStop (row_stores store body plan) stop
  stores_stop stop is =
      stops_bind (plan_stores store body plan) (λ s. Ok (grown_of plan, s)) stop
      (subst (λ (r : Stored). IsStop r stop) (sym stores-by)
      (stops_bind cells-of-body (λ xs. Ok (zip (map (target_point plan.cuts) (body_points plan)) (map (λ cell. numbers_stored (store cell)) xs))) stop is))

  made-by : (out : Stored) (pair : Box × Stores) (identifiers : List ℕ) → (out >>= λ s. Ok (grown_of plan, s)) ≡ Ok pair → row_identifiers plan.row ≡ identifiers
      → (out >>= λ s. Ok (row_writing (plan, s))) ≡ Ok (record { identifiers = identifiers; grown = pair.0; stores = pair.1 })
  made-by (Err reply) pair identifiers is same = cc
  made-by (Ok s) pair identifiers is same =
      ap (λ (ids : List ℕ). Ok (record { identifiers = ids; grown = grown_of plan; stores = s })) same
      ∙ ap (λ (r : Result (Box × Stores) Reply). r >>= λ z. Ok (record { identifiers = identifiers; grown = z.0; stores = z.1 })) is

  pub writing_made : (pair : Box × Stores) (identifiers : List ℕ) → row_stores store body plan ≡ Ok pair → row_identifiers plan.row ≡ identifiers
      → writing_in_row store body plan ≡ Ok (record { identifiers = identifiers; grown = pair.0; stores = pair.1 })
  writing_made pair identifiers is same = made-by (plan_stores store body plan) pair identifiers is same

  writing-stops : (out : Stored) (stop : Stop) → IsStop {B = Box × Stores} (out >>= λ s. Ok (grown_of plan, s)) stop → IsStop (out >>= λ s. Ok (row_writing (plan, s))) stop
  writing-stops (Ok s) (stops.Answer answer) is = cc
  writing-stops (Err reply) (stops.Answer answer) is = ap (λ (r : Result (Box × Stores) Reply). r >>= λ z. Ok (row_writing (plan, z.1))) is
  writing-stops out stops.Memory is = tt

  pub writing_stop : (stop : Stop) → IsStop (row_stores store body plan) stop → IsStop (writing_in_row store body plan) stop
  writing_stop stop is = writing-stops (plan_stores store body plan) stop is

-- ---- the cells of a row's body

module _ (store : CellStore) (body : Tree) (k : ℕ) (row slice : Row) (e : slice ≡ row) (cells : List ℤ → CellOutcome) (same : cells ≡ cell_at (environment_of slice) body) (ps : List (List ℤ)) where
  body-same : cells ≡ cell_at (environment_of row) body
  body-same = same ∙ ap (λ (r : Row). cell_at (environment_of r) body) e

  pub body_cells : (list : List Cell) → cells_for store cells ps ≡ Ok list → faulty_in k (cells_for store (cell_at (environment_of row) body) ps) ≡ Ok list
  body_cells list is = ap (λ (f : List ℤ → CellOutcome). faulty_in k (cells_for store f ps)) (sym body-same) ∙ ap (faulty_in k) is

  pub body_stop : (stop : CellStop) → IsCellStop (cells_for store cells ps) stop → IsStop (faulty_in k (cells_for store (cell_at (environment_of row) body) ps)) (reply_stop k stop)
  body_stop stop is =
      subst (λ (f : List ℤ → CellOutcome). IsStop (faulty_in k (cells_for store f ps)) (reply_stop k stop)) body-same (faulty_stop k (cells_for store cells ps) stop is)

-- ---- the arrays of a row

pub no_arrays : (row slice : Row) → slice ≡ row → length slice < 1 → row_identifiers row ≡ []
no_arrays [] slice e few = refl
no_arrays (member ∷ others) slice e few = absurd (omega (arith, ap length e, few))

pub one_array : (row slice : Row) (member : Member) → slice ≡ row → 1 ≤ length slice → length slice < 2 → member ≡ get_or slice 0 member → row_identifiers row ≡ member.oid ∷ []
one_array [] slice member e some few is = absurd (omega (arith, ap length e, some))
one_array (first ∷ []) slice member e some few is =
    let same : member ≡ first = is ∙ ap (λ (s : Row). get_or s 0 member) e in ap (λ (m : Member). m.oid ∷ []) (sym same)
one_array (first ∷ second ∷ others) slice member e some few is = absurd (omega (arith, ap length e, few))

-- ---- what is written

module _ (store : CellStore) (body : Tree) (plan : Plan) where
  pub insert_gives : (result : Result Write Stop) → GivesOrStops (stores_seen store) (row_stores store body plan) result → row_identifiers plan.row ≡ []
      → GivesOrStops (inserted_writing store) (writing_in_row store body plan) result
  insert_gives (Ok write) is none = writing_made store body plan (stores_seen store write) [] is none
  insert_gives (Err stop) is none = writing_stop store body plan stop is

  pub update_gives : (oid : ℕ) (result : Result Write Stop) → GivesOrStops (stores_seen store) (row_stores store body plan) result → IfOk result (λ write. write.oid ≡ oid)
      → row_identifiers plan.row ≡ oid ∷ [] → GivesOrStops (updated_writing store) (writing_in_row store body plan) result
  update_gives oid (Ok write) is same one = writing_made store body plan (stores_seen store write) (write.oid ∷ []) is (one ∙ ap (λ n. n ∷ []) (sym same))
  update_gives oid (Err stop) is same one = writing_stop store body plan stop is

pub delete_made : (plan : Plan) (write : Write) → row_identifiers plan.row ≡ write.oid ∷ [] → plan.writing ≡ None → row_writing (plan, []) ≡ deleted_writing write
delete_made plan write one none =
    ap (λ (ids : List ℕ). record { identifiers = ids; grown = grown_of plan; stores = [] }) one
    ∙ ap (λ (w : Option Writing). record { identifiers = write.oid ∷ []; grown = grown_in w; stores = [] }) none
