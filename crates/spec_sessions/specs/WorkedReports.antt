-- Outcomes that are worked out by hand, for their reports.
use Rattle.std.specs.Prelude.{ℕ, ℤ, pos, negsuc, List, [], ◌∷◌, map, codes}
use Rattle.ras_cells.specs.declared.cell.Cell.{Cell}
use Rattle.ras_cells.specs.declared.cell.Cell.TheVariants as cell
use Rattle.ras_cells.specs.declared.cell.CellFault.TheVariants.{DivideByZero}
use Rattle.ras_domain.specs.declared.lock.LockName.TheVariants.{Collection, Domain, Tile}
use Rattle.ras_domain.specs.declared.lock.Mode.TheVariants.{Shared, Exclusive}
use Rattle.ras_domain.specs.declared.region.Interval.{Interval}
use Rattle.ras_syntax.specs.declared.answer.Answer.{Answer}
use Rattle.ras_syntax.specs.declared.answer.Answer.TheVariants as answers
use Rattle.ras_syntax.specs.declared.answer.RowValue.TheVariants as rows
use Rattle.ras_syntax.specs.declared.event.Event.TheVariants.{Begun, Granted, Refused, Answered, GaveUp, Committed, Aborted}
use Rattle.ras_syntax.specs.declared.faults.CheckFault.TheVariants.{NoCollection}
use Rattle.ras_syntax.specs.declared.faults.ShapeFault.TheVariants.{ReplyTooLarge}
use Rattle.ras_syntax.specs.declared.faults.SyntaxFault.TheVariants.{Unexpected}
use Rattle.ras_syntax.specs.declared.types.Script.{Script}
use Rattle.spec_grammar.specs.Tokens.{Text}
use Rattle.spec_statements.specs.Locks.{Lock}
use Rattle.spec_sessions.specs.Outcomes.{OutcomeValue}
use Rattle.spec_sessions.specs.Walk.{aborted, begun, committed, in_transaction, no_statement, no_transaction, out_of_memory, recorded}
use Rattle.spec_sessions.specs.Worked.{line}

-- ---- parts

-- a report looks at a script's name alone
abbrev pub named : Text → Script
named name = record { name = name; statements = [] }

abbrev pub numbers_cell : List ℤ → Cell
numbers_cell numbers = cell.Value (record { items = numbers })

abbrev pub worked_interval : ℕ → ℕ → Interval
worked_interval lo hi = record { lo = pos lo; hi = pos hi }

-- a value of one row: an array with cells of one number
abbrev pub array_value : List Interval → List ℕ → Answer
array_value box numbers = answers.Value (rows.Array box (record { width = 1; cells = map (λ n. numbers_cell (pos n ∷ [])) numbers; room = 0 }) ∷ [])

-- what a select in G asks for first, and then
abbrev pub on_collection : List Lock
on_collection = (Collection (codes "G"), Shared) ∷ []

abbrev pub on_domain : List Lock
on_domain = (Domain (codes "G") 1, Shared) ∷ []

abbrev pub tile_at : ℕ → ℕ → Lock
tile_at i j = (Tile (codes "G") 1 (record { items = pos i ∷ pos j ∷ [] }), Shared)

-- ---- one session, `select a[1:2,1:2] from G as a`

abbrev pub trimmed_outcome : OutcomeValue
trimmed_outcome = record {
  lines = (line 1 1 recorded ∷ []) ∷ [];
  history =
      Begun 1 1 1 ∷ Granted 1 1 1 on_collection ∷ Granted 1 1 2 on_domain
      ∷ Granted 1 1 4 (tile_at 0 0 ∷ tile_at 0 1 ∷ tile_at 1 0 ∷ tile_at 1 1 ∷ [])
      ∷ Answered 1 1 (array_value (worked_interval 1 2 ∷ worked_interval 1 2 ∷ []) (5 ∷ 6 ∷ 9 ∷ 10 ∷ [])) ∷ Committed 1 1 ∷ [];
}

-- ---- two sessions that meet in one tile

-- A: `begin; update G as a set a[0:1,0:1] assign a[0:1,0:1] + 1; commit;`
-- B: `select a[0:0,0:0] from G as a; select a[2:3,2:3] from G as a;`
abbrev pub met : OutcomeValue
met = record {
  lines =
      (line 1 1 begun ∷ line 2 1 recorded ∷ line 3 1 (committed 2) ∷ [])
      ∷ (line 1 2 recorded ∷ line 2 3 recorded ∷ [])
      ∷ [];
  history =
      Begun 1 1 1 ∷ Granted 1 2 1 on_collection ∷ Granted 1 2 2 on_domain
      ∷ Granted 1 2 4 ((Tile (codes "G") 1 (record { items = pos 0 ∷ pos 0 ∷ [] }), Exclusive) ∷ [])
      ∷ Answered 1 2 (answers.Done 1)
      ∷ Begun 2 2 1 ∷ Granted 2 1 1 on_collection ∷ Granted 2 1 2 on_domain
      ∷ Refused 2 1 4 (Tile (codes "G") 1 (record { items = pos 0 ∷ pos 0 ∷ [] })) Shared 1 ∷ Aborted 2
      ∷ Begun 3 2 2 ∷ Granted 3 2 1 on_collection ∷ Granted 3 2 2 on_domain ∷ Granted 3 2 4 (tile_at 1 1 ∷ [])
      ∷ Answered 3 2 (array_value (worked_interval 2 3 ∷ worked_interval 2 3 ∷ []) (10 ∷ 11 ∷ 14 ∷ 15 ∷ [])) ∷ Committed 3 1
      ∷ Committed 1 2 ∷ [];
}

-- ---- one line of each kind

abbrev pub each_kind : OutcomeValue
each_kind = record {
  lines = (
      line 1 0 no_transaction ∷ line 2 1 begun ∷ line 3 1 in_transaction ∷ line 4 1 recorded ∷ line 5 1 recorded ∷ line 6 1 recorded ∷ line 7 1 recorded
      ∷ line 8 1 (no_statement (Unexpected 13)) ∷ line 9 1 out_of_memory ∷ line 10 1 (aborted 10) ∷ []
      ) ∷ [];
  history =
      Begun 1 1 2
      ∷ Answered 1 4 (answers.Fault 1 (record { items = pos 0 ∷ negsuc 2 ∷ [] }) DivideByZero)
      ∷ Answered 1 5 (answers.Shape 0 (record { from = 0; to = 20 }) ReplyTooLarge)
      ∷ Answered 1 6 (answers.Check (record { from = 14; to = 15 }) NoCollection)
      ∷ Answered 1 7 (answers.Value (
      rows.Scalar cell.Null ∷ rows.Scalar (numbers_cell (negsuc 6 ∷ [])) ∷ rows.Scalar (numbers_cell (pos 0 ∷ pos 10 ∷ []))
      ∷ rows.Domain (record { lo = negsuc 0; hi = pos 3 } ∷ []) ∷ []
      ))
      ∷ GaveUp 1 9 ∷ Aborted 1 ∷ [];
}

-- ---- an answer that isn't told

-- a data statement whose commit found no memory
abbrev pub untold_with : Answer → OutcomeValue
untold_with answer = record {
  lines = (line 1 1 out_of_memory ∷ []) ∷ [];
  history = Begun 1 1 1 ∷ Answered 1 1 answer ∷ Aborted 1 ∷ [];
}
