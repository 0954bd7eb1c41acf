-- What the writes of a statement stand for.
use Rattle.std.specs.Prelude.{ℤ, List, [], ◌∷◌, map, Option, None, Result, Ok, Err}
use Rattle.std.specs.List.{zip}
use Rattle.ras_cells.specs.declared.cell.Cell.{Cell}
use Rattle.ras_cells.specs.declared.cell.CellFault.{CellFault}
use Rattle.ras_domain.specs.Region.{points_of}
use Rattle.ras_store.specs.declared.write.Computed.{Computed}
use Rattle.ras_store.specs.declared.write.Computed.TheVariants.{Rows, Writes}
use Rattle.ras_store.specs.declared.write.Write.{Write}
use Rattle.spec_statements.specs.Effects.{Stores, insert_store, update_store}
use Rattle.spec_statements.specs.Statement.{Request, select, insert, delete, update, create, drop}
use Rattle.spec_views.specs.Writings.{RowWriting}

-- the numbers that a cell is stored as, none where the cell is left as it is. No cell of a statement's writes has a fault
abbrev pub numbers_stored : Result (Option (List ℤ)) CellFault → Option (List ℤ)
numbers_stored (Ok numbers) = numbers
numbers_stored (Err fault) = None

-- what is stored at the points of a write's region, in row-major order
abbrev pub stores_of_write : (Cell → Result (Option (List ℤ)) CellFault) → Write → Stores
stores_of_write store write = zip (points_of write.region) (map (λ cell. numbers_stored (store cell)) write.cells.cells)

-- an insert's array has no identifier yet, and a delete stores nothing
abbrev pub writings_of : Request → List Write → List RowWriting
writings_of (select body sources condition) writes = []
writings_of (insert into of body) writes =
    map (λ write. record { identifiers = []; grown = write.grown; stores = stores_of_write (insert_store of) write }) writes
writings_of (delete source condition) writes = map (λ write. record { identifiers = write.oid ∷ []; grown = []; stores = [] }) writes
writings_of (update source axes target body condition) writes =
    map (λ write. record { identifiers = write.oid ∷ []; grown = write.grown; stores = stores_of_write (update_store source.of) write }) writes
writings_of (create name of) writes = []
writings_of (drop name) writes = []

-- the writes that a statement comes to; rows are none
abbrev pub writes_in : Computed → List Write
writes_in (Rows rows) = []
writes_in (Writes writes) = writes
