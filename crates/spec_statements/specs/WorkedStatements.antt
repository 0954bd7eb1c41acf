-- Statements over a small database, whose locks, answers and effects are worked out by hand.
use Rattle.std.specs.Prelude.{ℕ, ◌+◌, ℤ, pos, negsuc, List, [], ◌∷◌, map, codes, Some, if◌then◌else◌}
use Rattle.std.specs.Ordering.{int_eq}
use Rattle.std.specs.List.{range_with_len}
use Rattle.ras_cells.specs.declared.numbers.Op2.TheVariants as two
use Rattle.ras_domain.specs.declared.region.Interval.{Interval}
use Rattle.ras_domain.specs.declared.lock.LockName.TheVariants as locks
use Rattle.ras_domain.specs.declared.lock.Mode.{Mode}
use Rattle.ras_domain.specs.declared.lock.Mode.TheVariants.{Shared}
use Rattle.ras_syntax.specs.declared.span.Span.{Span}
use Rattle.ras_syntax.specs.declared.types.SetType.{SetType}
use Rattle.ras_syntax.specs.declared.typed.CheckedSource.{CheckedSource}
use Rattle.spec_expressions.specs.Tree.{Tree, Axes, always, only_where, bounds, edge, marray, no_axes, no_pairs, oid, pairs, trim}
use Rattle.spec_statements.specs.Statement.{Request, StatementTree, select, update}
use Rattle.spec_expressions.specs.Database.{Database}
use Rattle.spec_statements.specs.Reply.{RowReply, one_cell}
use Rattle.spec_statements.specs.Effects.{no_array}
use Rattle.spec_statements.specs.Locks.{Lock}
use Rattle.spec_statements.specs.Machine.{first_list}
use Rattle.ras_syntax.specs.declared.statement.Statement.{Statement}
use Rattle.ras_syntax.specs.declared.statement.StatementForm.{StatementForm}
use Rattle.ras_syntax.specs.declared.statement.StatementForm.TheVariants.{Create, Drop}
use Rattle.spec_statements.specs.WorkedChecks.{H_, letter, word}
use Rattle.spec_expressions.specs.Worked.{worked_array, axis, char, term, first_coordinate, four_and, line_box, n, naturals, op, somewhere, square}

-- a set type with tiles of two by two
abbrev pub grey : SetType
grey = record {
  name = codes "GreySet";
  cell = char;
  names = [];
  bounds = record { items = axis (negsuc 2147483647) (pos 2147483647) ∷ axis (negsuc 2147483647) (pos 2147483647) ∷ [] };
  extents = record { items = 2 ∷ 2 ∷ [] };
  nulls = record { items = [] };
}

abbrev pub G : List ℕ
G = codes "G"

-- the database with one collection G with one array, on a domain and with these cells
abbrev pub with_G : List Interval → (List ℤ → ℤ) → Database
with_G domain cells = (G, record { set_type = 0; next = 2; arrays = (1, worked_array domain (λ p. cells p ∷ [])) ∷ [] }) ∷ []

-- 0 to 15 on a square
abbrev pub base_database : Database
base_database = with_G square four_and

abbrev pub from_G : CheckedSource
from_G = record { collection = G; iterator = codes "a"; of = grey }

abbrev pub statement : Request → StatementTree
statement request = record { request = request; length = 40 }

-- select body from G as a, everywhere or where a condition holds
abbrev pub select_all : Tree → StatementTree
select_all body = statement (select body (from_G ∷ []) always)

abbrev pub select_where : Tree → Tree → StatementTree
select_where body c = statement (select body (from_G ∷ []) (only_where c))

abbrev pub two_trims : ℕ → ℕ → ℕ → ℕ → Axes
two_trims l0 h0 l1 h1 = trim (edge (n l0)) (edge (n h0)) (trim (edge (n l1)) (edge (n h1)) no_axes)

-- update G as a set a[l0:h0,l1:h1] assign body
abbrev pub update_at : ℕ → ℕ → ℕ → ℕ → Tree → StatementTree
update_at l0 h0 l1 h1 body = statement (update from_G (Some (two_trims l0 h0 l1 h1)) somewhere body always)

-- the array with one cell at [i,j]
abbrev pub one_cell_at : ℕ → ℕ → Tree → Tree
one_cell_at i j value = term (marray (codes "p") (bounds (pairs (n i) (n i) (pairs (n j) (n j) no_pairs))) value)

-- update G as a set a[axes] assign 1 at [0,0], whose target stands at a place of its own in the text
abbrev pub update_at_place : Axes → StatementTree
update_at_place axes = statement (update from_G (Some axes) (record { from = 18; to = 24 }) (one_cell_at 0 0 (n 1)) always)

-- oid(a) = k
abbrev pub has_oid : ℕ → Tree
has_oid k = op two.Eq (term (oid (codes "a"))) (n k)

abbrev pub domain_of_G : Mode → Lock
domain_of_G mode = (locks.Domain G 1, mode)

abbrev pub tile_of_G : Mode → ℕ → ℕ → Lock
tile_of_G mode i j = (locks.Tile G 1 (record { items = pos i ∷ pos j ∷ [] }), mode)

-- a set type of one axis whose zeros read as null, and the database with one collection N with one such array, from 0 to 3
abbrev pub nil : SetType
nil = record {
  name = codes "NilSet";
  cell = char;
  names = [];
  bounds = record { items = axis (negsuc 2147483647) (pos 2147483647) ∷ [] };
  extents = record { items = 2 ∷ [] };
  nulls = record { items = (pos 0, pos 0) ∷ [] };
}

abbrev pub N : List ℕ
N = codes "N"

abbrev pub with_N : Database
with_N = (N, record { set_type = 1; next = 2; arrays = (1, worked_array line_box (λ p. first_coordinate p ∷ [])) ∷ [] }) ∷ []

abbrev pub from_N : CheckedSource
from_N = record { collection = N; iterator = codes "a"; of = nil }

abbrev pub second_N : CheckedSource
second_N = record from_N { iterator = codes "b" }

-- 0 to 3 as they stood, at 4 a default cell, and 9
abbrev pub by_coordinate_or : ℤ → List ℤ → List ℤ
by_coordinate_or other [] = []
by_coordinate_or other (c ∷ p) = (if int_eq c (pos 5) then pos 9 else if int_eq c (pos 4) then other else c) ∷ []

abbrev pub by_coordinate : List ℤ → List ℤ
by_coordinate = by_coordinate_or (pos 0)

-- the same collection, as one of a type whose first null value is 7
abbrev pub from_sevens : CheckedSource
from_sevens = record from_N { of = record nil { nulls = record { items = (pos 7, pos 8) ∷ (pos 20, pos 20) ∷ [] } } }

-- select oid(a) from N as a where c
abbrev pub select_ids : Tree → StatementTree
select_ids c = statement (select (term (oid (codes "a"))) (from_N ∷ []) (only_where c))

abbrev pub domain_of_N : ℕ → Lock
domain_of_N id = (locks.Domain N id, Shared)

-- rows of one cell each
abbrev pub scalars : List ℕ → List RowReply
scalars ks = map one_cell (naturals ks)

-- marray p in [lo:hi] values value
abbrev pub line_made : ℕ → ℕ → Tree → Tree
line_made lo hi value = term (marray (codes "p") (bounds (pairs (n lo) (n hi) no_pairs)) value)

-- many arrays of one cell each, with the identifiers from 1 on
abbrev pub many_arrays : ℕ → Database
many_arrays k = (N, record { set_type = 1; next = k + 1; arrays = map (λ id. (id, no_array)) (range_with_len 1 k) }) ∷ []

-- a type like it whose arrays lie within [0:9]
abbrev pub narrow : SetType
narrow = record nil { bounds = record { items = axis (pos 0) (pos 9) ∷ [] } }

-- update N as a set a[lo:hi] assign body
abbrev pub update_line : ℕ → ℕ → Tree → StatementTree
update_line lo hi body = statement (update from_N (Some (trim (edge (n lo)) (edge (n hi)) no_axes)) somewhere body always)

abbrev pub whole : Span
whole = record { from = 0; to = 40 }

-- the lock on a collection
abbrev pub collection_lock : List ℕ → Mode → Lock
collection_lock called mode = (locks.Collection called, mode)

abbrev pub first_locks : StatementForm → List Lock
first_locks form = first_list (record { form = form; length = 40 })

-- ---- statements as they are written

abbrev pub declared : List SetType
declared = grey ∷ nil ∷ []

abbrev pub statement_as_written : StatementForm → Statement
statement_as_written form = record { form = form; length = 40 }

abbrev pub create_H : Statement
create_H = statement_as_written (Create (letter 18 H_) (word 20 27 (codes "GreySet")))

abbrev pub drop_H : Statement
drop_H = statement_as_written (Drop (letter 16 H_))
