-- The rows of a checked statement over a database.
use Rattle.std.specs.Prelude.{ℕ, suc, ℤ, pos, Bool, true, not, ◌||◌, if◌then◌else◌, List, [], ◌∷◌, ◌++◌, map, filter, flat_map, Option, Some, None, Result, Ok, Err}
use Rattle.std.specs.List.{list_all}
use Rattle.std.specs.Ordering.{int_eq}
use Rattle.ras_cells.specs.declared.cell.CellFault.{CellFault}
use Rattle.ras_cells.specs.declared.numbers.Op2.TheVariants as two
use Rattle.ras_cells.specs.Outcomes.{◌>>=◌}
use Rattle.ras_syntax.specs.declared.typed.CheckedSource.{CheckedSource}
use Rattle.spec_statements.specs.Statement.{Request, select, insert, delete, update, create, drop}
use Rattle.spec_expressions.specs.Tree.{is_same_name, NameOf, Tree, Form, Condition, node, number, binary, oid, always, only_where}
use Rattle.spec_expressions.specs.Database.{Array, Collection, Database, Member, collection_of}
use Rattle.spec_expressions.specs.Eval.{Environment, cell_at, holds}

-- ---- the parts of a statement

abbrev pub sources_of : Request → List CheckedSource
sources_of (select body sources condition) = sources
sources_of (insert into of body) = []
sources_of (delete source condition) = source ∷ []
sources_of (update source axes target body condition) = source ∷ []
sources_of (create name of) = []
sources_of (drop name) = []

abbrev pub where_of : Request → Condition
where_of (select body sources condition) = condition
where_of (insert into of body) = always
where_of (delete source condition) = condition
where_of (update source axes target body condition) = condition
where_of (create name of) = always
where_of (drop name) = always

-- ---- identifiers that a condition asks for

abbrev mutual
  -- the conjuncts oid(a) = n and n = oid(a), reached through `and` alone
  pub asked_by : Tree → List (NameOf × ℤ)
  asked_by (node span kind form) = asked_in form

  pub asked_in : Form → List (NameOf × ℤ)
  asked_in (binary two.And a b) = asked_by a ++ asked_by b
  asked_in (binary two.Eq (node s k (oid a)) (node t l (number n atom))) = (a, n) ∷ []
  asked_in (binary two.Eq (node s k (number n atom)) (node t l (oid a))) = (a, n) ∷ []
  asked_in other = []

abbrev pub asked_of : Condition → List (NameOf × ℤ)
asked_of always = []
asked_of (only_where c) = asked_by c

-- each conjunct on this iterator asks for this identifier
abbrev pub is_asked : List (NameOf × ℤ) → NameOf → ℕ → Bool
is_asked asked iterator id = list_all (λ one. not (is_same_name one.0 iterator) || int_eq one.1 (pos id)) asked

-- ---- rows

-- the arrays of a row, in the order of the sources
abbrev pub Row : Type 0
Row = List Member

abbrev pub member_of : CheckedSource → ℕ × Array → Member
member_of source entry = record { iterator = source.iterator; oid = entry.0; of = source.of; array = entry.1 }

abbrev pub members_in : Option Collection → List (ℕ × Array)
members_in None = []
members_in (Some collection) = collection.arrays

-- the arrays that an iterator goes over, in the order of their identifiers
abbrev pub members_of : Database → List (NameOf × ℤ) → CheckedSource → List Member
members_of database asked source =
    map (member_of source)
    (filter (λ entry. is_asked asked source.iterator entry.0) (members_in (collection_of database source.collection)))

-- all combinations, the first source slowest
abbrev pub combinations : List (List Member) → List Row
combinations [] = [] ∷ []
combinations (members ∷ others) = flat_map (λ member. map (λ row. member ∷ row) (combinations others)) members

-- without sources there is one row
abbrev pub rows_of : Request → Database → List Row
rows_of form database = combinations (map (members_of database (asked_of (where_of form))) (sources_of form))

-- each with its number, from 1
abbrev pub with_row_numbers : {X : Type 0} → ℕ → List X → List (ℕ × X)
with_row_numbers k [] = []
with_row_numbers k (x ∷ xs) = (k, x) ∷ with_row_numbers (suc k) xs

abbrev pub environment_of : Row → Environment
environment_of row = record { row = row; variables = [] }

-- ---- passing rows

-- whether the condition holds in a row; a null counts as false
abbrev pub passes : Condition → Row → Result Bool CellFault
passes always row = Ok true
passes (only_where c) row = do
  x ← cell_at (environment_of row) c []
  Ok (holds x)

abbrev pub fault_in_row : {X : Type 0} → ℕ → Result X CellFault → Result X (ℕ × CellFault)
fault_in_row k (Ok x) = Ok x
fault_in_row k (Err fault) = Err (k, fault)

abbrev pub kept_if : {X : Type 0} → Bool → X → List X → List X
kept_if keeps x xs = if keeps then x ∷ xs else xs

-- the rows whose condition holds, or the first row that fails with its fault
abbrev pub passing_of : Condition → List (ℕ × Row) → Result (List (ℕ × Row)) (ℕ × CellFault)
passing_of condition [] = Ok []
passing_of condition (row ∷ rows) = do
  keeps ← fault_in_row row.0 (passes condition row.1)
  others ← passing_of condition rows
  Ok (kept_if keeps row others)
