-- The rows that pass, one after another.
use Rattle.std.proofs.Common.{◌≡◌, ℕ, zero, suc, ◌+◌, ◌<◌, ◌≤◌, Bool, true, false, List, [], ◌∷◌, ◌++◌, length, map, drop, Result, Ok, Err, Some, refl, sym, ap, ◌∙◌, subst, arith}
use Rattle.std.specs.Prelude.{ℤ}
use Rattle.std.specs.List.{slice_get}
use Rattle.std.proofs.lemmas.List.{append-nil, drop_all}
use Rattle.ras_cells.specs.declared.cell.Cell.{Cell}
use Rattle.ras_cells.specs.declared.cell.CellFault.{CellFault}
use Rattle.ras_cells.specs.Outcomes.{◌>>=◌}
use Rattle.ras_eval.specs.Cells.{cell_for, stored_for}
use Rattle.ras_eval.specs.Given.{IsCellStop, reply_stop}
use Rattle.ras_eval.specs.Passing.{passing_named, passing_over, row_named_of, row_passes, rows_named_of, tested_in_row, with_row_if}
use Rattle.ras_eval.specs.declared.purpose.Purpose.TheVariants.{Answer}
use Rattle.ras_eval.specs.declared.stops.CellStop.{CellStop}
use Rattle.ras_eval.specs.declared.stops.CellStop.TheVariants.{Fault, Memory}
use Rattle.ras_eval.proofs.Each.{after, after-more, after-none, drop-at}
use Rattle.ras_rows.specs.declared.stop.Stop.{Stop}
use Rattle.ras_rows.specs.declared.stop.Stop.TheVariants as stops
use Rattle.ras_rows.specs.Stops.{GivesOrStops, IsStop}
use Rattle.spec_expressions.specs.Eval.{CellOutcome, cell_at, holds}
use Rattle.spec_expressions.specs.Tree.{Condition, Tree, only_where}
use Rattle.spec_statements.specs.Limits.{limited_rows}
use Rattle.spec_statements.specs.Phases.{first_failing, passing_rows, shaped_condition}
use Rattle.spec_statements.specs.Reply.{Reply}
use Rattle.spec_statements.specs.Effects.{faulty_in}
use Rattle.spec_statements.specs.Rows.{Row, environment_of, fault_in_row, kept_if, passes, passing_of, where_of}
use Rattle.spec_statements.specs.Statement.{StatementTree}

abbrev Names : Type 0
Names = List (ℕ × List ℕ)

-- one row before others
one-before : (row : ℕ × Row) (keeps : Bool) (rows : List (ℕ × Row)) → rows_named_of (kept_if keeps row rows) ≡ kept_if keeps (row_named_of row) (rows_named_of rows)
one-before row true rows = refl
one-before row false rows = refl

first-row : (row : ℕ × Row) (test : Result Bool CellFault) (rest : Result (List (ℕ × Row)) (ℕ × CellFault))
    → (first_failing (fault_in_row row.0 test >>= λ keeps. rest >>= λ others. Ok (kept_if keeps row others)) >>= λ rows. Ok (rows_named_of rows))
    ≡ (tested_in_row row.0 test >>= λ keeps. (first_failing rest >>= λ rows. Ok (rows_named_of rows)) >>= λ others. Ok (kept_if keeps (row_named_of row) others))
first-row row (Err fault) rest = refl
first-row row (Ok keeps) (Err fault) = refl
first-row row (Ok keeps) (Ok rows) = ap Ok (one-before row keeps rows)

module _ (condition : Condition) where
  abbrev named : List (ℕ × Row) → Result Names Reply
  named = passing_named condition

  first-of : (row : ℕ × Row) (rows : List (ℕ × Row)) → named (row ∷ rows) ≡ (row_passes condition row >>= λ keeps. named rows >>= λ others. Ok (kept_if keeps (row_named_of row) others))
  first-of row rows = first-row row (passes condition row.1) (passing_of condition rows)

  -- what a row adds
  added : (done : Names) (name : ℕ × List ℕ) (r : Result Names Reply) → after done (r >>= λ others. Ok (kept_if true name others)) ≡ after (done ++ name ∷ []) r
  added done name r = after-more done name r

  not-added : (done : Names) (name : ℕ × List ℕ) (r : Result Names Reply) → after done (r >>= λ others. Ok (kept_if false name others)) ≡ after done r
  not-added done name (Ok others) = refl
  not-added done name (Err reply) = refl

  module _ (rows : List (ℕ × Row)) where
    pub passing_start : after [] (named rows) ≡ named rows
    passing_start = after-none (named rows)

    at-place : (done : Names) (k : ℕ) (row : ℕ × Row) (o : Result Bool Reply) → slice_get rows k ≡ Some row → row_passes condition row ≡ o → after done (named (drop k rows)) ≡ named rows
        → after done (o >>= λ keeps. named (drop (suc k) rows) >>= λ others. Ok (kept_if keeps (row_named_of row) others)) ≡ named rows
    at-place done k row o at is so_far =
        ap (λ (r : Result Bool Reply). after done (r >>= λ keeps. named (drop (suc k) rows) >>= λ others. Ok (kept_if keeps (row_named_of row) others))) (sym is)
        ∙ ap (after done) (sym (first-of row (drop (suc k) rows))) ∙ ap (λ rs. after done (named rs)) (sym (drop-at rows k row at)) ∙ so_far

    passing_in : (done new : Names) (k : ℕ) (row : ℕ × Row) → slice_get rows k ≡ Some row → row_passes condition row ≡ Ok true → new ≡ done ++ row_named_of row ∷ []
        → after done (named (drop k rows)) ≡ named rows → after new (named (drop (k + 1) rows)) ≡ named rows
    passing_in done new k row at is new_is so_far =
        let one_more : k + 1 ≡ suc k = omega arith in
        rw (one_more, new_is) (sym (added done (row_named_of row) (named (drop (suc k) rows))) ∙ at-place done k row (Ok true) at is so_far)

    passing_out : (done : Names) (k : ℕ) (row : ℕ × Row) → slice_get rows k ≡ Some row → row_passes condition row ≡ Ok false
        → after done (named (drop k rows)) ≡ named rows → after done (named (drop (k + 1) rows)) ≡ named rows
    passing_out done k row at is so_far =
        let one_more : k + 1 ≡ suc k = omega arith in
        rw one_more (sym (not-added done (row_named_of row) (named (drop (suc k) rows))) ∙ at-place done k row (Ok false) at is so_far)

    pub passing_turn : (done new : Names) (k : ℕ) (row : ℕ × Row) (keeps : Bool) → slice_get rows k ≡ Some row → row_passes condition row ≡ Ok keeps → new ≡ with_row_if keeps done row
        → after done (named (drop k rows)) ≡ named rows → after new (named (drop (k + 1) rows)) ≡ named rows
    passing_turn done new k row true at is new_is so_far = passing_in done new k row at is new_is so_far
    passing_turn done new k row false at is new_is so_far = subst (λ (names : Names). after names (named (drop (k + 1) rows)) ≡ named rows) (sym new_is) (passing_out done k row at is so_far)

    pub passing_stop : (done : Names) (k : ℕ) (row : ℕ × Row) (stop : Stop) → slice_get rows k ≡ Some row → IsStop (row_passes condition row) stop
        → after done (named (drop k rows)) ≡ named rows → IsStop (named rows) stop
    passing_stop done k row (stops.Answer answer) at is so_far = sym (at-place done k row (Err _) at is so_far)
    passing_stop done k row stops.Memory at is so_far = tt

    pub passing_end : (done : Names) (k : ℕ) → length rows ≤ k → after done (named (drop k rows)) ≡ named rows → named rows ≡ Ok done
    passing_end done k past so_far = sym so_far ∙ ap (λ rs. after done (named rs)) (drop_all k rows past) ∙ ap Ok (append-nil done)

-- ---- one row

cell-alone : (o : CellOutcome) (cell : Cell) → (cell_for (stored_for Answer) (λ _. o) [] ≡ Ok cell) → o ≡ Ok cell
cell-alone (Ok x) cell is = let same : x ≡ cell = cc in ap Ok same
cell-alone (Err fault) cell is = cc

test-alone : (k : ℕ) (o : CellOutcome) (stop : CellStop) → IsCellStop (cell_for (stored_for Answer) (λ _. o) []) stop → IsStop (tested_in_row k (o >>= λ x. Ok (holds x))) (reply_stop k stop)
test-alone k (Ok x) (Fault point fault) is = cc
test-alone k (Err f) (Fault point fault) is = ap (λ (r : Result Cell (List ℤ × CellFault)). faulty_in k (r >>= λ _. Ok true)) is
test-alone k o Memory is = tt

module _ (c : Tree) (k : ℕ) (row : Row) (cells : List ℤ → CellOutcome) (same : cells ≡ cell_at (environment_of row) c) where
  pub test_ok : (x : Cell) → cell_for (stored_for Answer) cells [] ≡ Ok x → row_passes (only_where c) (k, row) ≡ Ok (holds x)
  test_ok x is =
      let out : cell_at (environment_of row) c [] ≡ Ok x = ap (λ (f : List ℤ → CellOutcome). f []) (sym same) ∙ cell-alone (cells []) x is in
      ap (λ (o : CellOutcome). tested_in_row k (o >>= λ y. Ok (holds y))) out

  pub test_stop : (stop : CellStop) → IsCellStop (cell_for (stored_for Answer) cells []) stop → IsStop (row_passes (only_where c) (k, row)) (reply_stop k stop)
  test_stop stop is =
      subst (λ (f : List ℤ → CellOutcome). IsStop (tested_in_row k (f [] >>= λ x. Ok (holds x))) (reply_stop k stop)) same (test-alone k (cells []) stop is)

-- ---- all rows

pub stops_bind : {A B : Type 0} (r : Result A Reply) (next : A → Result B Reply) (stop : Stop) → IsStop r stop → IsStop (r >>= next) stop
stops_bind {A = A} r next (stops.Answer answer) is = ap (λ (x : Result A Reply). x >>= next) is
stops_bind r next stops.Memory is = tt

pub gives_bind : {A B C : Type 0} (view : C → B) (wanted : Result A Reply) (a : A) (next : A → Result B Reply) (result : Result C Stop) → wanted ≡ Ok a
    → GivesOrStops view (next a) result → GivesOrStops view (wanted >>= next) result
gives_bind {A = A} view wanted a next result is gives = subst (λ (x : Result A Reply). GivesOrStops view (x >>= next) result) (sym is) gives

module _ (tree : StatementTree) (all : List Row) where
  abbrev rest : List (ℕ × Row) → Result Names Reply
  rest rows = shaped_condition (where_of tree.request) rows >>= λ shaped. passing_named (where_of tree.request) shaped

  pub rows_stop : (stop : Stop) → IsStop (limited_rows tree all) stop → IsStop (passing_over tree all) stop
  rows_stop stop is = stops_bind (limited_rows tree all) rest stop is

  module _ (rows : List (ℕ × Row)) (few : limited_rows tree all ≡ Ok rows) where
    pub shape_stop : (stop : Stop) → IsStop (shaped_condition (where_of tree.request) rows) stop → IsStop (passing_over tree all) stop
    shape_stop stop is =
        subst (λ (r : Result (List (ℕ × Row)) Reply). IsStop (r >>= rest) stop) (sym few)
        (stops_bind (shaped_condition (where_of tree.request) rows) (passing_named (where_of tree.request)) stop is)

    pub passing_gives : (condition : Condition) (result : Result Names Stop) → condition ≡ where_of tree.request → shaped_condition (where_of tree.request) rows ≡ Ok rows
        → GivesOrStops (λ set. set) (passing_named condition rows) result → GivesOrStops (λ set. set) (passing_over tree all) result
    passing_gives condition result same shaped gives =
        gives_bind (λ set. set) (limited_rows tree all) rows rest result few
        (gives_bind (λ set. set) (shaped_condition (where_of tree.request) rows) rows (passing_named (where_of tree.request)) result shaped
        (subst (λ (c : Condition). GivesOrStops (λ set. set) (passing_named c rows) result) same gives))
