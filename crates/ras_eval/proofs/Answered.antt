-- What a select answers, row by row.
use Rattle.std.proofs.Common.{◌≡◌, ℕ, List, [], ◌∷◌, Result, Ok, Err, refl, sym, ap, ◌∙◌, subst}
use Rattle.std.specs.Prelude.{ℤ}
use Rattle.ras_cells.specs.declared.cell.Cell.{Cell}
use Rattle.ras_cells.specs.declared.cell.Cell.TheVariants.{Null}
use Rattle.ras_cells.specs.declared.cell.CellFault.{CellFault}
use Rattle.ras_cells.specs.Outcomes.{◌>>=◌}
use Rattle.ras_domain.specs.Region.{points_of}
use Rattle.ras_syntax.specs.CellList.{Cells}
use Rattle.ras_syntax.specs.declared.typed.Kind.{Kind}
use Rattle.ras_syntax.specs.declared.span.Span.{Span}
use Rattle.ras_eval.specs.Cells.{CellStore, cells_for, each_in_order, stored_for}
use Rattle.ras_eval.specs.Computed.{HasBodyShape, IsDomainOf, row_value}
use Rattle.ras_eval.specs.Given.{IsCellStop, reply_stop}
use Rattle.ras_eval.specs.declared.purpose.Purpose.TheVariants.{Answer}
use Rattle.ras_eval.specs.declared.stops.CellStop.{CellStop}
use Rattle.ras_eval.specs.declared.stops.CellStop.TheVariants.{Fault, Memory}
use Rattle.ras_eval.proofs.PassingRows.{stops_bind}
use Rattle.ras_rows.specs.declared.stop.Stop.{Stop}
use Rattle.ras_rows.specs.declared.stop.Stop.TheVariants as stops
use Rattle.ras_rows.specs.Stops.{IsStop}
use Rattle.spec_expressions.specs.Eval.{CellOutcome, Environment, all_outcomes, box_in, cell_at, cells_of, domains_in, with_place}
use Rattle.spec_expressions.specs.Shape.{Box, Shape, ShapeMisfit, scalar, array, box, box_of, shape_of}
use Rattle.spec_expressions.specs.Tree.{Tree, domain_of, node}
use Rattle.spec_statements.specs.Effects.{at_body_point, faulty_in, first_cell, row_reply, values_of_plans}
use Rattle.spec_statements.specs.Plans.{Plan}
use Rattle.spec_statements.specs.Reply.{Reply, RowReply, one_cell, one_domain, all_cells}
use Rattle.spec_statements.specs.Rows.{environment_of}

-- ---- a row after another

one-value : (out : Result (List Cell) Reply) (shape : Shape) (rest other : Result (List RowReply) Reply) → rest ≡ other
    → (out >>= λ cells. rest >>= λ others. Ok (row_reply shape cells ∷ others)) ≡ ((out >>= λ cells. Ok (row_reply shape cells)) >>= λ y. other >>= λ ys. Ok (y ∷ ys))
one-value (Ok cells) shape rest other same = ap (λ (r : Result (List RowReply) Reply). r >>= λ others. Ok (row_reply shape cells ∷ others)) same
one-value (Err reply) shape rest other same = refl

pub values_each : (body : Tree) (plans : List Plan) → values_of_plans body plans ≡ each_in_order (row_value body) plans
values_each body [] = refl
values_each body (plan ∷ plans) =
    one-value (faulty_in plan.number (cells_of (environment_of plan.row) body)) plan.shape (values_of_plans body plans) (each_in_order (row_value body) plans) (values_each body plans)

-- ---- the cells of a row

one-answer : (p : List ℤ) (o : CellOutcome) (rest other : Result (List Cell) (List ℤ × CellFault)) → rest ≡ other
    → ((at_body_point p o >>= λ cell. at_body_point p (stored_for Answer cell) >>= λ stored. Ok cell) >>= λ y. rest >>= λ ys. Ok (y ∷ ys))
    ≡ (with_place p o >>= λ x. other >>= λ xs. Ok (x ∷ xs))
one-answer p (Ok x) rest other same = ap (λ (r : Result (List Cell) (List ℤ × CellFault)). r >>= λ xs. Ok (x ∷ xs)) same
one-answer p (Err fault) rest other same = refl

pub answers_all : (cells : List ℤ → CellOutcome) (ps : List (List ℤ)) → cells_for (stored_for Answer) cells ps ≡ all_outcomes cells ps
answers_all cells [] = refl
answers_all cells (p ∷ ps) = one-answer p (cells p) (cells_for (stored_for Answer) cells ps) (all_outcomes cells ps) (answers_all cells ps)

pub faulty_ok : {X : Type 0} (k : ℕ) (wanted : Result X (List ℤ × CellFault)) (x : X) → wanted ≡ Ok x → faulty_in k wanted ≡ Ok x
faulty_ok k wanted x is = ap (faulty_in k) is

pub faulty_stop : {X : Type 0} (k : ℕ) (wanted : Result X (List ℤ × CellFault)) (stop : CellStop) → IsCellStop wanted stop → IsStop (faulty_in k wanted) (reply_stop k stop)
faulty_stop k wanted (Fault point fault) is = ap (faulty_in k) is
faulty_stop k wanted Memory is = tt

module _ (body : Tree) (plan : Plan) (shaped : HasBodyShape body plan) (cells : List ℤ → CellOutcome) (same : cells ≡ cell_at (environment_of plan.row) body) where
  all-same : cells_for (stored_for Answer) cells (points_of (box_of plan.shape)) ≡ cells_of (environment_of plan.row) body
  all-same =
      answers_all cells (points_of (box_of plan.shape))
      ∙ ap (λ (f : List ℤ → CellOutcome). all_outcomes f (points_of (box_of plan.shape))) same
      ∙ ap (λ (s : Result Shape ShapeMisfit). all_outcomes (cell_at (environment_of plan.row) body) (points_of (box_in s))) (sym shaped.shape)

  pub row_cells : (list : List Cell) → cells_for (stored_for Answer) cells (points_of (box_of plan.shape)) ≡ Ok list → faulty_in plan.number (cells_of (environment_of plan.row) body) ≡ Ok list
  row_cells list is = faulty_ok plan.number (cells_of (environment_of plan.row) body) list (sym all-same ∙ is)

  pub row_cells_stop : (stop : CellStop) → IsCellStop (cells_for (stored_for Answer) cells (points_of (box_of plan.shape))) stop
      → IsStop (faulty_in plan.number (cells_of (environment_of plan.row) body)) (reply_stop plan.number stop)
  row_cells_stop stop is =
      faulty_stop plan.number (cells_of (environment_of plan.row) body) stop
      (subst (λ (r : Result (List Cell) (List ℤ × CellFault)). IsCellStop r stop) all-same is)

-- ---- the value of a row

module _ (body : Tree) (plan : Plan) where
  abbrev cells-here : Result (List Cell) Reply
  cells-here = faulty_in plan.number (cells_of (environment_of plan.row) body)

  pub value_scalar : (cells : List Cell) (x : Cell) → plan.shape ≡ scalar → cells-here ≡ Ok cells → x ≡ first_cell cells → row_value body plan ≡ Ok (one_cell x)
  value_scalar cells x is have first =
      ap (λ (r : Result (List Cell) Reply). r >>= λ cs. Ok (row_reply plan.shape cs)) have ∙ ap (λ (s : Shape). Ok (row_reply s cells)) is ∙ ap (λ c. Ok (one_cell c)) (sym first)

  pub value_array : (axes : Box) (cells : List Cell) → plan.shape ≡ array axes → cells-here ≡ Ok cells → row_value body plan ≡ Ok (all_cells axes cells)
  value_array axes cells is have =
      ap (λ (r : Result (List Cell) Reply). r >>= λ cs. Ok (row_reply plan.shape cs)) have ∙ ap (λ (s : Shape). Ok (row_reply s cells)) is

  pub value_stop : (stop : Stop) → IsStop cells-here stop → IsStop (row_value body plan) stop
  value_stop stop is = stops_bind cells-here (λ cells. Ok (row_reply plan.shape cells)) stop is

-- each cell of a domain is null
all-null : (scope : Environment) (s : Span) (k : Kind) (e : Tree) (ps : List (List ℤ)) → (cells : List Cell) × (all_outcomes (cell_at scope (node s k (domain_of e))) ps ≡ Ok cells)
all-null scope s k e [] = ([], refl)
all-null scope s k e (p ∷ ps) =
    let rest = all-null scope s k e ps in
    (Null ∷ rest.0, ap (λ (r : Result (List Cell) (List ℤ × CellFault)). r >>= λ xs. Ok (Null ∷ xs)) rest.1)

pub value_domain : (body : Tree) (plan : Plan) (axes : Box) → plan.shape ≡ box axes → IsDomainOf body → row_value body plan ≡ Ok (one_domain axes)
value_domain body plan axes is domain =
    let scope : Environment = environment_of plan.row in
    let form : Tree = node domain.span domain.kind (domain_of domain.of) in
    let nulls = all-null scope domain.span domain.kind domain.of (points_of (box_in (shape_of (domains_in scope) form))) in
    ap (λ (t : Tree). faulty_in plan.number (cells_of scope t) >>= λ cs. Ok (row_reply plan.shape cs)) domain.same
    ∙ ap (λ (r : Result (List Cell) (List ℤ × CellFault)). faulty_in plan.number r >>= λ cs. Ok (row_reply plan.shape cs)) nulls.1
    ∙ ap (λ (s : Shape). Ok (row_reply s nulls.0)) is
