-- A statement's outcome by its plans, and its rows by the rules of their limits.
use Rattle.std.proofs.Common.{◌≡◌, ℕ, zero, suc, Bool, true, false, List, [], ◌∷◌, map, Result, Ok, Err, Some, refl, sym, ap, ◌∙◌, subst}
use Rattle.std.specs.Prelude.{Option, None, if◌then◌else◌}
use Rattle.std.specs.List.{AllByRecursion, slice_get}
use Rattle.ras_cells.specs.Outcomes.{◌>>=◌}
use Rattle.law_work.specs.Writes.{writings_of}
use Rattle.ras_eval.specs.Cells.{each_in_order}
use Rattle.ras_eval.specs.Computed.{AreReadBy, ComputedValue, HasBodyShape, answered, answered_in, computed_of_plans, computed_seen, computing_of, row_written}
use Rattle.ras_eval.specs.Computed.{writing_seen_of, written, written_in_rows}
use Rattle.ras_eval.proofs.Written.{deletes_each, inserts_each, updates_each}
use Rattle.ras_rows.specs.Plans.{planned}
use Rattle.ras_rows.specs.declared.stop.Stop.{Stop}
use Rattle.ras_rows.specs.declared.stop.Stop.TheVariants as stops
use Rattle.ras_rows.specs.Stops.{GivesOrStops, IsStop}
use Rattle.ras_store.specs.declared.write.Computed.{Computed}
use Rattle.ras_store.specs.declared.write.Computed.TheVariants.{Rows, Writes}
use Rattle.ras_store.specs.declared.write.Write.{Write}
use Rattle.ras_syntax.specs.declared.answer.RowValue.{RowValue}
use Rattle.ras_syntax.specs.declared.span.Span.{Span}
use Rattle.ras_syntax.specs.declared.types.SetType.{SetType}
use Rattle.ras_syntax.specs.declared.typed.CheckedSource.{CheckedSource}
use Rattle.spec_expressions.specs.Eval.{domains_in}
use Rattle.spec_expressions.specs.Shape.{Shape, ShapeMisfit, shape_of}
use Rattle.spec_expressions.specs.Tree.{Axes, Condition, NameOf, Tree}
use Rattle.spec_statements.specs.Effects.{values_of_plans}
use Rattle.spec_statements.specs.Limits.{is_select, limited_plans}
use Rattle.spec_statements.specs.Plans.{Plan, misfit_in, plans_of, read_plan}
use Rattle.spec_statements.specs.Reply.{Reply, RowReply, row_reply_of}
use Rattle.spec_statements.specs.Rows.{Row, environment_of}
use Rattle.spec_statements.specs.Statement.{Request, StatementTree, select, insert, delete, update, create, drop}
use Rattle.spec_views.specs.Writings.{RowWriting, writings_of_plans}

pub all_at : {X : Type 0} (P : X → Type 0) (xs : List X) (k : ℕ) (x : X) → slice_get xs k ≡ Some x → AllByRecursion P xs → P x
all_at P [] k x is all = absurd cc
all_at P (y ∷ ys) zero x is all = let same : y ≡ x = cc in subst P same all.0
all_at P (y ∷ ys) (suc k) x is all = all_at P ys k x is all.1

-- ---- plans of a select

shaped-row : (body : Tree) (row : ℕ × Row) (shape : Result Shape ShapeMisfit) (plan : Plan) → shape_of (domains_in (environment_of row.1)) body ≡ shape
    → misfit_in row.0 (shape >>= λ s. Ok (record { number = row.0; row = row.1; shape = s; cuts = []; writing = None })) ≡ Ok plan → HasBodyShape body plan
shaped-row body row (Ok s) plan is made =
    let same : record { number = row.0; row = row.1; shape = s; cuts = []; writing = None } ≡ plan = cc in
    subst (HasBodyShape body) same (record { shape = is })
shaped-row body row (Err misfit) plan is made = absurd cc

shaped-rows : (body : Tree) (sources : List CheckedSource) (condition : Condition) (rows : List (ℕ × Row)) (plans : List Plan)
    → plans_of (select body sources condition) rows ≡ Ok plans → AllByRecursion (HasBodyShape body) plans
shaped-rows body sources condition [] plans is = let none : [] ≡ plans = cc in subst (AllByRecursion (HasBodyShape body)) none tt
shaped-rows body sources condition (row ∷ rows) plans is =
    both (misfit_in row.0 (read_plan body row)) (plans_of (select body sources condition) rows) (λ plan made. shaped-row body row (shape_of (domains_in (environment_of row.1)) body) plan refl made)
    (shaped-rows body sources condition rows) is
  where
    both : (first : Result Plan Reply) (rest : Result (List Plan) Reply) → ((plan : Plan) → first ≡ Ok plan → HasBodyShape body plan)
        → ((others : List Plan) → rest ≡ Ok others → AllByRecursion (HasBodyShape body) others)
        → (first >>= λ plan. rest >>= λ others. Ok (plan ∷ others)) ≡ Ok plans → AllByRecursion (HasBodyShape body) plans
    both (Err reply) rest one all e = absurd cc
    both (Ok plan) (Err reply) one all e = absurd cc
    both (Ok plan) (Ok others) one all e =
        let same : (plan ∷ others) ≡ plans = cc in subst (AllByRecursion (HasBodyShape body)) same (one plan refl, all others refl)

limited : (is_read : Bool) (too_large : Bool) (refusal : Reply) (some plans : List Plan) → (if is_read then (if too_large then Err refusal else Ok some) else Ok some) ≡ Ok plans → some ≡ plans
limited true true refusal some plans is = cc
limited true false refusal some plans is = cc
limited false too_large refusal some plans is = cc

limit-keeps : (tree : StatementTree) (made : Result (List Plan) Reply) (plans : List Plan) → (made >>= λ some. limited_plans tree some) ≡ Ok plans → made ≡ Ok plans
limit-keeps tree (Err reply) plans is = cc
limit-keeps tree (Ok some) plans is = ap Ok (limited (is_select tree.request) _ _ some plans is)

pub read_by : (tree : StatementTree) (rows : List (ℕ × Row)) (plans : List Plan) → planned tree rows ≡ Ok plans → AreReadBy tree.request plans
read_by tree rows plans is = by_form tree.request refl
  where
    by_form : (request : Request) → tree.request ≡ request → AreReadBy request plans
    by_form (select body sources condition) e =
        shaped-rows body sources condition rows plans (ap (λ r. plans_of r rows) (sym e) ∙ limit-keeps tree (plans_of tree.request rows) plans is)
    by_form (insert into of body) e = tt
    by_form (delete source condition) e = tt
    by_form (update source axes target body condition) e = tt
    by_form (create name of) e = tt
    by_form (drop name) e = tt

-- ---- outcomes

pub answered_ok : (rows : Result (List RowReply) Reply) (values : List RowReply) → rows ≡ Ok values → answered_in rows ≡ Ok (answered values)
answered_ok rows values is = ap answered_in is

pub answered_stop : (rows : Result (List RowReply) Reply) (stop : Stop) → IsStop rows stop → IsStop (answered_in rows) stop
answered_stop rows (stops.Answer answer) is = ap answered_in is
answered_stop rows stops.Memory is = tt

written_gives : (seen : List Write → List RowWriting) (wanted : Result (List RowWriting) Reply) (view : Computed → ComputedValue)
    → ((writes : List Write) → view (Writes writes) ≡ written (seen writes))
    → (result : Result (List Write) Stop) → GivesOrStops seen wanted result → GivesOrStops view (written_in_rows wanted) (computing_of result)
written_gives seen wanted view same (Ok writes) gives = ap written_in_rows gives ∙ ap Ok (sym (same writes))
written_gives seen wanted view same (Err (stops.Answer answer)) gives = ap written_in_rows gives
written_gives seen wanted view same (Err stops.Memory) gives = tt

-- what an insert, an update or a delete comes to
pub inserted_gives : (into : NameOf) (of : SetType) (body : Tree) (plans : List Plan) (result : Result (List Write) Stop)
    → GivesOrStops (map (writing_seen_of (insert into of body))) (each_in_order (row_written (insert into of body)) plans) result
    → GivesOrStops (computed_seen (insert into of body)) (computed_of_plans (insert into of body) plans) (computing_of result)
inserted_gives into of body plans result gives =
    subst (λ (r : Result (List RowWriting) Reply). GivesOrStops (computed_seen (insert into of body)) (written_in_rows r) (computing_of result)) (sym (inserts_each into of body plans))
    (written_gives (map (writing_seen_of (insert into of body))) (each_in_order (row_written (insert into of body)) plans) (computed_seen (insert into of body)) (λ writes. refl) result gives)

pub updated_gives : (source : CheckedSource) (axes : Option Axes) (target : Span) (body : Tree) (condition : Condition) (plans : List Plan) (result : Result (List Write) Stop)
    → GivesOrStops (map (writing_seen_of (update source axes target body condition))) (each_in_order (row_written (update source axes target body condition)) plans) result
    → GivesOrStops (computed_seen (update source axes target body condition)) (computed_of_plans (update source axes target body condition) plans) (computing_of result)
updated_gives source axes target body condition plans result gives =
    let request : Request = update source axes target body condition in
    subst (λ (r : Result (List RowWriting) Reply). GivesOrStops (computed_seen request) (written_in_rows r) (computing_of result)) (sym (updates_each source axes target body condition plans))
    (written_gives (map (writing_seen_of request)) (each_in_order (row_written request) plans) (computed_seen request) (λ writes. refl) result gives)

pub deleted_gives : (source : CheckedSource) (condition : Condition) (plans : List Plan) (result : Result (List Write) Stop)
    → GivesOrStops (map (writing_seen_of (delete source condition))) (each_in_order (row_written (delete source condition)) plans) result
    → GivesOrStops (computed_seen (delete source condition)) (computed_of_plans (delete source condition) plans) (computing_of result)
deleted_gives source condition plans result gives =
    subst (λ (r : Result (List RowWriting) Reply). GivesOrStops (computed_seen (delete source condition)) (written_in_rows r) (computing_of result)) (sym (deletes_each source condition plans))
    (written_gives (map (writing_seen_of (delete source condition))) (each_in_order (row_written (delete source condition)) plans)
    (computed_seen (delete source condition)) (λ writes. refl) result gives)
