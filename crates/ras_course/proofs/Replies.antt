-- Which replies come where, by the definitions: a reply in place of a list, and those that come behind the lists.
use Rattle.std.proofs.Common.{◌≡◌, ◌≢◌, ℕ, zero, suc, ◌≤◌, ℤ, inl, inr, List, [], ◌∷◌, Option, Result, Ok, Err, refl, sym, ap, ◌∙◌, subst, arith}
use Rattle.std.proofs.lemmas.Bool.{cases_eq}
use Rattle.ras_cells.specs.declared.cell.Cell.{Cell}
use Rattle.ras_cells.specs.declared.cell.CellFault.{CellFault}
use Rattle.ras_cells.specs.Outcomes.{◌>>=◌}
use Rattle.ras_syntax.specs.declared.types.SetType.{SetType}
use Rattle.spec_expressions.specs.Database.{Database}
use Rattle.spec_expressions.specs.Eval.{cells_of}
use Rattle.spec_expressions.specs.Tree.{Tree}
use Rattle.spec_statements.specs.Effects.{StatementOutcome, Stores, database_in, effect_of_checked, faulty_in, insert_outcome, insert_store, outcome_of_plans, plan_stores}
use Rattle.spec_statements.specs.Effects.{reply_in, reply_of_checked, row_reply, stores_of_plans, update_store, values_of_plans, stores_at, body_points}
use Rattle.spec_statements.specs.Limits.{limited_locks}
use Rattle.spec_statements.specs.Locks.{Lock}
use Rattle.spec_statements.specs.Phases.{passing_rows, phase_2_list, phase_3_list, phase_4_list, shaped_condition, until_bodies, until_condition, until_passing, until_plans, until_rows}
use Rattle.spec_statements.specs.Plans.{Plan}
use Rattle.spec_statements.specs.Reply.{Reply, RowReply, done, values}
use Rattle.spec_statements.specs.Rows.{Row, environment_of, where_of}
use Rattle.spec_statements.specs.Statement.{Request, StatementTree, select, insert, delete, update, create, drop}
use Rattle.spec_views.specs.Holdings.{passing_by}
use Rattle.law_shapes.proofs.Outcomes.{bind_ok}
use Rattle.ras_eval.specs.Seen.{too_many_locks}
use Rattle.ras_reach.proofs.AskedSame.{IsFaulty, IsMisfit, Stops, never-both, passing-stops, stop-after, stop-before, the-stop}
use Rattle.ras_reach.specs.Asked.{asked_at, asked_in_4}
use Rattle.ras_reach.specs.PhaseLists.{asked_in_2, asked_in_3}
use Rattle.ras_rows.specs.Plans.{planned}

-- ---- replies behind the lists are of cells

stops-bind : {A B : Type 0} (r : Result A Reply) (f : A → Result B Reply) → Stops IsFaulty r → ((a : A) → Stops IsFaulty (f a)) → Stops IsFaulty (r >>= f)
stops-bind (Ok a) f first later = later a
stops-bind (Err reply) f first later = first

faulty-stops : {X : Type 0} (k : ℕ) (r : Result X (List ℤ × CellFault)) → Stops IsFaulty (faulty_in k r)
faulty-stops k (Ok x) = tt
faulty-stops k (Err fault) = tt

values-stop : (body : Tree) (plans : List Plan) → Stops IsFaulty (values_of_plans body plans)
values-stop body [] = tt
values-stop body (plan ∷ plans) =
    stops-bind (faulty_in plan.number (cells_of (environment_of plan.row) body)) _ (faulty-stops plan.number (cells_of (environment_of plan.row) body))
    (λ cells. stops-bind (values_of_plans body plans) (λ others. Ok (row_reply plan.shape cells ∷ others)) (values-stop body plans) (λ others. tt))

stores-stop : (store : Cell → Result (Option (List ℤ)) CellFault) (body : Tree) (plans : List Plan) → Stops IsFaulty (stores_of_plans store body plans)
stores-stop store body [] = tt
stores-stop store body (plan ∷ plans) =
    stops-bind (plan_stores store body plan) _ (faulty-stops plan.number (stores_at store (environment_of plan.row) body plan.cuts (body_points plan)))
    (λ stores. stops-bind (stores_of_plans store body plans) (λ others. Ok ((plan, stores) ∷ others)) (stores-stop store body plans) (λ others. tt))

fits-bind : {A : Type 0} (r : Result A Reply) (f : A → StatementOutcome) → Stops IsFaulty r → ((a : A) → IsMisfit (f a).0 → ⊥)
    → IsMisfit (reply_in (r >>= λ a. Ok (f a))) → ⊥
fits-bind (Ok a) f stops fits misfits = fits a misfits
fits-bind (Err reply) f stops fits misfits = never-both reply misfits stops

insert-fits : (into : List ℕ) (of : SetType) (database : Database) (made : List (Plan × Stores)) → IsMisfit (insert_outcome into of database made).0 → ⊥
insert-fits into of database [] misfits = misfits
insert-fits into of database (one ∷ others) misfits = misfits

plans-fit : (request : Request) (plans : List Plan) (database : Database) → IsMisfit (reply_in (outcome_of_plans request plans database)) → ⊥
plans-fit (select body sources condition) plans database =
    fits-bind (values_of_plans body plans) (λ rows. (values rows, database)) (values-stop body plans) (λ rows misfits. misfits)
plans-fit (insert into of body) plans database =
    fits-bind (stores_of_plans (insert_store of) body plans) (insert_outcome into of database) (stores-stop (insert_store of) body plans) (insert-fits into of database)
plans-fit (delete source condition) plans database = λ misfits. misfits
plans-fit (update source axes target body condition) plans database =
    fits-bind (stores_of_plans (update_store source.of) body plans) _ (stores-stop (update_store source.of) body plans) (λ made misfits. misfits)
plans-fit (create name of) plans database = λ misfits. misfits
plans-fit (drop name) plans database = λ misfits. misfits

-- ---- a select leaves what there is

rows-leave : (database : Database) (r : Result (List RowReply) Reply) → database_in database (r >>= λ rows. Ok (values rows, database)) ≡ database
rows-leave database (Ok rows) = refl
rows-leave database (Err reply) = refl

done-leaves : {A : Type 0} (database : Database) (rows : List RowReply) (r : Result A Reply) (f : A → StatementOutcome) → ((a : A) → (f a).0 ≢ values rows)
    → reply_in (r >>= λ a. Ok (f a)) ≡ values rows → database_in database (r >>= λ a. Ok (f a)) ≡ database
done-leaves database rows (Ok a) f never is = absurd (never a is)
done-leaves database rows (Err reply) f never is = refl

insert-done : (rows : List RowReply) (into : List ℕ) (of : SetType) (database : Database) (made : List (Plan × Stores))
    → (insert_outcome into of database made).0 ≢ values rows
insert-done rows into of database [] is = absurd cc
insert-done rows into of database (one ∷ others) is = absurd cc

update-done : (rows : List RowReply) (n : ℕ) → done n ≢ values rows
update-done rows n is = absurd cc

plans-leave : (request : Request) (plans : List Plan) (database : Database) (rows : List RowReply) → reply_in (outcome_of_plans request plans database) ≡ values rows
    → database_in database (outcome_of_plans request plans database) ≡ database
plans-leave (select body sources condition) plans database rows is = rows-leave database (values_of_plans body plans)
plans-leave (insert into of body) plans database rows is =
    done-leaves database rows (stores_of_plans (insert_store of) body plans) (insert_outcome into of database) (insert-done rows into of database) is
plans-leave (delete source condition) plans database rows is = absurd (update-done rows _ is)
plans-leave (update source axes target body condition) plans database rows is =
    done-leaves database rows (stores_of_plans (update_store source.of) body plans) _ (λ made. update-done rows _) is
plans-leave (create name of) plans database rows is = absurd (update-done rows _ is)
plans-leave (drop name) plans database rows is = absurd (update-done rows _ is)

outcome-leaves : (request : Request) (database : Database) (rows : List RowReply) (r : Result (List Plan) Reply)
    → reply_in (r >>= λ plans. outcome_of_plans request plans database) ≡ values rows
    → database_in database (r >>= λ plans. outcome_of_plans request plans database) ≡ database
outcome-leaves request database rows (Ok plans) is = plans-leave request plans database rows is
outcome-leaves request database rows (Err reply) is = refl

err-before : {A B : Type 0} (r : Result A Reply) (f : A → B) (reply : Reply) → (r >>= λ a. Ok (f a)) ≡ Err reply → r ≡ Err reply
err-before (Ok a) f reply is = absurd cc
err-before (Err other) f reply is = let same : other ≡ reply = cc in ap Err same

never-ok : {A : Type 0} (r : Result A Reply) (a : A) (reply : Reply) → r ≡ Ok a → r ≡ Err reply → ⊥
never-ok {A = A} r a reply is other = let both : (let one : Result A Reply = Ok a in one ≡ Err reply) = sym is ∙ other in absurd cc

module _ (tree : StatementTree) (database : Database) where
  -- the reply of a select's rows
  pub values_leave : (rows : List RowReply) → reply_of_checked tree database ≡ values rows → effect_of_checked tree database ≡ database
  values_leave rows is = outcome-leaves tree.request database rows (until_bodies tree database) is

  -- ---- where a list was asked for

  third_fits : (list : List Lock) → asked_in_3 tree database ≡ Ok list → passing_by tree database ≢ Err (too_many_locks tree)
  third_fits list is stop =
      never-ok (asked_in_3 tree database) list (too_many_locks tree) is
      (stop-before (until_condition tree database) (λ rows. limited_locks tree (phase_3_list tree rows)) (too_many_locks tree) (passing_rows (where_of tree.request))
      (λ rows e. never-both (too_many_locks tree) tt (the-stop IsFaulty (passing_rows (where_of tree.request) rows) (too_many_locks tree) (passing-stops tree rows) e))
      (err-before (until_passing tree database) _ (too_many_locks tree) stop))

  bodies-asked : (list : List Lock) → asked_in_4 tree database ≡ Ok list → (plans : List Plan) × (until_bodies tree database ≡ Ok plans)
  bodies-asked list is =
      let (plans, are_plans, last) = bind_ok (until_plans tree database) (λ plans. limited_locks tree (phase_4_list tree plans)) list is in (
        plans,
        ap (λ (r : Result (List Plan) Reply). r >>= λ plans. limited_locks tree (phase_4_list tree plans) >>= λ asked. Ok plans) are_plans
            ∙ ap (λ (l : Result (List Lock) Reply). l >>= λ asked. Ok plans) last,
      )

  fourth_fits : (list : List Lock) → asked_in_4 tree database ≡ Ok list → reply_of_checked tree database ≢ too_many_locks tree
  fourth_fits list is same =
      let bodies = bodies-asked list is in
      let reply : reply_of_checked tree database ≡ reply_in (outcome_of_plans tree.request bodies.0 database) =
      ap (λ (r : Result (List Plan) Reply). reply_in (r >>= λ plans. outcome_of_plans tree.request plans database)) bodies.1 in
      plans-fit tree.request bodies.0 database (subst IsMisfit (sym same ∙ reply) tt)

  pub passing_fits : (phase : ℕ) (list : List Lock) → phase ≡ 3 → asked_at phase tree database ≡ Ok list → passing_by tree database ≢ Err (too_many_locks tree)
  passing_fits phase list third is = third_fits list (subst (λ p. asked_at p tree database ≡ Ok list) third is)

  pub reply_fits : (phase : ℕ) (list : List Lock) → phase ≡ 4 → asked_at phase tree database ≡ Ok list → reply_of_checked tree database ≢ too_many_locks tree
  reply_fits phase list fourth is = fourth_fits list (subst (λ p. asked_at p tree database ≡ Ok list) fourth is)

  -- ---- where a reply came in place of a list

  module _ (reply : Reply) where
    second-on : asked_in_2 tree database ≡ Err reply → asked_in_3 tree database ≡ Err reply
    second-on is =
        ap (λ (r : Result (List (ℕ × Row)) Reply). (r >>= shaped_condition (where_of tree.request)) >>= λ rows. limited_locks tree (phase_3_list tree rows))
        (stop-after (until_rows tree database) (λ rows. limited_locks tree (phase_2_list tree rows)) reply (λ (rows : List (ℕ × Row)). Ok rows) is)

    passing-on : until_passing tree database ≡ Err reply → asked_in_4 tree database ≡ Err reply
    passing-on is = ap (λ (r : Result (List (ℕ × Row)) Reply). (r >>= planned tree) >>= λ plans. limited_locks tree (phase_4_list tree plans)) is

    third-on : asked_in_3 tree database ≡ Err reply → asked_in_4 tree database ≡ Err reply
    third-on is =
        passing-on (stop-after (until_condition tree database) (λ rows. limited_locks tree (phase_3_list tree rows)) reply (passing_rows (where_of tree.request)) is)

    fourth-on : asked_in_4 tree database ≡ Err reply → until_bodies tree database ≡ Err reply
    fourth-on is = stop-after (until_plans tree database) (λ plans. limited_locks tree (phase_4_list tree plans)) reply (λ (plans : List Plan). Ok plans) is

    -- the rows that pass are those before the fourth list
    pub named_on : passing_by tree database ≡ Err reply → asked_at 4 tree database ≡ Err reply
    named_on is = passing-on (err-before (until_passing tree database) _ reply is)

    next-on : (phase : ℕ) → 2 ≤ phase → phase ≤ 3 → asked_at phase tree database ≡ Err reply → asked_at (suc phase) tree database ≡ Err reply
    next-on zero from to is = absurd (omega (arith, from))
    next-on (suc zero) from to is = absurd (omega (arith, from))
    next-on (suc (suc zero)) from to is = second-on is
    next-on (suc (suc (suc zero))) from to is = third-on is
    next-on (suc (suc (suc (suc phase)))) from to is = absurd (omega (arith, to))

    -- it comes in place of each later list
    pub asked_on : (phase later : ℕ) → 2 ≤ phase → phase ≤ later → later ≤ 4 → asked_at phase tree database ≡ Err reply → asked_at later tree database ≡ Err reply
    asked_on phase zero from to few is = absurd (omega (arith, from, to))
    asked_on phase (suc later) from to few is = elim (cases_eq phase (suc later)) [
      | inl same ↦ subst (λ p. asked_at p tree database ≡ Err reply) same is
      | inr differs ↦ next-on later (omega (arith, from, to, differs)) (omega (arith, few)) (asked_on phase later from (omega (arith, to, differs)) (omega (arith, few)) is)
    ]

    -- and nothing is changed
    pub asked_leaves : (phase : ℕ) → 2 ≤ phase → phase ≤ 4 → asked_at phase tree database ≡ Err reply → effect_of_checked tree database ≡ database
    asked_leaves phase from to is =
        ap (λ (r : Result (List Plan) Reply). database_in database (r >>= λ plans. outcome_of_plans tree.request plans database))
        (fourth-on (asked_on phase 4 from to (omega arith) is))
