-- What a statement comes to over a view is what it comes to over each database for which the view stands.
use Rattle.std.proofs.Common.{◌≡◌, ℕ, suc, ◌≤◌, Bool, true, false, List, [], ◌∷◌, map, Result, Ok, Err, refl, sym, ap, ◌∙◌, subst, arith}
use Rattle.std.specs.Prelude.{length, nat_lt, if◌then◌else◌}
use Rattle.ras_cells.specs.Outcomes.{◌>>=◌}
use Rattle.ras_eval.specs.Computed.{ComputedValue, answered, computed_of_plans, computed_over, computed_seen, written}
use Rattle.ras_eval.specs.Seen.{IsComputedAs, IsSeenOne, too_many_locks}
use Rattle.ras_eval.proofs.ShownRows.{computed_shown}
use Rattle.ras_rows.specs.Plans.{rows_listed}
use Rattle.ras_rows.specs.Stops.{GivesOrStops}
use Rattle.ras_rows.specs.declared.stop.Stop.{Stop}
use Rattle.ras_rows.specs.declared.stop.Stop.TheVariants.{Answer, Memory}
use Rattle.ras_store.specs.declared.write.Computed.{Computed}
use Rattle.ras_store.specs.declared.write.Computed.TheVariants.{Rows, Writes}
use Rattle.ras_syntax.specs.declared.limits.TheConstants.{MAX_LOCKS}
use Rattle.ras_syntax.specs.declared.statement.Statement.{Statement}
use Rattle.ras_syntax.specs.declared.types.SetType.{SetType}
use Rattle.ras_syntax.specs.declared.typed.Checked.{Checked}
use Rattle.spec_expressions.specs.Database.{Database}
use Rattle.spec_statements.specs.Effects.{StatementOutcome, Stores, insert_outcome, insert_store, outcome_of, outcome_of_plans, reply_in}
use Rattle.spec_statements.specs.Effects.{reply_of_checked, stores_of_plans, update_store, values_of_plans, with_arrays, with_changed, with_updated}
use Rattle.spec_statements.specs.Limits.{limited_locks, whole_text}
use Rattle.spec_statements.specs.Machine.{reply_of}
use Rattle.spec_statements.specs.Phases.{phase_4_list, until_bodies, until_plans}
use Rattle.spec_statements.specs.Plans.{Plan}
use Rattle.spec_statements.specs.Reply.{Reply, RowReply, done, reply_of_answer, row_reply_of, values}
use Rattle.spec_statements.specs.Rows.{sources_of}
use Rattle.spec_statements.specs.Statement.{Request, StatementTree, select, insert, delete, update, create, drop, request_of, statement_tree_of}
use Rattle.spec_views.specs.Holdings.{Holdings, IsSeenBy, lists_before, passing_by}
use Rattle.spec_views.specs.Writings.{RowWriting, row_writing, written_by, writings_of_plans}
use Rattle.law_shown.proofs.Consequences.{same_answers, same_writings}
use Rattle.law_shown.proofs.Shows.{shows_a_database}
use Rattle.law_views.proofs.Seen.{fewer_lists, seen_passing}

-- ---- by the statement's form

rows-replied : (out : Result (List RowReply) Reply) (replies : List RowReply) (database : Database)
    → (out >>= λ rows. Ok (answered rows)) ≡ Ok (answered replies) → reply_in (out >>= λ rows. Ok (values rows, database)) ≡ values replies
rows-replied (Ok rows) replies database is = let same : rows ≡ replies = cc in ap values same
rows-replied (Err reply) replies database is = absurd cc

not-answered : (out : Result (List RowWriting) Reply) (replies : List RowReply) → (out >>= λ writings. Ok (written writings)) ≡ Ok (answered replies) → ⊥
not-answered (Ok writings) replies is = cc
not-answered (Err reply) replies is = cc

pub replies_by : (request : Request) (plans : List Plan) (database : Database) (replies : List RowReply) → computed_of_plans request plans ≡ Ok (answered replies)
    → reply_in (outcome_of_plans request plans database) ≡ values replies
replies_by (select body sources condition) plans database replies is = rows-replied (values_of_plans body plans) replies database is
replies_by (insert into of body) plans database replies is = absurd (not-answered (writings_of_plans (insert into of body) plans) replies is)
replies_by (delete source condition) plans database replies is = absurd (not-answered (writings_of_plans (delete source condition) plans) replies is)
replies_by (update source axes target body condition) plans database replies is = absurd (not-answered (writings_of_plans (update source axes target body condition) plans) replies is)
replies_by (create name of) plans database replies is = absurd (not-answered (writings_of_plans (create name of) plans) replies is)
replies_by (drop name) plans database replies is = absurd (not-answered (writings_of_plans (drop name) plans) replies is)

same-writings : (out : Result (List RowWriting) Reply) (writings : List RowWriting) → (out >>= λ some. Ok (written some)) ≡ Ok (written writings) → out ≡ Ok writings
same-writings (Ok some) writings is = let same : some ≡ writings = cc in ap Ok same
same-writings (Err reply) writings is = absurd cc

not-written : (out : Result (List RowReply) Reply) (writings : List RowWriting) → (out >>= λ rows. Ok (answered rows)) ≡ Ok (written writings) → ⊥
not-written (Ok rows) writings is = cc
not-written (Err reply) writings is = cc

pub writings_by : (request : Request) (plans : List Plan) (writings : List RowWriting) → computed_of_plans request plans ≡ Ok (written writings) → writings_of_plans request plans ≡ Ok writings
writings_by (select body sources condition) plans writings is = absurd (not-written (values_of_plans body plans) writings is)
writings_by (insert into of body) plans writings is = same-writings (writings_of_plans (insert into of body) plans) writings is
writings_by (delete source condition) plans writings is = same-writings (writings_of_plans (delete source condition) plans) writings is
writings_by (update source axes target body condition) plans writings is = same-writings (writings_of_plans (update source axes target body condition) plans) writings is
writings_by (create name of) plans writings is = same-writings (writings_of_plans (create name of) plans) writings is
writings_by (drop name) plans writings is = same-writings (writings_of_plans (drop name) plans) writings is

stop-in : {A B C : Type 0} (out : Result A Reply) (seen : A → B) (value : B → C) (next : A → Result StatementOutcome Reply) (reply : Reply)
    → ((out >>= λ a. Ok (seen a)) >>= λ b. Ok (value b)) ≡ Err reply → reply_in (out >>= next) ≡ reply
stop-in (Ok a) seen value next reply is = absurd cc
stop-in (Err other) seen value next reply is = let same : other ≡ reply = cc in same

stop-at : {A C : Type 0} (out : Result A Reply) (value : A → C) (next : A → Result StatementOutcome Reply) (reply : Reply)
    → (out >>= λ a. Ok (value a)) ≡ Err reply → reply_in (out >>= next) ≡ reply
stop-at (Ok a) value next reply is = absurd cc
stop-at (Err other) value next reply is = let same : other ≡ reply = cc in same

pub stops_by : (request : Request) (plans : List Plan) (database : Database) (reply : Reply) → computed_of_plans request plans ≡ Err reply
    → reply_in (outcome_of_plans request plans database) ≡ reply
stops_by (select body sources condition) plans database reply is = stop-at (values_of_plans body plans) answered (λ rows. Ok (values rows, database)) reply is
stops_by (insert into of body) plans database reply is =
    stop-in (stores_of_plans (insert_store of) body plans) (map row_writing) written (λ stores. Ok (insert_outcome into of database stores)) reply is
stops_by (delete source condition) plans database reply is = absurd cc
stops_by (update source axes target body condition) plans database reply is =
    stop-in (stores_of_plans (update_store source.of) body plans) (map row_writing) written
    (λ stores. Ok (done (length plans), with_changed source.collection (λ collection. with_arrays collection (with_updated source.of collection.arrays stores)) database)) reply is
stops_by (create name of) plans database reply is = absurd cc
stops_by (drop name) plans database reply is = absurd cc

stops-too : {A B C : Type 0} (out : Result A Reply) (value : A → B) (next : A → Result C Reply) (reply : Reply)
    → (out >>= λ a. Ok (value a)) ≡ Err reply → (out >>= next) ≡ Err reply
stops-too (Ok a) value next reply is = absurd cc
stops-too (Err other) value next reply is = let same : other ≡ reply = cc in ap Err same

same-stop : {A B : Type 0} (out : Result A Reply) (value : A → B) (reply : Reply) → (out >>= λ a. Ok (value a)) ≡ Err reply → out ≡ Err reply
same-stop (Ok a) value reply is = absurd cc
same-stop (Err other) value reply is = let same : other ≡ reply = cc in ap Err same

pub stops_writing : (request : Request) (plans : List Plan) (reply : Reply) → computed_of_plans request plans ≡ Err reply → writings_of_plans request plans ≡ Err reply
stops_writing (select body sources condition) plans reply is = stops-too (values_of_plans body plans) answered (λ rows. Ok []) reply is
stops_writing (insert into of body) plans reply is = same-stop (writings_of_plans (insert into of body) plans) written reply is
stops_writing (delete source condition) plans reply is = same-stop (writings_of_plans (delete source condition) plans) written reply is
stops_writing (update source axes target body condition) plans reply is = same-stop (writings_of_plans (update source axes target body condition) plans) written reply is
stops_writing (create name of) plans reply is = same-stop (writings_of_plans (create name of) plans) written reply is
stops_writing (drop name) plans reply is = same-stop (writings_of_plans (drop name) plans) written reply is

-- ---- over the database that is shown

module _ (tree : StatementTree) (database : Database) where
  -- the plans, where the last list isn't too long
  bodies-short : (plans : List Plan) → until_plans tree database ≡ Ok plans → (reply_of_checked tree database ≡ too_many_locks tree → ⊥) → until_bodies tree database ≡ Ok plans
  bodies-short plans is short = by (nat_lt MAX_LOCKS (length (phase_4_list tree plans))) refl
    where
      step : until_bodies tree database ≡ (limited_locks tree (phase_4_list tree plans) >>= λ asked. Ok plans)
      step = ap (λ (r : Result (List Plan) Reply). r >>= λ some. limited_locks tree (phase_4_list tree some) >>= λ asked. Ok some) is

      at : (too_long : Bool) → nat_lt MAX_LOCKS (length (phase_4_list tree plans)) ≡ too_long
          → until_bodies tree database ≡ ((if too_long then Err (too_many_locks tree) else Ok (phase_4_list tree plans)) >>= λ asked. Ok plans)
      at too_long e = step ∙ ap (λ (b : Bool). (if b then Err (too_many_locks tree) else Ok (phase_4_list tree plans)) >>= λ asked. Ok plans) e

      by : (too_long : Bool) → nat_lt MAX_LOCKS (length (phase_4_list tree plans)) ≡ too_long → until_bodies tree database ≡ Ok plans
      by true e = absurd (short (ap (λ (r : Result (List Plan) Reply). reply_in (r >>= λ some. outcome_of_plans tree.request some database)) (at true e)))
      by false e = at false e

  abbrev over : Result ComputedValue Reply
  over = until_plans tree database >>= computed_of_plans tree.request

  -- what is computed is told by the reply, or is what is written
  pub replied : (replies : List RowReply) → (reply_of_checked tree database ≡ too_many_locks tree → ⊥) → over ≡ Ok (answered replies) → reply_of_checked tree database ≡ values replies
  replied replies short is = by (until_plans tree database) refl is
    where
      by : (r : Result (List Plan) Reply) → until_plans tree database ≡ r → (r >>= computed_of_plans tree.request) ≡ Ok (answered replies) → reply_of_checked tree database ≡ values replies
      by (Err reply) e f = absurd cc
      by (Ok plans) e f =
          ap (λ (r : Result (List Plan) Reply). reply_in (r >>= λ some. outcome_of_plans tree.request some database)) (bodies-short plans e short) ∙ replies_by tree.request plans database replies f

  pub wrote : (writings : List RowWriting) → (reply_of_checked tree database ≡ too_many_locks tree → ⊥) → over ≡ Ok (written writings) → written_by tree database ≡ Ok writings
  wrote writings short is = by (until_plans tree database) refl is
    where
      by : (r : Result (List Plan) Reply) → until_plans tree database ≡ r → (r >>= computed_of_plans tree.request) ≡ Ok (written writings) → written_by tree database ≡ Ok writings
      by (Err reply) e f = absurd cc
      by (Ok plans) e f = ap (λ (r : Result (List Plan) Reply). r >>= writings_of_plans tree.request) (bodies-short plans e short) ∙ writings_by tree.request plans writings f

  pub stopped : (reply : Reply) → (reply_of_checked tree database ≡ too_many_locks tree → ⊥) → over ≡ Err reply → reply_of_checked tree database ≡ reply
  stopped reply short is = by (until_plans tree database) refl is
    where
      by : (r : Result (List Plan) Reply) → until_plans tree database ≡ r → (r >>= computed_of_plans tree.request) ≡ Err reply → reply_of_checked tree database ≡ reply
      by (Err other) e f =
          let same : other ≡ reply = cc in
          ap (λ (r : Result (List Plan) Reply). reply_in ((r >>= λ some. limited_locks tree (phase_4_list tree some) >>= λ asked. Ok some)
          >>= λ some. outcome_of_plans tree.request some database)) e ∙ same
      by (Ok plans) e f =
          ap (λ (r : Result (List Plan) Reply). reply_in (r >>= λ some. outcome_of_plans tree.request some database)) (bodies-short plans e short) ∙ stops_by tree.request plans database reply f

  pub stopped_writing : (reply : Reply) → (reply_of_checked tree database ≡ too_many_locks tree → ⊥) → over ≡ Err reply → written_by tree database ≡ Err reply
  stopped_writing reply short is = by (until_plans tree database) refl is
    where
      by : (r : Result (List Plan) Reply) → until_plans tree database ≡ r → (r >>= computed_of_plans tree.request) ≡ Err reply → written_by tree database ≡ Err reply
      by (Err other) e f =
          let same : other ≡ reply = cc in
          ap (λ (r : Result (List Plan) Reply). (r >>= λ some. limited_locks tree (phase_4_list tree some) >>= λ asked. Ok some)
          >>= writings_of_plans tree.request) e ∙ ap Err same
      by (Ok plans) e f = ap (λ (r : Result (List Plan) Reply). r >>= writings_of_plans tree.request) (bodies-short plans e short) ∙ stops_writing tree.request plans reply f

-- ---- over each database for which the view stands

module _ (types : List SetType) (statement : Statement) (holdings : Holdings) (checked : Checked) (one other : Database) (names : List (ℕ × List ℕ)) where
  abbrev checked_tree : StatementTree
  checked_tree = statement_tree_of checked

  earlier : (database : Database) → IsSeenBy types holdings statement 5 database → IsSeenBy types holdings statement 4 database
  earlier database seen = record { valid = seen.valid; stands = λ name among. seen.stands name (fewer_lists types statement database 4 name among) }

  pub computed_as : IsSeenOne types statement holdings checked 5 one → (reply_of types statement one ≡ too_many_locks checked_tree → ⊥) → IsSeenBy types holdings statement 5 other
      → passing_by checked_tree other ≡ Ok names → (result : Result Computed Stop)
      → GivesOrStops (computed_seen (request_of checked.form)) (computed_over checked_tree (rows_listed holdings (sources_of (request_of checked.form)) names)) result
      → IsComputedAs types statement checked other result
  computed_as given short seen pass result gives =
      let (shown, is) = shows_a_database types statement holdings one checked 5 given.setting given.short given.check (omega arith) given.seen given.part in
      let passes : passing_by checked_tree shown ≡ Ok names =
      seen_passing types statement holdings shown other is.setting checked given.short is.check (earlier shown is.seen) (earlier other seen) ∙ pass in
      let not_long : reply_of_checked checked_tree shown ≡ too_many_locks checked_tree → ⊥ =
      λ e. short (same_answers types statement holdings checked shown one given.short is given.seen ∙ e) in
      let here : over checked_tree shown ≡ computed_over checked_tree (rows_listed holdings (sources_of (request_of checked.form)) names) =
      computed_shown checked_tree holdings shown names is.rows passes in
      by shown here not_long (same_answers types statement holdings checked shown other given.short is seen)
      (same_writings types statement holdings checked shown other given.short is seen) result gives
    where
      by : (shown : Database) → over checked_tree shown ≡ computed_over checked_tree (rows_listed holdings (sources_of (request_of checked.form)) names)
          → (reply_of_checked checked_tree shown ≡ too_many_locks checked_tree → ⊥) → reply_of types statement other ≡ reply_of_checked checked_tree shown
          → written_by checked_tree other ≡ written_by checked_tree shown → (result : Result Computed Stop)
          → GivesOrStops (computed_seen (request_of checked.form)) (computed_over checked_tree (rows_listed holdings (sources_of (request_of checked.form)) names)) result
          → IsComputedAs types statement checked other result
      by shown here not_long replies writes (Ok (Rows rows)) gives = replies ∙ replied checked_tree shown (map row_reply_of rows) not_long (here ∙ gives)
      by shown here not_long replies writes (Ok (Writes some)) gives = writes ∙ wrote checked_tree shown _ not_long (here ∙ gives)
      by shown here not_long replies writes (Err (Answer answer)) gives = (
        replies ∙ stopped checked_tree shown (reply_of_answer answer) not_long (here ∙ gives),
        writes ∙ stopped_writing checked_tree shown (reply_of_answer answer) not_long (here ∙ gives),
      )
      by shown here not_long replies writes (Err Memory) gives = tt
