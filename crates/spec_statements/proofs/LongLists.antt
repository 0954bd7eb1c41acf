-- A list that is too long is refused before it is asked for, and nothing is asked for after it.
use Rattle.std.proofs.Common.{◌≡◌, ℕ, zero, suc, true, ◌<◌, List, [], length, refl, sym, ap, subst, arith}
use Rattle.std.specs.Prelude.{Result, Ok, Err}
use Rattle.std.proofs.lemmas.Bool.{lt-ltb}
use Rattle.ras_cells.specs.Outcomes.{◌>>=◌}
use Rattle.ras_syntax.specs.declared.faults.ShapeFault.TheVariants.{TooManyLocks}
use Rattle.spec_expressions.specs.Database.{Database}
use Rattle.spec_statements.specs.Plans.{Plan, plans_of}
use Rattle.spec_statements.specs.Reply.{Reply, misfit}
use Rattle.spec_statements.specs.Effects.{database_in, outcome_of_plans, outcome_of, reply_in}
use Rattle.spec_statements.specs.Limits.{limited_locks, limited_plans, whole_text}
use Rattle.spec_statements.specs.Phases.{list_or_none, needs_3, needs_4, passing_rows, phase_2_list, phase_3_list, phase_4_list, shaped_condition, until_bodies, until_condition, until_domains, until_passing, until_plans, until_rows}
use Rattle.spec_statements.specs.Locks.{Lock}
use Rattle.ras_syntax.specs.declared.statement.Statement.{Statement}
use Rattle.ras_syntax.specs.declared.types.SetType.{SetType}
use Rattle.spec_statements.specs.LongLists.{IsRefusedAtFirst, IsRefusedFrom}
use Rattle.spec_statements.specs.Machine.{first_list, is_too_long, needs_of}
use Rattle.spec_statements.specs.Rows.{Row, where_of}
use Rattle.spec_statements.specs.Statement.{StatementTree}
use Rattle.ras_syntax.specs.declared.limits.TheConstants.{MAX_LOCKS}

abbrev too_many : StatementTree → Reply
too_many statement = misfit 0 (whole_text statement) TooManyLocks

-- a step that stops, and what comes after one that has stopped
stops : {A B : Type 0} (r : Result A Reply) (f : A → Result B Reply) (a : A) (reply : Reply) → r ≡ Ok a → f a ≡ Err reply → (r >>= f) ≡ Err reply
stops {A} {B} r f a reply e h = let P : Result A Reply → Type 0 = λ q. (q >>= f) ≡ Err reply in subst P (sym e) h

stays : {A B : Type 0} (r : Result A Reply) (f : A → Result B Reply) (reply : Reply) → r ≡ Err reply → (r >>= f) ≡ Err reply
stays {A} {B} r f reply e = let P : Result A Reply → Type 0 = λ q. (q >>= f) ≡ Err reply in subst P (sym e) refl

limited_locks-long : (statement : StatementTree) (asked : List Lock) → MAX_LOCKS < length asked → limited_locks statement asked ≡ Err (too_many statement)
limited_locks-long statement asked h = rw (lt-ltb MAX_LOCKS (length asked) h)

-- the list is asked for before anything else
asks : {B : Type 0} (statement : StatementTree) (asked : List Lock) (f : List Lock → Result B Reply) → MAX_LOCKS < length asked
    → (limited_locks statement asked >>= f) ≡ Err (too_many statement)
asks statement asked f h = stays (limited_locks statement asked) f (too_many statement) (limited_locks-long statement asked h)

module _ (statement : StatementTree) (database : Database) where
  abbrev Stopped : {A : Type 0} → Result A Reply → Type 0
  Stopped r = r ≡ Err (too_many statement)

  -- what stopped stays so in the later steps
  condition-stopped : Stopped (until_domains statement database) → Stopped (until_condition statement database)
  condition-stopped e = stays (until_domains statement database) (λ rows. shaped_condition (where_of statement.request) rows) (too_many statement) e

  passing-stopped : Stopped (until_condition statement database) → Stopped (until_passing statement database)
  passing-stopped e =
      stays (until_condition statement database)
      (λ rows. limited_locks statement (phase_3_list statement rows) >>= λ asked. passing_rows (where_of statement.request) rows) (too_many statement) e

  plans-stopped : Stopped (until_passing statement database) → Stopped (until_plans statement database)
  plans-stopped e =
      stays (until_passing statement database) (λ rows. plans_of statement.request rows >>= λ plans. limited_plans statement plans) (too_many statement) e

  bodies-stopped : Stopped (until_plans statement database) → Stopped (until_bodies statement database)
  bodies-stopped e =
      stays (until_plans statement database) (λ plans. limited_locks statement (phase_4_list statement plans) >>= λ asked. Ok plans) (too_many statement) e

  third-none : Stopped (until_condition statement database) → needs_3 statement database ≡ []
  third-none e = ap list_or_none (stays (until_condition statement database) (λ rows. limited_locks statement (phase_3_list statement rows)) (too_many statement) e)

  fourth-none : Stopped (until_plans statement database) → needs_4 statement database ≡ []
  fourth-none e = ap list_or_none (stays (until_plans statement database) (λ plans. limited_locks statement (phase_4_list statement plans)) (too_many statement) e)

  outcome-stopped : Stopped (until_bodies statement database) → Stopped (outcome_of statement database)
  outcome-stopped e = stays (until_bodies statement database) (λ plans. outcome_of_plans statement.request plans database) (too_many statement) e

  pub refused-4 : (plans : List Plan) → until_plans statement database ≡ Ok plans → MAX_LOCKS < length (phase_4_list statement plans) → IsRefusedFrom 4 statement database
  refused-4 plans e h =
      let stopped = outcome-stopped (stops (until_plans statement database) (λ plans. limited_locks statement (phase_4_list statement plans) >>= λ asked. Ok plans)
      plans (too_many statement) e (asks statement (phase_4_list statement plans) (λ asked. Ok plans) h)) in
      record {
        answer = ap reply_in stopped;
        effect = ap (database_in database) stopped;
        second = λ early. absurd (omega arith);
        third = λ early. absurd (omega arith);
        fourth = ap list_or_none (stops (until_plans statement database) (λ plans. limited_locks statement (phase_4_list statement plans)) plans (too_many statement) e
            (limited_locks-long statement (phase_4_list statement plans) h));
      }

  pub refused-3 : (rows : List (ℕ × Row)) → until_condition statement database ≡ Ok rows → MAX_LOCKS < length (phase_3_list statement rows) → IsRefusedFrom 3 statement database
  refused-3 rows e h =
      let asked_too_long = plans-stopped (stops (until_condition statement database)
      (λ rows. limited_locks statement (phase_3_list statement rows) >>= λ asked. passing_rows (where_of statement.request) rows) rows (too_many statement) e
      (asks statement (phase_3_list statement rows) (λ asked. passing_rows (where_of statement.request) rows) h)) in
      let stopped = outcome-stopped (bodies-stopped asked_too_long) in
      record {
        answer = ap reply_in stopped;
        effect = ap (database_in database) stopped;
        second = λ early. absurd (omega arith);
        third = λ early. ap list_or_none (stops (until_condition statement database) (λ rows. limited_locks statement (phase_3_list statement rows)) rows
            (too_many statement) e (limited_locks-long statement (phase_3_list statement rows) h));
        fourth = fourth-none asked_too_long;
      }

  pub refused-2 : (rows : List (ℕ × Row)) → until_rows statement database ≡ Ok rows → MAX_LOCKS < length (phase_2_list statement rows) → IsRefusedFrom 2 statement database
  refused-2 rows e h =
      let asked_too_long = condition-stopped (stops (until_rows statement database) (λ rows. limited_locks statement (phase_2_list statement rows) >>= λ asked. Ok rows)
      rows (too_many statement) e (asks statement (phase_2_list statement rows) (λ asked. Ok rows) h)) in
      let no_plans = plans-stopped (passing-stopped asked_too_long) in
      let stopped = outcome-stopped (bodies-stopped no_plans) in
      record {
        answer = ap reply_in stopped;
        effect = ap (database_in database) stopped;
        second = λ early. ap list_or_none (stops (until_rows statement database) (λ rows. limited_locks statement (phase_2_list statement rows)) rows
            (too_many statement) e (limited_locks-long statement (phase_2_list statement rows) h));
        third = λ early. third-none asked_too_long;
        fourth = fourth-none no_plans;
      }

-- a first list that is too long leaves no list of any phase
no_lists : (types : List SetType) (statement : Statement) (database : Database) (phase : ℕ) → is_too_long (first_list statement) ≡ true → needs_of types statement phase database ≡ []
no_lists types statement database zero long = refl
no_lists types statement database (suc zero) long = rw long
no_lists types statement database (suc (suc zero)) long = rw long
no_lists types statement database (suc (suc (suc zero))) long = rw long
no_lists types statement database (suc (suc (suc (suc zero)))) long = rw long
no_lists types statement database (suc (suc (suc (suc (suc phase))))) long = refl

pub refused-1 : (types : List SetType) (statement : Statement) (database : Database) → MAX_LOCKS < length (first_list statement) → IsRefusedAtFirst types statement database
refused-1 types statement database h =
    let long : is_too_long (first_list statement) ≡ true = lt-ltb MAX_LOCKS (length (first_list statement)) h in
    record { answer = rw long; effect = rw long; lists = λ phase. no_lists types statement database phase long }
