-- A list that is asked for is the one that the statement needs, and a reply in its place is the statement's.
use Rattle.std.proofs.Common.{◌≡◌, ℕ, zero, suc, ◌≤◌, false, if◌then◌else◌, List, [], Result, Ok, Err, sym, ap, ◌∙◌, subst, arith}
use Rattle.ras_cells.specs.Outcomes.{◌>>=◌}
use Rattle.ras_syntax.specs.declared.faults.ShapeFault.TheVariants.{TooManyLocks}
use Rattle.ras_syntax.specs.declared.statement.Statement.{Statement}
use Rattle.ras_syntax.specs.declared.types.SetType.{SetType}
use Rattle.ras_syntax.specs.declared.typed.Checked.{Checked}
use Rattle.spec_expressions.specs.Database.{Database}
use Rattle.spec_shown.specs.Shown.{IsShownBy}
use Rattle.spec_shown.specs.Standing.{IsShown}
use Rattle.spec_statements.specs.Effects.{outcome_of_plans, reply_in, reply_of_checked}
use Rattle.spec_statements.specs.Limits.{limited_locks}
use Rattle.spec_statements.specs.Locks.{Lock}
use Rattle.spec_statements.specs.Machine.{checked_over, first_list, is_too_long, needs_of, reply_after_check, reply_of}
use Rattle.spec_statements.specs.Phases.{list_or_none, needs_2, needs_3, needs_4, passing_rows, phase_2_list, phase_3_list, phase_4_list}
use Rattle.spec_statements.specs.Phases.{shaped_condition, until_bodies, until_condition, until_passing, until_plans, until_rows}
use Rattle.spec_statements.specs.Plans.{Plan}
use Rattle.spec_statements.specs.Reply.{Reply, misfit, reply_of_answer}
use Rattle.spec_statements.specs.Rows.{Row, sources_of, where_of}
use Rattle.spec_statements.specs.Statement.{StatementTree, request_of, statement_tree_of}
use Rattle.spec_views.specs.Holdings.{Holdings, IsSeenBy, passing_by}
use Rattle.law_effects.proofs.Phases.{later_is}
use Rattle.law_shown.proofs.Consequences.{same_check, same_passing}
use Rattle.law_shown.proofs.Shows.{shows_a_database}
use Rattle.ras_rows.specs.Plans.{planned, rows_listed}
use Rattle.ras_reach.proofs.AskedSame.{asked_seen, stop-after}
use Rattle.ras_reach.proofs.RowsTold.{asked_shown}
use Rattle.ras_reach.specs.Asked.{IsAskedOne, IsNeeded, asked_at, asked_in_4}
use Rattle.ras_reach.specs.Needs.{GivesLocks}
use Rattle.ras_reach.specs.PhaseLists.{asked_in_2, asked_in_3, asked_of_passing}
use Rattle.ras_reach.specs.declared.first.NeedsFault.{NeedsFault}
use Rattle.ras_reach.specs.declared.first.NeedsFault.TheVariants as faults

-- ---- over one database

module _ (tree : StatementTree) (database : Database) (reply : Reply) where
  bodies-reply : until_bodies tree database ≡ Err reply → reply_of_checked tree database ≡ reply
  bodies-reply is = ap (λ (r : Result (List Plan) Reply). reply_in (r >>= λ plans. outcome_of_plans tree.request plans database)) is

  passing-reply : until_passing tree database ≡ Err reply → reply_of_checked tree database ≡ reply
  passing-reply is =
      bodies-reply (ap (λ (r : Result (List (ℕ × Row)) Reply). (r >>= planned tree) >>= λ plans. limited_locks tree (phase_4_list tree plans) >>= λ asked. Ok plans) is)

  second-reply : asked_in_2 tree database ≡ Err reply → reply_of_checked tree database ≡ reply
  second-reply is =
      passing-reply (ap (λ (r : Result (List (ℕ × Row)) Reply). (r >>= shaped_condition (where_of tree.request))
      >>= λ rows. limited_locks tree (phase_3_list tree rows) >>= λ asked. passing_rows (where_of tree.request) rows)
      (stop-after (until_rows tree database) (λ rows. limited_locks tree (phase_2_list tree rows)) reply (λ (rows : List (ℕ × Row)). Ok rows) is))

  third-reply : asked_in_3 tree database ≡ Err reply → reply_of_checked tree database ≡ reply
  third-reply is = passing-reply (stop-after (until_condition tree database) (λ rows. limited_locks tree (phase_3_list tree rows)) reply (passing_rows (where_of tree.request)) is)

  fourth-reply : asked_in_4 tree database ≡ Err reply → reply_of_checked tree database ≡ reply
  fourth-reply is = bodies-reply (stop-after (until_plans tree database) (λ plans. limited_locks tree (phase_4_list tree plans)) reply (λ (plans : List Plan). Ok plans) is)

  pub asked_reply : (phase : ℕ) → asked_at phase tree database ≡ Err reply → reply_of_checked tree database ≡ reply
  asked_reply zero is = absurd cc
  asked_reply (suc zero) is = absurd cc
  asked_reply (suc (suc zero)) is = second-reply is
  asked_reply (suc (suc (suc zero))) is = third-reply is
  asked_reply (suc (suc (suc (suc zero)))) is = fourth-reply is
  asked_reply (suc (suc (suc (suc (suc phase))))) is = absurd cc

module _ (types : List SetType) (statement : Statement) (checked : Checked) (database : Database) (short : is_too_long (first_list statement) ≡ false)
    (check : checked_over types statement database ≡ Ok checked) where
  pub reply_as_checked : reply_of types statement database ≡ reply_of_checked (statement_tree_of checked) database
  reply_as_checked = λ i. if short i then misfit 0 (record { from = 0; to = statement.length }) TooManyLocks else reply_after_check (check i) database

  none_beyond : (list : List Lock) → (let none : Result (List Lock) Reply = Ok [] in none ≡ Ok list) → [] ≡ list
  none_beyond list is = cc

  pub asked_list : (phase : ℕ) (list : List Lock) → 2 ≤ phase → asked_at phase (statement_tree_of checked) database ≡ Ok list → needs_of types statement phase database ≡ list
  asked_list zero list later is = absurd (omega (arith, later))
  asked_list (suc zero) list later is = absurd (omega (arith, later))
  asked_list (suc (suc zero)) list later is = later_is needs_2 types statement database checked short check ∙ ap list_or_none is
  asked_list (suc (suc (suc zero))) list later is = later_is needs_3 types statement database checked short check ∙ ap list_or_none is
  asked_list (suc (suc (suc (suc zero)))) list later is = later_is needs_4 types statement database checked short check ∙ ap list_or_none is
  asked_list (suc (suc (suc (suc (suc phase))))) list later is = none_beyond list is

  pub needed_by : (phase : ℕ) → 2 ≤ phase → (result : Result (List Lock) NeedsFault) → GivesLocks (asked_at phase (statement_tree_of checked) database) result
      → IsNeeded types statement phase database result
  needed_by phase later (Ok list) gives = asked_list phase list later gives
  needed_by phase later (Err (faults.Answer answer)) gives = reply_as_checked ∙ asked_reply (statement_tree_of checked) database (reply_of_answer answer) phase gives
  needed_by phase later (Err faults.Memory) gives = tt

-- ---- over each database for which the view stands

module _ (types : List SetType) (statement : Statement) (holdings : Holdings) (checked : Checked) (one other : Database) where
  abbrev asked_tree : StatementTree
  asked_tree = statement_tree_of checked

  module _ (phase : ℕ) (later : 2 ≤ phase) (given : IsAskedOne types statement holdings checked phase one) (seen : IsSeenBy types holdings statement phase other)
      (result : Result (List Lock) NeedsFault) where
    abbrev Shown : Type 0
    Shown = (shown : Database) × IsShown types statement holdings checked phase shown

    shown_here : Shown
    shown_here = shows_a_database types statement holdings one checked phase given.setting given.short given.check later given.seen given.part

    pub asked_over : ((shown : Database) → IsShown types statement holdings checked phase shown → GivesLocks (asked_at phase asked_tree shown) result)
        → GivesLocks (asked_at phase asked_tree other) result
    asked_over gives =
        subst (λ (wanted : Result (List Lock) Reply). GivesLocks wanted result) (sym (asked_seen types statement holdings checked shown_here.0 other given.short phase later shown_here.1 seen))
        (gives shown_here.0 shown_here.1)

    pub needed_over : GivesLocks (asked_at phase asked_tree other) result → IsNeeded types statement phase other result
    needed_over gives =
        needed_by types statement checked other given.short (same_check types statement holdings checked shown_here.0 other given.short phase later shown_here.1 seen) phase later result gives

  -- by the phase, as the calls over the rows that are shown give it
  pub asked_second : IsAskedOne types statement holdings checked 2 one → IsSeenBy types holdings statement 2 other → (result : Result (List Lock) NeedsFault)
      → ((database : Database) → IsShownBy holdings (request_of checked.form) database → GivesLocks (asked_in_2 asked_tree database) result)
      → GivesLocks (asked_in_2 asked_tree other) result
  asked_second given seen result gives = asked_over 2 (omega arith) given seen result (λ shown is. gives shown is.rows)

  pub asked_third : IsAskedOne types statement holdings checked 3 one → IsSeenBy types holdings statement 3 other → (result : Result (List Lock) NeedsFault)
      → ((database : Database) → IsShownBy holdings (request_of checked.form) database → GivesLocks (asked_in_3 asked_tree database) result)
      → GivesLocks (asked_in_3 asked_tree other) result
  asked_third given seen result gives = asked_over 3 (omega arith) given seen result (λ shown is. gives shown is.rows)

  pub asked_fourth : IsAskedOne types statement holdings checked 4 one → IsSeenBy types holdings statement 4 other → (names : List (ℕ × List ℕ)) → passing_by asked_tree other ≡ Ok names
      → (result : Result (List Lock) NeedsFault) → GivesLocks (asked_of_passing asked_tree (rows_listed holdings (sources_of (request_of checked.form)) names)) result
      → GivesLocks (asked_in_4 asked_tree other) result
  asked_fourth given seen names pass result gives =
      asked_over 4 (omega arith) given seen result (λ shown is.
      let passes : passing_by asked_tree shown ≡ Ok names = sym (same_passing types statement holdings checked shown other given.short is seen) ∙ pass in
      subst (λ (wanted : Result (List Lock) Reply). GivesLocks wanted result) (sym (asked_shown asked_tree holdings shown names is.rows passes)) gives)

  -- by the number of the phase
  pub second_over : (phase : ℕ) → phase ≡ 2 → IsAskedOne types statement holdings checked phase one → IsSeenBy types holdings statement phase other → (result : Result (List Lock) NeedsFault)
      → ((database : Database) → IsShownBy holdings (request_of checked.form) database → GivesLocks (asked_in_2 asked_tree database) result)
      → GivesLocks (asked_at phase asked_tree other) result
  second_over phase is given seen result gives =
      subst (λ p. IsAskedOne types statement holdings checked p one → IsSeenBy types holdings statement p other → GivesLocks (asked_at p asked_tree other) result) (sym is)
      (λ here there. asked_second here there result gives) given seen

  pub third_over : (phase : ℕ) → phase ≡ 3 → IsAskedOne types statement holdings checked phase one → IsSeenBy types holdings statement phase other → (result : Result (List Lock) NeedsFault)
      → ((database : Database) → IsShownBy holdings (request_of checked.form) database → GivesLocks (asked_in_3 asked_tree database) result)
      → GivesLocks (asked_at phase asked_tree other) result
  third_over phase is given seen result gives =
      subst (λ p. IsAskedOne types statement holdings checked p one → IsSeenBy types holdings statement p other → GivesLocks (asked_at p asked_tree other) result) (sym is)
      (λ here there. asked_third here there result gives) given seen

  pub fourth_over : (phase : ℕ) → phase ≡ 4 → IsAskedOne types statement holdings checked phase one → IsSeenBy types holdings statement phase other → (names : List (ℕ × List ℕ))
      → passing_by asked_tree other ≡ Ok names → (result : Result (List Lock) NeedsFault)
      → GivesLocks (asked_of_passing asked_tree (rows_listed holdings (sources_of (request_of checked.form)) names)) result → GivesLocks (asked_at phase asked_tree other) result
  fourth_over phase is given seen names pass result gives =
      subst (λ p. IsAskedOne types statement holdings checked p one → IsSeenBy types holdings statement p other → GivesLocks (asked_at p asked_tree other) result) (sym is)
      (λ here there. asked_fourth here there names pass result gives) given seen
