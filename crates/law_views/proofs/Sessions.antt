-- A live transaction's work in a history: what it saw stays due and right, whatever others do.
use Rattle.std.proofs.Common.{◌≡◌, ◌≢◌, ℕ, ◌+◌, ◌<◌, ◌≤◌, false, List, [], ◌∷◌, ◌++◌, length, Some, sym, ◌∙◌, subst, arith, cond}
use Rattle.std.specs.Prelude.{IsTrue}
use Rattle.std.proofs.lemmas.List.Elements.{Contains-append_left, Contains-append_right}
use Rattle.std.proofs.lemmas.List.Sums.{sum_by-append}
use Rattle.ras_syntax.specs.declared.answer.Answer.{Answer}
use Rattle.ras_syntax.specs.declared.event.Event.TheVariants.{Answered}
use Rattle.ras_syntax.specs.declared.limits.TheConstants.{MAX_IDENTIFIER}
use Rattle.ras_syntax.specs.declared.statement.Statement.{Statement}
use Rattle.ras_syntax.specs.declared.types.SetType.{SetType}
use Rattle.spec_expressions.specs.Database.{Database}
use Rattle.spec_statements.specs.Agree.{Agrees}
use Rattle.spec_statements.specs.Locks.{Lock}
use Rattle.spec_statements.specs.Machine.{needs_of, reply_of}
use Rattle.spec_statements.specs.ReachLaw.{AreNamedIn, Names}
use Rattle.spec_statements.specs.Reply.{reply_of_answer}
use Rattle.spec_statements.specs.Validity.{IsValidFor}
use Rattle.spec_histories.specs.History.{History, Programs, answered_statements, committed_database, events_of, granted_locks, has_phase, is_closed, is_open, own_database, program_needs, program_reply, statement_numbered}
use Rattle.spec_histories.specs.Legal.{IsDueList, IsGoingOn, IsLegal, MayFollow}
use Rattle.spec_histories.specs.Serializable.{ArePrograms, HasRoom, committed_statements, is_answered}
use Rattle.law_histories.proofs.Counts.{live-few}
use Rattle.law_histories.proofs.Good.{asked-within}
use Rattle.law_histories.proofs.Grants.{statement_of-fits}
use Rattle.law_histories.proofs.Legal.{AreGood, legal_good}
use Rattle.law_histories.proofs.Runs.{run-ready, run-valid}
use Rattle.law_histories.proofs.Statements.{Within, needs-same, told-same}
use Rattle.law_histories.proofs.Stays.{base-stays, legal-before, live-stays, mine-before, own-stays}
use Rattle.spec_views.specs.Holdings.{IsSeenBy, lists_before}
use Rattle.spec_views.specs.Sessions.{IsWorkOf}
use Rattle.spec_views.specs.Work.{AllStandFor, IsWork, IsWorkOver, RewritesTo, TakenPiece, Work, taken_locks}
use Rattle.law_views.proofs.Seen.{listed_before}
use Rattle.law_views.proofs.Standing.{stands-fewer, stands-moved}

-- pieces stand for each database that agrees on their names
pieces_moved : (types : List SetType) (pieces : List TakenPiece) (list : List Lock) (one other : Database) → AreNamedIn (taken_locks pieces) list
    → Agrees types list one other → AllStandFor types pieces one → AllStandFor types pieces other
pieces_moved types [] list one other named agrees stand = tt
pieces_moved types (piece ∷ pieces) list one other named agrees stand =
    (stands-moved types piece.holdings piece.list one other here stand.0, pieces_moved types pieces list one other later agrees stand.1)
  where
    here : Agrees types piece.list one other
    here name mode has =
        let found : Names list name = named name (mode, Contains-append_left piece.list (taken_locks pieces) (name, mode) has) in
        agrees name found.0 found.1

    later : AreNamedIn (taken_locks pieces) list
    later name has = named name (has.0, Contains-append_right piece.list (taken_locks pieces) (name, has.0) has.1)

-- ---- at one moment

module _ (programs : Programs) (bound : ℕ) (past : History) (t : ℕ) (work : Work) (are : ArePrograms programs bound) (room : HasRoom bound past)
    (legal : IsLegal programs past) (is : IsWorkOf programs past t work) where
  all_good : AreGood programs bound past
  all_good = legal_good programs bound past are room legal

  work_over : IsWorkOver programs (answered_statements programs (events_of t past)) work (committed_database programs past)
  work_over = is.is_work (committed_database programs past) all_good.ready.valid is.pieces

  -- the work leads from the committed database to the transaction's own
  pub work_rewrites : RewritesTo programs.types work.rewrites (committed_database programs past) (own_database programs past t)
  work_rewrites = work_over.rewrites

  -- the view serves for the transaction's own database up to each phase whose earlier lists were granted
  pub own_seen : (k p : ℕ) (statement : Statement) → statement_numbered programs (events_of t past) k ≡ Some statement → is_closed k (events_of t past) ≡ false
      → ((q : ℕ) → q < p → program_needs programs statement q (own_database programs past t) ≢ [] → IsTrue (has_phase k q (events_of t past)))
      → IsSeenBy programs.types work.view statement p (own_database programs past t)
  unfolding program_needs
  own_seen k p statement text not_closed earlier = record {
    valid = run-valid programs (answered_statements programs (events_of t past)) (committed_database programs past) are.types_fit all_good.ready.valid;
    stands = stands-fewer programs.types work.view (lists_before programs.types statement p (own_database programs past t)) (taken_locks work.pieces)
        (own_database programs past t) covered work_over.stands;
  }
    where
      covered : AreNamedIn (lists_before programs.types statement p (own_database programs past t)) (taken_locks work.pieces)
      covered name named =
          let found = listed_before programs.types statement (own_database programs past t) p name named in
          is.all_taken name (
            found.2.0,
            asked-within programs (events_of t past) (committed_database programs past) k found.0 statement (all_good.good t is.live) not_closed text (earlier found.0 found.1)
                (name, found.2.0) found.2.1,
          )

  -- a list that is right for each database that is seen is due
  pub list_due : (k p : ℕ) (list : List Lock) (statement : Statement) → IsGoingOn programs past t k statement
      → ((q : ℕ) → q < p → program_needs programs statement q (own_database programs past t) ≢ [] → IsTrue (has_phase k q (events_of t past)))
      → ((database : Database) → IsSeenBy programs.types work.view statement p database → list ≡ needs_of programs.types statement p database)
      → list ≢ [] → has_phase k p (events_of t past) ≡ false → IsDueList programs past t k p list
  unfolding program_needs
  list_due k p list statement going_on earlier right some_locks not_granted = record {
    statement = statement;
    going_on = going_on;
    needed = right (own_database programs past t) (own_seen k p statement going_on.text going_on.not_closed earlier);
    some_locks = some_locks;
    earlier = earlier;
    not_granted = not_granted;
  }

  -- and an answer that is right for each may follow
  pub answer_may : (k : ℕ) (answer : Answer) (statement : Statement) → IsGoingOn programs past t k statement
      → ((q : ℕ) → program_needs programs statement q (own_database programs past t) ≢ [] → IsTrue (has_phase k q (events_of t past)))
      → ((database : Database) → IsSeenBy programs.types work.view statement 5 database → reply_of_answer answer ≡ reply_of programs.types statement database)
      → MayFollow programs past (Answered t k answer)
  unfolding program_reply
  answer_may k answer statement going_on asked right = (
    statement,
    going_on,
    asked,
    right (own_database programs past t) (own_seen k 5 statement going_on.text going_on.not_closed (λ q before. asked q)),
  )

-- ---- and later, after events of others

module _ (programs : Programs) (bound : ℕ) (more past : History) (t : ℕ) (are : ArePrograms programs bound) (room : HasRoom bound (more ++ past))
    (legal : IsLegal programs (more ++ past)) (none : events_of t more ≡ []) where
  same_events : events_of t (more ++ past) ≡ events_of t past
  same_events = mine-before t more past none

  pub work_stays : (work : Work) → IsWorkOf programs past t work → IsWorkOf programs (more ++ past) t work
  work_stays work is = record {
    live = live-stays t more past none is.live;
    is_work = subst (λ m. IsWork programs (answered_statements programs m) work) (sym same_events) is.is_work;
    pieces = pieces_moved programs.types work.pieces (granted_locks (events_of t past)) (committed_database programs past) (committed_database programs (more ++ past))
        is.all_granted (base-stays programs bound more past t are room legal is.live none) is.pieces;
    all_granted = subst (λ m. AreNamedIn (taken_locks work.pieces) (granted_locks m)) (sym same_events) is.all_granted;
    all_taken = subst (λ m. AreNamedIn (granted_locks m) (taken_locks work.pieces)) (sym same_events) is.all_taken;
  }

  few_before : HasRoom bound past
  few_before = omega (arith, sum_by-append (λ e. cond (is_answered e) 1 0) more past)

  good_before : AreGood programs bound past
  good_before = legal_good programs bound past are few_before (legal-before programs more past legal)

  most : ℕ
  most = bound + length (committed_statements programs past) + length (answered_statements programs (events_of t past))

  valid_later : IsValidFor programs.types (own_database programs (more ++ past) t)
  valid_later = run-valid programs (answered_statements programs (events_of t (more ++ past))) (committed_database programs (more ++ past)) are.types_fit
      (legal_good programs bound (more ++ past) are room legal).ready.valid

  module _ (k : ℕ) (statement : Statement) (going_on : IsGoingOn programs past t k statement) where
    going_stays : IsGoingOn programs (more ++ past) t k statement
    going_stays = record {
      live = live-stays t more past none going_on.live;
      text = subst (λ m. statement_numbered programs m k ≡ Some statement) (sym same_events) going_on.text;
      data_statement = going_on.data_statement;
      not_closed = subst (λ m. is_closed k m ≡ false) (sym same_events) going_on.not_closed;
      alone = λ other differs. subst (λ m. is_open other m ≡ false) (sym same_events) (going_on.alone other differs);
    }

    few_most : most ≤ MAX_IDENTIFIER
    unfolding most
    few_most = omega (arith, live-few programs past t (legal-before programs more past legal) going_on.live, few_before)

    within_asked : (q : ℕ) → (program_needs programs statement q (own_database programs past t) ≢ [] → IsTrue (has_phase k q (events_of t past)))
        → Within (program_needs programs statement q (own_database programs past t)) (granted_locks (events_of t past))
    within_asked q asked =
        asked-within programs (events_of t past) (committed_database programs past) k q statement (good_before.good t going_on.live) going_on.not_closed going_on.text asked

    needs_stay : (p : ℕ) → ((q : ℕ) → q < p → program_needs programs statement q (own_database programs past t) ≢ [] → IsTrue (has_phase k q (events_of t past)))
        → program_needs programs statement p (own_database programs past t) ≡ program_needs programs statement p (own_database programs (more ++ past) t)
    unfolding most
    needs_stay p earlier =
        needs-same programs most statement (own_database programs past t) (own_database programs (more ++ past) t) (granted_locks (events_of t past)) p
        (run-ready programs (answered_statements programs (events_of t past)) (bound + length (committed_statements programs past)) (committed_database programs past) good_before.ready)
        few_most valid_later (statement_of-fits programs bound (events_of t past) k statement are going_on.text)
        (own-stays programs bound more past t are room legal going_on.live none) (λ q before. within_asked q (earlier q before))

    phase_stays : (q : ℕ) → IsTrue (has_phase k q (events_of t past)) → IsTrue (has_phase k q (events_of t (more ++ past)))
    phase_stays q has = subst (λ m. IsTrue (has_phase k q m)) (sym same_events) has

  -- a list that was due is due
  pub due_stays : (k p : ℕ) (list : List Lock) → IsDueList programs past t k p list → IsDueList programs (more ++ past) t k p list
  due_stays k p list due = record {
    statement = due.statement;
    going_on = going_stays k due.statement due.going_on;
    needed = due.needed ∙ needs_stay k due.statement due.going_on p due.earlier;
    some_locks = due.some_locks;
    earlier = λ q before some. phase_stays k due.statement due.going_on q (due.earlier q before
        (λ empty. some (sym (needs_stay k due.statement due.going_on q (λ r less. due.earlier r (omega arith))) ∙ empty)));
    not_granted = subst (λ m. has_phase k p m ≡ false) (sym same_events) due.not_granted;
  }

  -- an answer that was right is right
  pub answer_stays : (k : ℕ) (answer : Answer) → MayFollow programs past (Answered t k answer) → MayFollow programs (more ++ past) (Answered t k answer)
  unfolding most
  answer_stays k answer (statement, going_on, asked, told) = (
    statement,
    going_stays k statement going_on,
    λ p some. phase_stays k statement going_on p (asked p (λ empty. some (sym (needs_stay k statement going_on p (λ r less. asked r)) ∙ empty))),
    told ∙ told-same programs most statement (own_database programs past t) (own_database programs (more ++ past) t) (granted_locks (events_of t past))
        (run-ready programs (answered_statements programs (events_of t past)) (bound + length (committed_statements programs past)) (committed_database programs past) good_before.ready)
        (few_most k statement going_on) valid_later (statement_of-fits programs bound (events_of t past) k statement are going_on.text)
        (own-stays programs bound more past t are room legal going_on.live none) (λ p. within_asked k statement going_on p (asked p)),
  )
