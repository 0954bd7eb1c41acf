-- What a session asks of the core is due.
use Rattle.std.proofs.Common.{◌≡◌, ◌≢◌, ℕ, zero, suc, ◌-◌, ◌<◌, ◌≤◌, inl, inr, Bool, true, false, List, [], ◌∷◌, length, map, Option, Some, None, Result, Ok, refl, sym, ap, ◌∙◌, subst, arith, if◌then◌else◌}
use Rattle.std.specs.Prelude.{IsTrue, nat_le, slice_get}
use Rattle.std.proofs.lemmas.Bool.{cases_lt}
use Rattle.ras_syntax.specs.declared.answer.Answer.{Answer}
use Rattle.ras_syntax.specs.declared.event.Event.TheVariants.{Answered}
use Rattle.ras_syntax.specs.declared.faults.SyntaxFault.{SyntaxFault}
use Rattle.ras_syntax.specs.declared.statement.Statement.{Statement}
use Rattle.spec_expressions.specs.Database.{Database}
use Rattle.spec_statements.specs.Locks.{Lock}
use Rattle.spec_statements.specs.Machine.{needs_of, reply_of}
use Rattle.spec_statements.specs.ReachLaw.{IsSetting}
use Rattle.spec_statements.specs.Reply.{reply_of_answer}
use Rattle.spec_histories.specs.History.{History, Programs, committed_database, events_of, has_phase, is_closed, is_live, nth, own_database, program_needs, program_reply, statement_from, statement_in, statement_numbered}
use Rattle.spec_histories.specs.Legal.{IsDueList, IsGoingOn, IsLegal, MayFollow}
use Rattle.spec_histories.specs.Serializable.{ArePrograms, HasRoom}
use Rattle.spec_workloads.specs.Programs.{statement_if_read}
use Rattle.law_views.proofs.Events.{own_setting}
use Rattle.law_views.proofs.Room.{nth-within}
use Rattle.law_views.proofs.Sessions.{list_due, own_seen, work_rewrites}
use Rattle.spec_views.specs.Holdings.{IsSeenBy}
use Rattle.spec_views.specs.Sessions.{IsIdle}
use Rattle.spec_views.specs.Work.{RewritesTo}
use Rattle.spec_sessions.specs.Outcomes.{IsWholeWalkOf}
use Rattle.spec_sessions.specs.Walk.{ReadScript, SessionPlace, ending, free, inside, is_over, leaving, live_in, lost, own}
use Rattle.law_walks.specs.Session.{HasComeTo, IsInPlace, IsOwnOf, IsSessionOf, IsUnderWay, SessionValue, asking_in, phase_passed}
use Rattle.law_walks.proofs.Statements.{phase_moves}

-- ---- places

-- where a statement may be asked for, its transaction lives and has come to it
record HasAsked (programs : Programs) (past : History) (session : SessionValue) (t : ℕ) : Type 0 where
  granted : Bool
  live : live_in session.walked.state.place ≡ Some t
  at : IsInPlace programs past t session.walked.state.next session.phase granted

has_asked : (programs : Programs) (past : History) (session : SessionValue) (t : ℕ) (place : SessionPlace) → session.walked.state.place ≡ place
    → asking_in place ≡ Some t → HasComeTo programs past session.script session.walked.state.next session.phase place → HasAsked programs past session t
has_asked programs past session t (free attempts) is asking has = absurd cc
has_asked programs past session t lost is asking has = absurd cc
has_asked programs past session t (inside opened granted) is asking has =
    let same : opened.t ≡ t = cc in
    record { granted = granted; live = ap live_in is ∙ ap Some same; at = subst (λ u. IsInPlace programs past u session.walked.state.next session.phase granted) same has.1 }
has_asked programs past session t (leaving opened) is asking has = absurd cc
has_asked programs past session t (own u granted) is asking has =
    let same : u ≡ t = cc in
    record { granted = granted; live = ap live_in is ∙ ap Some same; at = subst (λ u. IsInPlace programs past u session.walked.state.next session.phase granted) same has.1 }
has_asked programs past session t (ending u closed) is asking has = absurd cc

-- ---- texts

-- a text's statement is the program's
read_there : (k : ℕ) (script : ReadScript) (statement : Statement) → nth k script ≡ Some (Ok statement)
    → nth k (map statement_if_read script) ≡ Some (Some statement)
read_there k script statement is = at (nat_le 1 k) (k - 1) script is
  where
    mapped : (j : ℕ) (script : ReadScript) → slice_get script j ≡ Some (Ok statement) → slice_get (map statement_if_read script) j ≡ Some (Some statement)
    mapped j [] is = absurd cc
    mapped zero (read ∷ script) is = let same : read ≡ Ok statement = cc in ap (λ r. Some (statement_if_read r)) same
    mapped (suc j) (read ∷ script) is = mapped j script is

    at : (b : Bool) (j : ℕ) (script : ReadScript) → (if b then slice_get script j else None) ≡ Some (Ok statement)
        → (if b then slice_get (map statement_if_read script) j else None) ≡ Some (Some statement)
    at true j script is = mapped j script is
    at false j script is = absurd cc

-- no phase behind the fourth needs anything
late_phase : (programs : Programs) (statement : Statement) (database : Database) (q : ℕ) → 5 ≤ q → program_needs programs statement q database ≡ []
unfolding program_needs
late_phase programs statement database zero late = absurd (omega (arith, late))
late_phase programs statement database (suc zero) late = absurd (omega (arith, late))
late_phase programs statement database (suc (suc zero)) late = absurd (omega (arith, late))
late_phase programs statement database (suc (suc (suc zero))) late = absurd (omega (arith, late))
late_phase programs statement database (suc (suc (suc (suc zero)))) late = absurd (omega (arith, late))
late_phase programs statement database (suc (suc (suc (suc (suc q))))) late = refl

-- ---- the transaction that lives

module _ (programs : Programs) (past : History) (session : SessionValue) (is : IsSessionOf programs past session) where
  pub session_lives : (t : ℕ) → live_in session.walked.state.place ≡ Some t → IsTrue (is_live t past)
  session_lives t live = (is.lives_there t live).is_work.live

  pub session_idle : live_in session.walked.state.place ≡ None → IsIdle session.number past
  session_idle none t at live begun = let there : Some t ≡ None = sym (is.lives_only t at live begun) ∙ none in absurd cc

  pub session_place : (read : Result Statement SyntaxFault) → nth session.walked.state.next session.script ≡ Some read
      → (1 ≤ session.walked.state.next) × (session.walked.state.next ≤ length session.script)
  session_place read there = nth-within session.walked.state.next session.script read there

  pub session_whole : IsTrue (is_over session.script session.walked.state)
      → IsWholeWalkOf session.number session.script past session.walked.lines is.steps
  session_whole over = record { walked = session.walked; is_walk = is.is_walk; over = over; lines_are = refl }

  module _ (t : ℕ) (statement : Statement) (way : IsUnderWay session t statement) where
    asked : HasAsked programs past session t
    asked = has_asked programs past session t session.walked.state.place refl way.asking is.has_come

    there : IsOwnOf programs past session.number session.work t
    there = is.lives_there t asked.live

    text : statement_numbered programs (events_of t past) session.walked.state.next ≡ Some statement
    text = ap (λ b. statement_from programs b session.walked.state.next) there.begun
        ∙ ap (λ s. statement_in s session.walked.state.next) is.program
        ∙ ap {A = Option (Option Statement)} (λ found. elim found [ None ↦ None | Some s ↦ s ])
        (read_there session.walked.state.next session.script statement way.text)

    pub session_goes_on : IsGoingOn programs past t session.walked.state.next statement
    session_goes_on = record {
      live = there.is_work.live;
      text = text;
      data_statement = way.data_there;
      not_closed = asked.at.not_closed;
      alone = asked.at.alone;
    }

    pub session_gives_up : IsTrue (is_live t past) × (is_closed session.walked.state.next (events_of t past) ≡ false)
    session_gives_up = (there.is_work.live, asked.at.not_closed)

    module _ (bound : ℕ) (are : ArePrograms programs bound) (room : HasRoom bound past) (legal : IsLegal programs past) where
      pub session_sees : IsSeenBy programs.types session.work.view statement session.phase (own_database programs past t)
      session_sees = own_seen programs bound past t session.work are room legal there.is_work session.walked.state.next session.phase statement text
          asked.at.not_closed (λ q before. asked.at.earlier statement q text before)

      pub session_setting : IsSetting programs.types statement (own_database programs past t)
      session_setting = own_setting programs bound past t session.work are room legal there.is_work session.walked.state.next statement text

      pub session_asks : (list : List Lock)
          → ((database : Database) → IsSeenBy programs.types session.work.view statement session.phase database
          → list ≡ needs_of programs.types statement session.phase database)
          → list ≢ [] → IsDueList programs past t session.walked.state.next session.phase list
      session_asks list right some =
          list_due programs bound past t session.work are room legal there.is_work session.walked.state.next session.phase list statement session_goes_on
          (λ q before. asked.at.earlier statement q text before) right some (asked.at.later session.phase (omega arith))

      pub session_passes : ((database : Database) → IsSeenBy programs.types session.work.view statement session.phase database
          → needs_of programs.types statement session.phase database ≡ []) → IsSessionOf programs past (phase_passed session)
      unfolding program_needs
      session_passes nothing = record {
        steps = is.steps;
        is_walk = is.is_walk;
        program = is.program;
        lives_there = is.lives_there;
        lives_only = is.lives_only;
        has_come = come session.walked.state.place refl is.has_come;
      }
        where
          none : (u : ℕ) → live_in session.walked.state.place ≡ Some u → (other : Statement)
              → statement_numbered programs (events_of u past) session.walked.state.next ≡ Some other
              → program_needs programs other session.phase (own_database programs past u) ≡ []
          none u live other here =
              let one : Some t ≡ Some u = sym asked.live ∙ live in
              let same : t ≡ u = cc in
              let two : Some statement ≡ Some other =
              sym text ∙ subst (λ v. statement_numbered programs (events_of v past) session.walked.state.next ≡ Some other) (sym same) here in
              let alike : statement ≡ other = cc in
              subst (λ s. program_needs programs s session.phase (own_database programs past u) ≡ []) alike
              (subst (λ v. program_needs programs statement session.phase (own_database programs past v) ≡ []) same (nothing (own_database programs past t) session_sees))

          come : (place : SessionPlace) → session.walked.state.place ≡ place
              → HasComeTo programs past session.script session.walked.state.next session.phase place
              → HasComeTo programs past session.script session.walked.state.next (suc session.phase) place
          come (free attempts) at has = tt
          come lost at has = tt
          come (inside opened granted) at has = (
            has.0,
            phase_moves programs (events_of opened.t past) (own_database programs past opened.t) session.walked.state.next session.phase granted has.1
                (none opened.t (ap live_in at)),
          )
          come (leaving opened) at has = tt
          come (own u granted) at has = (
            has.0,
            phase_moves programs (events_of u past) (own_database programs past u) session.walked.state.next session.phase granted has.1
                (none u (ap live_in at)),
          )
          come (ending u closed) at has = tt

      -- no later phase needs anything
      pub session_asked : ((q : ℕ) (database : Database) → session.phase ≤ q → q < 5
          → IsSeenBy programs.types session.work.view statement session.phase database → needs_of programs.types statement q database ≡ [])
          → (q : ℕ) → program_needs programs statement q (own_database programs past t) ≢ [] → IsTrue (has_phase session.walked.state.next q (events_of t past))
      unfolding program_needs
      session_asked nothing q some = elim (cases_lt q session.phase) [
        | inl before ↦ asked.at.earlier statement q text before some
        | inr from ↦ elim (cases_lt q 5) [
          | inl few ↦ absurd (some (nothing q (own_database programs past t) from few session_sees))
          | inr late ↦ absurd (some (late_phase programs statement (own_database programs past t) q late))
        ]
      ]

      pub session_answers : (answer : Answer)
          → ((q : ℕ) (database : Database) → session.phase ≤ q → q < 5
          → IsSeenBy programs.types session.work.view statement session.phase database → needs_of programs.types statement q database ≡ [])
          → ((database : Database) → IsSeenBy programs.types session.work.view statement session.phase database
          → reply_of_answer answer ≡ reply_of programs.types statement database)
          → MayFollow programs past (Answered t session.walked.state.next answer)
      unfolding program_reply
      session_answers answer nothing right =
          (statement, session_goes_on, session_asked nothing, right (own_database programs past t) session_sees)

  module _ (bound : ℕ) (are : ArePrograms programs bound) (room : HasRoom bound past) (legal : IsLegal programs past) (t : ℕ)
      (live : live_in session.walked.state.place ≡ Some t) where
    pub session_commits : RewritesTo programs.types session.work.rewrites (committed_database programs past) (own_database programs past t)
    session_commits = work_rewrites programs bound past t session.work are room legal (is.lives_there t live).is_work
