-- What other sessions do leaves a session alone.
use Rattle.std.proofs.Common.{◌≡◌, ◌≢◌, ℕ, zero, suc, ◌<◌, inl, inr, Bool, false, [], ◌∷◌, ◌++◌, Some, refl, sym, ap, ◌∙◌, subst, arith, cond}
use Rattle.std.specs.Prelude.{IsTrue}
use Rattle.std.specs.List.{list_any}
use Rattle.std.proofs.lemmas.Bool.{cases_eq, cases_lt}
use Rattle.std.proofs.lemmas.List.Sums.{sum_by-append}
use Rattle.ras_syntax.specs.declared.statement.Statement.{Statement}
use Rattle.spec_histories.specs.History.{History, Programs, begun_at, events_of, grants, has_phase, is_closed, is_live, is_open, own_database, owner_of, program_needs, statement_numbered}
use Rattle.spec_histories.specs.Legal.{IsLegal}
use Rattle.spec_histories.specs.Serializable.{ArePrograms, HasRoom, is_answered}
use Rattle.law_histories.proofs.Owners.{lives, mine-other}
use Rattle.law_histories.proofs.Stays.{legal-before, mine-before}
use Rattle.law_sessions.proofs.Sessions.{quiet-leaves}
use Rattle.law_views.proofs.Events.{own_setting}
use Rattle.law_views.proofs.Quiet.{none_of_session}
use Rattle.law_views.proofs.Seen.{seen_needs}
use Rattle.law_views.proofs.Sessions.{own_seen, work_stays}
use Rattle.spec_views.specs.Sessions.{IsQuiet, IsWorkOf}
use Rattle.spec_views.specs.Work.{Work}
use Rattle.spec_sessions.specs.Walk.{SessionPlace, ending, free, inside, leaving, live_in, lost, own}
use Rattle.law_walks.specs.Session.{HasComeTo, IsInPlace, IsSessionOf, SessionValue}

pub room_before : (bound : ℕ) (more past : History) → HasRoom bound (more ++ past) → HasRoom bound past
room_before bound more past room = omega (arith, sum_by-append (λ e. cond (is_answered e) 1 0) more past, room)

-- a transaction of the session that lives behind the others' events lived before them
quiet_lives : (session : ℕ) (more past : History) (t at : ℕ) → IsQuiet session more past → IsTrue (is_live t (more ++ past))
    → begun_at (events_of t (more ++ past)) ≡ Some (session, at) → IsTrue (is_live t past) × (begun_at (events_of t past) ≡ Some (session, at))
quiet_lives session [] past t at none live begun = (live, begun)
quiet_lives session (event ∷ more) past t at none live begun = elim (cases_eq (owner_of event) t) [
  | inl same ↦ absurd (none.0 at (subst (λ u. begun_at (events_of u (event ∷ more ++ past)) ≡ Some (session, at)) (sym same) begun))
  | inr other ↦ quiet_lives session more past t at none.1 (subst (λ m. IsTrue (lives m)) (mine-other t event (more ++ past) other) live)
      (subst (λ m. begun_at m ≡ Some (session, at)) (mine-other t event (more ++ past) other) begun)
]

module _ (programs : Programs) (bound : ℕ) (more past : History) (are : ArePrograms programs bound) (room : HasRoom bound (more ++ past))
    (legal : IsLegal programs (more ++ past)) (t : ℕ) (none : events_of t more ≡ []) (work : Work) (is : IsWorkOf programs past t work) where
  same_events : events_of t (more ++ past) ≡ events_of t past
  same_events = mine-before t more past none

  module _ (k : ℕ) (statement : Statement) (text : statement_numbered programs (events_of t past) k ≡ Some statement)
      (not_closed : is_closed k (events_of t past) ≡ false) where
    text_later : statement_numbered programs (events_of t (more ++ past)) k ≡ Some statement
    text_later = subst (λ m. statement_numbered programs m k ≡ Some statement) (sym same_events) text

    not_closed_later : is_closed k (events_of t (more ++ past)) ≡ false
    not_closed_later = subst (λ m. is_closed k m ≡ false) (sym same_events) not_closed

    same_needs : (q : ℕ) → ((r : ℕ) → r < q → program_needs programs statement r (own_database programs past t) ≢ [] → IsTrue (has_phase k r (events_of t past)))
        → ((r : ℕ) → r < q → program_needs programs statement r (own_database programs (more ++ past) t) ≢ [] → IsTrue (has_phase k r (events_of t (more ++ past))))
        → program_needs programs statement q (own_database programs past t) ≡ program_needs programs statement q (own_database programs (more ++ past) t)
    unfolding program_needs
    same_needs q earlier later =
        seen_needs programs.types statement work.view (own_database programs past t) (own_database programs (more ++ past) t)
        (own_setting programs bound past t work are (room_before bound more past room) (legal-before programs more past legal) is k statement text) q
        (own_seen programs bound past t work are (room_before bound more past room) (legal-before programs more past legal) is k q statement text not_closed earlier)
        (own_seen programs bound (more ++ past) t work are room legal (work_stays programs bound more past t are room legal none work is) k q statement
        text_later not_closed_later later)

    phases_stay : (p : ℕ)
        → ((q : ℕ) → q < p → program_needs programs statement q (own_database programs past t) ≢ [] → IsTrue (has_phase k q (events_of t past)))
        → (q : ℕ) → q < p → program_needs programs statement q (own_database programs (more ++ past) t) ≢ [] → IsTrue (has_phase k q (events_of t (more ++ past)))
    phases_stay zero earlier q less some = absurd (omega (arith, less))
    phases_stay (suc p) earlier q less some = elim (cases_lt q p) [
      | inl below ↦ phases_stay p (λ r before. earlier r (omega (arith, before))) q below some
      | inr from ↦ subst (λ m. IsTrue (has_phase k q m)) (sym same_events) (earlier q less (λ empty. some (
          sym (same_needs q (λ r before. earlier r (omega (arith, before, less)))
          (λ r before. phases_stay p (λ s under. earlier s (omega (arith, under))) r (omega (arith, before, less)))) ∙ empty)))
    ]

  pub at_stays : (k phase : ℕ) (granted : Bool) → IsInPlace programs past t k phase granted → IsInPlace programs (more ++ past) t k phase granted
  at_stays k phase granted at = record {
    not_closed = subst (λ m. is_closed k m ≡ false) (sym same_events) at.not_closed;
    has_grant = subst (λ m. list_any (grants k) m ≡ granted) (sym same_events) at.has_grant;
    alone = λ other differs. subst (λ m. is_open other m ≡ false) (sym same_events) (at.alone other differs);
    behind = λ other above. subst (λ m. (is_closed other m ≡ false) × (list_any (grants other) m ≡ false))
        (sym same_events) (at.behind other above);
    earlier = λ statement q text less some.
        let was : statement_numbered programs (events_of t past) k ≡ Some statement = subst (λ m. statement_numbered programs m k ≡ Some statement) same_events text in
        phases_stay k statement was at.not_closed phase (λ r before need. at.earlier statement r was before need) q less some;
    later = λ q from. subst (λ m. has_phase k q m ≡ false) (sym same_events) (at.later q from);
  }

module _ (programs : Programs) (bound : ℕ) (more past : History) (session : SessionValue) (are : ArePrograms programs bound) (room : HasRoom bound (more ++ past))
    (legal : IsLegal programs (more ++ past)) (none : IsQuiet session.number more past) (is : IsSessionOf programs past session) where
  silent : (t : ℕ) → live_in session.walked.state.place ≡ Some t → events_of t more ≡ []
  silent t live = let there = is.lives_there t live in none_of_session programs session.number more past t there.at legal none there.begun

  come_stays : (place : SessionPlace) → session.walked.state.place ≡ place
      → HasComeTo programs past session.script session.walked.state.next session.phase place
      → HasComeTo programs (more ++ past) session.script session.walked.state.next session.phase place
  come_stays (free attempts) at has = tt
  come_stays lost at has = tt
  come_stays (inside opened granted) at has =
      let live : live_in session.walked.state.place ≡ Some opened.t = ap live_in at in (
        has.0,
        at_stays programs bound more past are room legal opened.t (silent opened.t live) session.work (is.lives_there opened.t live).is_work
            session.walked.state.next session.phase granted has.1,
      )
  come_stays (leaving opened) at has = tt
  come_stays (own t granted) at has =
      let live : live_in session.walked.state.place ≡ Some t = ap live_in at in (
        has.0,
        at_stays programs bound more past are room legal t (silent t live) session.work (is.lives_there t live).is_work
            session.walked.state.next session.phase granted has.1,
      )
  come_stays (ending t closed) at has = tt

  pub session_stays : IsSessionOf programs (more ++ past) session
  session_stays = record {
    steps = is.steps;
    is_walk = record { walks = is.is_walk.walks; events = is.is_walk.events ∙ sym (quiet-leaves session.number more past none) };
    program = is.program;
    lives_there = λ t live. let there = is.lives_there t live in record {
      at = there.at;
      begun = ap begun_at (mine-before t more past (silent t live)) ∙ there.begun;
      is_work = work_stays programs bound more past t are room legal (silent t live) session.work there.is_work;
    };
    lives_only = λ t at live begun. let was = quiet_lives session.number more past t at none live begun in is.lives_only t at was.0 was.1;
    has_come = come_stays session.walked.state.place refl is.has_come;
  }
