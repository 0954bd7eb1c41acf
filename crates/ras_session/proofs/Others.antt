-- What other sessions do leaves a session as it stands.
use Rattle.std.proofs.Common.{ℕ, List, ◌++◌, sym, ◌∙◌}
use Rattle.ras_syntax.specs.declared.statement.Statement.{Statement}
use Rattle.ras_course.specs.Courses.{IsKnown}
use Rattle.ras_course.proofs.Known.{known_over}
use Rattle.ras_core.specs.States.{FIRST_IDENTIFIERS}
use Rattle.spec_histories.specs.History.{History, Programs, own_database}
use Rattle.spec_histories.specs.Legal.{IsLegal}
use Rattle.spec_histories.specs.Serializable.{ArePrograms, HasRoom}
use Rattle.spec_views.specs.Sessions.{IsQuiet}
use Rattle.spec_sessions.specs.Walk.{ReadScript, Step}
use Rattle.law_histories.proofs.Stays.{legal-before}
use Rattle.law_sessions.proofs.Sessions.{quiet-leaves}
use Rattle.law_walks.specs.Session.{IsSessionOf, IsUnderWay, SessionValue}
use Rattle.law_walks.proofs.Due.{session_sees, session_setting}
use Rattle.law_walks.proofs.Stays.{room_before, session_stays}
use Rattle.ras_session.specs.declared.session.Session.{Session}
use Rattle.ras_session.specs.Tied.{IsTied, session_with, work_seen}

module _ (programs : Programs) (script : ReadScript) (more past : History) (steps : List Step) (session : Session) (are : ArePrograms programs FIRST_IDENTIFIERS)
    (room : HasRoom FIRST_IDENTIFIERS (more ++ past)) (legal : IsLegal programs (more ++ past)) (quiet_there : IsQuiet session.number more past)
    (tied : IsTied programs script past steps session) where
  abbrev value : SessionValue
  value = session_with script (work_seen tied.pieces session.work) session.course.next session

  later : IsSessionOf programs (more ++ past) value
  later = session_stays programs FIRST_IDENTIFIERS more past value are room legal quiet_there tied.walking.is_session

  -- what is known of a statement is so over the later database, since the same is seen of both
  known_later : (t : ℕ) (statement : Statement) → IsUnderWay value t statement
      → IsKnown programs.types statement session.course (own_database programs (more ++ past) t)
  known_later t statement way =
      let room_then : HasRoom FIRST_IDENTIFIERS past = room_before FIRST_IDENTIFIERS more past room in
      let legal_then : IsLegal programs past = legal-before programs more past legal in
      let known : IsKnown programs.types statement session.course (own_database programs past t) = tied.known t statement way in
      known_over programs.types statement value.work.view session.course.next (own_database programs past t) (own_database programs (more ++ past) t)
      (session_setting programs past value tied.walking.is_session t statement way FIRST_IDENTIFIERS are room_then legal_then)
      (session_sees programs past value tied.walking.is_session t statement way FIRST_IDENTIFIERS are room_then legal_then)
      (session_sees programs (more ++ past) value later t statement way FIRST_IDENTIFIERS are room legal)
      known.short session.course.checked session.course.rows known

  pub tied_later : IsTied programs script (more ++ past) steps session
  tied_later = record {
    pieces = tied.pieces;
    walking = record {
      is_session = later;
      is_walk = record {
        walks = tied.walking.is_walk.walks;
        events = tied.walking.is_walk.events ∙ sym (quiet-leaves session.number more past quiet_there);
      };
    };
    holding = tied.holding;
    known = known_later;
    read = tied.read;
    plenty = tied.plenty;
  }
