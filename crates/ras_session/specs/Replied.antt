-- What a reply makes of a session.
use Rattle.std.specs.Prelude.{◌≡◌, [], None, Some, if◌then◌else◌}
use Rattle.ras_domain.specs.declared.lock.LockName.{LockName}
use Rattle.ras_store.specs.Piece.{piece_over}
use Rattle.ras_store.specs.declared.piece.Piece.{Piece}
use Rattle.ras_work.specs.Works.{IsOwnSeen, work_changes, work_kept}
use Rattle.ras_work.specs.declared.work.Work.{Work}
use Rattle.ras_walk.specs.Places.{event_of, session_place_of, step_seen}
use Rattle.ras_walk.specs.declared.place.Happened.{Happened}
use Rattle.ras_walk.specs.declared.place.Happened.TheVariants.{Granted}
use Rattle.ras_walk.specs.declared.place.Step.{Step}
use Rattle.spec_sessions.specs.Walk.{after_event}
use Rattle.law_work.specs.Written.{is_written}
use Rattle.ras_session.specs.declared.session.Session.{Session}
use Rattle.ras_session.specs.Prepared.{item_read}
use Rattle.ras_session.specs.Steps.{IsAdvanced}

-- the step that an event makes of a session, by what was read of its script
abbrev pub IsStepFor : Session → Happened → Step → Type 0
IsStepFor session event step =
    after_event session.next (item_read session.statement) (session_place_of session.place) (event_of event) ≡ Some (step_seen step)

-- it went on by the event, to the beginning of a statement
pub record IsGoneOn (old new : Session) (event : Happened) : Type 0 where
  pub step : Step
  pub is_step : IsStepFor old event step
  pub advanced : IsAdvanced old new step

-- a work that sees nothing and has no changes
pub record IsNewWork (work : Work) : Type 0 where
  pub nothing : (name : LockName) → work_kept work name ≡ None
  pub none_written : work_changes work ≡ []
  pub own : IsOwnSeen work

-- and a new work began
pub record IsGoneOnAnew (old new : Session) (event : Happened) : Type 0 where
  pub between : Session
  pub gone_on : IsGoneOn old between event
  pub rest : new ≡ record between { work = new.work }
  pub is_new : IsNewWork new.work

-- a piece was put into a work, except where that wrote
pub record IsPutInto (piece : Piece) (old new : Work) : Type 0 where
  pub kept : (name : LockName) → work_kept new name
      ≡ (if is_written (work_changes old) name then work_kept old name else piece_over piece name (work_kept old name))
  pub changes : work_changes new ≡ work_changes old
  pub own : IsOwnSeen old → IsOwnSeen new

-- it went on by a grant, and its work took the piece
pub record IsGoneOnWith (old new : Session) (piece : Piece) : Type 0 where
  pub step : Step
  pub is_step : IsStepFor old Granted step
  pub rest : new ≡ record old { place = step.place; work = new.work }
  pub put : IsPutInto piece old.work new.work
