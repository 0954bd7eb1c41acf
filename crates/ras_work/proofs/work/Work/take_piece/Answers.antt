use Rattle.std.proofs.Common.{◌≡◌, refl}
use Rattle.ras_domain.specs.declared.lock.LockName.{LockName}
use Rattle.ras_store.specs.Piece.{piece_over}
use Rattle.ras_store.specs.View.{view_kept}
use Rattle.ras_work.specs.declared.work.Work.{Work}
use Rattle.ras_work.specs.Works.{IsSameWork}
use Rattle.ras_work.proofs.Applied.{on_err, taken-own}
use Rattle.ras_work.proofs.work.Work.take_piece.Goals as goal

pub returns-clause-kept : goal.returns-clause-kept
returns-clause-kept c = c.put_piece.ensures.held

pub returns-clause-changes : goal.returns-clause-changes
returns-clause-changes c = refl

pub returns-clause-refused : goal.returns-clause-refused
returns-clause-refused c =
    let new : Work = record { view = c.put_piece.new.self; written = c.args.self.now.written } in
    on_err c.put_piece.result ((name : LockName) → view_kept c.put_piece.new.self name ≡ view_kept c.args.self.now.view name) (IsSameWork c.args.self.now new)
    (λ same. record { kept = same; changes = refl }) c.put_piece.ensures.refused

pub returns-clause-piece_returned : goal.returns-clause-piece_returned
returns-clause-piece_returned c = c.put_piece.ensures.piece_returned

pub returns-clause-own : goal.returns-clause-own
returns-clause-own c =
    taken-own c.put_piece.result c.args.self.now.written.changes (view_kept c.args.self.now.view) (view_kept c.put_piece.new.self)
    (λ name. piece_over c.args.piece name (view_kept c.args.self.now.view name)) c.put_piece.ensures.held c.put_piece.ensures.refused
