use Rattle.ras_store.specs.Store.{store_kept}
use Rattle.ras_work.specs.Works.{work_kept}
use Rattle.law_work.specs.Written.{is_written}
use Rattle.ras_store.specs.Piece.{piece_over}
use Rattle.std.proofs.Common.{◌∙◌, ap, if◌then◌else◌}
use Rattle.ras_setup.proofs.Taken.{takes-of}
use Rattle.ras_setup.proofs.changes.take.Goals as goal

pub returns-in-Ok-clause-taken : goal.returns-in-Ok-clause-taken
returns-in-Ok-clause-taken c =
    takes-of c.in_ok-piece.piece c.args.list.now (store_kept c.args.store.now) (work_kept c.args.work.now) (work_kept c.take_piece.new.self)
    c.in_ok-piece.ensures.held c.in_ok-piece.ensures.others
    (λ name. c.in-Ok.ensures.kept name
    ∙ ap (λ changes. if is_written changes name then work_kept c.args.work.now name else piece_over c.in_ok-piece.piece name (work_kept c.args.work.now name)) c.requires)
