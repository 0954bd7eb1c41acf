use Rattle.std.proofs.Common.{cond, ap, ◌∙◌}
use Rattle.ras_store.specs.Piece.{piece_over}
use Rattle.ras_store.proofs.view.View.put_piece.Goals as goal

pub returns-in-Ok-clause-held : goal.returns-in-Ok-clause-held
returns-in-Ok-clause-held g c = λ name.
    c.put_piece.ensures.put name
    ∙ ap (λ k. cond (g.W.WrittenNames.is_written c.args.written.now name) k (piece_over c.args.piece name k)) (c.reserve_piece.ensures.kept name)
