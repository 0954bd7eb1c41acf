use Rattle.std.proofs.Common.{ap, ◌∙◌}
use Rattle.ras_store.specs.Piece.{piece_over}
use Rattle.ras_store.proofs.view.View.of_piece.Goals as goal

pub returns-in-Ok-clause-held : goal.returns-in-Ok-clause-held
returns-in-Ok-clause-held c = λ name. c.in-Ok.ensures.held name ∙ ap (piece_over c.args.piece name) (c.new-view.ensures name)
