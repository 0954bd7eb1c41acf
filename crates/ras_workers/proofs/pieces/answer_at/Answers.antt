use Rattle.std.proofs.Common.{sym}
use Rattle.std.proofs.lemmas.List.{get_or_read}
use Rattle.ras_workers.proofs.pieces.answer_at.Goals as goal

pub returns : goal.returns
returns g c = record {
  piece = _;
  piece_read = c.index-pieces-i.is;
  piece_is = λ d. sym (get_or_read c.args.pieces.now c.args.i c.index-pieces-i.result c.requires.place c.index-pieces-i.is d);
  call = c.f-answer.ensures;
}
