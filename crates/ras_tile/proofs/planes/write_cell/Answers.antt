use Rattle.std.proofs.Common.{◌+◌, ◌∙◌, arith}
use Rattle.std.proofs.lemmas.List.Elements.{All-set}
use Rattle.ras_tile.specs.Planes.{HasNumbers, Reaches, IsPlainPlane}
use Rattle.ras_tile.proofs.Cells.{written_more, kept_more}
use Rattle.ras_tile.proofs.planes.write_cell.Goals as goal

pub loop-i-preserved : goal.loop-i-preserved
loop-i-preserved c = record {
  plain = All-set IsPlainPlane c.loop-i.planes c.loop-i.i c.write.new.self c.write.ensures.plain c.loop-i.invariant.plain;
  within = All-set (Reaches (c.args.place + 1)) c.loop-i.planes c.loop-i.i c.write.new.self
      (c.write.ensures.reach (c.args.place + 1) (c.loop-i.invariant.within c.loop-i.i c.index-planes-i.result (omega arith)))
      c.loop-i.invariant.within;
  written = written_more c.loop-i.planes c.loop-i.i c.write.new.self c.args.place c.args.numbers.now (omega arith) (omega arith) c.loop-i.invariant.written c.write.ensures.written;
  others = λ k apart.
      kept_more c.loop-i.planes c.loop-i.i c.index-planes-i.result c.write.new.self k (omega arith) (c.write.ensures.others k apart)
      ∙ c.loop-i.invariant.others k apart;
  whole = λ n all.
      All-set (HasNumbers n) c.loop-i.planes c.loop-i.i c.write.new.self
      (c.write.ensures.whole n (c.loop-i.invariant.whole n all c.loop-i.i c.index-planes-i.result (omega arith)))
      (c.loop-i.invariant.whole n all);
}
