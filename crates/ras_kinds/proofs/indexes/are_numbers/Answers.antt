use Rattle.std.proofs.Common.{sym, ◌∙◌}
use Rattle.ras_kinds.proofs.Axes.{numbers_each}
use Rattle.ras_kinds.proofs.indexes.are_numbers.Goals as goal

pub returns : goal.returns
returns c = c.each_number.ensures ∙ sym (numbers_each c.args.axes.now)
