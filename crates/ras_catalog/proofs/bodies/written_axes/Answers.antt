use Rattle.ras_catalog.proofs.Passing.{axes_written}
use Rattle.ras_catalog.proofs.bodies.written_axes.Goals as goal

pub returns : goal.returns
returns c = rw c.in-Some.is (axes_written c.args.target c.args.of.now c.in-Some.axes c.placed.result
    (rw (c.by_rules.ensures, c.are_numbers-numbers.ensures, c.all_are_static-fixed.ensures, c.as_slice-axes.ensures, c.len.ensures.value) at c.placed.ensures))
