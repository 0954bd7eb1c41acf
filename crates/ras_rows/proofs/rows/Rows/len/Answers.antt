use Rattle.std.proofs.Common.{length, ap, ◌∙◌}
use Rattle.ras_rows.specs.Arrays.{holdings_in}
use Rattle.ras_rows.proofs.Counts.{count-is}
use Rattle.ras_rows.proofs.rows.Rows.len.Goals as goal

pub returns : goal.returns
returns c =
    count-is (holdings_in c.self.inside.view.now) c.self.inside.sources.now c.self.inside.oids.items c.self.inside.count c.self.invariant ∙ ap length c.self.view_is
