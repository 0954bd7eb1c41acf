use Rattle.std.proofs.Common.{◌≤◌, refl, arith}
use Rattle.ras_grid.proofs.Shares.{IsShared-more}
use Rattle.ras_grid.proofs.runs.cut.Goals as goal

pub loop-run-preserved : goal.loop-run-preserved
loop-run-preserved c =
    let enough : c.min-count.result ≤ c.args.len = omega (arith, c.min-count.ensures) in
    IsShared-more c.args.len c.min-count.result c.loop-run.run c.loop-run.from c.from.result _ c.loop-run.runs.items c.push.new.self.items
    c.loop-run.invariant c.loop-run-test.true enough c.from.ensures refl c.in_ok-push.ensures.items
