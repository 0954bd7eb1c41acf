use Rattle.std.proofs.Common.{◌∙◌}
use Rattle.spec_expressions.specs.Database.{Member}
use Rattle.ras_rows.proofs.Turns.{mapped-turn}
use Rattle.ras_rows.proofs.plan.domains_of.Goals as goal

pub loop-array-preserved : goal.loop-array-preserved
loop-array-preserved c =
    mapped-turn (λ (member : Member). member.array.domain) c.args.row.now c.loop-array.array-index c.array-item.result c.in_ok-region_of.field-0 c.loop-array.domains.items c.push.new.self.items
    c.loop-array-test.true c.array-item.is c.loop-array.invariant (c.in_ok-region_of.ensures ∙ c.axes.ensures.axes ∙ c.domain.ensures) c.in_ok-push.ensures.items
