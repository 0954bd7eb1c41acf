use Rattle.std.specs.Arc.{arc_value}
use Rattle.ras_store.specs.Store.{store_kept}
use Rattle.ras_core.proofs.CoreSteps.{core-new}
use Rattle.ras_core.proofs.state.Core.new.Goals as goal

pub invariant_of-result : goal.invariant_of-result
invariant_of-result c =
    core-new (arc_value c.args.workload) (store_kept c.args.store) c.new-table.result c.new-journal.result c.requires c.new-table.ensures c.new-journal.ensures
