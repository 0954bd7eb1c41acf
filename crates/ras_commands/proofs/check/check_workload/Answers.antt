use Rattle.ras_commands.proofs.Said.{workload_said}
use Rattle.ras_commands.proofs.check.check_workload.Goals as goal

pub returns : goal.returns
returns c = let said = c.in_ok-sessions.ensures in workload_said c.args.workload.now _ (rw c.as_slice-scripts.ensures at said)
