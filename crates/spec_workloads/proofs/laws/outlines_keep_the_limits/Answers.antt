use Rattle.spec_workloads.proofs.Outlines.{outlines-are}
use Rattle.spec_workloads.proofs.laws.outlines_keep_the_limits.Goals as goal

pub returns : goal.returns
returns c = outlines-are
