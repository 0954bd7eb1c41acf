use Rattle.std.proofs.Common.{[], Ok, subst}
use Rattle.spec_workloads.specs.Setup.{set_up}
use Rattle.ras_workload.specs.Outlines.{outline_seen}
use Rattle.ras_setup.specs.Runs.{FindsBase}
use Rattle.ras_setup.proofs.Finding.{base-found}
use Rattle.ras_setup.proofs.read.set_up.Goals as goal

pub returns : goal.returns
returns g c =
    base-found (outline_seen c.args.outline) c.in_ok-base.base
    (subst (λ texts. FindsBase c.args.outline.types (set_up c.args.outline.types 1 texts []) (Ok c.in_ok-base.base)) c.as_slice.ensures c.in_ok-base.ensures)
