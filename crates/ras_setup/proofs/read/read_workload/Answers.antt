use Rattle.spec_workloads.proofs.Outlines.{outlines-are}
use Rattle.ras_workload.specs.Outlines.{outline_seen}
use Rattle.ras_setup.proofs.Finding.{setup-short}
use Rattle.ras_setup.proofs.read.read_workload.Goals as goal

pub set_up-requires-clause-outline : goal.set_up-requires-clause-outline
set_up-requires-clause-outline g c κs within =
    outlines-are c.args.text.now (outline_seen c.in_ok-outline.outline, c.in_ok-outline.behind) c.in_ok-outline.ensures.is

pub set_up-requires-clause-short : goal.set_up-requires-clause-short
set_up-requires-clause-short g c κs within =
    setup-short c.args.text.now (outline_seen c.in_ok-outline.outline) c.in_ok-outline.behind c.in_ok-outline.ensures.is c.requires
