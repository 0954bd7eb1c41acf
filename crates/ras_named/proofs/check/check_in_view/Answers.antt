use Rattle.spec_statements.specs.Machine.{catalog_of}
use Rattle.ras_named.proofs.Kept.{view_has_catalog}
use Rattle.ras_named.proofs.check.check_in_view.Goals as goal

pub returns : goal.returns
returns c = λ database stands.
    c.check_over.ensures (catalog_of c.args.types.now database) (view_has_catalog c.args.types.now c.args.view.now c.args.statement.now database stands)
