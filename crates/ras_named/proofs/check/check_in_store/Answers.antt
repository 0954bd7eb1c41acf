use Rattle.spec_statements.specs.Machine.{catalog_of}
use Rattle.ras_named.specs.Places.{named_in}
use Rattle.ras_named.proofs.Kept.{store_has_catalog}
use Rattle.ras_named.proofs.check.check_in_store.Goals as goal

pub returns : goal.returns
returns c = λ database keeps.
    c.check_over.ensures (catalog_of c.args.types.now database)
    (store_has_catalog c.args.types.now c.args.store.now database (named_in c.args.statement.now.form) keeps)
