use Rattle.ras_store.proofs.KeptDatabases.{changes-rewrite}
use Rattle.ras_store.proofs.laws.changes_rewrite_the_database.Goals as goal

pub returns : goal.returns
returns c = changes-rewrite
