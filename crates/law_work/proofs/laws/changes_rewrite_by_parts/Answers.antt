use Rattle.ras_store.specs.Databases.{holding_kept}
use Rattle.law_work.proofs.WrittenNames.{by_parts}
use Rattle.law_work.proofs.laws.changes_rewrite_by_parts.Goals as goal

pub returns : goal.returns
returns c = by_parts holding_kept
