use Rattle.spec_statements.specs.CheckStatement.{known_source}
use Rattle.ras_catalog.proofs.Listed.{IsListed}
use Rattle.ras_catalog.proofs.catalog.Catalog.known_sources.Given as goal

abbrev pub invariant-loop-source : goal.invariant-loop-source
invariant-loop-source l = IsListed (known_source l.self) l.sources l.source-index l.all
