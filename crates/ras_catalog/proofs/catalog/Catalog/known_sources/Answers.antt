use Rattle.std.proofs.Common.{sym, arith}
use Rattle.std.proofs.lemmas.Result.{err_from_is_err_and}
use Rattle.spec_statements.specs.CheckStatement.{known_source}
use Rattle.ras_catalog.proofs.Listed.{listed_none, listed_more, listed_stop, listed_all, sources_is}
use Rattle.ras_catalog.proofs.catalog.Catalog.known_sources.Goals as goal

pub loop-source-init : goal.loop-source-init
loop-source-init c = rw c.new-all.ensures (listed_none (known_source c.args.self.now) c.args.sources.now)

pub loop-source-preserved : goal.loop-source-preserved
loop-source-preserved c = rw c.in-Ok.ensures.ok (listed_more (known_source c.args.self.now) c.args.sources.now c.loop-source.source-index c.loop-source.all c.source-item.result c.in_ok-known.known
    (omega arith) (sym c.source-item.is) c.loop-source.invariant c.in_ok-known.ensures)

pub returns-in_err-known : goal.returns-in_err-known
returns-in_err-known c =
    let p = err_from_is_err_and c.from_residual.result c.from_residual.ensures.1 in
    rw (sources_is c.args.self.now c.args.sources.now, p.1, p.2) (listed_stop (known_source c.args.self.now) c.args.sources.now c.loop-source.source-index c.loop-source.all c.source-item.result c.in_err-known.field-0.0
    (omega arith) (sym c.source-item.is) c.loop-source.invariant c.in_err-known.ensures)

pub returns : goal.returns
returns c = rw (sources_is c.args.self.now c.args.sources.now) (listed_all (known_source c.args.self.now) c.args.sources.now c.loop-source.source-index c.loop-source.all (omega arith) c.loop-source.invariant)
