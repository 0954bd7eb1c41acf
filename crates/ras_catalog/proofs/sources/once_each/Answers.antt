use Rattle.std.proofs.Common.{sym, arith, rules}
use Rattle.ras_catalog.proofs.Kept.{seen_none, seen_more, seen_twice, seen_all}
use Rattle.ras_catalog.proofs.sources.once_each.Goals as goal

pub loop-source-init : goal.loop-source-init
loop-source-init c = seen_none c.new-seen.result c.args.sources.now c.new-seen.ensures.empty

pub loop-source-preserved : goal.loop-source-preserved
loop-source-preserved c = seen_more c.args.sources.now c.loop-source.source-index c.source-item.result (omega arith) (sym c.source-item.is) c.loop-source.seen c.loop-source.invariant
    c.iterator_of-iterator.result.now c.iterator_of-iterator.ensures c.bytes.result c.bytes.ensures c.insert.new.self c.in-Ok.is_new c.in-Ok.ensures.added (search rules) c.in-Ok.ensures.updates

pub returns-then-not-is_new : goal.returns-then-not-is_new
returns-then-not-is_new c = seen_twice c.args.sources.now c.loop-source.source-index c.source-item.result (omega arith) (sym c.source-item.is) c.loop-source.seen c.loop-source.invariant
    c.iterator_of-iterator.result.now c.iterator_of-iterator.ensures c.bytes.result c.bytes.ensures c.in-Ok.is_new c.in-Ok.ensures.added (search rules)

pub returns : goal.returns
returns c = seen_all c.args.sources.now c.loop-source.source-index c.loop-source.seen (omega arith) c.loop-source.invariant
