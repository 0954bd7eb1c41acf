use Rattle.std.proofs.Common.{◌≡◌, map, take}
use Rattle.ras_named.proofs.named.of_sources.Given as goal

-- the collections of the sources so far
abbrev pub invariant-loop-source : goal.invariant-loop-source
invariant-loop-source g l = l.list.items ≡ take l.source-index (map (λ source. (source.collection.name, g.C.Collections.places l.collections source.collection.name)) l.sources)
