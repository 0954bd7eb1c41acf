use Rattle.std.proofs.Common.{◌≡◌, ℕ, List, ◌∷◌, Option, map, refl, ◌∙◌, arith}
use Rattle.std.proofs.lemmas.List.{length-map, take_all}
use Rattle.ras_rows.proofs.Turns.{mapped-turn}
use Rattle.ras_syntax.specs.declared.statement.SourceName.{SourceName}
use Rattle.spec_expressions.specs.Tree.{NameOf}
use Rattle.ras_named.proofs.ByNames.{placed_sources}
use Rattle.ras_named.proofs.named.of_sources.Goals as goal

pub loop-source-preserved : goal.loop-source-preserved
loop-source-preserved g c =
    mapped-turn (λ (source : SourceName). (source.collection.name, g.C.Collections.places c.args.collections.now source.collection.name)) c.args.sources.now c.loop-source.source-index c.source-item.result _
    c.loop-source.list.items c.put.new.list.items c.loop-source-test.true c.source-item.is c.loop-source.invariant refl c.in_ok-put.ensures

pub returns : goal.returns
returns g c =
    let pair : SourceName → NameOf × Option ℕ = λ source. (source.collection.name, g.C.Collections.places c.args.collections.now source.collection.name) in
    c.loop-source.invariant
    ∙ take_all c.loop-source.source-index (map pair c.args.sources.now) (omega (arith, length-map c.args.sources.now pair, c.loop-source-test.false))
    ∙ placed_sources (g.C.Collections.places c.args.collections.now) c.args.sources.now
