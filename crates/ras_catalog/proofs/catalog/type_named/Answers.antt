use Rattle.std.proofs.Common.{sym, ◌∙◌, arith}
use Rattle.ras_catalog.proofs.Kept.{types_first, types_next, types_found, types_end}
use Rattle.ras_catalog.proofs.catalog.type_named.Goals as goal

pub loop-place-init : goal.loop-place-init
loop-place-init c = types_first c.args.name.now c.args.types.now

pub loop-place-preserved : goal.loop-place-preserved
loop-place-preserved c = types_next c.args.name.now c.args.types.now c.loop-place.place c.get-of.result.now c.get-of.ensures (sym c.eq.ensures ∙ c.if-eq.false) c.loop-place.invariant

pub returns-then-eq : goal.returns-then-eq
returns-then-eq c = types_found c.args.name.now c.args.types.now c.loop-place.place c.get-of.result.now c.get-of.ensures (sym c.eq.ensures ∙ c.if-eq.true) c.loop-place.invariant

pub returns : goal.returns
returns c = types_end c.args.name.now c.args.types.now c.loop-place.place (omega (arith, c.len-count.ensures)) c.loop-place.invariant
