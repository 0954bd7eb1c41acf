use Rattle.std.proofs.Common.{sym, ap, ◌∙◌, arith}
use Rattle.ras_reach.specs.Statics.{all_found, found_or_none, number_found}
use Rattle.ras_reach.proofs.StaticsSeen.{found_end, found_stop, offsets_are}
use Rattle.ras_reach.proofs.statics.offset_values.Goals as goal

pub returns-in_default : goal.returns-in_default
returns-in_default c =
    c.new.ensures.items
    ∙ sym (offsets_are c.args.domains.now c.args.offsets.now
    ∙ ap found_or_none (found_stop (number_found c.args.domains.now) c.loop-offset.values.items c.args.offsets.now c.loop-offset.offset-index c.offset-item.result
    (all_found (number_found c.args.domains.now) c.args.offsets.now) (omega (arith, c.loop-offset-test.true))
    (ap (number_found c.args.domains.now) (sym c.offset-item.is) ∙ sym c.in_ok-value.ensures ∙ c.in_default.is) c.loop-offset.invariant))

pub returns : goal.returns
returns c =
    sym (offsets_are c.args.domains.now c.args.offsets.now
    ∙ ap found_or_none (found_end (number_found c.args.domains.now) c.loop-offset.values.items c.args.offsets.now c.loop-offset.offset-index
    (all_found (number_found c.args.domains.now) c.args.offsets.now) (omega (arith, c.loop-offset-test.false)) c.loop-offset.invariant))
