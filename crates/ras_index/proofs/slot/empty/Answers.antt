use Rattle.std.proofs.Common.{arith, ◌<◌, length, ◌∙◌}
use Rattle.ras_index.proofs.Empty.{places-emptied, entries-emptied}
use Rattle.ras_index.proofs.slot.empty.Goals as goal

pub loop-slot-preserved : goal.loop-slot-preserved
loop-slot-preserved g c =
    let within : c.loop-slot.slot-index < length c.loop-slot.slots = omega arith in
    record {
      places = places-emptied c.loop-slot.slots c.loop-slot.slot-index c.slot-item.result within ∙ c.loop-slot.invariant.places;
      none = entries-emptied c.loop-slot.slots c.loop-slot.slot-index c.slot-item.result within c.loop-slot.invariant.none;
    }
