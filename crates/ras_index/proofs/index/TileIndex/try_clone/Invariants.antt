use Rattle.std.proofs.Common.{take}
use Rattle.std.specs.List.{AllZip}
use Rattle.ras_index.specs.Slots.{IsCopyOf}
use Rattle.ras_index.proofs.index.TileIndex.try_clone.Given as goal

abbrev pub invariant-loop-slot : goal.invariant-loop-slot
invariant-loop-slot g l = AllZip (IsCopyOf g.V.Clone.is_clone) (take l.slot-index l.slot-items) l.slots.items
