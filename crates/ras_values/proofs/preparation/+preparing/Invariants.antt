use Rattle.std.proofs.Common.{◌≡◌, ◌≤◌, drop, length}
use Rattle.std.specs.Prelude.{None, unsigned_abs}
use Rattle.ras_values.specs.Places.{before_seen}
use Rattle.ras_values.proofs.PreparedArms.{FromArm, Front, PartsOver, PlacedOver, PositionsOver}
use Rattle.ras_values.proofs.preparation.+preparing.Given as goal

abbrev pub invariant-choice-loop-left : goal.invariant-choice-loop-left
invariant-choice-loop-left g l =
    record {
      within : l.left ≤ length l.arms;
      from : FromArm (g.A.Arrays.members l.row) l.domains l.fn.names l.arms l.left l.fn.other l.whole;
      same : l.names ≡ l.fn.names;
    }

abbrev pub decreases-choice-loop-left : goal.decreases-choice-loop-left
decreases-choice-loop-left g l = l.left

abbrev pub invariant-parts_of-loop-part : goal.invariant-parts_of-loop-part
invariant-parts_of-loop-part g l =
    record {
      front : Front (PartsOver (g.A.Arrays.members l.row) l.domains l.fn.names l.parts)
          (PartsOver (g.A.Arrays.members l.row) l.domains l.fn.names (drop l.part-index l.parts)) l.nodes;
      same : l.names ≡ l.fn.names;
    }

abbrev pub invariant-positions-loop-axis : goal.invariant-positions-loop-axis
invariant-positions-loop-axis g l =
    record {
      front : Front (PositionsOver (g.A.Arrays.members l.row) l.domains l.fn.names l.axes)
          (PositionsOver (g.A.Arrays.members l.row) l.domains l.fn.names (drop l.axis-index l.axes)) l.positions;
      same : l.names ≡ l.fn.names;
    }

abbrev pub invariant-placed-loop-part : goal.invariant-placed-loop-part
invariant-placed-loop-part g l =
    record {
      front : Front (PlacedOver (g.A.Arrays.members l.row) l.domains l.fn.names (unsigned_abs l.along) None l.parts)
          (PlacedOver (g.A.Arrays.members l.row) l.domains l.fn.names (unsigned_abs l.along) (before_seen l.before) (drop l.part-index l.parts)) l.all;
      same : l.names ≡ l.fn.names;
    }
