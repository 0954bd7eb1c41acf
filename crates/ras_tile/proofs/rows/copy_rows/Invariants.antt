use Rattle.std.proofs.Common.{◌-◌, length, option_map}
use Rattle.ras_domain.specs.Region.{points_of}
use Rattle.ras_tile.specs.Planes.{plane_number}
use Rattle.ras_tile.proofs.Copying.{IsCopying, done_of}
use Rattle.ras_tile.proofs.rows.copy_rows.Given as goal

abbrev pub invariant-loop-next : goal.invariant-loop-next
invariant-loop-next l =
    IsCopying l.to_box l.from_box l.region l.fn.to (plane_number l.from) l.to (option_map (λ p. p.items) l.next)

abbrev pub decreases-loop-next : goal.decreases-loop-next
decreases-loop-next l =
    length (points_of l.region) - done_of l.region (option_map (λ p. p.items) l.next)
