use Rattle.std.proofs.Common.{◌-◌, length, option_map}
use Rattle.ras_domain.specs.Region.{points_of}
use Rattle.ras_domain.proofs.Walks.{IsWalk}
use Rattle.ras_grid.proofs.grid.tiles_meeting.Given as goal

abbrev pub invariant-loop-next : goal.invariant-loop-next
invariant-loop-next l = IsWalk (λ p. record { items = p }) l.places (option_map (λ p. p.items) l.next) l.tiles.items

abbrev pub decreases-loop-next : goal.decreases-loop-next
decreases-loop-next l = length (points_of l.places) - length l.tiles.items
