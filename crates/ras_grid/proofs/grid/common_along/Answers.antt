use Rattle.std.proofs.Common.{◌≡◌, pos, ◌+ℤ◌, ◌-ℤ◌, ◌*ℤ◌, to_z, of_z, arith}
use Rattle.std.specs.Int.{w64}
use Rattle.std.proofs.lemmas.Int.{ints, clamps}
use Rattle.ras_domain.specs.declared.region.Interval.{Interval}
use Rattle.ras_grid.specs.Grid.{grid_interval}
use Rattle.ras_domain.specs.Boxes.{meet_of_axis}
use Rattle.ras_grid.proofs.Floors.{some_where_ordered}
use Rattle.ras_grid.proofs.grid.common_along.Goals as goal

pub returns : goal.returns
returns c =
    let both : Interval = meet_of_axis (grid_interval c.args.extent c.args.place) c.args.axis.now in
    let place : to_z w64 (of_z w64 c.args.place) ≡ c.args.place = omega (arith, ints) in
    let extent : to_z w64 (of_z w64 c.from.result) ≡ pos c.args.extent = omega (arith, ints) in
    let first : c.in_ok-lo.lo ≡ (c.args.place *ℤ pos c.args.extent) = rw (place, extent) at c.in_ok-lo.ensures.1 in
    let last : c.in_ok-hi.hi ≡ ((c.args.place *ℤ pos c.args.extent) +ℤ pos c.args.extent) -ℤ pos 1 = omega (arith, ints, first, c.in_ok-hi.ensures.1) in
    let lo : to_z w64 (of_z w64 c.max.result) ≡ both.lo = omega (arith, ints, clamps, first) in
    let hi : to_z w64 (of_z w64 c.min.result) ≡ both.hi = omega (arith, ints, clamps, last) in
    let lo2 : to_z w64 (of_z w64 (to_z w64 (of_z w64 c.max.result))) ≡ both.lo = omega (arith, ints, lo) in
    let hi2 : to_z w64 (of_z w64 (to_z w64 (of_z w64 c.min.result))) ≡ both.hi = omega (arith, ints, hi) in
    some_where_ordered both c.then_some.result (cc (c.then_some.ensures, lo, hi, lo2, hi2))
