use Rattle.std.proofs.Common.{◌≡◌, IsTrue, [], get_or, Some, subst, sym, ap, ◌∙◌, below_more, rules}
use Rattle.std.specs.List.{slice_get}
use Rattle.std.proofs.lemmas.Option.{get_or_from_slice_get}
use Rattle.ras_cells.specs.Atoms.{AreInRange}
use Rattle.ras_cells.specs.Stored.{atoms_of}
use Rattle.ras_domain.specs.Region.{points_of, place_in_rows}
use Rattle.ras_domain.proofs.RowOrder.{place_in_rows-at}
use Rattle.ras_tile.proofs.tests.all_fit.Goals as goal

pub loop-place-preserved : goal.loop-place-preserved
loop-place-preserved c =
    let yes : IsTrue c.fit.result = search rules in
    let fits : AreInRange (atoms_of c.args.of.now) c.get.result.items = rw (c.atoms.ensures.atoms, c.as_slice.ensures.value) at (c.fit.ensures yes) in
    let at : slice_get (points_of c.args.tile.now.region) c.loop-place.place ≡ Some c.point_at-p.result.items =
    rw c.region-in-loop-place.ensures.region at c.point_at-p.ensures in
    let placed : place_in_rows c.args.tile.now.region c.point_at-p.result.items ≡ c.loop-place.place =
    place_in_rows-at c.args.tile.now.region c.loop-place.place c.point_at-p.result.items at in
    let cell : get_or c.args.tile.now.cells c.loop-place.place [] ≡ c.get.result.items =
    get_or_from_slice_get c.args.tile.now.cells c.loop-place.place c.get.result.items [] (ap (slice_get c.args.tile.now.cells) (sym placed) ∙ c.get.ensures) in
    below_more _ _ c.loop-place.invariant (subst (AreInRange (atoms_of c.args.of.now)) (sym cell) fits)
