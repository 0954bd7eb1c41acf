use Rattle.std.proofs.Common.{sym, subst}
use Rattle.ras_cells.specs.Atoms.{IsInRange}
use Rattle.ras_tile.proofs.Cells.{All-in_range}
use Rattle.ras_tile.proofs.plane.Plane.packed.Goals as goal

pub packed-requires : goal.packed-requires
packed-requires c =
    let whole = rw c.in-Plain.is at c.requires.whole in
    let range = rw c.in-Plain.is at c.requires.range in
    rw c.as_slice.ensures.value (All-in_range c.args.atom c.in-Plain.numbers.items c.args.cells whole range)

pub packed-requires-in_default : goal.packed-requires-in_default
packed-requires-in_default c =
    rw c.as_slice-in_default.ensures.value
    (All-in_range c.args.atom c.in_ok-numbers-in_default.numbers.items c.args.cells c.in_ok-numbers-in_default.ensures.long
    (λ k below. subst (IsInRange c.args.atom) (sym (c.in_ok-numbers-in_default.ensures.numbers k below)) (c.requires.range k below)))
