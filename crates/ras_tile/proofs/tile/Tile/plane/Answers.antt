use Rattle.std.proofs.Common.{◌≡◌, ◌<◌, ℕ, length, ap, sym, ◌∙◌, subst, arith}
use Rattle.ras_domain.specs.Region.{points_of}
use Rattle.ras_tile.specs.Planes.{cells_in, HasNumbers, plane_number}
use Rattle.ras_tile.specs.Cells.{numbers_of}
use Rattle.ras_tile.proofs.Cells.{All-at, length-numbers_of, listed_number-numbers_of}
use Rattle.ras_tile.proofs.Tiles.{uniform_where_equal, packed_where_not, plain_where_writable}
use Rattle.ras_tile.proofs.tile.Tile.plane.Goals as goal

-- there is such a plane
within : (c : goal.After-lent) → c.args.component < length c.self.inside.planes.items
within c =
    let below = rw (← c.self.view_is) at c.requires.component in
    omega (arith, below, c.self.invariant.each_atom)

pub returns-clause-numbers : goal.returns-clause-numbers
returns-clause-numbers c =
    let planes = c.self.inside.planes.items in
    let n = length (points_of c.self.inside.region) in
    let long : length (numbers_of c.args.component (cells_in planes n)) ≡ n = length-numbers_of c.args.component planes n in
    rw (← c.self.view_is)
    (c.lent.ensures.numbers (numbers_of c.args.component (cells_in planes n))
    (subst (λ (m : ℕ). HasNumbers m c.index.result.now) (sym long) (All-at (HasNumbers n) planes c.args.component c.index.result.now (within c) c.index.ensures c.self.invariant.whole))
    (λ k below.
    listed_number-numbers_of c.args.component planes c.index.result.now n k (within c) (omega (arith, long))
    ∙ ap (λ plane. plane_number plane k) (sym c.index.ensures)))

pub returns-clause-writable : goal.returns-clause-writable
returns-clause-writable c =
    λ writable.
    c.lent.ensures.plain
    (plain_where_writable c.self.inside.region c.self.inside.atoms.items c.self.inside.planes.items c.self.inside.writable c.index.result.now c.args.component c.self.invariant
    (rw (← c.self.view_is) at writable) (within c) c.index.ensures)

pub returns-clause-uniform : goal.returns-clause-uniform
returns-clause-uniform c =
    rw (← c.self.view_is)
    (λ shut.
    uniform_where_equal c.self.inside.region c.self.inside.atoms.items c.self.inside.planes.items c.self.inside.writable c.index.result.now c.args.component c.lent.result c.self.invariant shut
    (within c) c.index.ensures c.lent.ensures.uniform c.lent.ensures.packed)

pub returns-clause-packed : goal.returns-clause-packed
returns-clause-packed c =
    rw (← c.self.view_is)
    (λ shut differ.
    packed_where_not c.self.inside.region c.self.inside.atoms.items c.self.inside.planes.items c.self.inside.writable c.index.result.now c.args.component c.lent.result c.self.invariant shut differ
    (within c) c.index.ensures c.lent.ensures.packed)
