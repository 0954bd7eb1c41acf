use Rattle.std.proofs.Common.{◌≡◌, Some, length, sym, ap, ◌∙◌, arith}
use Rattle.std.proofs.lemmas.List.{with_items_is}
use Rattle.std.specs.Vec.{with_items}
use Rattle.ras_domain.specs.Region.{IsIn}
use Rattle.ras_tile.proofs.Tiles.{IsTile-stored, IsStored-written, cell_at-stored}
use Rattle.ras_tile.proofs.tile.Tile.copy_box.Goals as goal

-- the planes after the copying
planes_are : (c : goal.After-self-1) → (with_items c.self.inside.planes c.copy_planes.new.to).items ≡ c.copy_planes.new.to
planes_are c = with_items_is c.self.inside.planes c.copy_planes.new.to (omega (arith, c.as_mut_slice.ensures.len))

pub invariant_of-self : goal.invariant_of-self
invariant_of-self c =
    let writable = rw (← c.self.view_is) at c.requires.writable in
    rw (planes_are c)
    (IsStored-written c.copy_planes.new.to c.self.inside.writable writable c.self.invariant (omega (arith, ap length c.as_mut_slice.ensures.value))
    c.copy_planes.ensures.plain c.copy_planes.ensures.whole)

pub returns-clause-copied : goal.returns-clause-copied
returns-clause-copied c =
    λ p inside.
    let own : IsIn p c.self.inside.region = rw (← c.self.view_is) at (c.requires.covered p inside) in
    let theirs : IsIn p c.source.inside.region = rw (← c.source.view_is) at (c.requires.source p inside) in
    let copied = rw (c.as_slice.ensures.value) at (c.copy_planes.ensures.copied p inside) in
    rw (← c.source.view_is, planes_are c)
    (cell_at-stored c.self.inside.region c.copy_planes.new.to p own
    ∙ ap (λ cell. Some cell) copied
    ∙ sym (cell_at-stored c.source.inside.region c.source.inside.planes.items p theirs))

pub returns-clause-others : goal.returns-clause-others
returns-clause-others c =
    λ p inside out.
    let own : IsIn p c.self.inside.region = rw (← c.self.view_is) at inside in
    let kept = rw (c.as_mut_slice.ensures.value) at (c.copy_planes.ensures.others p own out) in
    rw (← c.self.view_is, planes_are c)
    (cell_at-stored c.self.inside.region c.copy_planes.new.to p own
    ∙ ap (λ cell. Some cell) kept
    ∙ sym (cell_at-stored c.self.inside.region c.self.inside.planes.items p own))

pub returns-clause-tile : goal.returns-clause-tile
returns-clause-tile c =
    IsTile-stored c.self.inside.region c.self.inside.atoms.items (with_items c.self.inside.planes c.copy_planes.new.to).items c.self.inside.writable (invariant_of-self c)
