use Rattle.std.proofs.Common.{rules, ◌≡◌, ◌<◌, ℕ, ℤ, List, length, subst, pos, get_or, FitsSigned, to_z, of_z, to_z-of_z, arith, ◌∙◌, sym, ap, refl, ◌++◌, ◌∷◌, [], take}
use Rattle.std.specs.Int.{w64}
use Rattle.std.proofs.lemmas.Bool.{false≢true}
use Rattle.std.proofs.lemmas.List.{take_all, take_more}
use Rattle.std.proofs.lemmas.List.Elements.{All-push}
use Rattle.ras_domain.specs.declared.region.Interval.{Interval}
use Rattle.ras_domain.specs.Region.{IsOrdered}
use Rattle.ras_grid.specs.Grid.{grid_interval, tile_in}
use Rattle.ras_domain.specs.Boxes.{meet_of_axis}
use Rattle.ras_grid.proofs.Tiles.{get_or-tile_in, length-tile_in, Meets-from_ordered, ordered_from_Meets}
use Rattle.ras_grid.proofs.grid.common_box.Goals as goal

-- what the tile and the region have in common along the axis of this turn
along : (extents : List ℕ) (place : List ℤ) (axes : List Interval) (i : ℕ) → length place ≡ length extents → length axes ≡ length extents → i < length axes
    → FitsSigned w64 (get_or place i (pos 0))
    → get_or (tile_in extents axes place) i (record { lo = pos 0; hi = pos 0 }) ≡ meet_of_axis
    (grid_interval (get_or extents i 0) (to_z w64 (of_z w64 (get_or place i (pos 0))))) (get_or axes i (record { lo = pos 0; hi = pos 0 }))
along extents place axes i same long within fits =
    rw (to_z-of_z fits) (get_or-tile_in extents place axes i (record { lo = pos 0; hi = pos 0 }) same long within)

pub returns-in_err-common_along-clause-meets : goal.returns-in_err-common_along-clause-meets
returns-in_err-common_along-clause-meets c =
    let d : Interval = record { lo = pos 0; hi = pos 0 } in
    let here = along c.args.extents.now c.args.place.now c.args.axes.now c.loop-i.i c.requires.place_axes c.requires.region_axes c.loop-i-test.true (search rules) in
    let within : c.loop-i.i < length (tile_in c.args.extents.now c.args.axes.now c.args.place.now) = omega
    (arith, length-tile_in c.args.extents.now c.args.place.now c.args.axes.now c.requires.place_axes c.requires.region_axes) in (
      λ some. absurd (false≢true (rw c.from_residual.ensures at some)),
      λ met. absurd (c.in_err-common_along.ensures (subst IsOrdered here
          (ordered_from_Meets c.args.extents.now c.args.place.now c.args.axes.now c.requires.region_axes met c.loop-i.i d within))),
    )

pub loop-i-preserved : goal.loop-i-preserved
loop-i-preserved c =
    let d : Interval = record { lo = pos 0; hi = pos 0 } in
    let here = along c.args.extents.now c.args.place.now c.args.axes.now c.loop-i.i c.requires.place_axes c.requires.region_axes c.loop-i-test.true (search rules) in
    let tile : List Interval = tile_in c.args.extents.now c.args.axes.now c.args.place.now in
    let within : c.loop-i.i < length tile = omega (arith, length-tile_in c.args.extents.now c.args.place.now c.args.axes.now c.requires.place_axes c.requires.region_axes) in
    let item : c.in_ok-common_along.field-0 ≡ get_or tile c.loop-i.i d = c.in_ok-common_along.ensures.0 ∙ sym here in
    let ordered : IsOrdered c.in_ok-common_along.field-0 = subst IsOrdered (sym c.in_ok-common_along.ensures.0) c.in_ok-common_along.ensures.1 in (
      c.push.ensures.items ∙ ap (λ xs. xs ++ c.in_ok-common_along.field-0 ∷ []) c.loop-i.invariant.0 ∙ ap (λ x. take c.loop-i.i tile ++ x ∷ []) item
          ∙ sym (take_more tile c.loop-i.i d within),
      rw c.push.ensures.items (All-push IsOrdered c.loop-i.common.items c.in_ok-common_along.field-0 c.loop-i.invariant.1 ordered),
    )

pub returns-clause-common : goal.returns-clause-common
returns-clause-common c =
    c.loop-i.invariant.0 ∙ take_all c.loop-i.i (tile_in c.args.extents.now c.args.axes.now c.args.place.now)
    (omega (arith, length-tile_in c.args.extents.now c.args.place.now c.args.axes.now c.requires.place_axes c.requires.region_axes))

pub returns-clause-meets : goal.returns-clause-meets
returns-clause-meets c = (
  λ _. Meets-from_ordered c.args.extents.now c.args.place.now c.args.axes.now c.requires.place_axes c.requires.region_axes
      (rw (returns-clause-common c) at c.loop-i.invariant.1),
  λ _. refl,
)
