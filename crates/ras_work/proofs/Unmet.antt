-- Tiles whose box changes where a domain grows.
use Rattle.std.proofs.Common.{◌≡◌, ◌↔◌, ℕ, ℤ, Bool, true, false, not, List, length, Option, Some, None, refl, sym, ◌∙◌, subst}
use Rattle.std.specs.Option.{IsSome, is_some}
use Rattle.ras_domain.specs.Boxes.{is_same_box}
use Rattle.ras_domain.specs.Region.{IsIn, IsRegion, is_in}
use Rattle.ras_domain.proofs.BoxTests.{IsIn-is_in, same-is_same_box}
use Rattle.ras_domain.proofs.Points.{Contains-IsIn}
use Rattle.ras_grid.specs.Grid.{IsGrid, Meets, grid_box, place_box, tile_in}
use Rattle.ras_grid.proofs.Tiles.{IsIn-meet_of, length-grid_box, places_meeting-Meets}
use Rattle.spec_expressions.specs.Shape.{Box}

-- where the greater domain has a tile and the lesser one has none
pub unmet-changes : (es : List ℕ) (place : List ℤ) (old grown after : Box) → length place ≡ length es → length old ≡ length es → length grown ≡ length es
    → (IsSome {T = Box} None ↔ Meets es place old) → (IsSome (Some after) ↔ Meets es place grown)
    → true ≡ not (is_same_box (tile_in es old place) (tile_in es grown place))
unmet-changes es place old grown after long old_long grown_long none some =
    at (is_same_box (tile_in es old place) (tile_in es grown place)) refl
  where
    met : Meets es place grown
    met = some.0 refl

    inside : tile_in es old place ≡ tile_in es grown place → Meets es place old
    inside same =
        let m = some.0 refl in
        let in_new : IsIn m.point (tile_in es grown place) = (IsIn-meet_of (grid_box es place) grown m.point (length-grid_box es place long ∙ sym grown_long)).1 (m.in_tile, m.in_box) in
        let in_old = (IsIn-meet_of (grid_box es place) old m.point (length-grid_box es place long ∙ sym old_long)).0 (subst (IsIn m.point) (sym same) in_new) in
        record { long = long; point = m.point; in_tile = m.in_tile; in_box = in_old.1 }

    at : (b : Bool) → is_same_box (tile_in es old place) (tile_in es grown place) ≡ b → true ≡ not b
    at true same = absurd (let clash : IsSome {T = Box} None = none.1 (inside (same-is_same_box (tile_in es old place) (tile_in es grown place) same)) in cc)
    at false apart = refl

-- two tests that pass alike are the same
same_tests : (a b : Bool) → (a ≡ true → b ≡ true) → (b ≡ true → a ≡ true) → a ≡ b
same_tests true true there back = refl
same_tests true false there back = sym (there refl)
same_tests false true there back = back refl
same_tests false false there back = refl

-- a region meets a tile just where the place is in the box of its places
pub met-in : (es : List ℕ) (region : Box) (place : List ℤ) (o : Option Box) → IsGrid es → IsRegion region → length region ≡ length es → (IsSome o ↔ Meets es place region)
    → is_some o ≡ is_in place (place_box es region)
met-in es region place o grid is_region long meets =
    let met = places_meeting-Meets es region place grid is_region long in
    let listed = Contains-IsIn (place_box es region) place in
    let tested = IsIn-is_in place (place_box es region) in
    same_tests (is_some o) (is_in place (place_box es region)) (λ some. tested.1 (listed.0 (met.1 (meets.0 some)))) (λ inside. meets.1 (met.0 (listed.1 (tested.0 inside))))
