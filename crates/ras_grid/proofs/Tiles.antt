-- Places and boxes of tiles, over all axes.
use Rattle.std.proofs.Common.{◌≡◌, ℕ, zero, suc, ◌<◌, ◌≤◌, ℤ, pos, ◌↔◌, List, [], ◌∷◌, map, length, get_or, All, Contains, refl, sym, ◌∙◌, arith}
use Rattle.std.specs.List.{AllZip}
use Rattle.std.proofs.lemmas.List.Elements.{All-nil, All-cons, All-head, All-tail}
use Rattle.std.proofs.Math.Nat.{mul-le-mul}
use Rattle.ras_domain.specs.declared.region.Interval.{Interval}
use Rattle.ras_domain.specs.Region.{HasSmallBounds, IsIn, IsOrdered, IsRegion, extent_of, points_of}
use Rattle.ras_domain.proofs.Points.{Contains-IsIn, length-points_of, length-from_IsIn}
use Rattle.ras_grid.specs.Grid.{AreFloors, IsGrid, IsParted, Meets, grid_box, grid_interval, place_along, place_box, places_meeting, tile_in, tile_place}
use Rattle.ras_domain.specs.Boxes.{meet_of_axis, meet_of}
use Rattle.ras_grid.proofs.Floors.{IsWithin, IsFloor-place_along, floors_agree, IsWithin-grid_interval, IsWithin-meet_of_axis, IsOrdered-common, places_along-ordered, places_along-small, places_along-few, meet_of_axis-small, meet_of_axis-few}
use Rattle.ras_domain.proofs.PointSets.{IsIn-lows, IsOrdered-from_IsIn}

-- the first extent of a grid, and the others
grid_head : (e : ℕ) (es : List ℕ) → IsGrid (e ∷ es) → 1 ≤ e
grid_head = All-head (λ e. 1 ≤ e)

grid_tail : (e : ℕ) (es : List ℕ) → IsGrid (e ∷ es) → IsGrid es
grid_tail = All-tail (λ e. 1 ≤ e)

-- ---- places are floors

pub AreFloors-tile_place : (es : List ℕ) (p : List ℤ) → IsGrid es → length p ≡ length es → AreFloors es p (tile_place es p)
AreFloors-tile_place [] [] grid same = tt
AreFloors-tile_place [] (c ∷ p) grid same = absurd (omega arith)
AreFloors-tile_place (e ∷ es) [] grid same = absurd (omega arith)
AreFloors-tile_place (e ∷ es) (c ∷ p) grid same =
    (IsFloor-place_along e c (grid_head e es grid), AreFloors-tile_place es p (grid_tail e es grid) (omega arith))

-- and nothing else is
tile_place-from_AreFloors : (es : List ℕ) (p place : List ℤ) → IsGrid es → AreFloors es p place → place ≡ tile_place es p
tile_place-from_AreFloors [] [] [] grid floors = refl
tile_place-from_AreFloors [] [] (q ∷ place) grid floors = absurd floors
tile_place-from_AreFloors [] (c ∷ p) place grid floors = absurd floors
tile_place-from_AreFloors (e ∷ es) [] place grid floors = absurd floors
tile_place-from_AreFloors (e ∷ es) (c ∷ p) [] grid floors = absurd floors
tile_place-from_AreFloors (e ∷ es) (c ∷ p) (q ∷ place) grid floors =
    let here : q ≡ place_along e c = floors_agree e c q (place_along e c) floors.0 (IsFloor-place_along e c (grid_head e es grid)) in
    let rest : place ≡ tile_place es p = tile_place-from_AreFloors es p place (grid_tail e es grid) floors.1 in
    cc

pub AreFloors-are : (es : List ℕ) (p place : List ℤ) → IsGrid es → length p ≡ length es → AreFloors es p place ↔ (place ≡ tile_place es p)
AreFloors-are es p place grid same =
    (tile_place-from_AreFloors es p place grid, λ is. rw is (AreFloors-tile_place es p grid same))

-- ---- the grid box of a place

pub length-grid_box : (es : List ℕ) (place : List ℤ) → length place ≡ length es → length (grid_box es place) ≡ length es
length-grid_box [] [] same = refl
length-grid_box [] (q ∷ place) same = refl
length-grid_box (e ∷ es) [] same = absurd (omega arith)
length-grid_box (e ∷ es) (q ∷ place) same = omega (arith, length-grid_box es place (omega arith))

pub length-tile_place : (es : List ℕ) (p : List ℤ) → length p ≡ length es → length (tile_place es p) ≡ length es
length-tile_place [] [] same = refl
length-tile_place [] (c ∷ p) same = refl
length-tile_place (e ∷ es) [] same = absurd (omega arith)
length-tile_place (e ∷ es) (c ∷ p) same = omega (arith, length-tile_place es p (omega arith))

-- a point of the grid box of a place has that place
tile_place-from_IsIn : (es : List ℕ) (place p : List ℤ) → IsGrid es → length place ≡ length es → IsIn p (grid_box es place) → tile_place es p ≡ place
tile_place-from_IsIn [] [] [] grid same within = refl
tile_place-from_IsIn [] [] (c ∷ p) grid same within = absurd within
tile_place-from_IsIn [] (q ∷ place) p grid same within = absurd (omega arith)
tile_place-from_IsIn (e ∷ es) [] p grid same within = absurd (omega arith)
tile_place-from_IsIn (e ∷ es) (q ∷ place) [] grid same within = absurd within
tile_place-from_IsIn (e ∷ es) (q ∷ place) (c ∷ p) grid same within =
    let here : place_along e c ≡ q = (IsWithin-grid_interval e c q (grid_head e es grid)).0 (within.0, within.1) in
    let rest : tile_place es p ≡ place = tile_place-from_IsIn es place p (grid_tail e es grid) (omega arith) within.2 in
    cc

-- and each point is in the grid box of its place
pub IsIn-grid_box : (es : List ℕ) (p : List ℤ) → IsGrid es → length p ≡ length es → IsIn p (grid_box es (tile_place es p))
IsIn-grid_box [] [] grid same = tt
IsIn-grid_box [] (c ∷ p) grid same = absurd (omega arith)
IsIn-grid_box (e ∷ es) [] grid same = absurd (omega arith)
IsIn-grid_box (e ∷ es) (c ∷ p) grid same =
    let here : IsWithin (grid_interval e (place_along e c)) c = (IsWithin-grid_interval e c (place_along e c) (grid_head e es grid)).1 refl in
    (here.0, here.1, IsIn-grid_box es p (grid_tail e es grid) (omega arith))

pub IsIn-grid_box_is : (es : List ℕ) (place p : List ℤ) → IsGrid es → length place ≡ length es → length p ≡ length es → IsIn p (grid_box es place) ↔ (tile_place es p ≡ place)
IsIn-grid_box_is es place p grid same long =
    (tile_place-from_IsIn es place p grid same, λ is. rw is at (IsIn-grid_box es p grid long))

-- ---- what two boxes have in common

pub IsIn-meet_of : (left right : List Interval) (p : List ℤ) → length left ≡ length right → IsIn p (meet_of left right) ↔ (IsIn p left × IsIn p right)
IsIn-meet_of [] [] p same = (λ within. (within, within), λ both. both.0)
IsIn-meet_of [] (b ∷ right) p same = absurd (omega arith)
IsIn-meet_of (a ∷ left) [] p same = absurd (omega arith)
IsIn-meet_of (a ∷ left) (b ∷ right) [] same = (λ within. absurd within, λ both. absurd both.0)
IsIn-meet_of (a ∷ left) (b ∷ right) (c ∷ p) same =
    let here = IsWithin-meet_of_axis a b c in
    let rest = IsIn-meet_of left right p (omega arith) in (
      λ within. let h = here.0 (within.0, within.1) in let r = rest.0 within.2 in ((h.0.0, h.0.1, r.0), (h.1.0, h.1.1, r.1)),
      λ both. let h = here.1 ((both.0.0, both.0.1), (both.1.0, both.1.1)) in (h.0, h.1, rest.1 (both.0.2, both.1.2)),
    )

-- ---- the tiles that meet a box

-- a tile meets a box exactly where what they have in common is ordered
pub Meets-from_ordered : (es : List ℕ) (place : List ℤ) (axes : List Interval) → length place ≡ length es → length axes ≡ length es
    → All IsOrdered (tile_in es axes place) → Meets es place axes
Meets-from_ordered es place axes same long ordered =
    let both = (IsIn-meet_of (grid_box es place) axes (map (λ axis. axis.lo) (tile_in es axes place)) (length-grid_box es place same ∙ sym long)).0
    (IsIn-lows (tile_in es axes place) ordered) in
    record { long = same; point = map (λ axis. axis.lo) (tile_in es axes place); in_tile = both.0; in_box = both.1 }

pub ordered_from_Meets : (es : List ℕ) (place : List ℤ) (axes : List Interval) → length axes ≡ length es → Meets es place axes → All IsOrdered (tile_in es axes place)
ordered_from_Meets es place axes long met =
    IsOrdered-from_IsIn (tile_in es axes place) met.point
    ((IsIn-meet_of (grid_box es place) axes met.point (length-grid_box es place met.long ∙ sym long)).1 (met.in_tile, met.in_box))

-- what a tile and a box have in common is ordered exactly where the tile's place is one of the box's places
pub IsIn-place_box : (es : List ℕ) (place : List ℤ) (axes : List Interval) → IsGrid es → All IsOrdered axes → length place ≡ length es → length axes ≡ length es
    → All IsOrdered (tile_in es axes place) ↔ IsIn place (place_box es axes)
IsIn-place_box [] [] [] grid ordered same long = (λ _. tt, λ _. All-nil IsOrdered)
IsIn-place_box [] (q ∷ place) axes grid ordered same long = absurd (omega arith)
IsIn-place_box [] [] (axis ∷ axes) grid ordered same long = absurd (omega arith)
IsIn-place_box (e ∷ es) [] axes grid ordered same long = absurd (omega arith)
IsIn-place_box (e ∷ es) (q ∷ place) [] grid ordered same long = absurd (omega arith)
IsIn-place_box (e ∷ es) (q ∷ place) (axis ∷ axes) grid ordered same long =
    let here = IsOrdered-common e q axis (grid_head e es grid) (All-head IsOrdered axis axes ordered) in
    let rest = IsIn-place_box es place axes (grid_tail e es grid) (All-tail IsOrdered axis axes ordered) (omega arith) (omega arith) in
    let first : Interval = meet_of_axis (grid_interval e q) axis in (
      λ all. let h = here.0 (All-head IsOrdered first (tile_in es axes place) all) in (h.0, h.1, rest.0 (All-tail IsOrdered first (tile_in es axes place) all)),
      λ within. All-cons IsOrdered first (tile_in es axes place) (here.1 (within.0, within.1)) (rest.1 within.2),
    )

-- the box of places has as many axes
pub length-place_box : (es : List ℕ) (axes : List Interval) → length axes ≡ length es → length (place_box es axes) ≡ length es
length-place_box [] axes same = refl
length-place_box (e ∷ es) [] same = absurd (omega arith)
length-place_box (e ∷ es) (axis ∷ axes) same = omega (arith, length-place_box es axes (omega arith))

-- the places that are listed are those that meet the box
pub places_meeting-Meets : (es : List ℕ) (axes : List Interval) (place : List ℤ) → IsGrid es → IsRegion axes → length axes ≡ length es
    → Contains (places_meeting es axes) place ↔ Meets es place axes
places_meeting-Meets es axes place grid region long =
    let listed = Contains-IsIn (place_box es axes) place in (
      λ has. let within = listed.0 has in
          let same : length place ≡ length es = length-from_IsIn place (place_box es axes) within ∙ length-place_box es axes long in
          Meets-from_ordered es place axes same long ((IsIn-place_box es place axes grid region.ordered same long).1 within),
      λ met. listed.1 ((IsIn-place_box es place axes grid region.ordered met.long long).0 (ordered_from_Meets es place axes long met)),
    )

-- ---- the parts along each axis

pub length-meet_of : (left right : List Interval) → length left ≡ length right → length (meet_of left right) ≡ length right
length-meet_of [] [] same = refl
length-meet_of [] (b ∷ right) same = absurd (omega arith)
length-meet_of (a ∷ left) [] same = absurd (omega arith)
length-meet_of (a ∷ left) (b ∷ right) same = omega (arith, length-meet_of left right (omega arith))

pub length-tile_in : (es : List ℕ) (place : List ℤ) (axes : List Interval) → length place ≡ length es → length axes ≡ length es → length (tile_in es axes place) ≡ length axes
length-tile_in es place axes same long = length-meet_of (grid_box es place) axes (length-grid_box es place same ∙ sym long)

pub get_or-tile_in : (es : List ℕ) (place : List ℤ) (axes : List Interval) (k : ℕ) (d : Interval) → length place ≡ length es → length axes ≡ length es → k < length axes
    → get_or (tile_in es axes place) k d ≡ meet_of_axis (grid_interval (get_or es k 0) (get_or place k (pos 0))) (get_or axes k d)
get_or-tile_in [] place [] k d same long within = absurd (omega arith)
get_or-tile_in [] place (axis ∷ axes) k d same long within = absurd (omega arith)
get_or-tile_in (e ∷ es) [] axes k d same long within = absurd (omega arith)
get_or-tile_in (e ∷ es) (q ∷ place) [] k d same long within = absurd (omega arith)
get_or-tile_in (e ∷ es) (q ∷ place) (axis ∷ axes) zero d same long within = refl
get_or-tile_in (e ∷ es) (q ∷ place) (axis ∷ axes) (suc k) d same long within = get_or-tile_in es place axes k d (omega arith) (omega arith) (omega arith)

-- ---- boxes that are no larger than a region

-- small and ordered, and with no more numbers than the other
abbrev pub IsNoLarger : Interval → Interval → Type 0
IsNoLarger a b = HasSmallBounds a × IsOrdered a × (extent_of a ≤ extent_of b)

length-no_larger : (left right : List Interval) → AllZip IsNoLarger left right → length left ≡ length right
length-no_larger [] [] all = refl
length-no_larger [] (b ∷ right) all = absurd all
length-no_larger (a ∷ left) [] all = absurd all
length-no_larger (a ∷ left) (b ∷ right) all = omega (arith, length-no_larger left right all.1)

small-no_larger : (left right : List Interval) → AllZip IsNoLarger left right → All HasSmallBounds left
small-no_larger [] right all = All-nil HasSmallBounds
small-no_larger (a ∷ left) [] all = absurd all
small-no_larger (a ∷ left) (b ∷ right) all = All-cons HasSmallBounds a left all.0.0 (small-no_larger left right all.1)

ordered-no_larger : (left right : List Interval) → AllZip IsNoLarger left right → All IsOrdered left
ordered-no_larger [] right all = All-nil IsOrdered
ordered-no_larger (a ∷ left) [] all = absurd all
ordered-no_larger (a ∷ left) (b ∷ right) all = All-cons IsOrdered a left all.0.1 (ordered-no_larger left right all.1)

points-no_larger : (left right : List Interval) → AllZip IsNoLarger left right → length (points_of left) ≤ length (points_of right)
points-no_larger [] [] all = omega arith
points-no_larger [] (b ∷ right) all = absurd all
points-no_larger (a ∷ left) [] all = absurd all
points-no_larger (a ∷ left) (b ∷ right) all =
    omega (arith, length-points_of a left, length-points_of b right, mul-le-mul all.0.2 (points-no_larger left right all.1))

pub IsRegion-no_larger : (left right : List Interval) → IsRegion right → AllZip IsNoLarger left right → IsRegion left
IsRegion-no_larger left right region all =
    record {
      some_axes = omega (arith, length-no_larger left right all, region.some_axes);
      few_axes = omega (arith, length-no_larger left right all, region.few_axes);
      small_bounds = small-no_larger left right all;
      ordered = ordered-no_larger left right all;
      few_points = omega (arith, points-no_larger left right all, region.few_points);
    }

-- the places that meet a region are no more than its points
places-no_larger : (es : List ℕ) (axes : List Interval) → IsGrid es → All HasSmallBounds axes → All IsOrdered axes → length axes ≡ length es → AllZip IsNoLarger (place_box es axes) axes
places-no_larger [] [] grid small ordered same = tt
places-no_larger [] (axis ∷ axes) grid small ordered same = absurd (omega arith)
places-no_larger (e ∷ es) [] grid small ordered same = absurd (omega arith)
places-no_larger (e ∷ es) (axis ∷ axes) grid small ordered same =
    let some : 1 ≤ e = grid_head e es grid in
    let in_order : IsOrdered axis = All-head IsOrdered axis axes ordered in (
      (places_along-small e axis some (All-head HasSmallBounds axis axes small), places_along-ordered e axis some in_order, places_along-few e axis some in_order),
      places-no_larger es axes (grid_tail e es grid) (All-tail HasSmallBounds axis axes small) (All-tail IsOrdered axis axes ordered) (omega arith),
    )

pub IsRegion-place_box : (es : List ℕ) (axes : List Interval) → IsGrid es → IsRegion axes → length axes ≡ length es → IsRegion (place_box es axes)
IsRegion-place_box es axes grid region same =
    IsRegion-no_larger (place_box es axes) axes region (places-no_larger es axes grid region.small_bounds region.ordered same)

pub places-few : (es : List ℕ) (axes : List Interval) → IsGrid es → IsRegion axes → length axes ≡ length es → length (places_meeting es axes) ≤ length (points_of axes)
places-few es axes grid region same =
    points-no_larger (place_box es axes) axes (places-no_larger es axes grid region.small_bounds region.ordered same)

-- what a box has in common with a region has no more points
common-no_larger : (left right : List Interval) → All IsOrdered (meet_of left right) → All HasSmallBounds right → length left ≡ length right → AllZip IsNoLarger (meet_of left right) right
common-no_larger [] [] ordered small same = tt
common-no_larger [] (b ∷ right) ordered small same = absurd (omega arith)
common-no_larger (a ∷ left) [] ordered small same = absurd (omega arith)
common-no_larger (a ∷ left) (b ∷ right) ordered small same =
    let first : Interval = meet_of_axis a b in
    let in_order : IsOrdered first = All-head IsOrdered first (meet_of left right) ordered in (
      (meet_of_axis-small a b in_order (All-head HasSmallBounds b right small), in_order, meet_of_axis-few a b in_order),
      common-no_larger left right (All-tail IsOrdered first (meet_of left right) ordered) (All-tail HasSmallBounds b right small) (omega arith),
    )

pub IsRegion-tile_in : (es : List ℕ) (domain : List Interval) (place : List ℤ) → IsRegion domain → length domain ≡ length es → Meets es place domain → IsRegion (tile_in es domain place)
IsRegion-tile_in es domain place region long met =
    IsRegion-no_larger (tile_in es domain place) domain region
    (common-no_larger (grid_box es place) domain (ordered_from_Meets es place domain long met) region.small_bounds (length-grid_box es place met.long ∙ sym long))

-- ---- the tiles part a domain

-- the points of a tile in a domain are those of the domain with its place
pub IsIn-tile_in : (es : List ℕ) (domain : List Interval) (place p : List ℤ) → IsGrid es → length domain ≡ length es → length place ≡ length es
    → IsIn p (tile_in es domain place) ↔ (IsIn p domain × (tile_place es p ≡ place))
IsIn-tile_in es domain place p grid long same =
    let common = IsIn-meet_of (grid_box es place) domain p (length-grid_box es place same ∙ sym long) in (
      λ within. let both = common.0 within in (both.1, tile_place-from_IsIn es place p grid same both.0),
      λ both. common.1 ((IsIn-grid_box_is es place p grid same (length-from_IsIn p domain both.0 ∙ long)).1 both.1, both.0),
    )

pub IsParted-domain : (es : List ℕ) (domain : List Interval) → IsGrid es → IsRegion domain → length domain ≡ length es → IsParted es domain
IsParted-domain es domain grid region long =
    let same = λ (place : List ℤ) (has : Contains (places_meeting es domain) place). ((places_meeting-Meets es domain place grid region long).0 has).long in
    let within = λ (p : List ℤ) (in_domain : IsIn p domain). length-from_IsIn p domain in_domain ∙ long in
    record {
      inside = λ place p has in_tile. ((IsIn-tile_in es domain place p grid long (same place has)).0 in_tile).0;
      listed = λ p in_domain. (places_meeting-Meets es domain (tile_place es p) grid region long).1
          (record { long = length-tile_place es p (within p in_domain); point = p; in_tile = IsIn-grid_box es p grid (within p in_domain); in_box = in_domain });
      covered = λ p in_domain. (IsIn-tile_in es domain (tile_place es p) p grid long (length-tile_place es p (within p in_domain))).1 (in_domain, refl);
      once = λ place p has in_tile. sym ((IsIn-tile_in es domain place p grid long (same place has)).0 in_tile).1;
    }
