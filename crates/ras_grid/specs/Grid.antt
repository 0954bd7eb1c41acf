-- A grid of tiles, boxes of one size that fill the space. The extents say how long a tile is on each axis,
-- and one tile begins at the origin. A tile's place counts tiles on each axis, from that one on.
use Rattle.std.specs.Prelude.{◌≡◌, ℕ, ℤ, pos, ◌+ℤ◌, ◌-ℤ◌, ◌*ℤ◌, ◌≤ℤ◌, ◌<ℤ◌, ◌≤◌, List, [], ◌∷◌, map, length, All, Contains}
use Rattle.std.specs.Int.{int_div_euclid}
use Rattle.std.specs.List.{zip}
use Rattle.ras_domain.specs.declared.region.Interval.{Interval}
use Rattle.ras_domain.specs.Region.{IsIn, points_of}
use Rattle.ras_domain.specs.Boxes.{meet_of}

-- each extent is at least 1
abbrev pub IsGrid : List ℕ → Type 0
IsGrid extents = All (λ extent. 1 ≤ extent) extents

-- ---- the tile of a point

-- the floor of a coordinate divided by an extent, which is positive
abbrev pub place_along : ℕ → ℤ → ℤ
place_along extent c = int_div_euclid c (pos extent)

-- the place of the tile in which a point lies: on each axis the floor of its coordinate divided by the extent
abbrev pub tile_place : List ℕ → List ℤ → List ℤ
tile_place extents p = map (λ axis. place_along axis.0 axis.1) (zip extents p)

-- the greatest whole number whose product with the extent doesn't exceed the coordinate
abbrev pub IsFloor : ℕ → ℤ → ℤ → Type 0
IsFloor extent c place = ((place *ℤ pos extent) ≤ℤ c) × (c <ℤ ((place +ℤ pos 1) *ℤ pos extent))

-- on each axis that of the point's coordinate
abbrev pub AreFloors : List ℕ → List ℤ → List ℤ → Type 0
AreFloors [] [] [] = Unit {0}
AreFloors (extent ∷ extents) (c ∷ p) (q ∷ place) = IsFloor extent c q × AreFloors extents p place
AreFloors _ _ _ = ⊥

-- ---- the box of a tile

-- the coordinates of a tile along one axis: as many as the extent, from the place times the extent on
abbrev pub grid_interval : ℕ → ℤ → Interval
grid_interval extent place = record { lo = place *ℤ pos extent; hi = ((place *ℤ pos extent) +ℤ pos extent) -ℤ pos 1 }

-- all points of the tile at a place, wherever the domain ends
abbrev pub grid_box : List ℕ → List ℤ → List Interval
grid_box extents place = map (λ axis. grid_interval axis.0 axis.1) (zip extents place)

-- the part of the tile at a place that lies in the domain
abbrev pub tile_in : List ℕ → List Interval → List ℤ → List Interval
tile_in extents domain place = meet_of (grid_box extents place) domain

-- ---- the tiles that a box meets

-- the place has a coordinate for each extent, and some point of its tile is a point of the box
pub record Meets (extents : List ℕ) (place : List ℤ) (axes : List Interval) : Type 0 where
  pub long : length place ≡ length extents
  pub point : List ℤ
  pub in_tile : IsIn point (grid_box extents place)
  pub in_box : IsIn point axes

-- the places along one axis, from that of the lower bound to that of the upper one
abbrev pub places_along : ℕ → Interval → Interval
places_along extent axis = record { lo = place_along extent axis.lo; hi = place_along extent axis.hi }

-- the box of the places that meet a box
abbrev pub place_box : List ℕ → List Interval → List Interval
place_box extents axes = map (λ axis. places_along axis.0 axis.1) (zip extents axes)

-- those places in row-major order
abbrev pub places_meeting : List ℕ → List Interval → List (List ℤ)
places_meeting extents axes = points_of (place_box extents axes)

-- the tiles that meet a domain part it: they lie in it, and each of its points lies in exactly one of them
pub record IsParted (extents : List ℕ) (domain : List Interval) : Type 0 where
  pub inside : (place p : List ℤ) → Contains (places_meeting extents domain) place → IsIn p (tile_in extents domain place) → IsIn p domain
  pub listed : (p : List ℤ) → IsIn p domain → Contains (places_meeting extents domain) (tile_place extents p)
  pub covered : (p : List ℤ) → IsIn p domain → IsIn p (tile_in extents domain (tile_place extents p))
  pub once : (place p : List ℤ) → Contains (places_meeting extents domain) place → IsIn p (tile_in extents domain place) → place ≡ tile_place extents p
