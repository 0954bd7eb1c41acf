-- The tiles that are kept of an array, and the array.
use Rattle.std.proofs.Common.{◌≡◌, ◌==◌, ◌↔◌, ℕ, ℤ, zero, suc, ◌⊎◌, inl, inr, ◌<◌, Bool, true, false, cond, ◌&&◌, eqb, List, [], ◌∷◌, length, get_or, map, filter, All, Contains, Option, Some, None, refl, sym, ap, subst, ◌∙◌, arith, eq-eqb, Ordering}
use Rattle.std.specs.BTreeMap.{is_at}
use Rattle.std.specs.Cmp.{IsTotalOrder}
use Rattle.std.specs.Cmp.Lexicographic.{slice_cmp}
use Rattle.std.specs.List.{AllByRecursion, slice_get, zip}
use Rattle.std.specs.List.Sorted.{IsStrictlySortedBy}
use Rattle.std.specs.Map.{keys_of, lookup}
use Rattle.std.specs.Option.{IsSome, is_some, option_map}
use Rattle.std.specs.Ordering.{int_cmp, is_eq}
use Rattle.std.proofs.lemmas.Bool.{eqb-true}
use Rattle.std.proofs.lemmas.Cmp.{eq_by_cmp_equiv}
use Rattle.std.proofs.lemmas.Map.Keys.{IsDistinct-from_sorted}
use Rattle.std.proofs.lemmas.Map.Views.{lookup-from_Contains}
use Rattle.law_lists.proofs.Each.{each_contained, each_filter, each_itself}
use Rattle.law_lists.proofs.Elements.{Contains-here, Contains-map, Contains-there, first_or_later}
use Rattle.ras_domain.specs.declared.region.Interval.{Interval}
use Rattle.ras_domain.specs.Region.{IsIn, IsRegion, is_in, place_in_rows, points_of}
use Rattle.ras_domain.proofs.BoxTests.{IsIn-is_in}
use Rattle.ras_domain.proofs.Points.{Contains-IsIn}
use Rattle.ras_domain.proofs.PointSets.{Covers-antisym, IsMeeting-meet_of}
use Rattle.ras_domain.proofs.RowOrder.{place_in_rows-at, points_of-ascends}
use Rattle.ras_grid.specs.Grid.{IsGrid, Meets, grid_box, tile_in}
use Rattle.ras_grid.proofs.Tiles.{IsRegion-tile_in, length-grid_box}
use Rattle.ras_index.proofs.Slots.{row_major_exact, row_major_total}
use Rattle.ras_tile.specs.Tile.{IsTile, TileValue, tile_cell_at}
use Rattle.ras_store.specs.Databases.{holding_kept}
use Rattle.ras_store.specs.Kept.{Kept, tile_kept}
use Rattle.spec_expressions.specs.Database.{Array, stored_at}
use Rattle.spec_statements.specs.Agree.{lies_at, tile_seen}
use Rattle.spec_views.specs.Holdings.{Holding, holding_of, tile_held}

-- ---- lists

abbrev pub Entry : Type 0
Entry = List ℤ × List ℤ

Contains-filter : (test : Entry → Bool) (xs : List Entry) (x : Entry) → Contains xs x → test x ≡ true → Contains (filter test xs) x
Contains-filter test [] x has passes = absurd (omega (arith, has.1))
Contains-filter test (y ∷ ys) x has passes = at (test y) refl (first_or_later x y ys has) (λ later. Contains-filter test ys x later passes)
  where
    at : (b : Bool) → test y ≡ b → ((y ≡ x) ⊎ Contains ys x) → (Contains ys x → Contains (filter test ys) x) → Contains (cond b (y ∷ filter test ys) (filter test ys)) x
    at true is (inl same) rest = subst (λ z. Contains (z ∷ filter test ys) x) (sym same) (Contains-here x (filter test ys))
    at true is (inr later) rest = Contains-there x y (filter test ys) (rest later)
    at false is (inl same) rest = absurd (let clash : true ≡ false = sym passes ∙ ap test (sym same) ∙ is in cc)
    at false is (inr later) rest = rest later

from_filter : (test : Entry → Bool) (xs : List Entry) (x : Entry) → Contains (filter test xs) x → Contains xs x
from_filter test xs x has = each_contained (Contains xs) (filter test xs) x (each_filter (Contains xs) test xs (each_itself xs)) has

each_passes : (test : Entry → Bool) (xs : List Entry) → AllByRecursion (λ x. test x ≡ true) (filter test xs)
each_passes test [] = tt
each_passes test (y ∷ ys) = at (test y) refl (each_passes test ys)
  where
    at : (b : Bool) → test y ≡ b → AllByRecursion (λ x. test x ≡ true) (filter test ys) → AllByRecursion (λ x. test x ≡ true) (cond b (y ∷ filter test ys) (filter test ys))
    at true is rest = (is, rest)
    at false is rest = rest

passes : (test : Entry → Bool) (xs : List Entry) (x : Entry) → Contains (filter test xs) x → test x ≡ true
passes test xs x has = each_contained (λ y. test y ≡ true) (filter test xs) x (each_passes test xs) has

-- an entry whose key is listed
entry_of : (xs : List Entry) (p : List ℤ) → Contains (map (λ e. e.0) xs) p → (e : Entry) × Contains xs e × (e.0 ≡ p)
entry_of [] p has = absurd (omega (arith, has.1))
entry_of (x ∷ xs) p has =
    at (first_or_later p x.0 (map (λ (e : Entry). e.0) xs) has) (λ later. entry_of xs p later)
  where
    at : (x.0 ≡ p) ⊎ Contains (map (λ e. e.0) xs) p → (Contains (map (λ e. e.0) xs) p → (e : Entry) × Contains xs e × (e.0 ≡ p)) → (e : Entry) × Contains (x ∷ xs) e × (e.0 ≡ p)
    at (inl same) rest = (x, Contains-here x xs, same)
    at (inr later) rest = let found = rest later in (found.0, Contains-there found.0 x xs found.1, found.2)

-- the keys of paired lists of one length
keys-zip : (ps cs : List (List ℤ)) → length cs ≡ length ps → map (λ (e : Entry). e.0) (zip ps cs) ≡ ps
keys-zip [] cs long = refl
keys-zip (p ∷ ps) [] long = absurd (omega (arith, long))
keys-zip (p ∷ ps) (c ∷ cs) long = ap (λ rest. p ∷ rest) (keys-zip ps cs (omega (arith, long)))

-- two elements at one place are paired
zip_has : (ps cs : List (List ℤ)) (k : ℕ) (p c : List ℤ) → slice_get ps k ≡ Some p → slice_get cs k ≡ Some c → Contains (zip ps cs) (p, c)
zip_has [] cs k p c at_p at_c = absurd (cc)
zip_has (q ∷ ps) [] k p c at_p at_c = absurd (cc)
zip_has (q ∷ ps) (d ∷ cs) zero p c at_p at_c =
    let same_p : q ≡ p = cc in let same_c : d ≡ c = cc in
    subst (λ e. Contains ((q, d) ∷ zip ps cs) e) (ap (λ x. (x, d)) same_p ∙ ap (λ x. (p, x)) same_c) (Contains-here (q, d) (zip ps cs))
zip_has (q ∷ ps) (d ∷ cs) (suc k) p c at_p at_c = Contains-there (p, c) (q, d) (zip ps cs) (zip_has ps cs k p c at_p at_c)

-- a place below the length is taken
taken : (xs : List (List ℤ)) (k : ℕ) → k < length xs → (x : List ℤ) × (slice_get xs k ≡ Some x)
taken [] k within = absurd (omega (arith, within))
taken (x ∷ xs) zero within = (x, refl)
taken (x ∷ xs) (suc k) within = taken xs k (omega (arith, within))

-- an element that a list contains stands at a place
placed : (xs : List (List ℤ)) (x : List ℤ) → Contains xs x → (k : ℕ) × (k < length xs) × (slice_get xs k ≡ Some x)
placed [] x has = absurd (omega (arith, has.1))
placed (y ∷ ys) x has = at (first_or_later x y ys has) (λ later. placed ys x later)
  where
    at : (y ≡ x) ⊎ Contains ys x → (Contains ys x → (k : ℕ) × (k < length ys) × (slice_get ys k ≡ Some x)) → (k : ℕ) × (k < length (y ∷ ys)) × (slice_get (y ∷ ys) k ≡ Some x)
    at (inl same) rest = (0, omega arith, ap Some same)
    at (inr later) rest = let found = rest later in (suc found.0, omega (arith, found.1), found.2)

-- ---- what is held of a tile

both_parts : (a b : Bool) → (a && b) ≡ true → (a ≡ true) × (b ≡ true)
both_parts true b is = (refl, is)
both_parts false b is = absurd (cc)

-- a held tile is there where points are
held_there : (points : List Entry) (n : ℕ) (tile : Option TileValue) → option_map holding_kept (option_map tile_kept tile) ≡ holding_of (tile_seen n points)
    → (e : Entry) → Contains points e → IsSome tile
held_there [] n tile is e has = absurd (omega (arith, has.1))
held_there (e ∷ points) n None is x has = absurd (cc)
held_there (e ∷ points) n (Some tile) is x has = refl

-- and has just these points
held_points : (points : List Entry) (n : ℕ) (tile : TileValue) → option_map holding_kept (Some (tile_kept tile)) ≡ holding_of (tile_seen n points)
    → (zip (points_of tile.region) tile.cells ≡ points) × ((e : Entry) × Contains points e)
held_points [] n tile is = absurd (cc)
held_points (e ∷ points) n tile is = (cc, (e, Contains-here e points))

-- ---- one array

module _ (extents : List ℕ) (array : Array) (place : List ℤ) (n : ℕ) (region : IsRegion array.domain) (long : length array.domain ≡ length extents)
    (each_point : map (λ entry. entry.0) array.stored ≡ points_of array.domain) where
  -- the points of the array in the tile's box
  abbrev there : List Entry
  there = filter (λ entry. lies_at extents place entry.0) array.stored

  -- a point that is there is one of the domain, and of the box
  point_there : (e : Entry) → Contains there e → (length place ≡ length extents) × IsIn e.0 (grid_box extents place) × IsIn e.0 array.domain
  point_there e has =
      let parts = both_parts (length place == length extents) (is_in e.0 (grid_box extents place)) (passes (λ entry. lies_at extents place entry.0) array.stored e has) in (
        eqb-true (length place) (length extents) parts.0,
        (IsIn-is_in e.0 (grid_box extents place)).0 parts.1,
        (Contains-IsIn array.domain e.0).0
            (subst (λ ps. Contains ps e.0) each_point (Contains-map (λ (entry : Entry). entry.0) array.stored e (from_filter (λ entry. lies_at extents place entry.0) array.stored e has))),
      )

  -- and such a point is there
  there_point : (p : List ℤ) → length place ≡ length extents → IsIn p (grid_box extents place) → IsIn p array.domain → (e : Entry) × Contains there e × (e.0 ≡ p)
  there_point p placed_long in_box in_domain =
      let found = entry_of array.stored p (subst (λ ps. Contains ps p) (sym each_point) ((Contains-IsIn array.domain p).1 in_domain)) in
      let in_box_too : is_in found.0.0 (grid_box extents place) ≡ true = (IsIn-is_in found.0.0 (grid_box extents place)).1 (subst (λ q. IsIn q (grid_box extents place)) (sym found.2) in_box) in
      let lies : lies_at extents place found.0.0 ≡ true =
      ap (λ b. b && is_in found.0.0 (grid_box extents place)) (eq-eqb (length place) (length extents) placed_long) ∙ in_box_too in
      (found.0, Contains-filter (λ entry. lies_at extents place entry.0) array.stored found.0 found.1 lies, found.2)

  -- there is a tile just where the array has points
  pub tile-meets : (tile : Option TileValue) → option_map holding_kept (option_map tile_kept tile) ≡ holding_of (tile_seen n there)
      → Meets extents place array.domain ↔ IsSome tile
  tile-meets tile held = (
    λ meets. let found = there_point meets.point meets.long meets.in_tile meets.in_box in held_there there n tile held found.0 found.1,
    λ some. some_meets tile held some,
  )
    where
      some_meets : (t : Option TileValue) → option_map holding_kept (option_map tile_kept t) ≡ holding_of (tile_seen n there) → IsSome t → Meets extents place array.domain
      some_meets None is some = absurd (cc)
      some_meets (Some tile) is some =
          let e = (held_points there n tile is).1 in
          let parts = point_there e.0 e.1 in
          record { long = parts.0; point = e.0.0; in_tile = parts.1; in_box = parts.2 }

  -- its box is the part of the domain at its place
  pub tile-box : (tile : TileValue) → IsTile tile → option_map holding_kept (Some (tile_kept tile)) ≡ holding_of (tile_seen n there)
      → tile.region ≡ tile_in extents array.domain place
  tile-box tile whole held =
      let parts = held_points there n tile held in
      let keys : map (λ (e : Entry). e.0) there ≡ points_of tile.region =
      ap (map (λ (e : Entry). e.0)) (sym parts.0) ∙ keys-zip (points_of tile.region) tile.cells whole.each_point in
      let meets : Meets extents place array.domain = (tile-meets (Some tile) held).1 refl in
      let part : IsRegion (tile_in extents array.domain place) = IsRegion-tile_in extents array.domain place region long meets in
      let both = IsMeeting-meet_of (grid_box extents place) array.domain (length-grid_box extents place meets.long ∙ sym long) in
      Covers-antisym tile.region (tile_in extents array.domain place) whole.box.ordered part.ordered
      (λ p in_part.
      let within = (both p).0 in_part in
      let e = there_point p meets.long within.0 within.1 in
      (Contains-IsIn tile.region p).0 (subst (λ ps. Contains ps p) keys (subst (Contains (map (λ (x : Entry). x.0) there)) e.2 (Contains-map (λ (x : Entry). x.0) there e.0 e.1))))
      (λ p in_tile.
      let e = entry_of there p (subst (λ ps. Contains ps p) (sym keys) ((Contains-IsIn tile.region p).1 in_tile)) in
      let point = point_there e.0 e.1 in
      (both p).1 (subst (λ q. IsIn q (grid_box extents place)) e.2 point.1, subst (λ q. IsIn q array.domain) e.2 point.2))

  -- and its cells are the array's
  pub tile-cells : (tile : TileValue) → IsTile tile → option_map holding_kept (Some (tile_kept tile)) ≡ holding_of (tile_seen n there)
      → (p : List ℤ) → IsIn p tile.region → tile_cell_at tile p ≡ stored_at array p
  tile-cells tile whole held p in_tile =
      let parts = held_points there n tile held in
      let at = placed (points_of tile.region) p ((Contains-IsIn tile.region p).1 in_tile) in
      let cell = taken tile.cells at.0 (omega (arith, at.1, whole.each_point)) in
      let has : Contains array.stored (p, cell.0) =
      from_filter (λ entry. lies_at extents place entry.0) array.stored (p, cell.0)
      (subst (λ es. Contains es (p, cell.0)) parts.0 (zip_has (points_of tile.region) tile.cells at.0 p cell.0 at.2 cell.1)) in
      let sorted : IsStrictlySortedBy (slice_cmp int_cmp) (keys_of array.stored) = subst (IsStrictlySortedBy (slice_cmp int_cmp)) (sym each_point) (points_of-ascends array.domain) in
      ap (slice_get tile.cells) (place_in_rows-at tile.region at.0 p at.2) ∙ cell.1
      ∙ sym (lookup-from_Contains (eq_by_cmp_equiv row_major_total) p cell.0 array.stored (IsDistinct-from_sorted (slice_cmp int_cmp) (keys_of array.stored) sorted) has)
