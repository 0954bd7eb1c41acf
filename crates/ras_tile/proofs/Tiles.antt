-- Tiles of planes.
use Rattle.std.proofs.Common.{◌≡◌, ◌≢◌, ◌↔◌, IsTrue, ℕ, zero, suc, ◌≤◌, ◌<◌, ℤ, Bool, true, false, List, []}
use Rattle.std.proofs.Common.{◌∷◌, inl, inr, length, get_or, set, replicate, Some, All, refl, sym, ap, ◌∙◌, subst, arith}
use Rattle.std.specs.List.{slice_get}
use Rattle.std.proofs.lemmas.List.{ext_get_or, get_or_default, length-replicate}
use Rattle.std.proofs.lemmas.Option.{slice_get-get_or, slice_get_within, same_Some}
use Rattle.ras_cells.specs.declared.TheConstants.{MAX_COMPONENTS}
use Rattle.ras_cells.specs.declared.atom.Atom.{Atom}
use Rattle.ras_cells.specs.declared.atom.Atom.TheVariants.{Wide}
use Rattle.ras_domain.specs.declared.region.Interval.{Interval}
use Rattle.ras_domain.specs.declared.TheConstants.{MAX_TILE_CELLS}
use Rattle.ras_domain.specs.Region.{points_of, IsIn, IsRegion, place_in_rows}
use Rattle.ras_domain.proofs.Places.{slice_get-points_of_first}
use Rattle.ras_domain.proofs.Points.{Contains-IsIn}
use Rattle.ras_domain.proofs.RowOrder.{place_in_rows-at}
use Rattle.ras_tile.proofs.RowPlaces.{place-within, place-one}
use Rattle.ras_tile.proofs.Cells.{length-cells_in, slice_get-cells_in, All-cells_in, cells_in-set, cells_in-equal}
use Rattle.ras_tile.proofs.Cells.{cells_in-same, length-cell_of_planes, AreEqual-first, AreEqual-from_first, cell_of_planes-uniform, get_or-cells_in}
use Rattle.ras_cells.specs.Atoms.{AreInRange}
use Rattle.ras_cells.proofs.Ranges.{length-AreInRange}
use Rattle.ras_cells.specs.declared.run.Run.{Run}
use Rattle.ras_cells.specs.declared.run.Run.TheVariants.{Uniform, U8, I8, U16, I16, U32, I32, Plain}
use Rattle.ras_tile.specs.Cells.{AreEqual}
use Rattle.ras_tile.specs.Lent.{IsUniform, IsPackedAs}
use Rattle.ras_tile.specs.declared.plane.Plane.{Plane}
use Rattle.ras_tile.specs.Planes.{cell_of_planes, cells_in, HasNumbers, IsUniformPlane, IsPlainPlane, IsPackedPlane, ArePlanes}
use Rattle.ras_tile.specs.Stored.{IsStored, AreKept}
use Rattle.ras_tile.specs.Tile.{TileValue, IsTile, tile_cell_at, filled_tile, packed_tile}

-- the tile with the cells of these planes
abbrev pub tile_of : List Interval → List Atom → List Plane → Bool → TileValue
tile_of box atoms planes writable = record {
  region = box;
  width = length atoms;
  atoms = atoms;
  cells = cells_in planes (length (points_of box));
  writable = writable;
}

pub IsTile-stored : (box : List Interval) (atoms : List Atom) (planes : List Plane) (writable : Bool) → IsStored box atoms writable planes → IsTile (tile_of box atoms planes writable)
IsTile-stored box atoms planes writable stored = record {
  box = stored.region;
  few_cells = stored.few_cells;
  few_numbers = stored.few_numbers;
  each_atom = refl;
  each_point = length-cells_in planes (length (points_of box));
  each_width = All-cells_in planes (length (points_of box)) (length atoms) stored.each_atom;
}

-- the cell at a point of the box
pub cell_at-stored : (box : List Interval) (planes : List Plane) (p : List ℤ) → IsIn p box
    → slice_get (cells_in planes (length (points_of box))) (place_in_rows box p) ≡ Some (cell_of_planes planes (place_in_rows box p))
cell_at-stored box planes p inside =
    slice_get-cells_in planes (length (points_of box)) (place_in_rows box p) (place-within box p inside)

-- ---- tiles that are made

pub IsStored-plain_planes : (box : List Interval) (atoms : List Atom) (planes : List Plane) (n : ℕ) (cell : ℕ → List ℤ)
    → IsRegion box → length (points_of box) ≤ MAX_TILE_CELLS → length atoms ≤ MAX_COMPONENTS → length planes ≡ length atoms → n ≡ length (points_of box)
    → ArePlanes n (λ _ plane. IsPlainPlane plane) cell planes → IsStored box atoms true planes
IsStored-plain_planes box atoms planes n cell region few narrow long all made = record {
  region = region;
  few_cells = few;
  few_numbers = narrow;
  each_atom = long;
  whole = subst (λ (m : ℕ). All (HasNumbers m) planes) all made.whole;
  kept = made.kinds;
}

pub IsStored-packed_planes : (box : List Interval) (atoms : List Atom) (planes : List Plane) (n : ℕ)
    → IsRegion box → length (points_of box) ≤ MAX_TILE_CELLS → length atoms ≤ MAX_COMPONENTS → length planes ≡ length atoms → n ≡ length (points_of box)
    → All (HasNumbers n) planes → AreKept false n atoms planes → IsStored box atoms false planes
IsStored-packed_planes box atoms planes n region few narrow long all whole kept = record {
  region = region;
  few_cells = few;
  few_numbers = narrow;
  each_atom = long;
  whole = subst (λ (m : ℕ). All (HasNumbers m) planes) all whole;
  kept = subst (λ (m : ℕ). AreKept false m atoms planes) all kept;
}

-- planes in the widths of their atoms, of cells that aren't all equal
pub AreKept-narrowed : (n : ℕ) (atoms : List Atom) (source copies : List Plane) → 0 < n → length source ≡ length atoms
    → (((k : ℕ) → k < n → cell_of_planes source k ≡ cell_of_planes source 0) → ⊥)
    → ArePlanes n (λ i plane. IsPackedPlane (get_or atoms i Wide) plane) (cell_of_planes source) copies → AreKept false n atoms copies
AreKept-narrowed n atoms source copies some long differ made =
    inr (
      (λ i atom plane within.
          let same : length copies ≡ length source =
          sym (length-cell_of_planes copies 0) ∙ ap length (made.cells 0 some) ∙ length-cell_of_planes source 0 in
          subst (λ (a : Atom). IsPackedPlane a (get_or copies i plane)) (get_or_default atoms i Wide atom (omega (arith, same, long))) (made.kinds i plane within)),
      λ equal.
          differ (λ k below. sym (made.cells k below) ∙ AreEqual-first copies n some equal k below ∙ made.cells 0 some),
    )

-- a tile with the same numbers at each point
pub tile_of-filled : (box : List Interval) (numbers : List ℤ) (atoms : List Atom) (planes : List Plane) → atoms ≡ replicate (length numbers) Wide
    → ((k : ℕ) → k < length (points_of box) → cell_of_planes planes k ≡ numbers) → tile_of box atoms planes true ≡ filled_tile box numbers
tile_of-filled box numbers atoms planes is same =
    rw (is, length-replicate (length numbers) Wide, cells_in-equal planes (length (points_of box)) numbers same) refl

-- a copy
pub tile_of-copied : (box : List Interval) (atoms : List Atom) (old new : List Plane) (was now : Bool)
    → ((k : ℕ) → k < length (points_of box) → cell_of_planes new k ≡ cell_of_planes old k) → tile_of box atoms new now ≡ record (tile_of box atoms old was) { writable = now }
tile_of-copied box atoms old new was now same =
    rw (cells_in-same new old (length (points_of box)) same) refl

-- a packed one
pub tile_of-packed : (box : List Interval) (had atoms : List Atom) (old new : List Plane) (was : Bool) → length atoms ≡ length had
    → ((k : ℕ) → k < length (points_of box) → cell_of_planes new k ≡ cell_of_planes old k) → tile_of box atoms new false ≡ packed_tile atoms (tile_of box had old was)
tile_of-packed box had atoms old new was long same =
    rw (cells_in-same new old (length (points_of box)) same, long) refl

-- ---- tiles that are written

-- the planes of a writable tile, after they were written
pub IsStored-written : {box : List Interval} {atoms : List Atom} {old : List Plane} (new : List Plane) (writable : Bool) → writable ≡ true
    → IsStored box atoms writable old → length new ≡ length old → All IsPlainPlane new → All (HasNumbers (length (points_of box))) new → IsStored box atoms writable new
IsStored-written new true is stored same plain whole = record {
  region = stored.region;
  few_cells = stored.few_cells;
  few_numbers = stored.few_numbers;
  each_atom = same ∙ stored.each_atom;
  whole = whole;
  kept = plain;
}
IsStored-written new false is stored same plain whole = absurd cc

-- a writable tile has plain planes
pub IsStored-plain : {box : List Interval} {atoms : List Atom} {planes : List Plane} (writable : Bool) → writable ≡ true → IsStored box atoms writable planes → All IsPlainPlane planes
IsStored-plain true is stored = stored.kept
IsStored-plain false is stored = absurd cc

-- after a write of one element, that one
slice_get-set_same : {X : Type 0} (xs : List X) (k : ℕ) (y : X) → k < length xs → slice_get (set xs k y) k ≡ Some y
slice_get-set_same [] k y h = absurd (omega arith)
slice_get-set_same (x ∷ xs) zero y h = refl
slice_get-set_same (x ∷ xs) (suc k) y h = slice_get-set_same xs k y (omega arith)

-- and the others
slice_get-set_other : {X : Type 0} (xs : List X) (k j : ℕ) (y : X) → (j ≡ k → ⊥) → slice_get (set xs k y) j ≡ slice_get xs j
slice_get-set_other [] k j y apart = refl
slice_get-set_other (x ∷ xs) zero zero y apart = absurd (apart refl)
slice_get-set_other (x ∷ xs) zero (suc j) y apart = refl
slice_get-set_other (x ∷ xs) (suc k) zero y apart = refl
slice_get-set_other (x ∷ xs) (suc k) (suc j) y apart = slice_get-set_other xs k j y (λ same. apart (omega arith))

-- the cell that was written, at its point
pub cell_at-set : (tile : TileValue) (p numbers : List ℤ) → IsTile tile → IsIn p tile.region
    → tile_cell_at (record tile { cells = set tile.cells (place_in_rows tile.region p) numbers }) p ≡ Some numbers
cell_at-set tile p numbers tiled inside =
    slice_get-set_same tile.cells (place_in_rows tile.region p) numbers (omega (arith, tiled.each_point, place-within tile.region p inside))

-- and those at the other points
pub cell_at-set_other : (tile : TileValue) (p q numbers : List ℤ) → IsIn p tile.region → IsIn q tile.region → (q ≡ p → ⊥)
    → tile_cell_at (record tile { cells = set tile.cells (place_in_rows tile.region p) numbers }) q ≡ tile_cell_at tile q
cell_at-set_other tile p q numbers inside here differ =
    slice_get-set_other tile.cells (place_in_rows tile.region p) (place_in_rows tile.region q) numbers (λ same. differ (place-one tile.region q p here inside same))

-- one cell written, over the whole tile
pub tile_of-set : (box : List Interval) (atoms : List Atom) (old new : List Plane) (p numbers : List ℤ) (writable : Bool) → IsIn p box
    → cell_of_planes new (place_in_rows box p) ≡ numbers → ((k : ℕ) → k ≢ place_in_rows box p → cell_of_planes new k ≡ cell_of_planes old k)
    → tile_of box atoms new writable ≡ record (tile_of box atoms old writable) { cells = set (cells_in old (length (points_of box))) (place_in_rows box p) numbers }
tile_of-set box atoms old new p numbers writable inside written others =
    let same : cells_in new (length (points_of box)) ≡ set (cells_in old (length (points_of box))) (place_in_rows box p) numbers =
    cells_in-set old new (length (points_of box)) (place_in_rows box p) numbers (place-within box p inside) written others in
    rw same refl

-- a region has a point
pub some_points : (box : List Interval) → IsRegion box → 0 < length (points_of box)
some_points box region = slice_get_within (points_of box) 0 _ (slice_get-points_of_first box region.ordered)

-- tiles on one box with the same cell at each point have the same cells
pub cells-same : (a b : TileValue) → IsTile a → IsTile b → a.region ≡ b.region → ((p : List ℤ) → IsIn p a.region → tile_cell_at a p ≡ tile_cell_at b p) → a.cells ≡ b.cells
cells-same a b left right same each =
    let long : length a.cells ≡ length b.cells = omega (arith, left.each_point, right.each_point, ap (λ box. length (points_of box)) same) in
    ext_get_or [] a.cells b.cells long
    (λ k within.
    let below : k < length (points_of a.region) = omega (arith, left.each_point) in
    let p : List ℤ = get_or (points_of a.region) k [] in
    let at : slice_get (points_of a.region) k ≡ Some p = slice_get-get_or (points_of a.region) k [] below in
    let inside : IsIn p a.region = (Contains-IsIn a.region p).0 (k, below, get_or_default (points_of a.region) k p [] below) in
    let place : place_in_rows a.region p ≡ k = place_in_rows-at a.region k p at in
    let there : place_in_rows b.region p ≡ k = ap (λ box. place_in_rows box p) (sym same) ∙ place in
    let equal : slice_get a.cells k ≡ slice_get b.cells k = ap (slice_get a.cells) (sym place) ∙ each p inside ∙ ap (slice_get b.cells) there in
    same_Some (get_or a.cells k []) (get_or b.cells k [])
    (sym (slice_get-get_or a.cells k [] within) ∙ equal ∙ slice_get-get_or b.cells k [] (omega (arith, within, long))))

-- ---- planes that are lent

-- a run in the width of an atom isn't uniform
never_both : (atom : Atom) (run : Run) → IsPackedAs atom run → IsUniform run → ⊥
never_both atom (Uniform number) packed uniform = packed
never_both atom (U8 bytes) packed uniform = uniform
never_both atom (I8 bytes) packed uniform = uniform
never_both atom (U16 shorts) packed uniform = uniform
never_both atom (I16 shorts) packed uniform = uniform
never_both atom (U32 longs) packed uniform = uniform
never_both atom (I32 longs) packed uniform = uniform
never_both atom (Plain numbers) packed uniform = uniform

pub uniform_where_equal : (box : List Interval) (atoms : List Atom) (planes : List Plane) (writable : Bool) (plane : Plane) (i : ℕ) (run : Run)
    → IsStored box atoms writable planes → (IsTrue writable → ⊥) → i < length planes → plane ≡ get_or planes i plane
    → (IsUniformPlane plane → IsUniform run) → ((atom : Atom) → IsPackedPlane atom plane → IsPackedAs atom run)
    → IsUniform run ↔ AreEqual (cells_in planes (length (points_of box)))
uniform_where_equal box atoms planes true plane i run stored shut within is uniform packed = absurd (shut refl)
uniform_where_equal box atoms planes false plane i run stored shut within is uniform packed =
    elim stored.kept [
      | inl all ↦ (
        λ _. AreEqual-from_first planes (length (points_of box)) (λ k below. cell_of_planes-uniform planes k all),
        λ _. uniform (subst IsUniformPlane (sym is) (all i plane within)),
      )
      | inr each ↦ (
        λ one. absurd (never_both (get_or atoms i Wide) run (packed (get_or atoms i Wide) (subst (IsPackedPlane (get_or atoms i Wide)) (sym is) (each.0 i Wide plane within))) one),
        λ equal. absurd (each.1 equal),
      )
    ]

pub packed_where_not : (box : List Interval) (atoms : List Atom) (planes : List Plane) (writable : Bool) (plane : Plane) (i : ℕ) (run : Run)
    → IsStored box atoms writable planes → (IsTrue writable → ⊥) → (AreEqual (cells_in planes (length (points_of box))) → ⊥) → i < length planes → plane ≡ get_or planes i plane
    → ((atom : Atom) → IsPackedPlane atom plane → IsPackedAs atom run) → IsPackedAs (get_or atoms i Wide) run
packed_where_not box atoms planes true plane i run stored shut differ within is packed = absurd (shut refl)
packed_where_not box atoms planes false plane i run stored shut differ within is packed =
    elim stored.kept [
      | inl all ↦ absurd (differ (AreEqual-from_first planes (length (points_of box)) (λ k below. cell_of_planes-uniform planes k all)))
      | inr each ↦ packed (get_or atoms i Wide) (subst (IsPackedPlane (get_or atoms i Wide)) (sym is) (each.0 i Wide plane within))
    ]

pub plain_where_writable : (box : List Interval) (atoms : List Atom) (planes : List Plane) (writable : Bool) (plane : Plane) (i : ℕ)
    → IsStored box atoms writable planes → IsTrue writable → i < length planes → plane ≡ get_or planes i plane → IsPlainPlane plane
plain_where_writable box atoms planes true plane i stored open_now within is = subst IsPlainPlane (sym is) (stored.kept i plane within)
plain_where_writable box atoms planes false plane i stored open_now within is = absurd cc

-- ---- cells in range

pub in_range_at : (atoms : List Atom) (planes : List Plane) (n k : ℕ) → All (AreInRange atoms) (cells_in planes n) → k < n → AreInRange atoms (cell_of_planes planes k)
in_range_at atoms planes n k range below =
    subst (AreInRange atoms) (get_or-cells_in planes n k below) (range k [] (omega (arith, length-cells_in planes n)))

-- there are as many atoms as planes
pub length-in_range : (atoms : List Atom) (planes : List Plane) (n : ℕ) → All (AreInRange atoms) (cells_in planes n) → 0 < n → length planes ≡ length atoms
length-in_range atoms planes n range some =
    sym (length-cell_of_planes planes 0) ∙ length-AreInRange atoms (cell_of_planes planes 0) (in_range_at atoms planes n 0 range some)
