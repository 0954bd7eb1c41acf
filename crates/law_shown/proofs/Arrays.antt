-- Arrays as holdings show them: they are of their set type, and a tile that is held with its array's domain stores what is held.
use Rattle.std.proofs.Common.{◌≡◌, ◌⊎◌, inl, inr, ℕ, ◌*◌, ◌≤◌, ℤ, pos, ◌+ℤ◌, Bool, true, List, [], ◌∷◌, map, filter, length, replicate, Contains, Option, Some, None, refl, sym, ap, ◌∙◌, subst, arith}
use Rattle.std.specs.Prelude.{IfSome}
use Rattle.std.specs.Cmp.{eq_by_cmp_equiv}
use Rattle.std.specs.Cmp.Lexicographic.{slice_cmp}
use Rattle.std.specs.List.{AllByRecursion}
use Rattle.std.specs.List.Sorted.{IsStrictlySortedBy}
use Rattle.std.specs.Map.{keys_of, lookup}
use Rattle.std.specs.Ordering.{int_cmp, is_eq}
use Rattle.std.proofs.lemmas.Bool.{and_parts, eqb-true}
use Rattle.std.proofs.lemmas.Cmp.{int_cmp_total, lists_total}
use Rattle.std.proofs.lemmas.Int.{ints}
use Rattle.std.proofs.lemmas.List.Elements.{All-from_recursion, recursion_from_All}
use Rattle.std.proofs.lemmas.Map.Keys.{IsDistinct-from_sorted}
use Rattle.std.proofs.lemmas.Map.Views.{lookup-from_Contains}
use Rattle.arrayvec.specs.ArrayVec.{ArrayVec}
use Rattle.ras_cells.specs.declared.atom.Atom.{Atom}
use Rattle.ras_cells.specs.declared.atom.Atom.TheVariants as atoms
use Rattle.ras_cells.specs.declared.cell.CellType.{CellType}
use Rattle.ras_cells.specs.declared.cell.CellType.TheVariants as types
use Rattle.ras_cells.specs.Atoms.{AreInRange, IsInRange}
use Rattle.ras_cells.specs.Stored.{atoms_of}
use Rattle.ras_domain.specs.Boxes.{LiesIn, lies_in}
use Rattle.ras_domain.specs.Region.{HasSmallBounds, IsOrdered, IsRegion, extent_of, is_in, points_of, volume_of}
use Rattle.ras_domain.specs.declared.lock.LockName.TheVariants.{Domain, Tile}
use Rattle.ras_domain.specs.declared.region.Interval.{Interval}
use Rattle.ras_domain.proofs.BoxTests.{IsIn-is_in, LiesIn-lies_in, length-LiesIn, volume_of-points}
use Rattle.ras_domain.proofs.Points.{Contains-IsIn, int_gap_is, length-from_IsIn}
use Rattle.ras_domain.proofs.RowOrder.{points_of-ascends}
use Rattle.ras_grid.specs.Grid.{grid_box, place_along, place_box, tile_place}
use Rattle.ras_grid.proofs.Tiles.{IsIn-grid_box_is}
use Rattle.ras_syntax.specs.declared.limits.TheConstants.{MAX_STORED_NUMBERS, MAX_TILES}
use Rattle.ras_syntax.specs.declared.types.SetType.{SetType}
use Rattle.spec_expressions.specs.Database.{Array, stored_at}
use Rattle.spec_expressions.specs.SetTypes.{HasComponents, IsSetType}
use Rattle.spec_expressions.specs.Shape.{Box}
use Rattle.spec_shown.specs.Shown.{array_shown, domain_shown, least_domain, numbers_at, numbers_or_zeros, numbers_shown, zeros_of}
use Rattle.spec_statements.specs.Agree.{lies_at, tile_seen}
use Rattle.spec_statements.specs.Plans.{tile_count}
use Rattle.spec_statements.specs.Validity.{IsArrayOf}
use Rattle.spec_views.specs.Holdings.{Holding, Holdings, domain_held, holding_of}
use Rattle.law_lists.proofs.Each.{each_any, each_filter, each_itself, each_map, each_weaker}
use Rattle.law_lists.proofs.Elements.{Contains-map}
use Rattle.law_effects.proofs.Shown.{filter-rewritten}
use Rattle.law_effects.proofs.Written.{found_each, keys-paired}
use Rattle.law_locks.proofs.Reading.{stored_kept}

-- ---- domains

-- what the rules of arrays ask of a domain
record IsDomainOf (of : SetType) (domain : Box) : Type 0 where
  region : IsRegion domain
  axes : length domain ≡ length of.bounds.items
  within_bounds : lies_in domain of.bounds.items ≡ true
  few_numbers : volume_of domain * length (atoms_of of.cell) ≤ MAX_STORED_NUMBERS
  few_tiles : tile_count of.extents.items domain ≤ MAX_TILES

domain_of_array : (of : SetType) (array : Array) → IsArrayOf of array → IsDomainOf of array.domain
domain_of_array of array is = record {
  region = is.region;
  axes = is.axes;
  within_bounds = is.within_bounds;
  few_numbers = is.few_numbers;
  few_tiles = is.few_tiles;
}

-- ---- the least domain

abbrev low_of : Interval → Interval
low_of axis = record { lo = axis.lo; hi = axis.lo }

-- one number lies between a bound and itself
extent-one : (z : ℤ) → extent_of (record { lo = z; hi = z }) ≡ 1
extent-one z = omega (arith, ints, int_gap_is z (z +ℤ pos 1))

volume-one : (axes : Box) → volume_of (map low_of axes) ≡ 1
volume-one [] = refl
volume-one (axis ∷ axes) = λ i. extent-one axis.lo i * volume-one axes i

-- one tile meets a point
places-one : (es : List ℕ) (axes : Box) → volume_of (place_box es (map low_of axes)) ≡ 1
places-one [] axes = refl
places-one (e ∷ es) [] = refl
places-one (e ∷ es) (axis ∷ axes) = λ i. extent-one (place_along e axis.lo) i * places-one es axes i

lows-within : (axes : Box) → AllByRecursion IsOrdered axes → LiesIn (map low_of axes) axes
lows-within [] ordered = tt
lows-within (axis ∷ axes) ordered = (omega (arith, ints), ordered.0, lows-within axes ordered.1)

few_atoms : (cell : CellType) (names : List (List ℕ)) → HasComponents cell names → length (atoms_of cell) ≤ MAX_STORED_NUMBERS
few_atoms (types.Atom atom) names has = omega arith
few_atoms (types.Composite atoms) names has = omega (arith, has.1)

least-domain : (of : SetType) → IsSetType of → IsDomainOf of (least_domain of)
least-domain of fits =
    let bounds : Box = of.bounds.items in
    let lies : LiesIn (least_domain of) bounds = lows-within bounds (recursion_from_All IsOrdered bounds fits.ordered_bounds) in
    let same : length (least_domain of) ≡ length bounds = length-LiesIn (least_domain of) bounds lies in
    record {
      region = record {
        some_axes = omega (arith, same, fits.some_axes);
        few_axes = omega (arith, same, fits.few_axes);
        small_bounds = All-from_recursion HasSmallBounds (least_domain of)
            (each_map HasSmallBounds HasSmallBounds low_of (λ axis small. (small.0, small.0)) bounds (recursion_from_All HasSmallBounds bounds fits.small_bounds));
        ordered = All-from_recursion IsOrdered (least_domain of)
            (each_map (λ (axis : Interval). Unit {0}) IsOrdered low_of (λ axis any. omega (arith, ints)) bounds (each_any (λ (axis : Interval). Unit {0}) (λ axis. tt) bounds));
        few_points = omega (arith, volume_of-points (least_domain of), volume-one bounds);
      };
      axes = same;
      within_bounds = (LiesIn-lies_in (least_domain of) bounds).1 lies;
      few_numbers = subst (λ n. n * length (atoms_of of.cell) ≤ MAX_STORED_NUMBERS) (sym (volume-one bounds)) (omega (arith, few_atoms of.cell of.names fits.components));
      few_tiles = omega (arith, places-one of.extents.items bounds);
    }

-- the domain that is shown, where it is held as it is, or not at all
shown-domain : (of : SetType) (array : Array) (held : Option Holding) → IsSetType of → IsArrayOf of array
    → ((held ≡ None) ⊎ (held ≡ Some (domain_held array.domain))) → IsDomainOf of (domain_shown of held)
shown-domain of array held fits is (inl none) = subst (λ h. IsDomainOf of (domain_shown of h)) (sym none) (least-domain of fits)
shown-domain of array held fits is (inr same) = subst (λ h. IsDomainOf of (domain_shown of h)) (sym same) (domain_of_array of array is)

-- ---- numbers

zeros_fit : (list : List Atom) → AreInRange list (replicate (length list) (pos 0))
zeros_fit [] = tt
zeros_fit (atom ∷ list) = (zero_fits atom, zeros_fit list)
  where
    zero_fits : (atom : Atom) → IsInRange atom (pos 0)
    zero_fits atoms.Bool = (omega (arith, ints), omega (arith, ints))
    zero_fits atoms.Octet = (omega (arith, ints), omega (arith, ints))
    zero_fits atoms.Char = (omega (arith, ints), omega (arith, ints))
    zero_fits atoms.Short = (omega (arith, ints), omega (arith, ints))
    zero_fits atoms.Ushort = (omega (arith, ints), omega (arith, ints))
    zero_fits atoms.Long = (omega (arith, ints), omega (arith, ints))
    zero_fits atoms.Ulong = (omega (arith, ints), omega (arith, ints))
    zero_fits atoms.Wide = (omega (arith, ints), omega (arith, ints))

abbrev entry_at : List ℤ → List (List ℤ × List ℤ) → Option (List ℤ)
entry_at p entries = lookup (λ q. is_eq (slice_cmp int_cmp p q)) entries

-- what is held of a tile gives the number of each of its points
numbers-held : (of : SetType) (k : ℕ) (entries : List (List ℤ × List ℤ)) (p : List ℤ) → numbers_shown of (holding_of (tile_seen k entries)) p ≡ numbers_or_zeros of (entry_at p entries)
numbers-held of k [] p = refl
numbers-held of k (entry ∷ entries) p = refl

numbers_keep : (of : SetType) (P : List ℤ → Type 0) (o : Option (List ℤ)) → P (zeros_of of) → IfSome o P → P (numbers_or_zeros of o)
numbers_keep of P None zeros all = zeros
numbers_keep of P (Some numbers) zeros all = all

-- the points of a grid box that an array has
abbrev pub stored_in : SetType → List ℤ → Array → List (List ℤ × List ℤ)
stored_in of place array = filter (λ entry. lies_at of.extents.items place entry.0) array.stored

-- the holding is none, or what the array has in its grid box at a place
abbrev pub IsTileOrNone : SetType → ℕ → List ℤ → Array → Option Holding → Type 0
IsTileOrNone of k place array held = (held ≡ None) ⊎ (held ≡ holding_of (tile_seen k (stored_in of place array)))

numbers-fit : (of : SetType) (k : ℕ) (place p : List ℤ) (array : Array) (held : Option Holding) → IsArrayOf of array → IsTileOrNone of k place array held
    → AreInRange (atoms_of of.cell) (numbers_shown of held p)
numbers-fit of k place p array held is (inl none) = subst (λ h. AreInRange (atoms_of of.cell) (numbers_shown of h p)) (sym none) (zeros_fit (atoms_of of.cell))
numbers-fit of k place p array held is (inr same) =
    let Fits : List ℤ → Type 0 = AreInRange (atoms_of of.cell) in
    let entries : List (List ℤ × List ℤ) = stored_in of place array in
    subst (λ h. Fits (numbers_shown of h p)) (sym same)
    (subst Fits (sym (numbers-held of k entries p))
    (numbers_keep of Fits (entry_at p entries) (zeros_fit (atoms_of of.cell))
    (found_each Fits (λ q. is_eq (slice_cmp int_cmp p q)) entries
    (each_filter (λ (entry : List ℤ × List ℤ). Fits entry.1) (λ entry. lies_at of.extents.items place entry.0) array.stored
    (recursion_from_All (λ (entry : List ℤ × List ℤ). Fits entry.1) array.stored is.in_range)))))

each_paired : {X Y : Type 0} (P : Y → Type 0) (f : X → Y) → ((x : X) → P (f x)) → (xs : List X) → AllByRecursion (λ (entry : X × Y). P entry.1) (map (λ x. (x, f x)) xs)
each_paired P f gives [] = tt
each_paired P f gives (x ∷ xs) = (gives x, each_paired P f gives xs)

-- ---- arrays

-- what holdings have of an array: its domain and tiles as they are, or nothing of them
pub record IsPartOfArray (of : SetType) (holdings : Holdings) (name : List ℕ) (id k : ℕ) (array : Array) : Type 0 where
  pub domain : (holdings (Domain name id) ≡ None) ⊎ (holdings (Domain name id) ≡ Some (domain_held array.domain))
  pub tiles : (place : ArrayVec ℤ) → IsTileOrNone of k place.items array (holdings (Tile name id place))

-- the array that they show is one of the set type
pub shown-valid : (of : SetType) (holdings : Holdings) (name : List ℕ) (id k : ℕ) (array : Array) → IsSetType of → IsArrayOf of array
    → IsPartOfArray of holdings name id k array → IsArrayOf of (array_shown of holdings name id)
shown-valid of holdings name id k array fits is part =
    let Fits : List ℤ → Type 0 = AreInRange (atoms_of of.cell) in
    let domain : Box = domain_shown of (holdings (Domain name id)) in
    let given : IsDomainOf of domain = shown-domain of array (holdings (Domain name id)) fits is part.domain in
    record {
      region = given.region;
      axes = given.axes;
      within_bounds = given.within_bounds;
      few_numbers = given.few_numbers;
      few_tiles = given.few_tiles;
      each_point = keys-paired (numbers_at of holdings name id) (points_of domain);
      in_range = All-from_recursion (λ entry. Fits entry.1) _ (each_paired Fits (numbers_at of holdings name id)
          (λ p. numbers-fit of k (tile_place of.extents.items p) p array _ is (part.tiles (record { items = tile_place of.extents.items p }))) (points_of domain));
    }

-- ---- a tile that is held

-- what is stored at a point of an array is found there
found_point : (of : SetType) (array : Array) (entry : List ℤ × List ℤ) → IsArrayOf of array → Contains array.stored entry → stored_at array entry.0 ≡ Some entry.1
found_point of array entry is has =
    lookup-from_Contains (eq_by_cmp_equiv (lists_total int_cmp_total)) entry.0 entry.1 array.stored
    (IsDistinct-from_sorted (slice_cmp int_cmp) (keys_of array.stored)
    (subst (IsStrictlySortedBy (slice_cmp int_cmp)) (sym is.each_point) (points_of-ascends array.domain))) has

-- a point of the array that lies at a place has this place
point_place : (of : SetType) (array : Array) (place : List ℤ) (entry : List ℤ × List ℤ) → IsSetType of → IsArrayOf of array → Contains array.stored entry
    → lies_at of.extents.items place entry.0 ≡ true → tile_place of.extents.items entry.0 ≡ place
point_place of array place entry fits is has lies =
    let es : List ℕ = of.extents.items in
    let p : List ℤ = entry.0 in
    let both = and_parts _ (is_in p (grid_box es place)) lies in
    let point : Contains (points_of array.domain) p =
    subst (λ ps. Contains ps p) is.each_point (Contains-map (λ (e : List ℤ × List ℤ). e.0) array.stored entry has) in
    let long : length p ≡ length es = length-from_IsIn p array.domain ((Contains-IsIn array.domain p).0 point) ∙ is.axes ∙ sym fits.each_extent in
    (IsIn-grid_box_is es place p fits.some_extent (eqb-true (length place) (length es) both.0) long).0 ((IsIn-is_in p (grid_box es place)).0 both.1)

pub tile-shown : (of : SetType) (holdings : Holdings) (name : List ℕ) (id k : ℕ) (place : ArrayVec ℤ) (array : Array) → IsSetType of → IsArrayOf of array
    → holdings (Domain name id) ≡ Some (domain_held array.domain) → holdings (Tile name id place) ≡ holding_of (tile_seen k (stored_in of place.items array))
    → stored_in of place.items (array_shown of holdings name id) ≡ stored_in of place.items array
tile-shown of holdings name id k place array fits is domain held =
    let f : List ℤ → List ℤ = numbers_at of holdings name id in
    let test : List ℤ → Bool = lies_at of.extents.items place.items in
    ap (λ d. filter (λ (entry : List ℤ × List ℤ). test entry.0) (map (λ p. (p, f p)) (points_of (domain_shown of d)))) domain
    ∙ ap (λ ps. filter (λ (entry : List ℤ × List ℤ). test entry.0) (map (λ p. (p, f p)) ps)) (sym is.each_point)
    ∙ filter-rewritten test f array.stored
    (each_weaker (Contains array.stored) (λ entry. test entry.0 ≡ true → f entry.0 ≡ entry.1) same_number array.stored (each_itself array.stored))
  where
    same_number : (entry : List ℤ × List ℤ) → Contains array.stored entry → lies_at of.extents.items place.items entry.0 ≡ true → numbers_at of holdings name id entry.0 ≡ entry.1
    same_number entry has lies =
        let test : List ℤ → Bool = lies_at of.extents.items place.items in
        let there : tile_place of.extents.items entry.0 ≡ place.items = point_place of array place.items entry fits is has lies in
        ap (λ (q : List ℤ). numbers_shown of (holdings (Tile name id (record { items = q }))) entry.0) there
        ∙ ap (λ h. numbers_shown of h entry.0) held
        ∙ numbers-held of k (stored_in of place.items array) entry.0
        ∙ ap (numbers_or_zeros of) (stored_kept array entry.0 test lies ∙ found_point of array entry is has)
