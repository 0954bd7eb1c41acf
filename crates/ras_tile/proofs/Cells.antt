-- The cells of planes.
use Rattle.std.proofs.Common.{◌≡◌, ◌≢◌, ◌↔◌, Bool, IsTrue, ℕ, zero, suc, ◌+◌, ◌≤◌, ◌<◌, ℤ, pos, List, [], ◌∷◌, ◌++◌}
use Rattle.std.proofs.Common.{inl, inr, length, get_or, set, take, map, replicate, Some, All, refl, sym, ap, ◌∙◌, subst, below_more, arith}
use Rattle.std.specs.List.{slice_get}
use Rattle.std.proofs.lemmas.List.{ext_get_or, length-set, get_or-set_same, get_or-set_other, length-map, length-replicate, get_or-replicate, get_or-map, map_push}
use Rattle.std.proofs.lemmas.List.{take_more, take_all, get_or_append_left, get_or_push, length_push, map-set, map-id, take_more_set, set-get_or}
use Rattle.std.proofs.lemmas.List.Elements.{All-push, All-from_get_or, All-head, All-tail}
use Rattle.std.proofs.lemmas.List.FromFn.{length-map-range_with_len, get_or-map-range_with_len}
use Rattle.std.proofs.lemmas.Bool.{cases_eq, cases_lt}
use Rattle.std.proofs.lemmas.Option.{get_or_from_slice_get, slice_get-get_or, slice_get_within}
use Rattle.ras_cells.specs.Atoms.{IsInRange, AreInRange}
use Rattle.ras_cells.specs.declared.atom.Atom.{Atom}
use Rattle.ras_tile.specs.declared.plane.Plane.{Plane}
use Rattle.ras_tile.specs.declared.plane.Plane.TheVariants.{Uniform, U8, I8, U16, I16, U32, I32, Plain}
use Rattle.ras_tile.specs.Planes.{listed_number, plane_number, cell_of_planes, cells_in, HasNumbers, Reaches, IsUniformPlane, ArePlanes}
use Rattle.ras_tile.specs.Cells.{AreEqual, numbers_of}

-- ---- the list of cells

pub length-cells_in : (planes : List Plane) (n : ℕ) → length (cells_in planes n) ≡ n
unfolding cells_in
length-cells_in planes n = length-map-range_with_len (cell_of_planes planes) 0 n

pub get_or-cells_in : (planes : List Plane) (n k : ℕ) → k < n → get_or (cells_in planes n) k [] ≡ cell_of_planes planes k
unfolding cells_in
get_or-cells_in planes n k within = get_or-map-range_with_len (cell_of_planes planes) 0 n k k [] within (omega arith)

pub slice_get-cells_in : (planes : List Plane) (n k : ℕ) → k < n → slice_get (cells_in planes n) k ≡ Some (cell_of_planes planes k)
slice_get-cells_in planes n k within =
    slice_get-get_or (cells_in planes n) k [] (omega (arith, length-cells_in planes n))
    ∙ ap (λ cell. Some cell) (get_or-cells_in planes n k within)

-- planes with the same cells
pub cells_in-same : (a b : List Plane) (n : ℕ) → ((k : ℕ) → k < n → cell_of_planes a k ≡ cell_of_planes b k) → cells_in a n ≡ cells_in b n
cells_in-same a b n same =
    ext_get_or [] (cells_in a n) (cells_in b n) (length-cells_in a n ∙ sym (length-cells_in b n))
    (λ k within.
    let below : k < n = omega (arith, length-cells_in a n) in
    get_or-cells_in a n k below ∙ same k below ∙ sym (get_or-cells_in b n k below))

-- equal cells
pub cells_in-equal : (planes : List Plane) (n : ℕ) (cell : List ℤ) → ((k : ℕ) → k < n → cell_of_planes planes k ≡ cell) → cells_in planes n ≡ replicate n cell
cells_in-equal planes n cell same =
    ext_get_or [] (cells_in planes n) (replicate n cell) (length-cells_in planes n ∙ sym (length-replicate n cell))
    (λ k within.
    let below : k < n = omega (arith, length-cells_in planes n) in
    get_or-cells_in planes n k below ∙ same k below ∙ sym (get_or-replicate n k cell [] below))

-- one cell written
pub cells_in-set : (old new : List Plane) (n place : ℕ) (cell : List ℤ) → place < n → cell_of_planes new place ≡ cell
    → ((k : ℕ) → k ≢ place → cell_of_planes new k ≡ cell_of_planes old k) → cells_in new n ≡ set (cells_in old n) place cell
cells_in-set old new n place cell inside written others =
    ext_get_or [] (cells_in new n) (set (cells_in old n) place cell)
    (length-cells_in new n ∙ sym (length-set (cells_in old n) place cell ∙ length-cells_in old n))
    (λ k within.
    let below : k < n = omega (arith, length-cells_in new n) in
    get_or-cells_in new n k below
    ∙ elim (cases_eq k place) [
      | inl same ↦
          ap (cell_of_planes new) same ∙ written
          ∙ sym (ap (λ j. get_or (set (cells_in old n) place cell) j []) same ∙ get_or-set_same (cells_in old n) place cell [] (omega (arith, length-cells_in old n)))
      | inr apart ↦
          others k apart ∙ sym (get_or-set_other (cells_in old n) place k cell [] apart ∙ get_or-cells_in old n k below)
    ])

-- each cell has a number for each plane
pub All-cells_in : (planes : List Plane) (n width : ℕ) → length planes ≡ width → All (λ cell. length cell ≡ width) (cells_in planes n)
All-cells_in planes n width long =
    λ k d within.
    let below : k < n = omega (arith, length-cells_in planes n) in
    ap length (get_or_from_slice_get (cells_in planes n) k (cell_of_planes planes k) d (slice_get-cells_in planes n k below))
    ∙ length-map planes (λ plane. plane_number plane k) ∙ long

-- the number of a cell in one plane
pub get_or-cell_of_planes : (planes : List Plane) (plane : Plane) (i k : ℕ) → i < length planes → listed_number (cell_of_planes planes k) i ≡ plane_number (get_or planes i plane) k
get_or-cell_of_planes planes plane i k within =
    get_or-map (λ (q : Plane). plane_number q k) planes i plane (pos 0) within

-- ---- the numbers of a component

pub length-numbers_of : (component : ℕ) (planes : List Plane) (n : ℕ) → length (numbers_of component (cells_in planes n)) ≡ n
length-numbers_of component planes n =
    length-map (cells_in planes n) (λ cell. get_or cell component (pos 0)) ∙ length-cells_in planes n

pub listed_number-numbers_of : (component : ℕ) (planes : List Plane) (plane : Plane) (n k : ℕ) → component < length planes → k < n
    → listed_number (numbers_of component (cells_in planes n)) k ≡ plane_number (get_or planes component plane) k
listed_number-numbers_of component planes plane n k within below =
    get_or-map (λ (cell : List ℤ). get_or cell component (pos 0)) (cells_in planes n) k [] (pos 0) (omega (arith, length-cells_in planes n))
    ∙ ap (λ (cell : List ℤ). get_or cell component (pos 0)) (get_or-cells_in planes n k below)
    ∙ get_or-cell_of_planes planes plane component k within

-- ---- equal cells

-- each is the first
pub AreEqual-first : (planes : List Plane) (n : ℕ) → 0 < n → AreEqual (cells_in planes n) → (k : ℕ) → k < n → cell_of_planes planes k ≡ cell_of_planes planes 0
AreEqual-first planes n some equal k below =
    let same : slice_get (cells_in planes n) k ≡ slice_get (cells_in planes n) 0 =
    equal k 0 (omega (arith, length-cells_in planes n)) (omega (arith, length-cells_in planes n)) in
    let here : slice_get (cells_in planes n) k ≡ Some (cell_of_planes planes k) = slice_get-cells_in planes n k below in
    let there : slice_get (cells_in planes n) 0 ≡ Some (cell_of_planes planes 0) = slice_get-cells_in planes n 0 some in
    cc

pub AreEqual-from_first : (planes : List Plane) (n : ℕ) → ((k : ℕ) → k < n → cell_of_planes planes k ≡ cell_of_planes planes 0) → AreEqual (cells_in planes n)
AreEqual-from_first planes n same =
    λ j k here there.
    let low : j < n = omega (arith, length-cells_in planes n) in
    let high : k < n = omega (arith, length-cells_in planes n) in
    slice_get-cells_in planes n j low ∙ ap (λ cell. Some cell) (same j low ∙ sym (same k high)) ∙ sym (slice_get-cells_in planes n k high)

-- planes of one number each have equal cells
pub cell_of_planes-uniform : (planes : List Plane) (k : ℕ) → All IsUniformPlane planes → cell_of_planes planes k ≡ cell_of_planes planes 0
cell_of_planes-uniform [] k uniform = refl
cell_of_planes-uniform (plane ∷ planes) k uniform =
    ap (λ (z : ℤ). z ∷ cell_of_planes planes k) (plane_number-uniform plane k (All-head IsUniformPlane plane planes uniform))
    ∙ ap (λ (zs : List ℤ). plane_number plane 0 ∷ zs) (cell_of_planes-uniform planes k (All-tail IsUniformPlane plane planes uniform))
  where
    plane_number-uniform : (plane : Plane) (k : ℕ) → IsUniformPlane plane → plane_number plane k ≡ plane_number plane 0
    plane_number-uniform (Uniform number) k h = refl
    plane_number-uniform (U8 bytes) k h = absurd h
    plane_number-uniform (I8 bytes) k h = absurd h
    plane_number-uniform (U16 shorts) k h = absurd h
    plane_number-uniform (I16 shorts) k h = absurd h
    plane_number-uniform (U32 longs) k h = absurd h
    plane_number-uniform (I32 longs) k h = absurd h
    plane_number-uniform (Plain numbers) k h = absurd h

-- ---- how far a plane reaches

pub Reaches-within : (n m : ℕ) (plane : Plane) → m ≤ n → HasNumbers n plane → Reaches m plane
Reaches-within n m (Uniform number) less whole = tt
Reaches-within n m (U8 bytes) less whole = omega (arith, whole)
Reaches-within n m (I8 bytes) less whole = omega (arith, whole)
Reaches-within n m (U16 shorts) less whole = omega (arith, whole)
Reaches-within n m (I16 shorts) less whole = omega (arith, whole)
Reaches-within n m (U32 longs) less whole = omega (arith, whole)
Reaches-within n m (I32 longs) less whole = omega (arith, whole)
Reaches-within n m (Plain numbers) less whole = omega (arith, whole)

pub All-Reaches : (n m : ℕ) (planes : List Plane) → m ≤ n → All (HasNumbers n) planes → All (Reaches m) planes
All-Reaches n m planes less whole =
    λ i d within. Reaches-within n m (get_or planes i d) less (whole i d within)

-- ---- planes that are made one by one

pub ArePlanes-none : (n : ℕ) (kept : ℕ → Plane → Type 0) (cell : ℕ → List ℤ) → ArePlanes n kept (λ k. take 0 (cell k)) []
ArePlanes-none n kept cell = record {
  cells = λ k below. refl;
  whole = λ i d within. absurd (omega arith);
  kinds = λ i plane within. absurd (omega arith);
}

-- each is kept as it should be, also the new one
kinds_more : (kept : ℕ → Plane → Type 0) (planes : List Plane) (plane : Plane) (i : ℕ) → length planes ≡ i
    → ((j : ℕ) (q : Plane) → j < length planes → kept j (get_or planes j q)) → kept i plane
    → (j : ℕ) (q : Plane) → j < length (planes ++ plane ∷ []) → kept j (get_or (planes ++ plane ∷ []) j q)
kinds_more kept planes plane i long kinds kind =
    λ j q within.
    elim (cases_lt j i) [
      | inl less ↦
          let below : j < length planes = omega arith in
          subst (kept j) (sym (get_or_append_left planes (plane ∷ []) q j below)) (kinds j q below)
      | inr not_less ↦
          let last : i ≡ j = omega (arith, length_push planes plane) in
          subst (λ (m : ℕ). kept m (get_or (planes ++ plane ∷ []) m q)) last (subst (kept i) (sym (get_or_push planes plane q i long)) kind)
    ]

-- one more plane
pub ArePlanes-more : (n i : ℕ) (kept : ℕ → Plane → Type 0) (cell : ℕ → List ℤ) (planes : List Plane) (plane : Plane)
    → ArePlanes n kept (λ k. take i (cell k)) planes → length planes ≡ i → ((k : ℕ) → k < n → i < length (cell k))
    → HasNumbers n plane → kept i plane → ((k : ℕ) → k < n → plane_number plane k ≡ listed_number (cell k) i)
    → ArePlanes n kept (λ k. take (i + 1) (cell k)) (planes ++ plane ∷ [])
ArePlanes-more n i kept cell planes plane made long wide whole kind is = record {
  cells = λ k below.
      map_push (λ (q : Plane). plane_number q k) planes plane
      ∙ ap (λ (zs : List ℤ). zs ++ plane_number plane k ∷ []) (made.cells k below)
      ∙ ap (λ (z : ℤ). take i (cell k) ++ z ∷ []) (is k below)
      ∙ sym (take_more (cell k) i (pos 0) (wide k below));
  whole = All-push (HasNumbers n) planes plane made.whole whole;
  kinds = kinds_more kept planes plane i long made.kinds kind;
}

-- all planes
pub ArePlanes-all : (n i : ℕ) (kept : ℕ → Plane → Type 0) (cell : ℕ → List ℤ) (planes : List Plane)
    → ArePlanes n kept (λ k. take i (cell k)) planes → ((k : ℕ) → k < n → length (cell k) ≤ i) → ArePlanes n kept cell planes
ArePlanes-all n i kept cell planes made short = record {
  cells = λ k below. made.cells k below ∙ take_all i (cell k) (short k below);
  whole = made.whole;
  kinds = made.kinds;
}

-- a cell is as wide as there are planes
pub length-cell_of_planes : (planes : List Plane) (k : ℕ) → length (cell_of_planes planes k) ≡ length planes
length-cell_of_planes planes k = length-map planes (λ (plane : Plane). plane_number plane k)

-- a plane in place of another
pub cell_of_planes-set : (planes : List Plane) (i : ℕ) (plane : Plane) (k : ℕ) → cell_of_planes (set planes i plane) k ≡ set (cell_of_planes planes k) i (plane_number plane k)
cell_of_planes-set planes i plane k = map-set (λ (q : Plane). plane_number q k) planes i plane

-- ---- numbers that are kept in another type

-- the number at a place
pub at_map : {X : Type 0} (f : X → ℤ) (xs : List X) (k : ℕ) (x : X) → k < length xs → x ≡ get_or xs k x → listed_number (map f xs) k ≡ f x
at_map f xs k x within is = get_or-map f xs k x (pos 0) within ∙ ap f (sym is)

-- the first one
pub at_first : {X : Type 0} (f : X → ℤ) (xs : List X) (x : X) → Some x ≡ slice_get xs 0 → listed_number (map f xs) 0 ≡ f x
at_first f xs x is =
    get_or-map f xs 0 x (pos 0) (slice_get_within xs 0 x (sym is)) ∙ ap f (get_or_from_slice_get xs 0 x x (sym is))

-- lists of as many equal numbers
pub same_numbers : (xs ys : List ℤ) → length ys ≡ length xs → ((k : ℕ) → k < length xs → listed_number xs k ≡ listed_number ys k) → xs ≡ ys
same_numbers xs ys long same = ext_get_or (pos 0) xs ys (sym long) same

-- one number written
pub narrow_more : {X : Type 0} (f : X → ℤ) (kept : List X) (x : X) (i : ℕ) (numbers : List ℤ) → i < length kept
    → ((k : ℕ) → k < i → listed_number (map f kept) k ≡ listed_number numbers k) → f x ≡ listed_number numbers i
    → (k : ℕ) → k < i + 1 → listed_number (map f (set kept i x)) k ≡ listed_number numbers k
narrow_more f kept x i numbers within before here =
    below_more _ _
    (λ k h.
    let apart : k ≢ i = omega arith in
    ap (λ (zs : List ℤ). listed_number zs k) (map-set f kept i x) ∙ get_or-set_other (map f kept) i k (f x) (pos 0) apart ∙ before k h)
    (ap (λ (zs : List ℤ). listed_number zs i) (map-set f kept i x) ∙ get_or-set_same (map f kept) i (f x) (pos 0) (omega (arith, length-map kept f)) ∙ here)

-- whether all numbers are equal, of those that a plane keeps
pub constant_kept : {X : Type 0} (f : X → ℤ) (items xs : List X) (n : ℕ) (r : Bool) → xs ≡ items
    → (IsTrue r ↔ ((k : ℕ) → k < length xs → listed_number (map f xs) k ≡ listed_number (map f xs) 0)) → length items ≡ n
    → IsTrue r ↔ ((k : ℕ) → k < n → listed_number (map f items) k ≡ listed_number (map f items) 0)
constant_kept f items xs n r is h long =
    subst (λ (m : ℕ). IsTrue r ↔ ((k : ℕ) → k < m → listed_number (map f items) k ≡ listed_number (map f items) 0)) long
    (subst (λ (ys : List _). IsTrue r ↔ ((k : ℕ) → k < length ys → listed_number (map f ys) k ≡ listed_number (map f ys) 0)) is h)

pub constant_wide : (items xs : List ℤ) (n : ℕ) (r : Bool) → xs ≡ items
    → (IsTrue r ↔ ((k : ℕ) → k < length xs → listed_number (map (λ (z : ℤ). z) xs) k ≡ listed_number (map (λ (z : ℤ). z) xs) 0)) → length items ≡ n
    → IsTrue r ↔ ((k : ℕ) → k < n → listed_number items k ≡ listed_number items 0)
constant_wide items xs n r is h long =
    subst (λ (ys : List ℤ). IsTrue r ↔ ((k : ℕ) → k < n → listed_number ys k ≡ listed_number ys 0)) (map-id items) (constant_kept (λ (z : ℤ). z) items xs n r is h long)

-- the numbers of a plane are those that are lent
pub lent_unsigned : (numbers : List ℤ) (items xs : List ℕ) → xs ≡ items → length items ≡ length numbers
    → ((k : ℕ) → k < length numbers → listed_number numbers k ≡ listed_number (map pos items) k) → numbers ≡ map pos xs
lent_unsigned numbers items xs is long same =
    same_numbers numbers (map pos items) (length-map items pos ∙ long) same ∙ ap (map pos) (sym is)

pub lent_signed : (numbers items xs : List ℤ) → xs ≡ items → length items ≡ length numbers
    → ((k : ℕ) → k < length numbers → listed_number numbers k ≡ listed_number items k) → numbers ≡ xs
lent_signed numbers items xs is long same = same_numbers numbers items long same ∙ sym is

-- ---- ranges

pub All-in_range : (atom : Atom) (numbers : List ℤ) (n : ℕ) → length numbers ≡ n → ((k : ℕ) → k < n → IsInRange atom (listed_number numbers k)) → All (IsInRange atom) numbers
All-in_range atom numbers n long range =
    All-from_get_or (IsInRange atom) numbers (pos 0) (λ i within. range i (omega arith))

-- one number of those that are in range
pub AreInRange-at : (atoms : List Atom) (numbers : List ℤ) (i : ℕ) (atom : Atom) → AreInRange atoms numbers → i < length atoms → IsInRange (get_or atoms i atom) (listed_number numbers i)
AreInRange-at [] numbers i atom h within = absurd (omega arith)
AreInRange-at (a ∷ atoms) [] i atom h within = absurd h
AreInRange-at (a ∷ atoms) (z ∷ numbers) zero atom h within = h.0
AreInRange-at (a ∷ atoms) (z ∷ numbers) (suc i) atom h within = AreInRange-at atoms numbers i atom h.1 (omega arith)

-- ---- the first planes

-- the cells of one more plane
pub cell_of_planes-more : (planes : List Plane) (i : ℕ) (plane : Plane) (k : ℕ) → i < length planes → plane ≡ get_or planes i plane
    → take (i + 1) (cell_of_planes planes k) ≡ take i (cell_of_planes planes k) ++ plane_number plane k ∷ []
cell_of_planes-more planes i plane k within is =
    take_more (cell_of_planes planes k) i (pos 0) (omega (arith, length-cell_of_planes planes k))
    ∙ ap (λ (z : ℤ). take i (cell_of_planes planes k) ++ z ∷ []) (get_or-cell_of_planes planes plane i k within ∙ ap (λ (q : Plane). plane_number q k) (sym is))

-- the number of a cell in the plane at a place
pub plane_number-at : (planes : List Plane) (i : ℕ) (plane : Plane) (k : ℕ) → i < length planes → plane ≡ get_or planes i plane → plane_number plane k ≡ listed_number (cell_of_planes planes k) i
plane_number-at planes i plane k within is =
    ap (λ (q : Plane). plane_number q k) is ∙ sym (get_or-cell_of_planes planes plane i k within)

-- what holds of each plane holds of the one at a place
pub All-at : (P : Plane → Type 0) (planes : List Plane) (i : ℕ) (plane : Plane) → i < length planes → plane ≡ get_or planes i plane → All P planes → P plane
All-at P planes i plane within is all = subst P (sym is) (all i plane within)

-- the first planes have equal cells where they had and the next has equal numbers
pub equal_more : (planes : List Plane) (i : ℕ) (plane : Plane) (k : ℕ) → i < length planes → plane ≡ get_or planes i plane
    → cell_of_planes (take i planes) k ≡ cell_of_planes (take i planes) 0 → plane_number plane k ≡ plane_number plane 0
    → cell_of_planes (take (i + 1) planes) k ≡ cell_of_planes (take (i + 1) planes) 0
equal_more planes i plane k within is before here =
    let more : take (i + 1) planes ≡ take i planes ++ plane ∷ [] = take_more planes i plane within ∙ ap (λ (q : Plane). take i planes ++ q ∷ []) (sym is) in
    ap (λ (ps : List Plane). cell_of_planes ps k) more
    ∙ map_push (λ (q : Plane). plane_number q k) (take i planes) plane
    ∙ ap (λ (zs : List ℤ). zs ++ plane_number plane k ∷ []) before
    ∙ ap (λ (z : ℤ). cell_of_planes (take i planes) 0 ++ z ∷ []) here
    ∙ sym (ap (λ (ps : List Plane). cell_of_planes ps 0) more ∙ map_push (λ (q : Plane). plane_number q 0) (take i planes) plane)

-- one plane was written: its cell up to there
pub written_more : (planes : List Plane) (i : ℕ) (plane : Plane) (k : ℕ) (numbers : List ℤ) → i < length planes → i < length numbers
    → take i (cell_of_planes planes k) ≡ take i numbers → plane_number plane k ≡ listed_number numbers i
    → take (i + 1) (cell_of_planes (set planes i plane) k) ≡ take (i + 1) numbers
written_more planes i plane k numbers within below before here =
    ap (take (i + 1)) (cell_of_planes-set planes i plane k)
    ∙ take_more_set (cell_of_planes planes k) i (plane_number plane k) (omega (arith, length-cell_of_planes planes k))
    ∙ ap (λ (zs : List ℤ). zs ++ plane_number plane k ∷ []) before
    ∙ ap (λ (z : ℤ). take i numbers ++ z ∷ []) here
    ∙ sym (take_more numbers i (pos 0) below)

-- and the cells that it kept
pub kept_more : (planes : List Plane) (i : ℕ) (d plane : Plane) (k : ℕ) → i < length planes
    → plane_number plane k ≡ plane_number (get_or planes i d) k → cell_of_planes (set planes i plane) k ≡ cell_of_planes planes k
kept_more planes i d plane k within same =
    cell_of_planes-set planes i plane k
    ∙ ap (set (cell_of_planes planes k) i) (same ∙ sym (get_or-cell_of_planes planes d i k within))
    ∙ set-get_or (cell_of_planes planes k) i (pos 0)
