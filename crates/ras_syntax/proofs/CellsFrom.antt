-- The cells of numbers that stand one after another.
use Rattle.std.proofs.Common.{◌≡◌, ℕ, zero, suc, ◌+◌, ◌-◌, ◌*◌, ◌≤◌, ◌<◌, ℤ, Bool, Some, List, [], ◌∷◌, ◌++◌, length, take, drop, slice_get, All, refl, sym, ap, subst, ◌∙◌, arith, rules, length-append}
use Rattle.std.proofs.Math.Nat.{mul-le-mul_left}
use Rattle.std.proofs.lemmas.List.{take_all, take-append-le, drop-append-le, length-drop, drop-drop}
use Rattle.std.proofs.lemmas.List.Elements.{All-append, All-cons, All-nil, All-get_or}
use Rattle.std.proofs.lemmas.Option.{slice_get_within, get_or_from_slice_get}
use Rattle.ras_cells.specs.declared.cell.Cell.{Cell}
use Rattle.ras_syntax.specs.CellList.{Cells, HasWidth, IsKept, stride_of, cell_from, cells_from}

-- a cell for each flag
pub length-cells_from : (stride : ℕ) (numbers : List ℤ) (nulls : List Bool) → length (cells_from stride numbers nulls) ≡ length nulls
length-cells_from stride numbers [] = refl
length-cells_from stride numbers (is_null ∷ nulls) = omega (arith, length-cells_from stride (drop stride numbers) nulls)

-- the numbers of a cell are those after the earlier cells' ones
pub slice_get-cells_from : (stride : ℕ) (numbers : List ℤ) (nulls : List Bool) (place from : ℕ) (is_null : Bool) → from ≡ stride * place
    → slice_get nulls place ≡ Some is_null → slice_get (cells_from stride numbers nulls) place ≡ Some (cell_from is_null (take stride (drop from numbers)))
slice_get-cells_from stride numbers [] place from is_null at is = search rules
slice_get-cells_from stride numbers (first ∷ nulls) zero from is_null at is =
    let none : from ≡ 0 = omega (arith, at) in
    search (rules, none, is)
slice_get-cells_from stride numbers (first ∷ nulls) (suc place) from is_null at is =
    let more : from ≡ stride + (from - stride) = omega (arith, at) in
    let earlier : from - stride ≡ stride * place = omega (arith, at) in
    slice_get-cells_from stride (drop stride numbers) nulls place (from - stride) is_null earlier is
    ∙ ap (λ ns. Some (cell_from is_null (take stride ns))) (drop-drop (from - stride) stride numbers ∙ ap (λ n. drop n numbers) (sym more))

-- one more cell
pub cells_from-append : (stride : ℕ) (nulls : List Bool) (numbers more : List ℤ) (is_null : Bool) → length numbers ≡ stride * length nulls → length more ≡ stride
    → cells_from stride (numbers ++ more) (nulls ++ is_null ∷ []) ≡ cells_from stride numbers nulls ++ cell_from is_null more ∷ []
cells_from-append stride [] [] more is_null whole as_many =
    ap (λ ns. cell_from is_null ns ∷ []) (take_all stride more (omega (arith, as_many)))
cells_from-append stride [] (number ∷ numbers) more is_null whole as_many =
    let none : ⊥ = omega (arith, whole) in
    search none
cells_from-append stride (first ∷ nulls) numbers more is_null whole as_many =
    let enough : stride ≤ length numbers = omega (arith, whole) in
    let rest : length (drop stride numbers) ≡ stride * length nulls = omega (arith, whole, length-drop stride numbers) in
    rw (take-append-le stride numbers more enough, drop-append-le stride numbers more enough, cells_from-append stride nulls (drop stride numbers) more is_null rest as_many) refl

-- a list's fields and what is seen of it have as many cells
pub length-cells_of : (width room : ℕ) (numbers : List ℤ) (nulls : List Bool) (seen : Cells)
    → record { width = width; cells = cells_from (stride_of width) numbers nulls; room = room } ≡ seen → length nulls ≡ length seen.cells
length-cells_of width room numbers nulls seen is =
    sym (length-cells_from (stride_of width) numbers nulls) ∙ ap (λ v. length v.cells) is

-- the cell that is seen at a place
pub seen_at : (width room : ℕ) (numbers : List ℤ) (nulls : List Bool) (seen : Cells) (place : ℕ) (is_null : Bool)
    → record { width = width; cells = cells_from (stride_of width) numbers nulls; room = room } ≡ seen → slice_get nulls place ≡ Some is_null
    → slice_get seen.cells place ≡ Some (cell_from is_null (take (stride_of width) (drop (stride_of width * place) numbers)))
seen_at width room numbers nulls seen place is_null is flag =
    subst (λ v. slice_get v.cells place ≡ Some (cell_from is_null (take (stride_of width) (drop (stride_of width * place) numbers)))) is
    (slice_get-cells_from (stride_of width) numbers nulls place (stride_of width * place) is_null refl flag)

-- what is seen of a list with one more cell
pub seen-append : (width room : ℕ) (numbers : List ℤ) (nulls : List Bool) (seen : Cells) (more : List ℤ) (is_null : Bool)
    → record { width = width; cells = cells_from (stride_of width) numbers nulls; room = room } ≡ seen → length numbers ≡ stride_of width * length nulls
    → length more ≡ stride_of width → ◌≡◌ {A = Cells} (record
    { width = width; cells = cells_from (stride_of width) (numbers ++ more) (nulls ++ is_null ∷ []); room = room }) (record seen { cells = seen.cells ++ cell_from is_null more ∷ [] })
seen-append width room numbers nulls seen more is_null is whole as_many =
    let added : ◌≡◌ {A = Cells} (record { width = width; cells = cells_from (stride_of width) (numbers ++ more) (nulls ++ is_null ∷ []); room = room })
    (record { width = width; cells = cells_from (stride_of width) numbers nulls ++ cell_from is_null more ∷ []; room = room }) =
    ap (λ cs. record { width = width; cells = cs; room = room }) (cells_from-append (stride_of width) nulls numbers more is_null whole as_many) in
    added ∙ ap (λ (v : Cells). record v { cells = v.cells ++ cell_from is_null more ∷ [] }) is

-- there is room for the numbers of one more cell
pub room_for_one : (stride cells room numbers numbers_room : ℕ) → numbers ≡ stride * cells → cells < room → stride * room ≤ numbers_room → numbers + stride ≤ numbers_room
room_for_one stride cells room numbers numbers_room whole left fit =
    omega (arith, whole, fit, mul-le-mul_left {m = cells + 1} {n = room} stride (omega (arith, left)))

-- with one more cell, all is kept as before
pub IsKept-append : (width room numbers_room nulls_room numbers_after nulls_after : ℕ) (numbers more : List ℤ) (nulls : List Bool) (is_null : Bool)
    → IsKept width room numbers nulls numbers_room nulls_room → length nulls < room → length more ≡ stride_of width → HasWidth width (cell_from is_null more)
    → numbers_room ≤ numbers_after → nulls_room ≤ nulls_after → IsKept width room (numbers ++ more) (nulls ++ is_null ∷ []) numbers_after nulls_after
IsKept-append width room numbers_room nulls_room numbers_after nulls_after numbers more nulls is_null kept left as_many fits numbers_stay nulls_stay =
    record {
      whole = rw (length-append numbers more, length-append nulls (is_null ∷ [])) (omega (arith, kept.whole, as_many));
      within = omega (arith, left, length-append nulls (is_null ∷ []));
      numbers_fit = omega (arith, kept.numbers_fit, numbers_stay);
      nulls_fit = omega (arith, kept.nulls_fit, nulls_stay);
      widths = rw (cells_from-append (stride_of width) nulls numbers more is_null kept.whole as_many)
          (All-append (HasWidth width) _ _ kept.widths (All-cons (HasWidth width) _ [] fits (All-nil (HasWidth width))));
    }

-- the numbers of a cell stand within all of them
pub numbers_within : (stride place cells numbers : ℕ) → numbers ≡ stride * cells → place < cells → stride * place + stride ≤ numbers
numbers_within stride place cells numbers whole within =
    omega (arith, whole, mul-le-mul_left {m = place + 1} {n = cells} stride (omega (arith, within)))

-- a cell of the list has the list's width
pub width_at : (width : ℕ) (cells : List Cell) (place : ℕ) (cell : Cell) → All (HasWidth width) cells → slice_get cells place ≡ Some cell → HasWidth width cell
width_at width cells place cell widths is =
    subst (HasWidth width) (get_or_from_slice_get cells place cell cell is) (All-get_or (HasWidth width) cells place cell (slice_get_within cells place cell is) widths)
