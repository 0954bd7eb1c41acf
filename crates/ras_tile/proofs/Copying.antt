-- The copying of a box of cells, row by row.
use Rattle.std.proofs.Common.{◌≡◌, ℕ, ◌+◌, ◌≤◌, ◌<◌, ℤ, List, Option, Some, None, ◌⊎◌, inl, inr, length, refl, sym, ap, ◌∙◌, arith}
use Rattle.std.specs.List.{slice_get}
use Rattle.std.proofs.lemmas.Option.{slice_get_cases, slice_get_within, get_or_from_slice_get}
use Rattle.ras_domain.specs.declared.region.Interval.{Interval}
use Rattle.ras_domain.specs.Region.{IsIn, points_of, place_in_rows}
use Rattle.ras_domain.proofs.Points.{length-from_IsIn, Contains-IsIn}
use Rattle.ras_domain.proofs.RowOrder.{place_in_rows-at}
use Rattle.ras_tile.specs.Stored.{along}
use Rattle.ras_tile.specs.Planes.{listed_number}
use Rattle.ras_tile.proofs.RowPlaces.{slice_get-place, place-within, place-along, IsIn-along, row_or_apart}

-- how many points of the box come before the next one
abbrev pub done_of : List Interval → Option (List ℤ) → ℕ
done_of axes None = length (points_of axes)
done_of axes (Some p) = place_in_rows axes p

-- the point at a place has that many before it
done_of-at : (axes : List Interval) (place : ℕ) → place ≤ length (points_of axes) → done_of axes (slice_get (points_of axes) place) ≡ place
done_of-at axes place within =
    elim (slice_get_cases (points_of axes) place).1 [
      | inl at ↦ ap (done_of axes) at.2 ∙ place_in_rows-at axes place at.0 at.2
      | inr past ↦ ap (done_of axes) past.1 ∙ omega arith
    ]

-- a copy of the cells at the points of `region` that come before `next`; the other cells are as before
pub record IsCopying (to_box from_box region : List Interval) (old : List ℤ) (source : ℕ → ℤ) (new : List ℤ) (next : Option (List ℤ)) : Type 0 where
  pub long : length new ≡ length old
  pub next_is : next ≡ slice_get (points_of region) (done_of region next)
  pub copied : (q : List ℤ) → IsIn q region → place_in_rows region q < done_of region next
      → listed_number new (place_in_rows to_box q) ≡ source (place_in_rows from_box q)
  pub others : (q : List ℤ) → IsIn q to_box → (IsIn q region → done_of region next ≤ place_in_rows region q)
      → listed_number new (place_in_rows to_box q) ≡ listed_number old (place_in_rows to_box q)

-- before the first point
pub IsCopying-first : {to_box from_box region : List Interval} {source : ℕ → ℤ} {old p : List ℤ} → slice_get (points_of region) 0 ≡ Some p
    → IsCopying to_box from_box region old source old (Some p)
IsCopying-first {region = region} {p = p} first =
    let none : place_in_rows region p ≡ 0 = place_in_rows-at region 0 p first in
    record {
      long = refl;
      next_is = sym (ap (slice_get (points_of region)) none ∙ first);
      copied = λ q inside less. absurd (omega arith);
      others = λ q inside later. refl;
    }

-- the next point is one of the region
pub IsCopying-within : {to_box from_box region : List Interval} {source : ℕ → ℤ} {old new p : List ℤ} → IsCopying to_box from_box region old source new (Some p) → IsIn p region
IsCopying-within {region = region} {p = p} h =
    let at : slice_get (points_of region) (place_in_rows region p) ≡ Some p = sym h.next_is in
    (Contains-IsIn region p).0
    (place_in_rows region p, slice_get_within (points_of region) (place_in_rows region p) p at, get_or_from_slice_get (points_of region) (place_in_rows region p) p p at)

-- a box that covers the region has axes, as the region has
axes_of_cover : (box region : List Interval) (p : List ℤ) → IsIn p region → IsIn p box → 0 < length region → 0 < length box
axes_of_cover box region p inside within some =
    omega (arith, length-from_IsIn p region inside, length-from_IsIn p box within)

-- the row of a point of the region lies within a box that covers it
pub row_fits : (box region : List Interval) (p : List ℤ) (k : ℕ) → ((q : List ℤ) → IsIn q region → IsIn q box) → 0 < length region → IsIn p region → IsIn (along p k) region
    → place_in_rows box p + (k + 1) ≤ length (points_of box)
row_fits box region p k covers some inside end =
    let axes : 0 < length box = axes_of_cover box region p inside (covers p inside) some in
    omega (arith, place-along box p k axes (covers p inside) (covers (along p k) end), place-within box (along p k) (covers (along p k) end))

-- a place of the row lies neither before nor behind it
apart_from : (place start j k : ℕ) → place ≡ start + j → j < k + 1 → (place < start) ⊎ (start + (k + 1) ≤ place) → ⊥
apart_from place start j k is few (inl before) = omega arith
apart_from place start j k is few (inr behind) = omega arith

-- after the row of p, that is from p to k further on
pub IsCopying-more : {to_box from_box region : List Interval} {source : ℕ → ℤ} {old new p : List ℤ} (newer : List ℤ) (k : ℕ) (next : Option (List ℤ))
    → IsCopying to_box from_box region old source new (Some p) → 0 < length region
    → ((q : List ℤ) → IsIn q region → IsIn q to_box) → ((q : List ℤ) → IsIn q region → IsIn q from_box)
    → IsIn (along p k) region
    → ((place : ℕ) → slice_get (points_of region) place ≡ Some (along p k) → next ≡ slice_get (points_of region) (place + 1))
    → length newer ≡ length new
    → ((j : ℕ) → j < k + 1 → listed_number newer (place_in_rows to_box p + j) ≡ source (place_in_rows from_box p + j))
    → ((j : ℕ) → (j < place_in_rows to_box p) ⊎ (place_in_rows to_box p + (k + 1) ≤ j) → listed_number newer j ≡ listed_number new j)
    → (IsCopying to_box from_box region old source newer next) × (done_of region next ≡ place_in_rows region p + (k + 1))
IsCopying-more {to_box = to_box} {from_box = from_box} {region = region} {source = source} {p = p} newer k next h some to_covers from_covers end after long written kept =
    let inside : IsIn p region = IsCopying-within h in
    let to_axes : 0 < length to_box = axes_of_cover to_box region p inside (to_covers p inside) some in
    let from_axes : 0 < length from_box = axes_of_cover from_box region p inside (from_covers p inside) some in
    let last : place_in_rows region (along p k) ≡ place_in_rows region p + k = place-along region p k some inside end in
    let next_is : next ≡ slice_get (points_of region) (place_in_rows region p + (k + 1)) =
    after (place_in_rows region (along p k)) (slice_get-place region (along p k) end) ∙ ap (slice_get (points_of region)) (omega (arith, last)) in
    let done : done_of region next ≡ place_in_rows region p + (k + 1) =
    ap (done_of region) next_is ∙ done_of-at region (place_in_rows region p + (k + 1)) (omega (arith, last, place-within region (along p k) end)) in
    let of_row : (j : ℕ) → j < k + 1 → IsIn (along p j) region = λ j few. IsIn-along region p j k inside end (omega arith) in
    let to_place : (j : ℕ) → j < k + 1 → place_in_rows to_box (along p j) ≡ place_in_rows to_box p + j =
    λ j few. place-along to_box p j to_axes (to_covers p inside) (to_covers (along p j) (of_row j few)) in
    let from_place : (j : ℕ) → j < k + 1 → place_in_rows from_box (along p j) ≡ place_in_rows from_box p + j =
    λ j few. place-along from_box p j from_axes (from_covers p inside) (from_covers (along p j) (of_row j few)) in
    let own_place : (j : ℕ) → j < k + 1 → place_in_rows region (along p j) ≡ place_in_rows region p + j =
    λ j few. place-along region p j some inside (of_row j few) in (
      record {
        long = long ∙ h.long;
        next_is = next_is ∙ ap (slice_get (points_of region)) (sym done);
        copied = λ q here less.
            elim (row_or_apart to_box p q k to_axes (to_covers p inside) (to_covers (along p k) end) (to_covers q here)) [
              | inl row ↦
                  ap (listed_number newer) (ap (place_in_rows to_box) row.2 ∙ to_place row.0 row.1)
                  ∙ written row.0 row.1
                  ∙ ap source (sym (ap (place_in_rows from_box) row.2 ∙ from_place row.0 row.1))
              | inr apart ↦
                  kept (place_in_rows to_box q) apart
                  ∙ h.copied q here (elim (row_or_apart region p q k some inside end here) [
                    | inl row ↦ absurd (apart_from (place_in_rows to_box q) (place_in_rows to_box p) row.0 k (ap (place_in_rows to_box) row.2 ∙ to_place row.0 row.1) row.1 apart)
                    | inr (inl before) ↦ before
                    | inr (inr behind) ↦ absurd (omega (arith, done))
                  ])
            ];
        others = λ q here later.
            elim (row_or_apart to_box p q k to_axes (to_covers p inside) (to_covers (along p k) end) here) [
              | inl row ↦
                  let own : place_in_rows region q ≡ place_in_rows region p + row.0 = ap (place_in_rows region) row.2 ∙ own_place row.0 row.1 in
                  let bound : done_of region next ≤ place_in_rows region q = later (rw row.2 (of_row row.0 row.1)) in
                  let few : row.0 < k + 1 = row.1 in
                  absurd (omega (arith, done, own, bound, few))
              | inr apart ↦ kept (place_in_rows to_box q) apart ∙ h.others q here (λ r. let bound : done_of region next ≤ place_in_rows region q = later r in omega (arith, done, bound))
            ];
      },
      done,
    )

-- after the last point
pub IsCopying-copied : {to_box from_box region : List Interval} {source : ℕ → ℤ} {old new : List ℤ} → IsCopying to_box from_box region old source new None
    → (q : List ℤ) → IsIn q region → listed_number new (place_in_rows to_box q) ≡ source (place_in_rows from_box q)
IsCopying-copied {region = region} h q inside = h.copied q inside (place-within region q inside)

pub IsCopying-others : {to_box from_box region : List Interval} {source : ℕ → ℤ} {old new : List ℤ} → IsCopying to_box from_box region old source new None
    → (q : List ℤ) → IsIn q to_box → (IsIn q region → ⊥) → listed_number new (place_in_rows to_box q) ≡ listed_number old (place_in_rows to_box q)
IsCopying-others h q inside out = h.others q inside (λ within. absurd (out within))
