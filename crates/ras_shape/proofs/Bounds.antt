-- Cuts and boxes, as the code tests them.
use Rattle.std.proofs.Common.{◌≡◌, ℤ, FitsSigned, Some, List, [], ◌∷◌, map, Result, Ok, Err, Bool, true, false, refl, ap, ◌∙◌, All, arith}
use Rattle.std.specs.Prelude.{◌+ℤ◌, ◌-ℤ◌, ◌||◌, ◌&&◌, not, if◌then◌else◌}
use Rattle.std.specs.List.{list_any, zip}
use Rattle.std.specs.Int.{w64}
use Rattle.std.proofs.lemmas.Int.{ints}
use Rattle.std.proofs.lemmas.List.Elements.{All-head, All-tail}
use Rattle.ras_cells.specs.declared.atom.Atom.TheVariants.{Long}
use Rattle.ras_cells.proofs.Ranges.{IsInRange-is_in_range}
use Rattle.ras_domain.specs.Boxes.{shifted_by}
use Rattle.ras_domain.specs.declared.region.Interval.{Interval}
use Rattle.ras_domain.specs.Region.{HasSmallBounds, IsRegion}
use Rattle.ras_syntax.specs.declared.span.Span.{Span}
use Rattle.ras_syntax.specs.declared.faults.ShapeFault.TheVariants.{Outside, EmptyDomain, BoundOut}
use Rattle.spec_expressions.specs.Shape.{Box, Shape, array, moved_box, is_small, Cut, ShapeMisfit, array_or_scalar_shape, cut_shape, has_large_bound, is_broken, is_empty_cut, is_outside, kept_axes}
use Rattle.ras_shape.specs.declared.cuts.Cut.{Cut as CutFound}
use Rattle.ras_shape.specs.Moves.{interval_begun_at}
use Rattle.ras_shape.specs.Cuts.{cut_found, literal_box, any_broken, any_empty, any_outside}

any-map : {X Y : Type 0} (p : Y → Bool) (f : X → Y) (xs : List X) → list_any p (map f xs) ≡ list_any (λ x. p (f x)) xs
any-map p f [] = refl
any-map p f (x ∷ xs) = ap (λ b. p (f x) || b) (any-map p f xs)

any-zip-map : (cuts : List CutFound) (axes : Box) → list_any is_outside (zip (map cut_found cuts) axes) ≡ any_outside cuts axes
any-zip-map [] axes = refl
any-zip-map (cut ∷ cuts) [] = refl
any-zip-map (cut ∷ cuts) (axis ∷ axes) = ap (λ b. is_outside (cut_found cut, axis) || b) (any-zip-map cuts axes)

-- ---- written bounds

pub broken_box : (span : Span) (cuts : List CutFound) → any_broken cuts ≡ true → literal_box span (map cut_found cuts) ≡ Err (span, BoundOut)
broken_box span cuts is = rw (any-map is_broken cut_found cuts, is) refl

pub empty_box : (span : Span) (cuts : List CutFound) → any_broken cuts ≡ false → any_empty cuts ≡ true → literal_box span (map cut_found cuts) ≡ Err (span, EmptyDomain)
empty_box span cuts none is = rw (any-map is_broken cut_found cuts, none, any-map is_empty_cut cut_found cuts, is) refl

pub whole_box : (span : Span) (cuts : List CutFound) → any_broken cuts ≡ false → any_empty cuts ≡ false → literal_box span (map cut_found cuts) ≡ Ok (kept_axes (map cut_found cuts))
whole_box span cuts none full = rw (any-map is_broken cut_found cuts, none, any-map is_empty_cut cut_found cuts, full) refl

pub ruleset boxes = (broken_box, empty_box, whole_box)

-- ---- an index, from the box of its trims

cut-cases : (span : Span) (broken empty outside : Bool) (kept : Box) (r : Result Shape ShapeMisfit) (m : ShapeMisfit)
    → (let b : Result Box ShapeMisfit = if broken then Err (span, BoundOut) else if empty then Err (span, EmptyDomain) else Ok kept in b) ≡ Err m
    → (if broken then Err (span, BoundOut) else if empty then Err (span, EmptyDomain) else r) ≡ Err m
cut-cases span true empty outside kept r m is = let same : (let p : ShapeMisfit = (span, BoundOut) in p) ≡ m = cc in ap (λ x. Err x) same
cut-cases span false true outside kept r m is = let same : (let p : ShapeMisfit = (span, EmptyDomain) in p) ≡ m = cc in ap (λ x. Err x) same
cut-cases span false false outside kept r m is = absurd cc

kept-cases : (span : Span) (broken empty : Bool) (kept box : Box) (r : Result Shape ShapeMisfit)
    → (let b : Result Box ShapeMisfit = if broken then Err (span, BoundOut) else if empty then Err (span, EmptyDomain) else Ok kept in b) ≡ Ok box
    → (kept ≡ box) × ((if broken then Err (span, BoundOut) else if empty then Err (span, EmptyDomain) else r) ≡ r)
kept-cases span true empty kept box r is = absurd cc
kept-cases span false true kept box r is = absurd cc
kept-cases span false false kept box r is = (cc, refl)

pub index_stops : (span : Span) (axes : Box) (cuts : List Cut) (m : ShapeMisfit) → literal_box span cuts ≡ Err m → cut_shape span axes cuts ≡ Err m
index_stops span axes cuts m is =
    cut-cases span (list_any is_broken cuts) (list_any is_empty_cut cuts) (list_any is_outside (zip cuts axes)) (kept_axes cuts)
    (if list_any is_outside (zip cuts axes) then Err (span, Outside) else Ok (array_or_scalar_shape (kept_axes cuts))) m is

pub index_outside : (span : Span) (axes box : Box) (cuts : List CutFound) → literal_box span (map cut_found cuts) ≡ Ok box → any_outside cuts axes ≡ true
    → cut_shape span axes (map cut_found cuts) ≡ Err (span, Outside)
index_outside span axes box cuts is out =
    (kept-cases span (list_any is_broken (map cut_found cuts)) (list_any is_empty_cut (map cut_found cuts)) (kept_axes (map cut_found cuts)) box
    (if list_any is_outside (zip (map cut_found cuts) axes) then Err (span, Outside) else Ok (array_or_scalar_shape (kept_axes (map cut_found cuts)))) is).1
    ∙ rw (any-zip-map cuts axes, out) refl

pub index_keeps : (span : Span) (axes box : Box) (cuts : List CutFound) → literal_box span (map cut_found cuts) ≡ Ok box → any_outside cuts axes ≡ false
    → cut_shape span axes (map cut_found cuts) ≡ Ok (array_or_scalar_shape box)
index_keeps span axes box cuts is within =
    let both = kept-cases span (list_any is_broken (map cut_found cuts)) (list_any is_empty_cut (map cut_found cuts)) (kept_axes (map cut_found cuts)) box
    (if list_any is_outside (zip (map cut_found cuts) axes) then Err (span, Outside) else Ok (array_or_scalar_shape (kept_axes (map cut_found cuts)))) is in
    both.1 ∙ rw (any-zip-map cuts axes, within, both.0) refl

pub ruleset indexes = (index_stops, index_outside, index_keeps)

-- ---- bounds of 32 bits

small_axis : (axis : Interval) → HasSmallBounds axis → has_large_bound axis ≡ false
small_axis axis small =
    let low : is_small axis.lo ≡ true = (IsInRange-is_in_range Long axis.lo).1 (omega (arith, ints, small.0), omega (arith, ints, small.0)) in
    let high : is_small axis.hi ≡ true = (IsInRange-is_in_range Long axis.hi).1 (omega (arith, ints, small.1), omega (arith, ints, small.1)) in
    rw (low, high) refl

pub no_large : (axes : Box) → All HasSmallBounds axes → list_any has_large_bound axes ≡ false
no_large [] small = refl
no_large (axis ∷ axes) small = rw (small_axis axis (All-head HasSmallBounds axis axes small)) (no_large axes (All-tail HasSmallBounds axis axes small))

pub moved_fits : (span : Span) (axes moved : Box) (offsets : List ℤ) → moved ≡ shifted_by offsets axes → IsRegion moved → moved_box span axes (Some offsets) ≡ Ok (array moved)
moved_fits span axes moved offsets is region = rw (← is, no_large moved region.small_bounds) refl

large-cases : (low high : Bool) → (high ≡ true → ⊥) → not (low && high) ≡ true
large-cases true true never = absurd (never refl)
large-cases true false never = refl
large-cases false high never = refl

-- a bound that leaves 64 bits leaves 32 bits
pub large_end : (lo : ℤ) (axis : Interval) → (FitsSigned w64 (lo +ℤ (axis.hi -ℤ axis.lo)) → ⊥) → has_large_bound (interval_begun_at lo axis) ≡ true
large_end lo axis never =
    large-cases (is_small lo) (is_small (lo +ℤ (axis.hi -ℤ axis.lo)))
    (λ small. let range = (IsInRange-is_in_range Long (lo +ℤ (axis.hi -ℤ axis.lo))).0 small in never (omega (arith, ints, range.0, range.1)))
