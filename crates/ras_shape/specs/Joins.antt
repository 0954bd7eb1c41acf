-- Shapes made of parts, as the code has them.
use Rattle.std.specs.Prelude.{◌≡◌, Vec, ℕ, not, List, [], ◌∷◌, ◌++◌, map, Result, Ok, Err}
use Rattle.std.specs.Global.{Global}
use Rattle.ras_cells.specs.Outcomes.{◌>>=◌}
use Rattle.ras_domain.specs.Boxes.{lies_in}
use Rattle.ras_syntax.specs.declared.span.Span.{Span}
use Rattle.ras_syntax.specs.declared.faults.ShapeFault.TheVariants.{Outside}
use Rattle.spec_expressions.specs.Shape.{Written as WrittenBounds, written_of, written_box, Box, Shape, scalar, array, box, box_of, Bound, Cut, ShapeMisfit, fault_where, of_size, common_shape}
use Rattle.spec_expressions.specs.Shape.{sized_shape, cut_shape, values_of, moved_box, concat_shape, interval_at, interval_list}
use Rattle.spec_expressions.specs.Tree.{Domain}
use Rattle.ras_shape.specs.declared.form.Form.{Form}
use Rattle.ras_shape.specs.declared.form.ShapeError.{ShapeError}
use Rattle.ras_shape.specs.declared.domains.Written.{Written}
use Rattle.ras_shape.specs.declared.domains.Written.TheVariants.{Literal, Taken}
use Rattle.ras_shape.specs.declared.ways.Way.{Way}
use Rattle.ras_shape.specs.declared.ways.Way.TheVariants.{Cell, Interval, Cells}
use Rattle.ras_shape.specs.declared.cuts.Cut.{Cut as CutFound}
use Rattle.ras_shape.specs.Cuts.{cut_found, literal_box}
use Rattle.ras_shape.specs.Gives.{shape_of_form, fault_told, viewed, StopsAs}

-- the box of a domain
abbrev pub box_written : Span → Written → Result Box ShapeMisfit
box_written span (Literal cuts) = literal_box span (map cut_found cuts.items)
box_written span (Taken form) = Ok (box_of (shape_of_form form))

-- ---- forms, from the outcomes of their parts

abbrev pub shapes_seen : Result (Vec Form Global) ShapeError → Result (List Shape) ShapeError
shapes_seen = viewed (λ forms. map shape_of_form forms.items)

abbrev pub cuts_seen : Result (Vec CutFound Global) ShapeError → Result (List Cut) ShapeError
cuts_seen = viewed (λ cuts. map cut_found cuts.items)

abbrev pub offsets_seen : Result (Vec Bound Global) ShapeError → Result (List Bound) ShapeError
offsets_seen = viewed (λ values. values.items)

abbrev pub binary_from : Span → Result Shape ShapeError → Result Shape ShapeError → Result Shape ShapeError
binary_from span a b = do
  x ← a
  y ← b
  fault_told (common_shape span (x ∷ y ∷ []))

abbrev pub sized_from : Span → ℕ → Result Shape ShapeError → Result Shape ShapeError
sized_from span width whole = do
  x ← whole
  fault_told (sized_shape span width x)

abbrev pub case_from : Span → ℕ → Result (List Shape) ShapeError → Result Shape ShapeError → Result Shape ShapeError
case_from span width arms other = do
  xs ← arms
  x ← other
  sized_from span width (fault_told (common_shape span (xs ++ x ∷ [])))

abbrev pub build_from : Span → ℕ → Result (List Shape) ShapeError → Result Shape ShapeError
build_from span width parts = do
  xs ← parts
  sized_from span width (fault_told (common_shape span xs))

abbrev pub marray_from : Span → ℕ → Result Written ShapeError → Result Shape ShapeError → Result Shape ShapeError
marray_from span width domain e = do
  written ← domain
  inner ← e
  axes ← fault_told (box_written span written)
  fault_told (sized_shape span width (array axes))

abbrev pub condense_from : Span → Result Written ShapeError → Result Shape ShapeError → Result Shape ShapeError → Result Shape ShapeError
condense_from span domain condition e = do
  written ← domain
  tested ← condition
  inner ← e
  axes ← fault_told (box_written span written)
  all ← fault_told (of_size span 1 axes)
  Ok scalar

abbrev pub extend_from : Span → ℕ → Result Shape ShapeError → Result Written ShapeError → Result Shape ShapeError
extend_from span width e domain = do
  x ← e
  written ← domain
  axes ← fault_told (box_written span written)
  around ← fault_told (fault_where (not (lies_in (box_of x) axes)) span Outside axes)
  fault_told (sized_shape span width (array around))

abbrev pub shift_from : Span → Result Shape ShapeError → Result (List Bound) ShapeError → Result Shape ShapeError
shift_from span e offsets = do
  x ← e
  values ← offsets
  fault_told (moved_box span (box_of x) (values_of values))

abbrev pub concat_from : Span → ℕ → ℕ → Result (List Shape) ShapeError → Result Shape ShapeError
concat_from span width n parts = do
  xs ← parts
  fault_told (concat_shape span width n (map box_of xs))

abbrev pub domain_from : Result Shape ShapeError → Result Shape ShapeError
domain_from e = do
  x ← e
  Ok (box (box_of x))

abbrev pub scalar_from : Result Shape ShapeError → Result Shape ShapeError
scalar_from e = do
  x ← e
  Ok scalar

abbrev pub index_from : Way → Span → Result Shape ShapeError → Result (List Cut) ShapeError → Result Shape ShapeError
index_from Cell span e cuts = scalar_from e
index_from (Interval k) span e cuts = do
  x ← e
  Ok (box (interval_list (interval_at (box_of x) k)))
index_from Cells span e cuts = do
  x ← e
  all ← cuts
  fault_told (cut_shape span (box_of x) all)

-- ---- domains

-- a domain as it is found: its box is that of the definitions, wherever it stands
abbrev pub IsDomainFound : List Box → Domain → Written → Type 0
IsDomainFound domains domain found =
    (written : WrittenBounds) × (written_of domains domain ≡ Ok written) × ((span : Span) → written_box span written ≡ box_written span found)

abbrev pub SeesDomain : List Box → Domain → Result Written ShapeError → Type 0
SeesDomain domains domain (Ok found) = IsDomainFound domains domain found
SeesDomain domains domain (Err error) = StopsAs (written_of domains domain) error
