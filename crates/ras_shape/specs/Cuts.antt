-- The cuts of an index and written bounds, as the code has them.
use Rattle.std.specs.Prelude.{Bool, List, Result, Ok, Err, if◌then◌else◌}
use Rattle.std.specs.List.{list_any, zip}
use Rattle.ras_syntax.specs.declared.span.Span.{Span}
use Rattle.ras_syntax.specs.declared.faults.ShapeFault.TheVariants.{EmptyDomain, BoundOut}
use Rattle.spec_expressions.specs.Shape.{Cut, fixed, moving, between, broken, Box, ShapeMisfit, is_broken, is_empty_cut, is_outside, kept_axes}
use Rattle.ras_shape.specs.declared.cuts.Cut.{Cut as CutFound}
use Rattle.ras_shape.specs.declared.cuts.Cut.TheVariants as found

abbrev pub cut_found : CutFound → Cut
cut_found (found.Fixed z) = fixed z
cut_found found.Moving = moving
cut_found (found.Between lo hi) = between lo hi
cut_found found.Broken = broken

-- the box of written bounds, from their cuts
abbrev pub literal_box : Span → List Cut → Result Box ShapeMisfit
literal_box span cuts =
    if list_any is_broken cuts then Err (span, BoundOut) else
    if list_any is_empty_cut cuts then Err (span, EmptyDomain) else
    Ok (kept_axes cuts)

-- ---- tests of cuts

abbrev pub any_broken : List CutFound → Bool
any_broken cuts = list_any (λ cut. is_broken (cut_found cut)) cuts

abbrev pub any_empty : List CutFound → Bool
any_empty cuts = list_any (λ cut. is_empty_cut (cut_found cut)) cuts

abbrev pub any_outside : List CutFound → Box → Bool
any_outside cuts axes = list_any (λ both. is_outside (cut_found both.0, both.1)) (zip cuts axes)
