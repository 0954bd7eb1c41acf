-- The turns of the loop over the axes of an index.
use Rattle.std.proofs.Common.{◌≡◌, ℕ, zero, suc, ◌+◌, ◌<◌, ◌≤◌, List, [], ◌∷◌, ◌++◌, length, map, drop, get_or, Result, Ok, Err, Option, Some, None, refl, sym, ap, subst, ◌∙◌, append_assoc, arith}
use Rattle.std.specs.Prelude.{slice_get}
use Rattle.std.proofs.lemmas.List.{map-append, at_drop_more, at_drop_all, append-nil}
use Rattle.ras_cells.specs.Outcomes.{◌>>=◌}
use Rattle.ras_domain.specs.declared.region.Interval.{Interval}
use Rattle.ras_syntax.specs.declared.typed.TypedAxis.{TypedAxis}
use Rattle.spec_expressions.specs.Tree.{Axes}
use Rattle.spec_expressions.specs.Check.{tree_of_axes}
use Rattle.spec_expressions.specs.Shape.{Box, ShapeMisfit, Cut as CutOf, cuts_of}
use Rattle.ras_shape.specs.declared.form.ShapeError.{ShapeError}
use Rattle.ras_shape.specs.declared.cuts.Cut.{Cut}
use Rattle.ras_shape.specs.Cuts.{cut_found}
use Rattle.ras_shape.specs.Gives.{StopsAs}
use Rattle.ras_shape.specs.Trees.{StepsCut, axis_and, axis_seen}
use Rattle.ras_shape.proofs.Follow.{stops_bind}
use Rattle.ras_shape.proofs.Loops.{cuts_after}

axes_drop : (axes : Box) (i : ℕ) → drop i axes ≡ axis_and (slice_get axes i) (drop (suc i) axes)
axes_drop [] zero = refl
axes_drop [] (suc i) = refl
axes_drop (axis ∷ axes) zero = refl
axes_drop (axis ∷ axes) (suc i) = axes_drop axes i

more : (i : ℕ) → i + 1 ≡ suc i
more i = omega arith

-- the cuts from an axis on, by that axis
cuts_whole : (domains : List Box) (index : List TypedAxis) (axes : Box) (i : ℕ) (x : TypedAxis) (done : List CutOf) → i < length index → x ≡ get_or index i x
    → cuts_after domains done (drop i index) (drop i axes)
    ≡ (cuts_of domains (axis_seen x (tree_of_axes (drop (i + 1) index))) (axis_and (slice_get axes i) (drop (i + 1) axes)) >>= λ cuts. Ok (done ++ cuts))
cuts_whole domains index axes i x done within is =
    let rest : drop i axes ≡ axis_and (slice_get axes i) (drop (i + 1) axes) = axes_drop axes i ∙ ap (λ n. axis_and (slice_get axes i) (drop n axes)) (sym (more i)) in
    ap (cuts_after domains done (drop i index)) rest
    ∙ at_drop_more (λ xs. cuts_after domains done xs (axis_and (slice_get axes i) (drop (i + 1) axes))) index i x within
    ∙ ap (λ y. cuts_of domains (axis_seen y (tree_of_axes (drop (i + 1) index))) (axis_and (slice_get axes i) (drop (i + 1) axes)) >>= λ cuts. Ok (done ++ cuts)) (sym is)

one_more : (done : List Cut) (found : Cut) (r : Result (List CutOf) ShapeMisfit)
    → ((r >>= λ cuts. Ok (cut_found found ∷ cuts)) >>= λ cuts. Ok (map cut_found done ++ cuts)) ≡ (r >>= λ cuts. Ok (map cut_found (done ++ found ∷ []) ++ cuts))
one_more done found (Ok cuts) =
    ap (λ all. Ok all) (sym (append_assoc (map cut_found done) (cut_found found ∷ []) cuts) ∙ ap (λ all. all ++ cuts) (sym (map-append cut_found done (found ∷ []))))
one_more done found (Err misfit) = refl

-- what an axis of the index makes of an axis of the array, whatever comes after them
abbrev pub StepsEach : List Box → TypedAxis → Option Interval → Result (Option Cut) ShapeError → Type 0
StepsEach domains x axis r = (others : Axes) (rest : Box) → StepsCut (cuts_of domains (axis_seen x others) (axis_and axis rest)) (cuts_of domains others rest) r

pub cuts_begin : (domains : List Box) (index : List TypedAxis) (axes : Box) → cuts_after domains [] index axes ≡ cuts_of domains (tree_of_axes index) axes
cuts_begin domains index axes = keeps (cuts_of domains (tree_of_axes index) axes) where
  keeps : (r : Result (List CutOf) ShapeMisfit) → (r >>= λ cuts. Ok ([] ++ cuts)) ≡ r
  keeps (Ok cuts) = refl
  keeps (Err misfit) = refl

pub cuts_turn : (domains : List Box) (index : List TypedAxis) (axes : Box) (i : ℕ) (x : TypedAxis) (done : List Cut) (found : Cut) (w : Result (List CutOf) ShapeMisfit)
    → i < length index → x ≡ get_or index i x → StepsEach domains x (slice_get axes i) (Ok (Some found))
    → cuts_after domains (map cut_found done) (drop i index) (drop i axes) ≡ w
    → cuts_after domains (map cut_found (done ++ found ∷ [])) (drop (i + 1) index) (drop (i + 1) axes) ≡ w
cuts_turn domains index axes i x done found w within is steps so_far =
    sym (one_more done found (cuts_of domains (tree_of_axes (drop (i + 1) index)) (drop (i + 1) axes)))
    ∙ ap (λ r. r >>= λ cuts. Ok (map cut_found done ++ cuts)) (sym (steps (tree_of_axes (drop (i + 1) index)) (drop (i + 1) axes)))
    ∙ sym (cuts_whole domains index axes i x (map cut_found done) within is) ∙ so_far

-- where the array has no more axes
pub cuts_over : (domains : List Box) (index : List TypedAxis) (axes : Box) (i : ℕ) (x : TypedAxis) (done : List Cut) (w : Result (List CutOf) ShapeMisfit)
    → i < length index → x ≡ get_or index i x → StepsEach domains x (slice_get axes i) (Ok None)
    → cuts_after domains (map cut_found done) (drop i index) (drop i axes) ≡ w → w ≡ Ok (map cut_found done)
cuts_over domains index axes i x done w within is steps so_far =
    sym so_far ∙ cuts_whole domains index axes i x (map cut_found done) within is
    ∙ ap (λ r. r >>= λ cuts. Ok (map cut_found done ++ cuts)) (steps (tree_of_axes (drop (i + 1) index)) (drop (i + 1) axes)) ∙ ap (λ all. Ok all) (append-nil (map cut_found done))

pub cuts_stop : (domains : List Box) (index : List TypedAxis) (axes : Box) (i : ℕ) (x : TypedAxis) (done : List Cut) (error : ShapeError) (w : Result (List CutOf) ShapeMisfit)
    → i < length index → x ≡ get_or index i x → StepsEach domains x (slice_get axes i) (Err error)
    → cuts_after domains (map cut_found done) (drop i index) (drop i axes) ≡ w → StopsAs w error
cuts_stop domains index axes i x done error w within is steps so_far =
    subst (λ r. StopsAs r error) (sym (cuts_whole domains index axes i x (map cut_found done) within is) ∙ so_far)
    (stops_bind (cuts_of domains (axis_seen x (tree_of_axes (drop (i + 1) index))) (axis_and (slice_get axes i) (drop (i + 1) axes))) (λ cuts. Ok (map cut_found done ++ cuts)) error
    (steps (tree_of_axes (drop (i + 1) index)) (drop (i + 1) axes)))

pub cuts_end : (domains : List Box) (index : List TypedAxis) (axes : Box) (i : ℕ) (done : List Cut) (w : Result (List CutOf) ShapeMisfit) → length index ≤ i
    → cuts_after domains (map cut_found done) (drop i index) (drop i axes) ≡ w → w ≡ Ok (map cut_found done)
cuts_end domains index axes i done w past so_far =
    sym so_far ∙ at_drop_all (λ xs. cuts_after domains (map cut_found done) xs (drop i axes)) index i past ∙ ap (λ all. Ok all) (append-nil (map cut_found done))

pub ruleset index_turns = (cuts_begin, cuts_turn, cuts_over, cuts_stop, cuts_end)
