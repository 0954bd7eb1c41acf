-- Values, bounds and offsets of the definitions are those that the code finds.
use Rattle.std.proofs.Common.{◌≡◌, ℕ, ℤ, ◌+◌, ◌<◌, ◌≤◌, List, [], ◌∷◌, ◌++◌, length, map, drop, get_or, Bool, true, false, Option, Some, None, Result, Ok, Err, refl, sym, ap, ◌∙◌, append_assoc}
use Rattle.std.specs.Prelude.{◌&&◌, ◌||◌, not, int_lt, if◌then◌else◌, slice_get, is_ok, codes}
use Rattle.std.specs.Result.{result_ok}
use Rattle.std.specs.List.{list_any}
use Rattle.std.proofs.lemmas.List.{at_drop_more, at_drop_all, append-nil}
use Rattle.ras_cells.specs.declared.cell.CellFault.TheVariants.{Overflow}
use Rattle.ras_cells.specs.Outcomes.{◌>>=◌}
use Rattle.ras_domain.specs.declared.region.Interval.{Interval}
use Rattle.ras_syntax.specs.declared.span.Span.{Span}
use Rattle.ras_syntax.specs.declared.faults.ShapeFault.TheVariants.{EmptyDomain, BoundOut}
use Rattle.ras_syntax.specs.declared.expr.Part.{Part}
use Rattle.ras_syntax.specs.declared.expr.Part.TheVariants as parts
use Rattle.ras_syntax.specs.declared.typed.Kind.{Kind}
use Rattle.ras_syntax.specs.declared.typed.TypedExpr.{TypedExpr}
use Rattle.spec_expressions.specs.Tree.{Side, Tree, Axes, index_form, lower, upper, node, tree_of, bounds, bound_of, interval_of, part_form, is_same_name}
use Rattle.spec_expressions.specs.Eval.{axes_in, box_in, numbers_or_none, offsets_in, written_in}
use Rattle.spec_expressions.specs.Shape.{Box, Shape, ShapeMisfit, Bound, box, box_of, bounds_of, broken, between, cut_of, Cut, interval_at, interval_list, is_broken, is_empty_cut}
use Rattle.spec_expressions.specs.Shape.{is_small, kept_axes, literal, offsets_of, shape_of, side_of, side_of_shape, static_form, static_of, values_of, with_value}
use Rattle.spec_expressions.specs.Shape.{written_box, written_of}
use Rattle.ras_shape.specs.Trees.{pairs_seen, trees_seen}
use Rattle.ras_shape.specs.Ways.{is_axis_of_domain}
use Rattle.ras_shape.proofs.Indexing.{index-value}
use Rattle.ras_reach.specs.declared.forms.PartForm.TheVariants.{Lower, Upper}
use Rattle.ras_reach.specs.Forms.{part_told}
use Rattle.ras_reach.specs.Statics.{all_found, all_found_after, interval_between, interval_found, found_or_none, number_found, part_value_of, with_found}

-- ---- loops

after_some : {A : Type 0} (before : List A) (x : A) (others : Option (List A)) → all_found_after before (with_found (Some x) others) ≡ all_found_after (before ++ x ∷ []) others
after_some before x None = refl
after_some before x (Some xs) = ap (λ all. Some all) (sym (append_assoc before (x ∷ []) xs))

pub found_first : {X A : Type 0} (find : X → Option A) (xs : List X) → all_found_after [] (all_found find xs) ≡ all_found find xs
found_first find xs = same (all_found find xs) where
  same : {A : Type 0} (o : Option (List A)) → all_found_after [] o ≡ o
  same None = refl
  same (Some ys) = refl

-- one more item is found
pub found_turn : {X A : Type 0} (find : X → Option A) (before : List A) (y : A) (xs : List X) (i : ℕ) (d : X) (w : Option (List A))
    → i < length xs → find (get_or xs i d) ≡ Some y → all_found_after before (all_found find (drop i xs)) ≡ w → all_found_after (before ++ y ∷ []) (all_found find (drop (i + 1) xs)) ≡ w
found_turn find before y xs i d w within is so_far =
    sym (after_some before y (all_found find (drop (i + 1) xs)))
    ∙ ap (λ o. all_found_after before (with_found o (all_found find (drop (i + 1) xs)))) (sym is)
    ∙ sym (at_drop_more (λ rest. all_found_after before (all_found find rest)) xs i d within) ∙ so_far

-- nothing is found of an item, and so of all
pub found_stop : {X A : Type 0} (find : X → Option A) (before : List A) (xs : List X) (i : ℕ) (d : X) (w : Option (List A))
    → i < length xs → find (get_or xs i d) ≡ None → all_found_after before (all_found find (drop i xs)) ≡ w → w ≡ None
found_stop find before xs i d w within is so_far =
    sym so_far ∙ at_drop_more (λ rest. all_found_after before (all_found find rest)) xs i d within
    ∙ ap (λ o. all_found_after before (with_found o (all_found find (drop (i + 1) xs)))) is

pub found_end : {X A : Type 0} (find : X → Option A) (before : List A) (xs : List X) (i : ℕ) (w : Option (List A))
    → length xs ≤ i → all_found_after before (all_found find (drop i xs)) ≡ w → w ≡ Some before
found_end find before xs i w over so_far =
    sym so_far ∙ at_drop_all (λ rest. all_found_after before (all_found find rest)) xs i over ∙ ap (λ all. Some all) (append-nil before)

-- ---- offsets

abbrev offsets_value : Result (List Bound) ShapeMisfit → Option (List ℤ)
offsets_value (Ok values) = values_of values
offsets_value (Err misfit) = None

with_value-is : (z : ℤ) (o : Option (List ℤ)) → with_value z o ≡ with_found (Some z) o
with_value-is z None = refl
with_value-is z (Some zs) = refl

offset_step : (r : Result Shape ShapeMisfit) (v : Bound) (rest : Result (List Bound) ShapeMisfit)
    → offsets_value (r >>= λ inner. rest >>= λ values. Ok (v ∷ values)) ≡ with_found (if is_ok r then result_ok v else None) (offsets_value rest)
offset_step (Ok x) (Ok z) (Ok values) = with_value-is z (values_of values)
offset_step (Ok x) (Ok z) (Err misfit) = refl
offset_step (Ok x) (Err fault) (Ok values) = refl
offset_step (Ok x) (Err fault) (Err misfit) = refl
offset_step (Err misfit) v rest = refl

offsets_found : (domains : List Box) (es : List TypedExpr) → offsets_value (offsets_of domains (trees_seen es)) ≡ all_found (number_found domains) es
offsets_found domains [] = refl
offsets_found domains (e ∷ es) =
    offset_step (shape_of domains (tree_of e)) (static_of domains (tree_of e)) (offsets_of domains (trees_seen es))
    ∙ ap (with_found (number_found domains e)) (offsets_found domains es)

pub offsets_are : (domains : List Box) (es : List TypedExpr) → offsets_in (offsets_of domains (trees_seen es)) ≡ found_or_none (all_found (number_found domains) es)
offsets_are domains es = by_value (offsets_of domains (trees_seen es)) ∙ ap found_or_none (offsets_found domains es) where
  by_option : (o : Option (List ℤ)) → numbers_or_none o ≡ found_or_none o
  by_option None = refl
  by_option (Some zs) = refl

  by_value : (r : Result (List Bound) ShapeMisfit) → offsets_in r ≡ found_or_none (offsets_value r)
  by_value (Ok values) = by_option (values_of values)
  by_value (Err misfit) = refl

-- ---- written bounds

-- where no cut is broken or empty, the axes
abbrev kept_where : Bool → Bool → Box → Option Box
kept_where true empty axes = None
kept_where false true axes = None
kept_where false false axes = Some axes

abbrev ends_kept : List (Bound × Bound) → Option Box
ends_kept ends = kept_where (list_any is_broken (map cut_of ends)) (list_any is_empty_cut (map cut_of ends)) (kept_axes (map cut_of ends))

abbrev end_found : Bound × Bound → Option Interval
end_found both = interval_between (result_ok both.0) (result_ok both.1)

kept_between : (empty broken_rest empty_rest : Bool) (x : Interval) (axes : Box)
    → kept_where (false || broken_rest) (empty || empty_rest) (x ∷ axes) ≡ with_found (if true && not empty then Some x else None) (kept_where broken_rest empty_rest axes)
kept_between true true empty_rest x axes = refl
kept_between true false empty_rest x axes = refl
kept_between false true empty_rest x axes = refl
kept_between false false true x axes = refl
kept_between false false false x axes = refl

kept_step : (lo hi : ℤ) (small : Bool) (cuts : List Cut) (broken_rest empty_rest : Bool)
    → kept_where (is_broken (if small then between lo hi else broken) || broken_rest) (is_empty_cut (if small then between lo hi else broken) || empty_rest)
    (kept_axes ((if small then between lo hi else broken) ∷ cuts))
    ≡ with_found (if small && not (int_lt hi lo) then Some (record { lo = lo; hi = hi }) else None) (kept_where broken_rest empty_rest (kept_axes cuts))
kept_step lo hi true cuts broken_rest empty_rest = kept_between (int_lt hi lo) broken_rest empty_rest (record { lo = lo; hi = hi }) (kept_axes cuts)
kept_step lo hi false cuts broken_rest empty_rest = refl

ends_are : (ends : List (Bound × Bound)) → ends_kept ends ≡ all_found end_found ends
ends_are [] = refl
ends_are ((Ok lo, Ok hi) ∷ ends) =
    kept_step lo hi (is_small lo && is_small hi) (map cut_of ends) (list_any is_broken (map cut_of ends)) (list_any is_empty_cut (map cut_of ends))
    ∙ ap (with_found (end_found (Ok lo, Ok hi))) (ends_are ends)
ends_are ((Ok lo, Err fault) ∷ ends) = refl
ends_are ((Err fault, hi) ∷ ends) = refl

abbrev box_value : Result (List (Bound × Bound)) ShapeMisfit → Option Box
box_value (Ok ends) = all_found end_found ends
box_value (Err misfit) = None

with_none : {A : Type 0} (o : Option A) → None ≡ with_found o None
with_none None = refl
with_none (Some x) = refl

between_none : (o : Option ℤ) (others : Option Box) → None ≡ with_found (interval_between o None) others
between_none None others = refl
between_none (Some z) others = refl

bounds_step : (a b : Result Shape ShapeMisfit) (lo hi : Bound) (rest : Result (List (Bound × Bound)) ShapeMisfit)
    → box_value (a >>= λ x. b >>= λ y. rest >>= λ values. Ok ((lo, hi) ∷ values))
    ≡ with_found (interval_between (if is_ok a then result_ok lo else None) (if is_ok b then result_ok hi else None)) (box_value rest)
bounds_step (Ok x) (Ok y) lo hi (Ok values) = refl
bounds_step (Ok x) (Ok y) lo hi (Err misfit) = with_none (interval_between (result_ok lo) (result_ok hi))
bounds_step (Ok x) (Err misfit) lo hi rest = between_none (result_ok lo) (box_value rest)
bounds_step (Err misfit) b lo hi rest = refl

bounds_found : (domains : List Box) (ps : List (TypedExpr × TypedExpr)) → box_value (bounds_of domains (pairs_seen ps)) ≡ all_found (interval_found domains) ps
bounds_found domains [] = refl
bounds_found domains (p ∷ ps) =
    bounds_step (shape_of domains (tree_of p.0)) (shape_of domains (tree_of p.1)) (static_of domains (tree_of p.0)) (static_of domains (tree_of p.1)) (bounds_of domains (pairs_seen ps))
    ∙ ap (with_found (interval_found domains p)) (bounds_found domains ps)

chosen : (span : Span) (is_broken_one is_empty_one : Bool) (axes : Box)
    → axes_in (if is_broken_one then Err (span, BoundOut) else if is_empty_one then Err (span, EmptyDomain) else Ok axes) ≡ found_or_none (kept_where is_broken_one is_empty_one axes)
chosen span true is_empty_one axes = refl
chosen span false true axes = refl
chosen span false false axes = refl

written_ends : (span : Span) (ends : List (Bound × Bound)) → axes_in (written_box span (literal ends)) ≡ found_or_none (all_found end_found ends)
written_ends span ends =
    chosen span (list_any is_broken (map cut_of ends)) (list_any is_empty_cut (map cut_of ends)) (kept_axes (map cut_of ends)) ∙ ap found_or_none (ends_are ends)

pub bounds_are : (domains : List Box) (ps : List (TypedExpr × TypedExpr))
    → axes_in (written_in (written_of domains (bounds (pairs_seen ps)))) ≡ found_or_none (all_found (interval_found domains) ps)
bounds_are domains ps = by_value (bounds_of domains (pairs_seen ps)) ∙ ap found_or_none (bounds_found domains ps) where
  by_value : (r : Result (List (Bound × Bound)) ShapeMisfit) → axes_in (written_in (r >>= λ values. Ok (literal values))) ≡ found_or_none (box_value r)
  by_value (Ok ends) = written_ends (record { from = 0; to = 0 }) ends
  by_value (Err misfit) = refl

-- ---- parts

side-first : (side : Side) (o : Option Interval) → side_of side o ≡ side_of side (slice_get (interval_list o) 0)
side-first lower None = refl
side-first lower (Some axis) = refl
side-first upper None = refl
side-first upper (Some axis) = refl

-- the bound of a domain's axis is the bound of the only axis of its box
pub bound_first : (domains : List Box) (s : Span) (k : Kind) (e : Tree) (n : ℤ) (side : Side)
    → static_form domains (bound_of side e n) ≡ side_of side (slice_get (box_in (shape_of domains (node s k (interval_of e n)))) 0)
bound_first domains s k e n side = by_shape (shape_of domains e) side where
  by_shape : (r : Result Shape ShapeMisfit) (side : Side)
      → side_of_shape side n r ≡ side_of side (slice_get (box_in (r >>= λ x. Ok (box (interval_list (interval_at (box_of x) n))))) 0)
  by_shape (Ok x) side = side-first side (interval_at (box_of x) n)
  by_shape (Err misfit) lower = refl
  by_shape (Err misfit) upper = refl

pub part_static : (domains : List Box) (e : Tree) (part : Part)
    → static_form domains (part_form e part) ≡ part_value_of (part_told part (is_axis_of_domain e)) (box_in (shape_of domains e))
part_static domains (node s k (interval_of e n)) (parts.Named name) =
    elim (is_same_name name (codes "lo")) as (λ b. static_form domains (if b then bound_of lower e n else bound_of upper e n)
    ≡ part_value_of (if b then Lower else Upper) (box_in (shape_of domains (node s k (interval_of e n)))))
    [ true ↦ bound_first domains s k e n lower | false ↦ bound_first domains s k e n upper ]
part_static domains e (parts.Named name) = refl
part_static domains e (parts.Numbered n) = refl

-- an index isn't static
pub index_static : (domains : List Box) (e : Tree) (axes : Axes) → static_form domains (index_form e axes) ≡ Err Overflow
index_static domains e axes = index-value domains e axes

pub ruleset found_loops = (found_first, found_turn, found_stop, found_end)
