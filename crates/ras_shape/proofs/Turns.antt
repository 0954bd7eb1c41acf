-- The turns of the walk's loops, in the words of its calls.
use Rattle.std.proofs.Common.{◌≡◌, ℕ, ◌+◌, ◌<◌, ◌≤◌, List, [], ◌∷◌, ◌++◌, length, map, drop, get_or, Result, Ok, refl, ◌∙◌}
use Rattle.std.proofs.lemmas.List.{map-append}
use Rattle.ras_cells.specs.Outcomes.{◌>>=◌}
use Rattle.ras_syntax.specs.declared.typed.TypedExpr.{TypedExpr}
use Rattle.spec_expressions.specs.Tree.{tree_of}
use Rattle.spec_expressions.specs.Shape.{Box, Shape, ShapeMisfit, Bound, Cut as CutOf, cut_of, trim_cut, shape_of, static_of, shapes_of, pair_shapes, offsets_of}
use Rattle.ras_shape.specs.declared.form.Form.{Form}
use Rattle.ras_shape.specs.declared.form.ShapeError.{ShapeError}
use Rattle.ras_shape.specs.declared.look.Look.{Look}
use Rattle.ras_shape.specs.declared.cuts.Cut.{Cut}
use Rattle.ras_shape.specs.Cuts.{cut_found}
use Rattle.ras_shape.specs.Gives.{StopsAs, shape_of_form}
use Rattle.ras_shape.specs.Looks.{IsLook}
use Rattle.ras_shape.specs.Trees.{bound_cuts, pairs_seen, trees_seen}
use Rattle.ras_shape.proofs.Follow.{stops_bind}
use Rattle.ras_shape.proofs.Loops.{run_after, run_none, loop_turn, loop_stop, loop_end, shape_item, offset_item, pair_item, bound_item, run-shapes, run-offsets, run-pairs, run-bounds}

-- ---- shapes of a list

shape_item-is : (domains : List Box) (e : TypedExpr) (look : Look) → IsLook domains (tree_of e) look → shape_item domains e ≡ Ok (shape_of_form look.form ∷ [])
shape_item-is domains e look is = rw is.shape refl

pub shapes_begin : (domains : List Box) (es : List TypedExpr) → run_after (shape_item domains) [] es ≡ shapes_of domains (trees_seen es)
shapes_begin domains es = run_none (shape_item domains) es ∙ run-shapes domains es

pub shapes_turn : (domains : List Box) (es : List TypedExpr) (i : ℕ) (d : TypedExpr) (done : List Form) (look : Look) (w : Result (List Shape) ShapeMisfit)
    → i < length es → IsLook domains (tree_of (get_or es i d)) look → run_after (shape_item domains) (map shape_of_form done) (drop i es) ≡ w
    → run_after (shape_item domains) (map shape_of_form (done ++ look.form ∷ [])) (drop (i + 1) es) ≡ w
shapes_turn domains es i d done look w within is so_far =
    rw (map-append shape_of_form done (look.form ∷ []))
    (loop_turn (shape_item domains) (map shape_of_form done) (shape_of_form look.form ∷ []) es i d w within (shape_item-is domains (get_or es i d) look is) so_far)

pub shapes_stop : (domains : List Box) (es : List TypedExpr) (i : ℕ) (d : TypedExpr) (done : List Form) (error : ShapeError) (w : Result (List Shape) ShapeMisfit)
    → i < length es → StopsAs (shape_of domains (tree_of (get_or es i d))) error → run_after (shape_item domains) (map shape_of_form done) (drop i es) ≡ w → StopsAs w error
shapes_stop domains es i d done error w within stop so_far =
    loop_stop (shape_item domains) (map shape_of_form done) es i d w error within (stops_bind (shape_of domains (tree_of (get_or es i d))) (λ x. Ok (x ∷ [])) error stop) so_far

pub shapes_end : (domains : List Box) (es : List TypedExpr) (i : ℕ) (done : List Form) (w : Result (List Shape) ShapeMisfit)
    → length es ≤ i → run_after (shape_item domains) (map shape_of_form done) (drop i es) ≡ w → w ≡ Ok (map shape_of_form done)
shapes_end domains es i done w over so_far = loop_end (shape_item domains) (map shape_of_form done) es i w over so_far

pub ruleset shapes = (shapes_begin, shapes_turn, shapes_stop, shapes_end)

-- ---- values of offsets

offset_item-is : (domains : List Box) (e : TypedExpr) (look : Look) → IsLook domains (tree_of e) look → offset_item domains e ≡ Ok (look.value ∷ [])
offset_item-is domains e look is = rw (is.shape, is.value) refl

pub offsets_begin : (domains : List Box) (es : List TypedExpr) → run_after (offset_item domains) [] es ≡ offsets_of domains (trees_seen es)
offsets_begin domains es = run_none (offset_item domains) es ∙ run-offsets domains es

pub offsets_turn : (domains : List Box) (es : List TypedExpr) (i : ℕ) (d : TypedExpr) (done : List Bound) (look : Look) (w : Result (List Bound) ShapeMisfit)
    → i < length es → IsLook domains (tree_of (get_or es i d)) look → run_after (offset_item domains) done (drop i es) ≡ w
    → run_after (offset_item domains) (done ++ look.value ∷ []) (drop (i + 1) es) ≡ w
offsets_turn domains es i d done look w within is so_far =
    loop_turn (offset_item domains) done (look.value ∷ []) es i d w within (offset_item-is domains (get_or es i d) look is) so_far

pub offsets_stop : (domains : List Box) (es : List TypedExpr) (i : ℕ) (d : TypedExpr) (done : List Bound) (error : ShapeError) (w : Result (List Bound) ShapeMisfit)
    → i < length es → StopsAs (shape_of domains (tree_of (get_or es i d))) error → run_after (offset_item domains) done (drop i es) ≡ w → StopsAs w error
offsets_stop domains es i d done error w within stop so_far =
    loop_stop (offset_item domains) done es i d w error within
    (stops_bind (shape_of domains (tree_of (get_or es i d))) (λ x. Ok (static_of domains (tree_of (get_or es i d)) ∷ [])) error stop) so_far

pub offsets_end : (domains : List Box) (es : List TypedExpr) (i : ℕ) (done : List Bound) (w : Result (List Bound) ShapeMisfit)
    → length es ≤ i → run_after (offset_item domains) done (drop i es) ≡ w → w ≡ Ok done
offsets_end domains es i done w over so_far = loop_end (offset_item domains) done es i w over so_far

pub ruleset offsets = (offsets_begin, offsets_turn, offsets_stop, offsets_end)

-- ---- shapes of pairs

second-stops : (domains : List Box) (a b : TypedExpr) (B : Type 0) (look : Look) (k : Shape → Shape → B) (error : ShapeError) → IsLook domains (tree_of a) look
    → StopsAs (shape_of domains (tree_of b)) error
    → StopsAs (shape_of domains (tree_of a) >>= λ x. shape_of domains (tree_of b) >>= λ y. Ok (k x y)) error
second-stops domains a b B look k error is stop = rw is.shape (stops_bind (shape_of domains (tree_of b)) (λ y. Ok (k (shape_of_form look.form) y)) error stop)

pub pairs_begin : (domains : List Box) (ps : List (TypedExpr × TypedExpr)) → run_after (pair_item domains) [] ps ≡ pair_shapes domains (pairs_seen ps)
pairs_begin domains ps = run_none (pair_item domains) ps ∙ run-pairs domains ps

pair_item-is : (domains : List Box) (p : TypedExpr × TypedExpr) (a b : Look) → IsLook domains (tree_of p.0) a → IsLook domains (tree_of p.1) b
    → pair_item domains p ≡ Ok (shape_of_form a.form ∷ shape_of_form b.form ∷ [])
pair_item-is domains p a b first second = rw (first.shape, second.shape) refl

pub pairs_turn : (domains : List Box) (ps : List (TypedExpr × TypedExpr)) (i : ℕ) (d : TypedExpr × TypedExpr) (done : List Form) (a b : Look) (w : Result (List Shape) ShapeMisfit)
    → i < length ps → IsLook domains (tree_of (get_or ps i d).0) a → IsLook domains (tree_of (get_or ps i d).1) b
    → run_after (pair_item domains) (map shape_of_form done) (drop i ps) ≡ w
    → run_after (pair_item domains) (map shape_of_form (done ++ a.form ∷ b.form ∷ [])) (drop (i + 1) ps) ≡ w
pairs_turn domains ps i d done a b w within first second so_far =
    rw (map-append shape_of_form done (a.form ∷ b.form ∷ []))
    (loop_turn (pair_item domains) (map shape_of_form done) (shape_of_form a.form ∷ shape_of_form b.form ∷ []) ps i d w within (pair_item-is domains (get_or ps i d) a b first second) so_far)

pub pairs_end : (domains : List Box) (ps : List (TypedExpr × TypedExpr)) (i : ℕ) (done : List Form) (w : Result (List Shape) ShapeMisfit)
    → length ps ≤ i → run_after (pair_item domains) (map shape_of_form done) (drop i ps) ≡ w → w ≡ Ok (map shape_of_form done)
pairs_end domains ps i done w over so_far = loop_end (pair_item domains) (map shape_of_form done) ps i w over so_far

-- ---- cuts of bounds

pub bounds_begin : (domains : List Box) (ps : List (TypedExpr × TypedExpr)) → run_after (bound_item domains) [] ps ≡ bound_cuts domains (pairs_seen ps)
bounds_begin domains ps = run_none (bound_item domains) ps ∙ run-bounds domains ps

bound_item-is : (domains : List Box) (p : TypedExpr × TypedExpr) (a b : Look) (cut : Cut) → IsLook domains (tree_of p.0) a → IsLook domains (tree_of p.1) b → cut_found cut ≡ trim_cut a.value b.value
    → bound_item domains p ≡ Ok (cut_found cut ∷ [])
bound_item-is domains p a b cut first second is = rw (first.shape, second.shape, first.value, second.value, is) refl

pub bounds_turn : (domains : List Box) (ps : List (TypedExpr × TypedExpr)) (i : ℕ) (d : TypedExpr × TypedExpr) (done : List Cut) (a b : Look) (cut : Cut) (w : Result (List CutOf) ShapeMisfit)
    → i < length ps → IsLook domains (tree_of (get_or ps i d).0) a → IsLook domains (tree_of (get_or ps i d).1) b → cut_found cut ≡ trim_cut a.value b.value
    → run_after (bound_item domains) (map cut_found done) (drop i ps) ≡ w
    → run_after (bound_item domains) (map cut_found (done ++ cut ∷ [])) (drop (i + 1) ps) ≡ w
bounds_turn domains ps i d done a b cut w within first second is so_far =
    rw (map-append cut_found done (cut ∷ []))
    (loop_turn (bound_item domains) (map cut_found done) (cut_found cut ∷ []) ps i d w within (bound_item-is domains (get_or ps i d) a b cut first second is) so_far)

pub bounds_end : (domains : List Box) (ps : List (TypedExpr × TypedExpr)) (i : ℕ) (done : List Cut) (w : Result (List CutOf) ShapeMisfit)
    → length ps ≤ i → run_after (bound_item domains) (map cut_found done) (drop i ps) ≡ w → w ≡ Ok (map cut_found done)
bounds_end domains ps i done w over so_far = loop_end (bound_item domains) (map cut_found done) ps i w over so_far

pub bounds_first_stop : (domains : List Box) (ps : List (TypedExpr × TypedExpr)) (i : ℕ) (d : TypedExpr × TypedExpr) (done : List Cut) (error : ShapeError) (w : Result (List CutOf) ShapeMisfit)
    → i < length ps → StopsAs (shape_of domains (tree_of (get_or ps i d).0)) error → run_after (bound_item domains) (map cut_found done) (drop i ps) ≡ w → StopsAs w error
bounds_first_stop domains ps i d done error w within stop so_far =
    let p = get_or ps i d in
    loop_stop (bound_item domains) (map cut_found done) ps i d w error within
    (stops_bind (shape_of domains (tree_of p.0)) (λ x. shape_of domains (tree_of p.1) >>= λ y. Ok (cut_of (static_of domains (tree_of p.0), static_of domains (tree_of p.1)) ∷ [])) error stop) so_far

pub bounds_second_stop : (domains : List Box) (ps : List (TypedExpr × TypedExpr)) (i : ℕ) (d : TypedExpr × TypedExpr) (done : List Cut) (a : Look) (error : ShapeError)
    (w : Result (List CutOf) ShapeMisfit)
    → i < length ps → IsLook domains (tree_of (get_or ps i d).0) a → StopsAs (shape_of domains (tree_of (get_or ps i d).1)) error
    → run_after (bound_item domains) (map cut_found done) (drop i ps) ≡ w → StopsAs w error
bounds_second_stop domains ps i d done a error w within first stop so_far =
    let p = get_or ps i d in
    loop_stop (bound_item domains) (map cut_found done) ps i d w error within
    (second-stops domains p.0 p.1 (List CutOf) a (λ x y. cut_of (static_of domains (tree_of p.0), static_of domains (tree_of p.1)) ∷ []) error first stop) so_far

pub ruleset bounds = (bounds_begin, bounds_turn, bounds_end, bounds_first_stop, bounds_second_stop)

pub pairs_first_stop : (domains : List Box) (ps : List (TypedExpr × TypedExpr)) (i : ℕ) (d : TypedExpr × TypedExpr) (done : List Form) (error : ShapeError) (w : Result (List Shape) ShapeMisfit)
    → i < length ps → StopsAs (shape_of domains (tree_of (get_or ps i d).0)) error → run_after (pair_item domains) (map shape_of_form done) (drop i ps) ≡ w → StopsAs w error
pairs_first_stop domains ps i d done error w within stop so_far =
    let p = get_or ps i d in
    loop_stop (pair_item domains) (map shape_of_form done) ps i d w error within
    (stops_bind (shape_of domains (tree_of p.0)) (λ x. shape_of domains (tree_of p.1) >>= λ y. Ok (x ∷ y ∷ [])) error stop) so_far

pub pairs_second_stop : (domains : List Box) (ps : List (TypedExpr × TypedExpr)) (i : ℕ) (d : TypedExpr × TypedExpr) (done : List Form) (a : Look) (error : ShapeError)
    (w : Result (List Shape) ShapeMisfit)
    → i < length ps → IsLook domains (tree_of (get_or ps i d).0) a → StopsAs (shape_of domains (tree_of (get_or ps i d).1)) error
    → run_after (pair_item domains) (map shape_of_form done) (drop i ps) ≡ w → StopsAs w error
pairs_second_stop domains ps i d done a error w within first stop so_far =
    let p = get_or ps i d in
    loop_stop (pair_item domains) (map shape_of_form done) ps i d w error within
    (second-stops domains p.0 p.1 (List Shape) a (λ x y. x ∷ y ∷ []) error first stop) so_far

pub ruleset pairs_turns = (pairs_begin, pairs_turn, pairs_end, pairs_first_stop, pairs_second_stop)
