-- Where parts are looked at, by the definitions and by the code.
use Rattle.std.proofs.Common.{◌≡◌, ℕ, ◌+◌, ◌<◌, List, [], ◌∷◌, ◌++◌, length, map, drop, get_or, Bool, true, false, Option, Some, None, Result, Ok, Err, Vec, Global, refl, sym, ap, ◌∙◌}
use Rattle.std.specs.Prelude.{if◌then◌else◌}
use Rattle.std.specs.List.{list_any}
use Rattle.std.proofs.lemmas.List.{append-nil}
use Rattle.ras_cells.specs.Outcomes.{◌>>=◌}
use Rattle.ras_domain.specs.declared.region.Interval.{Interval}
use Rattle.ras_domain.specs.Boxes.{meet_of}
use Rattle.ras_domain.specs.Region.{is_empty}
use Rattle.ras_syntax.specs.declared.typed.TypedExpr.{TypedExpr}
use Rattle.spec_expressions.specs.Eval.{box_in, boxes_in}
use Rattle.spec_expressions.specs.Reach.{Boxes, Reached, box_named, form_reach, index_box, moved_back, positions_reach, reach_of, reached_within}
use Rattle.spec_expressions.specs.Shape.{Box, Shape, ShapeMisfit, box_of, shape_of, shapes_of}
use Rattle.spec_expressions.specs.Tree.{Tree, Axes, node, variable, number, domain_of, no_axes, position, index_form, tree_of}
use Rattle.ras_shape.specs.Trees.{trees_seen}
use Rattle.ras_reach.specs.Forms.{index_told}
use Rattle.ras_reach.specs.LookedAt.{box_if_shaped, box_unless_empty, operand_box_of, part_box_of, reached_at, shape_box_of, unless_empty_or_none}
use Rattle.ras_reach.specs.Moved.{boxes_held}
use Rattle.ras_reach.specs.Statics.{all_found, all_found_after, found_or_none, with_found}
use Rattle.ras_reach.proofs.Placing.{held_more}
use Rattle.ras_reach.proofs.StaticsSeen.{found_turn, found_stop, found_end, found_first}

-- ---- boxes

pub within_is : (o : Option Box) (reached : Box → Reached) → reached_within o reached ≡ reached_at (unless_empty_or_none o) reached
within_is None reached = refl
within_is (Some axes) reached = by_test (list_any is_empty axes) where
  by_test : (b : Bool) → (if b then [] else reached axes) ≡ reached_at (if b then None else Some axes) reached
  by_test true = refl
  by_test false = refl

pub part_within : (own place around : Box) (reached : Box → Reached)
    → reached_within (Some (meet_of around place)) (λ met. reached (moved_back place own met)) ≡ reached_at (part_box_of own place around) reached
part_within own place around reached = by_test (list_any is_empty (meet_of around place)) where
  by_test : (b : Bool) → (if b then [] else reached (moved_back place own (meet_of around place))) ≡ reached_at (if b then None else Some (moved_back place own (meet_of around place))) reached
  by_test true = refl
  by_test false = refl

-- an index looks at its operand in one box, and then at its positions
pub index_reached : (domains : List Box) (boxes : Boxes) (e : Tree) (axes : Axes) (around : Box)
    → form_reach domains boxes (index_form e axes) around
    ≡ reached_at (operand_box_of domains boxes e axes around (index_told e axes)) (reach_of domains boxes e) ++ positions_reach domains boxes axes
index_reached domains boxes (node s k (variable x)) (position (node t l (number n atom)) no_axes) around = refl
index_reached domains boxes (node s k (domain_of e)) (position (node t l (number n atom)) no_axes) around = refl
index_reached domains boxes e (position (node t l (variable x)) no_axes) around =
    within_is (Some (meet_of (box_named boxes x) (box_in (shape_of domains e)))) (reach_of domains boxes e)
    ∙ sym (append-nil (reached_at (box_unless_empty (meet_of (box_named boxes x) (box_in (shape_of domains e)))) (reach_of domains boxes e)))
index_reached domains boxes e axes around =
    ap (λ reached. reached ++ positions_reach domains boxes axes) (within_is (index_box domains boxes axes (box_in (shape_of domains e)) around) (reach_of domains boxes e))

-- ---- parts that are joined

abbrev boxes_seen : Result (List Shape) ShapeMisfit → Option (List Box)
boxes_seen (Ok shapes) = Some (map box_of shapes)
boxes_seen (Err misfit) = None

shapes_step : (r : Result Shape ShapeMisfit) (rest : Result (List Shape) ShapeMisfit)
    → boxes_seen (r >>= λ x. rest >>= λ xs. Ok (x ∷ xs)) ≡ with_found (box_if_shaped r) (boxes_seen rest)
shapes_step (Ok x) (Ok xs) = refl
shapes_step (Ok x) (Err misfit) = refl
shapes_step (Err misfit) rest = refl

shapes_found : (domains : List Box) (es : List TypedExpr) → boxes_seen (shapes_of domains (trees_seen es)) ≡ all_found (shape_box_of domains) es
shapes_found domains [] = refl
shapes_found domains (e ∷ es) =
    shapes_step (shape_of domains (tree_of e)) (shapes_of domains (trees_seen es)) ∙ ap (with_found (shape_box_of domains e)) (shapes_found domains es)

pub boxes_are : (domains : List Box) (es : List TypedExpr) → boxes_in (shapes_of domains (trees_seen es)) ≡ found_or_none (all_found (shape_box_of domains) es)
boxes_are domains es = by_value (shapes_of domains (trees_seen es)) ∙ ap found_or_none (shapes_found domains es) where
  by_value : (r : Result (List Shape) ShapeMisfit) → boxes_in r ≡ found_or_none (boxes_seen r)
  by_value (Ok shapes) = refl
  by_value (Err misfit) = refl

-- one more part's box
pub boxes_turn : (domains : List Box) (boxes : List (Vec Interval Global)) (axes : Vec Interval Global) (es : List TypedExpr) (i : ℕ) (d : TypedExpr) (w : Option (List Box))
    → i < length es → Some axes.items ≡ shape_box_of domains (get_or es i d)
    → all_found_after (boxes_held boxes) (all_found (shape_box_of domains) (drop i es)) ≡ w
    → all_found_after (boxes_held (boxes ++ axes ∷ [])) (all_found (shape_box_of domains) (drop (i + 1) es)) ≡ w
boxes_turn domains boxes axes es i d w within is so_far =
    ap (λ held. all_found_after held (all_found (shape_box_of domains) (drop (i + 1) es))) (held_more boxes axes)
    ∙ found_turn (shape_box_of domains) (boxes_held boxes) axes.items es i d w within (sym is) so_far

pub ruleset part_loops = (found_first, boxes_turn, found_stop, found_end, boxes_are)
