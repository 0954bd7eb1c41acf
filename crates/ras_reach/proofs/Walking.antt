-- Loops that collect what a list of parts reads.
use Rattle.std.proofs.Common.{◌≡◌, ℕ, ◌+◌, ◌<◌, ◌≤◌, List, [], ◌∷◌, ◌++◌, length, drop, get_or, Vec, Global, refl, sym, ap, ◌∙◌, append_assoc}
use Rattle.std.proofs.lemmas.List.{at_drop_more, at_drop_all, append-nil}
use Rattle.ras_domain.specs.declared.region.Interval.{Interval}
use Rattle.ras_syntax.specs.declared.typed.TypedExpr.{TypedExpr}
use Rattle.ras_syntax.specs.declared.typed.TypedAxis.{TypedAxis}
use Rattle.spec_expressions.specs.Check.{tree_of_axes}
use Rattle.spec_expressions.specs.Reach.{Boxes, Reached, pairs_reach, parts_reach, positions_reach, reach_of, trees_reach}
use Rattle.spec_expressions.specs.Shape.{Box}
use Rattle.spec_expressions.specs.Tree.{Trees, no_axes, no_trees, trees, tree_of}
use Rattle.ras_shape.specs.Trees.{axis_seen, pairs_seen, trees_seen}
use Rattle.ras_reach.specs.LookedAt.{part_box_of, reached_at}
use Rattle.ras_reach.specs.Moved.{boxes_held}
use Rattle.ras_reach.proofs.AxesRead.{positions_split}
use Rattle.ras_reach.proofs.LookedAtSeen.{part_within}

module _ (domains : List Box) (boxes : Boxes) (around : Box) where
  -- ---- lists

  pub trees_turn : (es : List TypedExpr) (i : ℕ) (d : TypedExpr) (done after w : Reached) → i < length es → after ≡ done ++ reach_of domains boxes (tree_of (get_or es i d)) around
      → done ++ trees_reach domains boxes (trees_seen (drop i es)) around ≡ w → after ++ trees_reach domains boxes (trees_seen (drop (i + 1) es)) around ≡ w
  trees_turn es i d done after w within is so_far =
      ap (λ reached. reached ++ trees_reach domains boxes (trees_seen (drop (i + 1) es)) around) is
      ∙ append_assoc done (reach_of domains boxes (tree_of (get_or es i d)) around) (trees_reach domains boxes (trees_seen (drop (i + 1) es)) around)
      ∙ sym (at_drop_more (λ rest. done ++ trees_reach domains boxes (trees_seen rest) around) es i d within) ∙ so_far

  pub trees_end : (es : List TypedExpr) (i : ℕ) (done w : Reached) → length es ≤ i → done ++ trees_reach domains boxes (trees_seen (drop i es)) around ≡ w → done ≡ w
  trees_end es i done w over so_far =
      sym (append-nil done) ∙ sym (at_drop_all (λ rest. done ++ trees_reach domains boxes (trees_seen rest) around) es i over) ∙ so_far

  pub pairs_turn : (ps : List (TypedExpr × TypedExpr)) (i : ℕ) (d : TypedExpr × TypedExpr) (done first after w : Reached) → i < length ps
      → first ≡ done ++ reach_of domains boxes (tree_of (get_or ps i d).0) around → after ≡ first ++ reach_of domains boxes (tree_of (get_or ps i d).1) around
      → done ++ pairs_reach domains boxes (pairs_seen (drop i ps)) around ≡ w → after ++ pairs_reach domains boxes (pairs_seen (drop (i + 1) ps)) around ≡ w
  pairs_turn ps i d done first after w within one two so_far =
      ap (λ reached. reached ++ pairs_reach domains boxes (pairs_seen (drop (i + 1) ps)) around)
      (two ∙ ap (λ reached. reached ++ reach_of domains boxes (tree_of (get_or ps i d).1) around) one
      ∙ append_assoc done (reach_of domains boxes (tree_of (get_or ps i d).0) around) (reach_of domains boxes (tree_of (get_or ps i d).1) around))
      ∙ append_assoc done (reach_of domains boxes (tree_of (get_or ps i d).0) around ++ reach_of domains boxes (tree_of (get_or ps i d).1) around)
      (pairs_reach domains boxes (pairs_seen (drop (i + 1) ps)) around)
      ∙ sym (at_drop_more (λ rest. done ++ pairs_reach domains boxes (pairs_seen rest) around) ps i d within) ∙ so_far

  pub pairs_end : (ps : List (TypedExpr × TypedExpr)) (i : ℕ) (done w : Reached) → length ps ≤ i → done ++ pairs_reach domains boxes (pairs_seen (drop i ps)) around ≡ w → done ≡ w
  pairs_end ps i done w over so_far =
      sym (append-nil done) ∙ sym (at_drop_all (λ rest. done ++ pairs_reach domains boxes (pairs_seen rest) around) ps i over) ∙ so_far

  -- ---- joined parts

  no_owns : (ts : Trees) (places : List Box) → parts_reach domains boxes ts [] places around ≡ []
  no_owns no_trees places = refl
  no_owns (trees e es) places = refl

  no_places : (ts : Trees) (owns : List Box) → parts_reach domains boxes ts owns [] around ≡ []
  no_places no_trees owns = refl
  no_places (trees e es) [] = refl
  no_places (trees e es) (own ∷ owns) = refl

  pub parts_turn : (es : List TypedExpr) (owns places : List (Vec Interval Global)) (i : ℕ) (d : TypedExpr) (own place : Vec Interval Global) (done after w : Reached)
      → i < length es → i < length owns → i < length places → own ≡ get_or owns i own → place ≡ get_or places i place
      → after ≡ done ++ reached_at (part_box_of own.items place.items around) (reach_of domains boxes (tree_of (get_or es i d)))
      → done ++ parts_reach domains boxes (trees_seen (drop i es)) (boxes_held (drop i owns)) (boxes_held (drop i places)) around ≡ w
      → after ++ parts_reach domains boxes (trees_seen (drop (i + 1) es)) (boxes_held (drop (i + 1) owns)) (boxes_held (drop (i + 1) places)) around ≡ w
  parts_turn es owns places i d own place done after w in_es in_owns in_places own_is place_is is so_far =
      let e = get_or es i d in
      let others = parts_reach domains boxes (trees_seen (drop (i + 1) es)) (boxes_held (drop (i + 1) owns)) (boxes_held (drop (i + 1) places)) around in
      ap (λ reached. reached ++ others) is
      ∙ append_assoc done (reached_at (part_box_of own.items place.items around) (reach_of domains boxes (tree_of e))) others
      ∙ ap (λ reached. done ++ (reached ++ others)) (sym (part_within own.items place.items around (reach_of domains boxes (tree_of e))))
      ∙ ap (λ (x : Vec Interval Global). done ++ parts_reach domains boxes (trees (tree_of e) (trees_seen (drop (i + 1) es))) (x.items ∷ boxes_held (drop (i + 1) owns))
      (place.items ∷ boxes_held (drop (i + 1) places)) around) own_is
      ∙ ap (λ (x : Vec Interval Global). done ++ parts_reach domains boxes (trees (tree_of e) (trees_seen (drop (i + 1) es))) ((get_or owns i own).items ∷ boxes_held (drop (i + 1) owns))
      (x.items ∷ boxes_held (drop (i + 1) places)) around) place_is
      ∙ sym (at_drop_more (λ rest. done ++ parts_reach domains boxes (trees (tree_of e) (trees_seen (drop (i + 1) es))) ((get_or owns i own).items ∷ boxes_held (drop (i + 1) owns))
      (boxes_held rest) around) places i place in_places)
      ∙ sym (at_drop_more (λ rest. done ++ parts_reach domains boxes (trees (tree_of e) (trees_seen (drop (i + 1) es))) (boxes_held rest) (boxes_held (drop i places)) around) owns i own in_owns)
      ∙ sym (at_drop_more (λ rest. done ++ parts_reach domains boxes (trees_seen rest) (boxes_held (drop i owns)) (boxes_held (drop i places)) around) es i d in_es) ∙ so_far

  pub parts_without_own : (es : List TypedExpr) (owns places : List (Vec Interval Global)) (i : ℕ) (done w : Reached) → length owns ≤ i
      → done ++ parts_reach domains boxes (trees_seen (drop i es)) (boxes_held (drop i owns)) (boxes_held (drop i places)) around ≡ w → done ≡ w
  parts_without_own es owns places i done w over so_far =
      sym (append-nil done) ∙ ap (λ reached. done ++ reached) (sym (no_owns (trees_seen (drop i es)) (boxes_held (drop i places))))
      ∙ sym (at_drop_all (λ rest. done ++ parts_reach domains boxes (trees_seen (drop i es)) (boxes_held rest) (boxes_held (drop i places)) around) owns i over) ∙ so_far

  pub parts_without_place : (es : List TypedExpr) (owns places : List (Vec Interval Global)) (i : ℕ) (done w : Reached) → length places ≤ i
      → done ++ parts_reach domains boxes (trees_seen (drop i es)) (boxes_held (drop i owns)) (boxes_held (drop i places)) around ≡ w → done ≡ w
  parts_without_place es owns places i done w over so_far =
      sym (append-nil done) ∙ ap (λ reached. done ++ reached) (sym (no_places (trees_seen (drop i es)) (boxes_held (drop i owns))))
      ∙ sym (at_drop_all (λ rest. done ++ parts_reach domains boxes (trees_seen (drop i es)) (boxes_held (drop i owns)) (boxes_held rest) around) places i over) ∙ so_far

  pub parts_end : (es : List TypedExpr) (owns places : List (Vec Interval Global)) (i : ℕ) (done w : Reached) → length es ≤ i
      → done ++ parts_reach domains boxes (trees_seen (drop i es)) (boxes_held (drop i owns)) (boxes_held (drop i places)) around ≡ w → done ≡ w
  parts_end es owns places i done w over so_far =
      sym (append-nil done)
      ∙ sym (at_drop_all (λ rest. done ++ parts_reach domains boxes (trees_seen rest) (boxes_held (drop i owns)) (boxes_held (drop i places)) around) es i over) ∙ so_far

-- ---- positions

module _ (domains : List Box) (boxes : Boxes) where
  pub positions_turn : (index : List TypedAxis) (i : ℕ) (d : TypedAxis) (done after w : Reached) → i < length index
      → after ≡ done ++ positions_reach domains boxes (axis_seen (get_or index i d) no_axes)
      → done ++ positions_reach domains boxes (tree_of_axes (drop i index)) ≡ w → after ++ positions_reach domains boxes (tree_of_axes (drop (i + 1) index)) ≡ w
  positions_turn index i d done after w within is so_far =
      ap (λ reached. reached ++ positions_reach domains boxes (tree_of_axes (drop (i + 1) index))) is
      ∙ append_assoc done (positions_reach domains boxes (axis_seen (get_or index i d) no_axes)) (positions_reach domains boxes (tree_of_axes (drop (i + 1) index)))
      ∙ ap (λ reached. done ++ reached) (sym (positions_split domains boxes (get_or index i d) (tree_of_axes (drop (i + 1) index))))
      ∙ sym (at_drop_more (λ rest. done ++ positions_reach domains boxes (tree_of_axes rest)) index i d within) ∙ so_far

  pub positions_end : (index : List TypedAxis) (i : ℕ) (done w : Reached) → length index ≤ i → done ++ positions_reach domains boxes (tree_of_axes (drop i index)) ≡ w → done ≡ w
  positions_end index i done w over so_far =
      sym (append-nil done) ∙ sym (at_drop_all (λ rest. done ++ positions_reach domains boxes (tree_of_axes rest)) index i over) ∙ so_far

pub ruleset list_turns = (trees_turn, trees_end, pairs_turn, pairs_end, positions_turn, positions_end)

pub ruleset part_turns = (parts_turn, parts_without_own, parts_without_place, parts_end)
