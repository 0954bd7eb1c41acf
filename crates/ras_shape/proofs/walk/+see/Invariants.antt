use Rattle.std.proofs.Common.{◌≡◌, drop, map, vec_len}
use Rattle.spec_expressions.specs.Check.{tree_of_axes}
use Rattle.spec_expressions.specs.Shape.{cuts_of, offsets_of, pair_shapes, shapes_of}
use Rattle.ras_shape.specs.Cuts.{cut_found}
use Rattle.ras_shape.specs.Gives.{shape_of_form}
use Rattle.ras_shape.specs.Trees.{bound_cuts, pairs_seen, trees_seen}
use Rattle.ras_shape.proofs.Loops.{bound_item, cuts_after, offset_item, pair_item, run_after, shape_item}
use Rattle.ras_shape.proofs.walk.+see.Given as goal

abbrev pub invariant-see_all-loop-e : goal.invariant-see_all-loop-e
invariant-see_all-loop-e l = run_after (shape_item l.domains) (map shape_of_form l.forms.items) (drop l.e-index l.es) ≡ shapes_of l.domains (trees_seen l.es)

abbrev pub invariant-see_pairs-loop-pair : goal.invariant-see_pairs-loop-pair
invariant-see_pairs-loop-pair l = run_after (pair_item l.domains) (map shape_of_form l.forms.items) (drop l.pair-index l.pairs) ≡ pair_shapes l.domains (pairs_seen l.pairs)

abbrev pub invariant-see_bounds-loop-pair : goal.invariant-see_bounds-loop-pair
invariant-see_bounds-loop-pair l = run_after (bound_item l.domains) (map cut_found l.cuts.items) (drop l.pair-index l.pairs) ≡ bound_cuts l.domains (pairs_seen l.pairs)

abbrev pub invariant-see_offsets-loop-e : goal.invariant-see_offsets-loop-e
invariant-see_offsets-loop-e l = run_after (offset_item l.domains) l.values.items (drop l.e-index l.es) ≡ offsets_of l.domains (trees_seen l.es)

abbrev pub invariant-see_cuts-loop-cut : goal.invariant-see_cuts-loop-cut
invariant-see_cuts-loop-cut l = record {
  count : vec_len l.cuts ≡ l.cut-index;
  so_far : cuts_after l.domains (map cut_found l.cuts.items) (drop l.cut-index l.index) (drop l.cut-index l.axes) ≡ cuts_of l.domains (tree_of_axes l.index) l.axes;
}
