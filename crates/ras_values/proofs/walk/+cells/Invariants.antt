use Rattle.std.proofs.Common.{◌≡◌, map, drop, length}
use Rattle.ras_domain.specs.Region.{points_of}
use Rattle.ras_values.specs.declared.tally.Rule.TheVariants.{Fold}
use Rattle.ras_values.specs.Nodes.{axes_kept, cells_of_node, composed_of, condensed_at, each_cell, joined_at, part_cells, position_cells, positions_by}
use Rattle.ras_values.specs.Given.{point_seen}
use Rattle.ras_values.specs.Tallies.{rule_of_cells}
use Rattle.ras_values.specs.Folding.{IsAtPlace, IsFolding}
use Rattle.ras_values.proofs.WalkLoops.{whole_with, point_with}
use Rattle.ras_values.proofs.walk.+cells.Given as goal

abbrev pub invariant-composite-loop-part : goal.invariant-composite-loop-part
invariant-composite-loop-part g l =
    record {
      rest : composed_of (each_cell (map cells_of_node l.parts) (g.A.Arrays.members l.row) l.fn.scope l.p.items)
          ≡ whole_with l.whole (each_cell (map cells_of_node (drop l.part-index l.parts)) (g.A.Arrays.members l.row) l.fn.scope l.p.items);
      scope : l.scope ≡ l.fn.scope;
    }

abbrev pub invariant-condense-loop : goal.invariant-condense-loop
invariant-condense-loop g l =
    record {
      folding : IsFolding (condensed_at (cells_of_node l.e) (g.A.Arrays.members l.row) l.fn.scope) (axes_kept l.axes) l.counter l.tally;
      rule : l.tally.rule ≡ Fold l.fn.op;
      here : IsAtPlace (axes_kept l.axes) l.counter l.q.items;
      ends : l.end ≡ length (points_of (axes_kept l.axes));
      scope : l.scope ≡ l.fn.scope;
    }

abbrev pub invariant-folded-loop : goal.invariant-folded-loop
invariant-folded-loop g l =
    record {
      folding : IsFolding (cells_of_node l.e (g.A.Arrays.members l.row) l.fn.scope) (axes_kept l.axes) l.counter l.tally;
      rule : l.tally.rule ≡ rule_of_cells l.fn.f;
      here : IsAtPlace (axes_kept l.axes) l.counter l.q.items;
      ends : l.end ≡ length (points_of (axes_kept l.axes));
      scope : l.scope ≡ l.fn.scope;
    }

abbrev pub invariant-joined-loop-part : goal.invariant-joined-loop-part
invariant-joined-loop-part g l =
    record {
      rest : joined_at (map part_cells l.parts) (g.A.Arrays.members l.row) l.fn.scope l.p.items
          ≡ joined_at (map part_cells (drop l.part-index l.parts)) (g.A.Arrays.members l.row) l.fn.scope l.p.items;
      scope : l.scope ≡ l.fn.scope;
    }

abbrev pub invariant-point_of-loop-position : goal.invariant-point_of-loop-position
invariant-point_of-loop-position g l =
    record {
      rest : positions_by (map position_cells l.positions) (g.A.Arrays.members l.row) l.fn.scope l.p.items
          ≡ point_with (point_seen l.q) (positions_by (map position_cells (drop l.position-index l.positions)) (g.A.Arrays.members l.row) l.fn.scope l.left);
      scope : l.scope ≡ l.fn.scope;
    }
