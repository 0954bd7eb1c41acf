use Rattle.std.proofs.Common.{◌+◌, ◌<◌, ◌≤◌, ℤ, pos, List, Some, Ok, ap₂, true, false, map, refl, sym, ap, subst, ◌∙◌, arith}
use Rattle.std.proofs.lemmas.Result.{err_from_is_err_and}
use Rattle.ras_domain.specs.Region.{points_of}
use Rattle.ras_domain.proofs.Walks.{IsIn-at_place}
use Rattle.spec_expressions.specs.Fold.{folded_of, cells_folded_of}
use Rattle.ras_values.specs.Nodes.{axes_kept, cells_of_node, condensed_at, each_cell, position_cells, positions_by}
use Rattle.ras_values.specs.Given.{point_seen}
use Rattle.ras_values.proofs.Folds.{at_next, cells_fold_ends, fold_ends, folding_first, folding_more, folding_stop}
use Rattle.ras_values.proofs.WalkArms.{gives_at, moved_gives}
use Rattle.ras_values.proofs.WalkLoops.{get_first, joined_here, joined_later, joined_over, kept_next, kept_out, number_error, number_next, point_first, point_with, positions_over}
use Rattle.ras_values.proofs.WalkLoops.{look_error, look_none, look_some, take_back, whole_error, whole_next, whole_over, whole_start}
use Rattle.ras_values.proofs.WalkArms.{arm_Constant, arm_Faulty, arm_Member, arm_Coordinate, arm_Unary, arm_Cast, arm_Binary, arm_Index, arm_AtPoint, arm_Component, arm_If, arm_If_stops}
use Rattle.ras_values.proofs.WalkArms.{arm_Composite, arm_Marray, arm_Condense, arm_Folded, arm_Shift, arm_Extend, arm_outside, arm_Concat}
use Rattle.ras_values.proofs.walk.+cells.Goals as goal
use Rattle.ras_values.proofs.walk.+cells.Goals.{point_of-in-At+in_ok-x-in-At+in-Ok, point_of-in-Kept+in-len1-up+in-Ok-with_coordinate}

pub cell-returns-in-Constant-clause-cell : goal.cell-returns-in-Constant-clause-cell
cell-returns-in-Constant-clause-cell g t c = arm_Constant (g.A.Arrays.members c.args.row.now) c.args.scope.now c.args.p.now.items c.args.node.now _ _ c.in-Constant.is c.copy_of.ensures

pub cell-returns-in-Faulty-clause-cell : goal.cell-returns-in-Faulty-clause-cell
cell-returns-in-Faulty-clause-cell g t c = arm_Faulty (g.A.Arrays.members c.args.row.now) c.args.scope.now c.args.p.now.items c.args.node.now _ _ c.in-Faulty.is refl

pub cell-returns-in-Member-clause-cell : goal.cell-returns-in-Member-clause-cell
cell-returns-in-Member-clause-cell g t c =
    arm_Member (g.A.Arrays.members c.args.row.now) c.args.scope.now c.args.p.now.items c.args.node.now _ _ _ c.in-Member.is c.cell.ensures c.told.ensures

pub cell-returns-in-Coordinate-clause-cell : goal.cell-returns-in-Coordinate-clause-cell
cell-returns-in-Coordinate-clause-cell g t c =
    arm_Coordinate (g.A.Arrays.members c.args.row.now) c.args.scope.now c.args.p.now.items c.args.node.now _ _ _ _ c.in-Coordinate.is c.get.ensures c.coordinate.ensures

pub cell-returns-in-Unary-clause-cell : goal.cell-returns-in-Unary-clause-cell
cell-returns-in-Unary-clause-cell g t c =
    arm_Unary (g.A.Arrays.members c.args.row.now) c.args.scope.now c.args.p.now.items c.args.node.now _ _ _ _ c.in-Unary.is (rw c.get-in-Unary.ensures at c.cell-e.ensures.cell) c.unary.ensures

pub cell-returns-in-Cast-clause-cell : goal.cell-returns-in-Cast-clause-cell
cell-returns-in-Cast-clause-cell g t c =
    arm_Cast (g.A.Arrays.members c.args.row.now) c.args.scope.now c.args.p.now.items c.args.node.now _ _ _ _ c.in-Cast.is
    (rw c.get-in-Cast.ensures at c.cell-e-in-Cast.ensures.cell) c.cast_of.ensures

pub cell-returns-in-Binary-clause-cell : goal.cell-returns-in-Binary-clause-cell
cell-returns-in-Binary-clause-cell g t c =
    arm_Binary (g.A.Arrays.members c.args.row.now) c.args.scope.now c.args.p.now.items c.args.node.now _ _ _ _ _ _ c.in-Binary.is
    (rw c.get-in-Binary.ensures at c.cell-a.ensures.cell) (rw (c.get-in-Binary-2.ensures, c.cell-a.ensures.same) at c.cell-b.ensures.cell) c.binary.ensures

pub cell-returns-in-Index-clause-cell : goal.cell-returns-in-Index-clause-cell
cell-returns-in-Index-clause-cell g t c =
    arm_Index (g.A.Arrays.members c.args.row.now) c.args.scope.now c.args.p.now.items c.args.node.now _ _ _ _ _ _ c.in-Index.is
    (rw c.as_slice.ensures at c.point_of-q.ensures.point) c.within.ensures (rw (c.get-in-Index.ensures, c.point_of-q.ensures.same) at c.looked_at.ensures.cell)

pub cell-returns-in-AtPoint-clause-cell : goal.cell-returns-in-AtPoint-clause-cell
cell-returns-in-AtPoint-clause-cell g t c =
    arm_AtPoint (g.A.Arrays.members c.args.row.now) c.args.scope.now c.args.p.now.items c.args.node.now _ _ _ _ _ _ c.in-AtPoint.is
    (c.copied-q.ensures ∙ c.get-in-AtPoint.ensures) c.within-in-AtPoint.ensures (rw c.get-in-AtPoint-2.ensures at c.looked_at-in-AtPoint.ensures.cell)

pub cell-returns-in-Component-clause-cell : goal.cell-returns-in-Component-clause-cell
cell-returns-in-Component-clause-cell g t c =
    arm_Component (g.A.Arrays.members c.args.row.now) c.args.scope.now c.args.p.now.items c.args.node.now _ _ _ _ c.in-Component.is
    (rw c.get-in-Component.ensures at c.cell-e-in-Component.ensures.cell) c.component_of.ensures

pub cell-returns-in-Ok-true-clause-cell : goal.cell-returns-in-Ok-true-clause-cell
cell-returns-in-Ok-true-clause-cell g t c =
    arm_If (g.A.Arrays.members c.args.row.now) c.args.scope.now c.args.p.now.items c.args.node.now _ _ _ true _ _ _ c.in-If.is
    (rw c.get-in-If.ensures at c.cell-test.ensures.cell) c.test_of.ensures (c.in-Ok-true.is ∙ ap (λ b. Ok b) c.in-Ok-true.field-0-test) (rw
    (c.get-in-Ok-true.ensures, c.cell-test.ensures.same) at c.cell-in-Ok-true.ensures.cell)

pub cell-returns-in-Ok-false-clause-cell : goal.cell-returns-in-Ok-false-clause-cell
cell-returns-in-Ok-false-clause-cell g t c =
    arm_If (g.A.Arrays.members c.args.row.now) c.args.scope.now c.args.p.now.items c.args.node.now _ _ _ false _ _ _ c.in-If.is
    (rw c.get-in-If.ensures at c.cell-test.ensures.cell) c.test_of.ensures (c.in-Ok-false.is ∙ ap (λ b. Ok b) c.in-Ok-false.field-0-test) (rw
    (c.get-in-Ok-false.ensures, c.cell-test.ensures.same) at c.cell-in-Ok-false.ensures.cell)

pub cell-returns-in-Err-clause-cell : goal.cell-returns-in-Err-clause-cell
cell-returns-in-Err-clause-cell g t c =
    arm_If_stops (g.A.Arrays.members c.args.row.now) c.args.scope.now c.args.p.now.items c.args.node.now _ _ _ _ _ _ c.in-If.is
    (rw c.get-in-If.ensures at c.cell-test.ensures.cell) c.test_of.ensures c.in-Err.is

pub cell-returns-in-Composite-clause-cell : goal.cell-returns-in-Composite-clause-cell
cell-returns-in-Composite-clause-cell g t c =
    arm_Composite (g.A.Arrays.members c.args.row.now) c.args.scope.now c.args.p.now.items c.args.node.now _ _ c.in-Composite.is (rw c.as_slice-in-Composite.ensures at c.composite.ensures.cell)

pub cell-returns-in-Marray-clause-cell : goal.cell-returns-in-Marray-clause-cell
cell-returns-in-Marray-clause-cell g t c =
    arm_Marray (g.A.Arrays.members c.args.row.now) c.args.scope.now c.args.p.now.items c.args.node.now _ _ c.in-Marray.is (rw c.get-in-Marray.ensures at c.entered.ensures.cell)

pub cell-returns-in-Condense-clause-cell : goal.cell-returns-in-Condense-clause-cell
cell-returns-in-Condense-clause-cell g t c =
    arm_Condense (g.A.Arrays.members c.args.row.now) c.args.scope.now c.args.p.now.items c.args.node.now _ _ _ _ c.in-Condense.is (rw c.get-in-Condense.ensures at c.condense.ensures.cell)

pub cell-returns-in-Folded-clause-cell : goal.cell-returns-in-Folded-clause-cell
cell-returns-in-Folded-clause-cell g t c =
    arm_Folded (g.A.Arrays.members c.args.row.now) c.args.scope.now c.args.p.now.items c.args.node.now _ _ _ _ c.in-Folded.is (rw c.get-in-Folded.ensures at c.folded.ensures.cell)

pub cell-returns-in-Shift-clause-cell : goal.cell-returns-in-Shift-clause-cell
cell-returns-in-Shift-clause-cell g t c =
    arm_Shift (g.A.Arrays.members c.args.row.now) c.args.scope.now c.args.p.now.items c.args.node.now _ _ c.moved_back.result _ c.in-Shift.is c.moved_back.ensures
    (rw c.get-in-Shift.ensures at c.moved.ensures.cell) c.moved.ensures.memory

pub cell-returns-then-has_point-clause-cell : goal.cell-returns-then-has_point-clause-cell
cell-returns-then-has_point-clause-cell g t c =
    arm_Extend (g.A.Arrays.members c.args.row.now) c.args.scope.now c.args.p.now.items c.args.node.now _ _ _ true _ c.in-Extend.is (sym c.if-has_point.true ∙ c.has_point.ensures)
    (rw c.get-then-has_point.ensures at c.cell-then-has_point.ensures.cell)

pub cell-returns-else-has_point-clause-cell : goal.cell-returns-else-has_point-clause-cell
cell-returns-else-has_point-clause-cell g t c =
    arm_outside (g.A.Arrays.members c.args.row.now) c.args.scope.now c.args.p.now.items c.args.node.now _ _ _ _ c.in-Extend.is (sym c.if-has_point.false ∙ c.has_point.ensures)
    c.copy_of-else-has_point.ensures

pub cell-returns-in-Concat-clause-cell : goal.cell-returns-in-Concat-clause-cell
cell-returns-in-Concat-clause-cell g t c =
    arm_Concat (g.A.Arrays.members c.args.row.now) c.args.scope.now c.args.p.now.items c.args.node.now _ _ c.in-Concat.is (rw c.as_slice-in-Concat.ensures at c.joined.ensures.cell)

pub entered-returns-in-Ok-clause-cell : goal.entered-returns-in-Ok-clause-cell
entered-returns-in-Ok-clause-cell g t c = rw (c.in-Ok.ensures.ok, c.new.ensures) at c.cell-x.ensures.cell

pub entered-returns-in-Ok-clause-same : goal.entered-returns-in-Ok-clause-same
entered-returns-in-Ok-clause-same g t c = c.leave.ensures ∙ take_back _ _ _ (c.cell-x.ensures.same ∙ c.in-Ok.ensures.ok)

pub entered-returns-in-Err-clause-same : goal.entered-returns-in-Err-clause-same
entered-returns-in-Err-clause-same g t c = c.in-Err.ensures.err

pub looked_at-returns-in-Ok-Some-clause-cell : goal.looked_at-returns-in-Ok-Some-clause-cell
looked_at-returns-in-Ok-Some-clause-cell g t c =
    look_some (cells_of_node c.args.e.now (g.A.Arrays.members c.args.row.now) c.args.scope.now) c.args.q _ c.cell.result (c.in-Ok-Some.is ∙ ap
    (λ o. Ok o) c.in-Ok-Some.field-0-is) c.cell.ensures.cell

pub looked_at-returns-in-Ok-None-clause-cell : goal.looked_at-returns-in-Ok-None-clause-cell
looked_at-returns-in-Ok-None-clause-cell g t c =
    look_none (cells_of_node c.args.e.now (g.A.Arrays.members c.args.row.now) c.args.scope.now) c.args.q (c.in-Ok-None.is ∙ ap (λ o. Ok o) c.in-Ok-None.field-0-is)

pub looked_at-returns-in-Err-clause-cell : goal.looked_at-returns-in-Err-clause-cell
looked_at-returns-in-Err-clause-cell g t c = look_error (cells_of_node c.args.e.now (g.A.Arrays.members c.args.row.now) c.args.scope.now) c.args.q _ c.in-Err.is

pub moved-returns-in-Some-clause-cell : goal.moved-returns-in-Some-clause-cell
moved-returns-in-Some-clause-cell g t c = rw c.in-Some.is c.cell.ensures.cell

pub moved-returns-in-Some-clause-memory : goal.moved-returns-in-Some-clause-memory
moved-returns-in-Some-clause-memory g t c = rw c.in-Some.is tt

pub moved-returns-in-None-clause-cell : goal.moved-returns-in-None-clause-cell
moved-returns-in-None-clause-cell g t c = rw c.in-None.is tt

pub moved-returns-in-None-clause-memory : goal.moved-returns-in-None-clause-memory
moved-returns-in-None-clause-memory g t c = rw c.in-None.is refl

pub composite-loop-part-init : goal.composite-loop-part-init
composite-loop-part-init g t c = record {
  rest = whole_start c.new.result c.new.ensures (each_cell (map cells_of_node c.args.parts.now)
      (g.A.Arrays.members c.args.row.now) c.args.scope.now c.args.p.now.items);
  scope = refl;
}

pub composite-returns-in_err-x-clause-cell : goal.composite-returns-in_err-x-clause-cell
composite-returns-in_err-x-clause-cell g t c =
    let p = err_from_is_err_and c.from_residual.result c.from_residual.ensures.1 in
    rw (p.1, p.2) (whole_error (g.A.Arrays.members c.args.row.now) c.args.scope.now c.args.p.now.items c.args.parts.now c.loop-part.part-index c.part-item.result c.loop-part.whole
    c.in_err-x.field-0.0 _
    (omega arith) c.part-item.is (rw c.loop-part.invariant.scope at c.in_err-x.ensures.cell) c.loop-part.invariant.rest)

pub composite-loop-part-preserved : goal.composite-loop-part-preserved
composite-loop-part-preserved g t c =
    record {
      rest = whole_next (g.A.Arrays.members c.args.row.now) c.args.scope.now c.args.p.now.items c.args.parts.now c.loop-part.part-index c.part-item.result c.loop-part.whole c.in-Some.both
          c.in_ok-x.x _
          (omega arith) c.part-item.is (rw c.loop-part.invariant.scope at c.in_ok-x.ensures.cell) (rw c.in-Some.is at c.side_by_side.ensures) c.loop-part.invariant.rest;
      scope = c.cell.ensures.same ∙ c.loop-part.invariant.scope;
    }

pub composite-returns-clause-cell : goal.composite-returns-clause-cell
composite-returns-clause-cell g t c =
    whole_over (g.A.Arrays.members c.args.row.now) c.args.scope.now c.args.p.now.items c.args.parts.now c.loop-part.part-index c.loop-part.whole _ (omega arith) c.loop-part.invariant.rest

pub condense-loop-init : goal.condense-loop-init
condense-loop-init g t c =
    record {
      folding = folding_first (condensed_at (cells_of_node c.args.e.now) (g.A.Arrays.members c.args.row.now) c.args.scope.now)
          (axes_kept c.args.axes.now) c.new-tally.result c.new-tally.ensures.nothing c.new-tally.ensures.count;
      rule = c.new-tally.ensures.rule;
      here = λ _. c.first_point-q.ensures;
      ends = c.volume_of-end.ensures.volume;
      scope = refl;
    }

pub condense-returns-in_err-x-clause-cell : goal.condense-returns-in_err-x-clause-cell
condense-returns-in_err-x-clause-cell g t c =
    let p = err_from_is_err_and c.from_residual.result c.from_residual.ensures.1 in
    let within : c.loop.counter < c.volume_of-end.result = omega arith in
    let at = c.loop.invariant.here (subst (λ n. c.loop.counter < n) c.loop.invariant.ends within) in
    rw (p.1, p.2) (folding_stop (condensed_at (cells_of_node c.args.e.now) (g.A.Arrays.members c.args.row.now) c.args.scope.now) (axes_kept c.args.axes.now)
    (λ zs. folded_of c.args.op zs) c.loop.counter c.loop.q.items c.loop.tally c.in_err-x.field-0.0 c.loop.invariant.folding at
    (rw c.loop.invariant.scope at c.in_err-x.ensures.cell))

pub condense-add-requires : goal.condense-add-requires
condense-add-requires g t c = omega (arith, c.loop.invariant.folding.few, c.volume_of-end.ensures.small)

pub condense-after-q-requires : goal.condense-after-q-requires
condense-after-q-requires g t c =
    let within : c.loop.counter < c.volume_of-end.result = omega arith in
    IsIn-at_place (axes_kept c.args.axes.now) c.loop.counter c.loop.q.items (c.loop.invariant.here (subst (λ n. c.loop.counter < n) c.loop.invariant.ends within))

pub condense-loop-preserved : goal.condense-loop-preserved
condense-loop-preserved g t c =
    let within : c.loop.counter < c.volume_of-end.result = omega arith in
    let at = c.loop.invariant.here (subst (λ n. c.loop.counter < n) c.loop.invariant.ends within) in
    record {
      folding = folding_more (condensed_at (cells_of_node c.args.e.now) (g.A.Arrays.members c.args.row.now) c.args.scope.now)
          (axes_kept c.args.axes.now) c.loop.counter c.loop.q.items c.loop.tally c.add.new.self c.in_ok-x.x c.loop.invariant.folding at
          (rw c.loop.invariant.scope at c.in_ok-x.ensures.cell) c.add.ensures.added c.add.ensures.count;
      rule = c.add.ensures.rule ∙ c.loop.invariant.rule;
      here = λ more. at_next (points_of (axes_kept c.args.axes.now)) (c.loop.counter + 1) c.after-q.result.items more (c.after-q.ensures c.loop.counter at);
      ends = c.loop.invariant.ends;
      scope = c.entered.ensures.same ∙ c.loop.invariant.scope;
    }

pub condense-returns-clause-cell : goal.condense-returns-clause-cell
condense-returns-clause-cell g t c =
    let past : c.volume_of-end.result ≤ c.loop.counter = omega arith in
    fold_ends (condensed_at (cells_of_node c.args.e.now) (g.A.Arrays.members c.args.row.now) c.args.scope.now)
    (axes_kept c.args.axes.now) c.args.op c.loop.counter c.loop.tally c.close.result c.told.result c.loop.invariant.folding
    (subst (λ n. n ≤ c.loop.counter) c.loop.invariant.ends past) c.loop.invariant.rule c.close.ensures c.told.ensures

pub folded-loop-init : goal.folded-loop-init
folded-loop-init g t c =
    record {
      folding = folding_first (cells_of_node c.args.e.now (g.A.Arrays.members c.args.row.now) c.args.scope.now)
          (axes_kept c.args.axes.now) c.new-tally.result c.new-tally.ensures.nothing c.new-tally.ensures.count;
      rule = c.new-tally.ensures.rule ∙ c.rule_of.ensures;
      here = λ _. c.first_point-q.ensures;
      ends = c.volume_of-end.ensures.volume;
      scope = refl;
    }

pub folded-returns-in_err-x-clause-cell : goal.folded-returns-in_err-x-clause-cell
folded-returns-in_err-x-clause-cell g t c =
    let p = err_from_is_err_and c.from_residual.result c.from_residual.ensures.1 in
    let within : c.loop.counter < c.volume_of-end.result = omega arith in
    let at = c.loop.invariant.here (subst (λ n. c.loop.counter < n) c.loop.invariant.ends within) in
    rw (p.1, p.2) (folding_stop (cells_of_node c.args.e.now (g.A.Arrays.members c.args.row.now) c.args.scope.now) (axes_kept c.args.axes.now)
    (λ zs. cells_folded_of c.args.f zs) c.loop.counter c.loop.q.items c.loop.tally c.in_err-x.field-0.0 c.loop.invariant.folding at
    (rw c.loop.invariant.scope at c.in_err-x.ensures.cell))

pub folded-add-requires : goal.folded-add-requires
folded-add-requires g t c = omega (arith, c.loop.invariant.folding.few, c.volume_of-end.ensures.small)

pub folded-after-q-requires : goal.folded-after-q-requires
folded-after-q-requires g t c =
    let within : c.loop.counter < c.volume_of-end.result = omega arith in
    IsIn-at_place (axes_kept c.args.axes.now) c.loop.counter c.loop.q.items (c.loop.invariant.here (subst (λ n. c.loop.counter < n) c.loop.invariant.ends within))

pub folded-loop-preserved : goal.folded-loop-preserved
folded-loop-preserved g t c =
    let within : c.loop.counter < c.volume_of-end.result = omega arith in
    let at = c.loop.invariant.here (subst (λ n. c.loop.counter < n) c.loop.invariant.ends within) in
    record {
      folding = folding_more (cells_of_node c.args.e.now (g.A.Arrays.members c.args.row.now) c.args.scope.now)
          (axes_kept c.args.axes.now) c.loop.counter c.loop.q.items c.loop.tally c.add.new.self c.in_ok-x.x c.loop.invariant.folding at
          (rw c.loop.invariant.scope at c.in_ok-x.ensures.cell) c.add.ensures.added c.add.ensures.count;
      rule = c.add.ensures.rule ∙ c.loop.invariant.rule;
      here = λ more. at_next (points_of (axes_kept c.args.axes.now)) (c.loop.counter + 1) c.after-q.result.items more (c.after-q.ensures c.loop.counter at);
      ends = c.loop.invariant.ends;
      scope = c.cell.ensures.same ∙ c.loop.invariant.scope;
    }

pub folded-returns-clause-cell : goal.folded-returns-clause-cell
folded-returns-clause-cell g t c =
    let past : c.volume_of-end.result ≤ c.loop.counter = omega arith in
    cells_fold_ends (cells_of_node c.args.e.now (g.A.Arrays.members c.args.row.now) c.args.scope.now)
    (axes_kept c.args.axes.now) c.args.f c.loop.counter c.loop.tally c.close.result c.told.result c.loop.invariant.folding
    (subst (λ n. n ≤ c.loop.counter) c.loop.invariant.ends past) c.loop.invariant.rule c.close.ensures c.told.ensures

pub cell-returns-in-Constant-clause-same : goal.cell-returns-in-Constant-clause-same
cell-returns-in-Constant-clause-same g t c = refl

pub cell-returns-in-Faulty-clause-same : goal.cell-returns-in-Faulty-clause-same
cell-returns-in-Faulty-clause-same g t c = refl

pub cell-returns-in-Member-clause-same : goal.cell-returns-in-Member-clause-same
cell-returns-in-Member-clause-same g t c = refl

pub cell-returns-in-Coordinate-clause-same : goal.cell-returns-in-Coordinate-clause-same
cell-returns-in-Coordinate-clause-same g t c = refl

pub cell-returns-else-has_point-clause-same : goal.cell-returns-else-has_point-clause-same
cell-returns-else-has_point-clause-same g t c = refl

pub cell-returns-in-Unary-clause-same : goal.cell-returns-in-Unary-clause-same
cell-returns-in-Unary-clause-same g t c = c.cell-e.ensures.same

pub cell-returns-in-Cast-clause-same : goal.cell-returns-in-Cast-clause-same
cell-returns-in-Cast-clause-same g t c = c.cell-e-in-Cast.ensures.same

pub cell-returns-in-Binary-clause-same : goal.cell-returns-in-Binary-clause-same
cell-returns-in-Binary-clause-same g t c = c.cell-b.ensures.same ∙ c.cell-a.ensures.same

pub cell-returns-in-Index-clause-same : goal.cell-returns-in-Index-clause-same
cell-returns-in-Index-clause-same g t c = c.looked_at.ensures.same ∙ c.point_of-q.ensures.same

pub cell-returns-in-AtPoint-clause-same : goal.cell-returns-in-AtPoint-clause-same
cell-returns-in-AtPoint-clause-same g t c = c.looked_at-in-AtPoint.ensures.same

pub cell-returns-in-Component-clause-same : goal.cell-returns-in-Component-clause-same
cell-returns-in-Component-clause-same g t c = c.cell-e-in-Component.ensures.same

pub cell-returns-in-Ok-true-clause-same : goal.cell-returns-in-Ok-true-clause-same
cell-returns-in-Ok-true-clause-same g t c = c.cell-in-Ok-true.ensures.same ∙ c.cell-test.ensures.same

pub cell-returns-in-Ok-false-clause-same : goal.cell-returns-in-Ok-false-clause-same
cell-returns-in-Ok-false-clause-same g t c = c.cell-in-Ok-false.ensures.same ∙ c.cell-test.ensures.same

pub cell-returns-in-Err-clause-same : goal.cell-returns-in-Err-clause-same
cell-returns-in-Err-clause-same g t c = c.cell-test.ensures.same

pub cell-returns-in-Composite-clause-same : goal.cell-returns-in-Composite-clause-same
cell-returns-in-Composite-clause-same g t c = c.composite.ensures.same

pub cell-returns-in-Marray-clause-same : goal.cell-returns-in-Marray-clause-same
cell-returns-in-Marray-clause-same g t c = c.entered.ensures.same

pub cell-returns-in-Condense-clause-same : goal.cell-returns-in-Condense-clause-same
cell-returns-in-Condense-clause-same g t c = c.condense.ensures.same

pub cell-returns-in-Folded-clause-same : goal.cell-returns-in-Folded-clause-same
cell-returns-in-Folded-clause-same g t c = c.folded.ensures.same

pub cell-returns-in-Shift-clause-same : goal.cell-returns-in-Shift-clause-same
cell-returns-in-Shift-clause-same g t c = c.moved.ensures.same

pub cell-returns-then-has_point-clause-same : goal.cell-returns-then-has_point-clause-same
cell-returns-then-has_point-clause-same g t c = c.cell-then-has_point.ensures.same

pub cell-returns-in-Concat-clause-same : goal.cell-returns-in-Concat-clause-same
cell-returns-in-Concat-clause-same g t c = c.joined.ensures.same

pub joined-returns-then-has_point-clause-cell : goal.joined-returns-then-has_point-clause-cell
joined-returns-then-has_point-clause-cell g t c =
    gives_at (λ x. x) _ _ c.moved.result
    (sym (joined_here (g.A.Arrays.members c.args.row.now) c.args.scope.now c.args.p.now.items c.args.parts.now c.loop-part.part-index c.part-item.result c.has_point.result _
    (omega arith) c.part-item.is c.has_point.ensures c.if-has_point.true c.loop-part.invariant.rest))
    (moved_gives (cells_of_node c.part-item.result.e (g.A.Arrays.members c.args.row.now) c.args.scope.now) _ c.moved_to-q.result c.moved.result
    (rw (c.axes_of.ensures, c.axes_of-then-has_point.ensures) at c.moved_to-q.ensures) (rw c.loop-part.invariant.scope at c.moved.ensures.cell) c.moved.ensures.memory)

pub joined-loop-part-preserved : goal.joined-loop-part-preserved
joined-loop-part-preserved g t c =
    record {
      rest = joined_later (g.A.Arrays.members c.args.row.now) c.args.scope.now c.args.p.now.items c.args.parts.now c.loop-part.part-index c.part-item.result c.has_point.result _
          (omega arith) c.part-item.is c.has_point.ensures c.if-has_point.false c.loop-part.invariant.rest;
      scope = c.loop-part.invariant.scope;
    }

pub joined-returns-clause-cell : goal.joined-returns-clause-cell
joined-returns-clause-cell g t c = joined_over (g.A.Arrays.members c.args.row.now) c.args.scope.now c.args.p.now.items c.args.parts.now c.loop-part.part-index _
    (omega arith) c.loop-part.invariant.rest

pub point_of-loop-position-init : goal.point_of-loop-position-init
point_of-loop-position-init g t c =
    record {
      rest = point_first (positions_by (map position_cells c.args.positions.now) (g.A.Arrays.members c.args.row.now) c.args.scope.now c.args.p.now.items)
          ∙ ap₂ (λ (xs ys : List ℤ). point_with (Some xs) (positions_by (map position_cells c.args.positions.now) (g.A.Arrays.members c.args.row.now) c.args.scope.now ys)) (sym c.new.ensures)
          (sym c.as_slice-left.ensures.value);
      scope = refl;
    }

pub point_of-returns-in_err-x-in-At-clause-point : goal.point_of-returns-in_err-x-in-At-clause-point
point_of-returns-in_err-x-in-At-clause-point g t c =
    let p = err_from_is_err_and c.from_residual.result c.from_residual.ensures.1 in
    rw (p.1, p.2) (number_error (g.A.Arrays.members c.args.row.now) c.args.scope.now c.args.positions.now c.loop-position.position-index c.position-item.result c.in-At.e _
    c.in_err-x-in-At.field-0.0 _ _
    (omega arith) c.position-item.is c.in-At.is (rw (c.loop-position.invariant.scope, c.new-in-At.ensures) at c.in_err-x-in-At.ensures.cell) c.loop-position.invariant.rest)

pub point_of-returns-in_default-left-clause-point : goal.point_of-returns-in_default-left-clause-point
point_of-returns-in_default-left-clause-point g t c =
    kept_out (g.A.Arrays.members c.args.row.now) c.args.scope.now c.args.positions.now c.loop-position.position-index c.position-item.result _ c.loop-position.left.now _
    (omega arith) c.position-item.is c.in-Kept.is c.in_default-left.len_below c.loop-position.invariant.rest

pub point_of-returns-clause-point : goal.point_of-returns-clause-point
point_of-returns-clause-point g t c =
    positions_over (g.A.Arrays.members c.args.row.now) c.args.scope.now c.args.positions.now c.loop-position.position-index _ c.loop-position.left.now _ (omega arith) c.loop-position.invariant.rest

pub point_of-loop-position-preserved : goal.point_of-loop-position-preserved
point_of-loop-position-preserved g t c =
    elim c.match-position.branch [
      | point_of-in-At+in_ok-x-in-At+in-Ok w ↦ record {
        rest = rw (w.q-is, w.left-is) (number_next (g.A.Arrays.members c.args.row.now) c.args.scope.now c.args.positions.now c.loop-position.position-index c.position-item.result w.in-At.e
            (point_seen c.loop-position.q)
            (point_seen w.in-Ok.more) w.in_ok-x-in-At.x c.loop-position.left.now _ (omega arith) c.position-item.is w.in-At.is
            (rw (c.loop-position.invariant.scope, w.new-in-At.ensures) at w.in_ok-x-in-At.ensures.cell) (rw w.in-Ok.is at w.with_number.ensures) c.loop-position.invariant.rest);
        scope = w.scope-is ∙ w.cell.ensures.same ∙ c.loop-position.invariant.scope;
      }
      | point_of-in-Kept+in-len1-up+in-Ok-with_coordinate w ↦ record {
        rest = rw (w.q-is, w.left-is) (kept_next (g.A.Arrays.members c.args.row.now) c.args.scope.now c.args.positions.now c.loop-position.position-index c.position-item.result
            (point_seen c.loop-position.q)
            (point_seen w.in-Ok-with_coordinate.more) _ c.loop-position.left.now _ (omega arith) c.position-item.is w.in-Kept.is w.in-len1-up.len_at_least
            (get_first c.loop-position.left.now (pos 0) _ w.in-len1-up.len_at_least)
            (rw w.in-Ok-with_coordinate.is at w.with_coordinate.ensures) c.loop-position.invariant.rest);
        scope = w.scope-is ∙ c.loop-position.invariant.scope;
      }
    ]
