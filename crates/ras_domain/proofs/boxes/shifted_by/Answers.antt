use Rattle.std.proofs.Common.{length, ◌∙◌, arith, Option, Some, None, IfNone}
use Rattle.std.proofs.lemmas.List.{length_push, take_all}
use Rattle.std.proofs.lemmas.List.Elements.{All-push}
use Rattle.std.proofs.lemmas.Slice.Zip.{zip_turn, zip_end}
use Rattle.ras_domain.specs.Region.{HasSmallBounds}
use Rattle.ras_domain.specs.Boxes.{shifted_axis, shifted_by}
use Rattle.ras_domain.proofs.PointSets.{shifted_by-turn, get_or-shifted_by, length-shifted_by}
use Rattle.ras_domain.proofs.boxes.shifted_by.Goals as goal

-- what holds anyway holds of None
if_none : {X : Type 0} (P : Type 0) (r : Option X) → P → IfNone r P
if_none P None p = p
if_none P (Some x) p = tt

pub returns-in_err-shifted_axis-clause-out : goal.returns-in_err-shifted_axis-clause-out
returns-in_err-shifted_axis-clause-out c =
    let turn = zip_turn c.args.axes.now c.args.d.now c.loop-axis.yielded _ c.loop-axis.axis-iterator c.next.new.self c.next.result (cc) (cc) c.loop-axis.yielded_by
    (c.in-Some.axis, c.in-Some.by) c.in-Some.is c.next.ensures.steps in
    let n = length c.loop-axis.yielded in
    let moved = shifted_axis c.in-Some.by.now c.in-Some.axis.now in
    if_none _ c.from_residual.result (
      n,
      moved,
      omega (arith, turn.0, length-shifted_by c.args.d.now c.args.axes.now),
      get_or-shifted_by c.args.d.now c.args.axes.now n c.in-Some.by.now
          c.in-Some.axis.now moved c.requires.same_axes turn.0 turn.1 (turn.2 c.in-Some.axis.now) (turn.3 c.in-Some.by.now),
      c.in_err-shifted_axis.ensures.out,
    )

pub loop-axis-preserved : goal.loop-axis-preserved
loop-axis-preserved c =
    let turn = zip_turn c.args.axes.now c.args.d.now c.loop-axis.yielded _ c.loop-axis.axis-iterator c.next.new.self c.next.result (cc) (cc) c.loop-axis.yielded_by
    (c.in-Some.axis, c.in-Some.by) c.in-Some.is c.next.ensures.steps in
    let n = length c.loop-axis.yielded in
    let more = All-push HasSmallBounds c.loop-axis.bounds.items c.in_ok-shifted_axis.field-0 c.loop-axis.invariant.small c.in_ok-shifted_axis.ensures.small in
    record {
      so_far = c.push.ensures.items
          ∙ shifted_by-turn c.args.d.now c.args.axes.now n _ c.in-Some.by.now c.in-Some.axis.now c.in_ok-shifted_axis.field-0 c.loop-axis.bounds.items
          c.requires.same_axes turn.0 turn.1 (length_push c.loop-axis.yielded (c.in-Some.axis, c.in-Some.by)) (turn.2 c.in-Some.axis.now) (turn.3 c.in-Some.by.now)
          c.in_ok-shifted_axis.ensures.moved c.loop-axis.invariant.so_far;
      small = rw c.push.ensures.items more;
    }

pub returns-clause-moved : goal.returns-clause-moved
returns-clause-moved c =
    let end = zip_end c.args.axes.now c.args.d.now c.loop-axis.yielded _ c.loop-axis.axis-iterator c.next.new.self c.next.result (cc) (cc) c.loop-axis.yielded_by
    c.in-None.is c.next.ensures.steps in
    c.loop-axis.invariant.so_far ∙ take_all (length c.loop-axis.yielded) (shifted_by c.args.d.now c.args.axes.now)
    (omega (arith, end, c.requires.same_axes, length-shifted_by c.args.d.now c.args.axes.now))
