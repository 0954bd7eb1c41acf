use Rattle.std.proofs.Common.{length, arith, sym}
use Rattle.std.proofs.lemmas.List.{length_push}
use Rattle.std.proofs.lemmas.Slice.Zip.{zip_turn, zip_end}
use Rattle.ras_domain.proofs.Places.{IsFront-turn, IsFront-small, IsFront-room, IsFront-end}
use Rattle.ras_domain.proofs.RowOrder.{place_in_rows-at}
use Rattle.ras_domain.proofs.rows.place_of.Goals as goal

pub overflow_mul-place : goal.overflow_mul-place
overflow_mul-place c =
    let turn = zip_turn c.args.axes.now c.args.p.now c.loop-axis.yielded _ c.loop-axis.axis-iterator c.next.new.self c.next.result (cc) (cc) c.loop-axis.yielded_by
    (c.in-Some.axis, c.in-Some.c) c.in-Some.is c.next.ensures.steps in
    omega (
      arith,
      IsFront-room c.args.axes.now (length c.loop-axis.yielded) c.loop-axis.place c.extent.result _ c.in-Some.axis.now c.requires.region
          c.loop-axis.invariant turn.0 (turn.2 c.in-Some.axis.now) c.extent.ensures,
    )

pub loop-axis-preserved : goal.loop-axis-preserved
loop-axis-preserved c =
    let turn = zip_turn c.args.axes.now c.args.p.now c.loop-axis.yielded _ c.loop-axis.axis-iterator c.next.new.self c.next.result (cc) (cc) c.loop-axis.yielded_by
    (c.in-Some.axis, c.in-Some.c) c.in-Some.is c.next.ensures.steps in
    IsFront-turn c.args.axes.now c.args.p.now (length c.loop-axis.yielded) _ c.loop-axis.place c.extent.result c.abs_diff.result c.in-Some.axis.now c.in-Some.c.now
    c.requires.region c.requires.within c.loop-axis.invariant turn.0 (length_push c.loop-axis.yielded (c.in-Some.axis, c.in-Some.c)) (turn.2 c.in-Some.axis.now) (turn.3 c.in-Some.c.now)
    c.extent.ensures c.abs_diff.ensures

pub overflow_add-place : goal.overflow_add-place
overflow_add-place c = omega (arith, IsFront-small c.args.axes.now _ _ _ (loop-axis-preserved c) c.requires.region)

pub returns-clause-place : goal.returns-clause-place
returns-clause-place c =
    let end = zip_end c.args.axes.now c.args.p.now c.loop-axis.yielded _ c.loop-axis.axis-iterator c.next.new.self c.next.result (cc) (cc) c.loop-axis.yielded_by
    c.in-None.is c.next.ensures.steps in
    IsFront-end c.args.axes.now c.args.p.now (length c.loop-axis.yielded) c.loop-axis.place c.requires.within c.loop-axis.invariant end

pub returns-clause-before : goal.returns-clause-before
returns-clause-before c = sym (place_in_rows-at c.args.axes.now c.loop-axis.place c.args.p.now (returns-clause-place c))
