use Rattle.std.proofs.Common.{◌<◌, length, ap, ◌∙◌, arith}
use Rattle.std.proofs.lemmas.List.{length_push, length-take}
use Rattle.std.proofs.lemmas.Slice.Zip.{zip_turn, zip_end}
use Rattle.ras_domain.specs.Boxes.{meet_of_axis, meet_of}
use Rattle.ras_domain.proofs.PointSets.{take-zip_turn, small_at, meet_of_axis-as_read}
use Rattle.law_lists.proofs.Zips.{pairs_all}
use Rattle.ras_domain.proofs.boxes.meet_of.Goals as goal
use Rattle.ras_domain.specs.declared.TheConstants.{MAX_AXES}

pub push-requires : goal.push-requires
push-requires c =
    let turn = zip_turn c.args.a.now c.args.b.now c.loop-first.yielded _ c.loop-first.first-iterator c.next.new.self c.next.result (cc) (cc) c.loop-first.yielded_by
    (c.in-Some.first, c.in-Some.second) c.in-Some.is c.next.ensures.steps in
    let room : length c.loop-first.bounds.items < MAX_AXES = omega
    (arith, ap length c.loop-first.invariant, length-take (length c.loop-first.yielded) (meet_of c.args.a.now c.args.b.now), turn.0, c.requires.first.few_axes) in
    (omega arith, room)

pub loop-first-preserved : goal.loop-first-preserved
loop-first-preserved c =
    let turn = zip_turn c.args.a.now c.args.b.now c.loop-first.yielded _ c.loop-first.first-iterator c.next.new.self c.next.result (cc) (cc) c.loop-first.yielded_by
    (c.in-Some.first, c.in-Some.second) c.in-Some.is c.next.ensures.steps in
    let n = length c.loop-first.yielded in
    let x = c.in-Some.first.now in
    let y = c.in-Some.second.now in
    c.push.ensures.items
    ∙ take-zip_turn (λ z. meet_of_axis z.0 z.1) c.args.a.now c.args.b.now n _ x y _ c.loop-first.bounds.items turn.0 turn.1
    (length_push c.loop-first.yielded (c.in-Some.first, c.in-Some.second)) (turn.2 x) (turn.3 y)
    (meet_of_axis-as_read x y c.max.result c.min.result (small_at c.args.a.now n x c.requires.first turn.0 (turn.2 x))
    (small_at c.args.b.now n y c.requires.second turn.1 (turn.3 y)) c.max.ensures.value c.min.ensures.value)
    c.loop-first.invariant

pub returns : goal.returns
returns c =
    let end = zip_end c.args.a.now c.args.b.now c.loop-first.yielded _ c.loop-first.first-iterator c.next.new.self c.next.result (cc) (cc) c.loop-first.yielded_by
    c.in-None.is c.next.ensures.steps in
    pairs_all (λ z. meet_of_axis z.0 z.1) c.args.a.now c.args.b.now (length c.loop-first.yielded) c.loop-first.bounds.items end c.loop-first.invariant
