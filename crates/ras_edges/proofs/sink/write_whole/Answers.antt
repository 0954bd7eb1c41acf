use Rattle.std.proofs.Common.{◌≤◌, ◌-◌, length, take, drop, take-append-drop, arith}
use Rattle.std.proofs.lemmas.List.{length-drop}
use Rattle.std.proofs.Math.Seq.{take-add}
use Rattle.ras_edges.specs.Sink.{Wrote}
use Rattle.ras_edges.proofs.Writing.{take-rest, Wrote-more, Stopped-at, Writes-failed}
use Rattle.ras_edges.proofs.sink.write_whole.Goals as goal

pub returns-in_err-at : goal.returns-in_err-at
returns-in_err-at g c =
    let stopped = Stopped-at (drop c.loop-at.at c.args.text.now) c.loop-at.invariant.so_far c.in_err-at.ensures.bytes c.write.ensures.faults_stay c.in_err-at.ensures.has_cause in
    Writes-failed c.from_residual.result c.from_residual.ensures.0 (rw take-append-drop at stopped)

pub loop-at-preserved : goal.loop-at-preserved
loop-at-preserved g c =
    let text = c.args.text.now in
    let at = c.loop-at.at in
    let n = c.in_ok-at.field-0 in
    let whole = take-rest text at in
    let bound : n ≤ length (take (length text - at) (drop at text)) = c.in_ok-at.ensures.count in
    let piece : Wrote g.K.Sink.taken g.K.Sink.faults c.loop-at.sink c.write.new.self (take n (take (length text - at) (drop at text))) = record
    { appended = c.in_ok-at.ensures.bytes; faults_stay = c.write.ensures.faults_stay } in
    let sofar = Wrote-more c.loop-at.invariant.so_far piece in
    record {
      in_text = omega (arith, rw whole at bound, length-drop at text);
      so_far = rw take-add (rw whole at sofar);
    }
