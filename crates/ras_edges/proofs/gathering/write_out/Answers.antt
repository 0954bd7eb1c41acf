use Rattle.std.proofs.Common.{◌≤◌, ◌-◌, length, take, drop, arith}
use Rattle.std.proofs.lemmas.List.{length-drop}
use Rattle.std.proofs.Math.Seq.{take-add}
use Rattle.std.proofs.KnownBytes.{Appends-trans}
use Rattle.ras_edges.proofs.Writing.{take-rest}
use Rattle.ras_edges.proofs.gathering.write_out.Goals as goal

pub loop-at-preserved : goal.loop-at-preserved
loop-at-preserved g c =
    let bytes = c.args.bytes.now in
    let at = c.loop-at.at in
    let n = c.in-Ok.n in
    let whole = take-rest bytes at in
    let bound : n ≤ length (take (length bytes - at) (drop at bytes)) = c.in-Ok.ensures.bound in
    let more = Appends-trans _ _ _ (take at bytes) (take n (take (length bytes - at) (drop at bytes))) c.loop-at.invariant.bytes c.in-Ok.ensures.bytes in
    record {
      within = omega (arith, rw whole at bound, length-drop at bytes);
      bytes = rw take-add (rw whole at more);
    }
