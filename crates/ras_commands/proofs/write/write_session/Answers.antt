use Rattle.std.proofs.lemmas.Option.{slice_get-get_or}
use Rattle.ras_edges.proofs.Writing.{Writes-failed}
use Rattle.ras_commands.proofs.Lines.{Wrote-line, Stopped-line}
use Rattle.ras_commands.proofs.write.write_session.Goals as goal

pub returns-in_err-write_line : goal.returns-in_err-write_line
returns-in_err-write_line g c =
    let place = c.loop-place.place in
    let check = slice_get-get_or c.args.checks.now place _ c.loop-place-test.true in
    let stopped = c.in_err-write_line.ensures in
    Writes-failed c.from_residual.result c.from_residual.ensures.0
    (Stopped-line c.args.script.now.name place c.args.checks.now _ check c.loop-place.invariant (rw c.bytes.ensures at stopped))

pub loop-place-preserved : goal.loop-place-preserved
loop-place-preserved g c =
    let place = c.loop-place.place in
    let check = slice_get-get_or c.args.checks.now place _ c.loop-place-test.true in
    let wrote = c.in_ok-write_line.ensures in
    Wrote-line c.args.script.now.name place c.args.checks.now _ check c.loop-place.invariant (rw c.bytes.ensures at wrote)
