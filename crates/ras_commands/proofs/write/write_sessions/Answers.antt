use Rattle.std.proofs.Common.{◌<◌, ◌≤◌, length, refl, arith}
use Rattle.std.specs.Prelude.{min}
use Rattle.std.proofs.lemmas.Option.{slice_get_read}
use Rattle.ras_edges.proofs.Writing.{Writes-failed}
use Rattle.ras_commands.proofs.Lines.{Wrote-session, Stopped-session, sessions-end}
use Rattle.ras_commands.proofs.write.write_sessions.Goals as goal

pub returns-in_err-write_session : goal.returns-in_err-write_session
returns-in_err-write_session g c =
    let place = c.loop-place.place in
    let first : c.loop-place.place < length c.args.scripts.now = omega arith in
    let second : c.loop-place.place < length c.args.checks.now = omega arith in
    let script = slice_get_read c.args.scripts.now (length c.args.scripts.now) place c.index-scripts-place.result refl first c.index-scripts-place.is in
    let own = slice_get_read c.args.checks.now (length c.args.checks.now) place c.index-checks-place.result refl second c.index-checks-place.is in
    let stopped = c.in_err-write_session.ensures in
    Writes-failed c.from_residual.result c.from_residual.ensures.0
    (Stopped-session place c.args.scripts.now c.args.checks.now _ _ script own c.loop-place.invariant (rw c.as_slice.ensures at stopped))

pub loop-place-preserved : goal.loop-place-preserved
loop-place-preserved g c =
    let place = c.loop-place.place in
    let first : c.loop-place.place < length c.args.scripts.now = omega arith in
    let second : c.loop-place.place < length c.args.checks.now = omega arith in
    let script = slice_get_read c.args.scripts.now (length c.args.scripts.now) place c.index-scripts-place.result refl first c.index-scripts-place.is in
    let own = slice_get_read c.args.checks.now (length c.args.checks.now) place c.index-checks-place.result refl second c.index-checks-place.is in
    let wrote = c.in_ok-write_session.ensures in
    Wrote-session place c.args.scripts.now c.args.checks.now _ _ script own c.loop-place.invariant (rw c.as_slice.ensures at wrote)

pub returns : goal.returns
returns g c =
    let enough : min (length c.args.scripts.now) (length c.args.checks.now) ≤ c.loop-place.place = omega arith in
    let wrote = c.loop-place.invariant in
    rw (sessions-end c.loop-place.place c.args.scripts.now c.args.checks.now enough) at wrote
