use Rattle.std.proofs.Common.{map, arith, ◌∙◌}
use Rattle.std.proofs.lemmas.List.{length-map, take_all}
use Rattle.ras_commands.specs.Checks.{script_checks}
use Rattle.ras_rows.proofs.Turns.{mapped-turn}
use Rattle.ras_commands.proofs.check.check_scripts.Goals as goal

pub loop-script-preserved : goal.loop-script-preserved
loop-script-preserved c = λ database keeps.
    let said = c.in_ok-checks.ensures in
    mapped-turn (script_checks c.args.types.now database) c.args.scripts.now c.loop-script.script-index c.script-item.result _
    c.loop-script.sessions c.push.new.list c.loop-script-test.true c.script-item.is (c.loop-script.invariant database keeps)
    ((rw c.as_slice.ensures at said).are database keeps) c.in_ok-push.ensures

pub returns : goal.returns
returns c = record {
  are = λ database keeps.
      c.loop-script.invariant database keeps
      ∙ take_all c.loop-script.script-index (map (script_checks c.args.types.now database) c.args.scripts.now)
      (omega (arith, length-map c.args.scripts.now (script_checks c.args.types.now database), c.loop-script-test.false));
}
