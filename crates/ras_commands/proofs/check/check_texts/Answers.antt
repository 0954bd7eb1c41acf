use Rattle.std.proofs.Common.{map, arith, ◌∙◌}
use Rattle.std.proofs.lemmas.List.{length-map, take_all}
use Rattle.ras_commands.specs.Checks.{text_check}
use Rattle.ras_rows.proofs.Turns.{mapped-turn}
use Rattle.ras_commands.proofs.check.check_texts.Goals as goal

pub loop-text-preserved : goal.loop-text-preserved
loop-text-preserved c = λ database keeps.
    let said = c.in_ok-check.ensures in
    mapped-turn (text_check c.args.types.now database) c.args.texts.now c.loop-text.text-index c.text-item.result _
    c.loop-text.checks c.push.new.list c.loop-text-test.true c.text-item.is (c.loop-text.invariant database keeps)
    ((rw c.bytes.ensures at said).is database keeps) c.in_ok-push.ensures

pub returns : goal.returns
returns c = record {
  are = λ database keeps.
      c.loop-text.invariant database keeps
      ∙ take_all c.loop-text.text-index (map (text_check c.args.types.now database) c.args.texts.now)
      (omega (arith, length-map c.args.texts.now (text_check c.args.types.now database), c.loop-text-test.false));
}
