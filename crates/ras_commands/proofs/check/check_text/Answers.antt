use Rattle.law_grammar.specs.VerdictOf.{verdict_of}
use Rattle.law_grammar.proofs.EachVerdict.{verdict_of-is}
use Rattle.ras_commands.proofs.Said.{form_said, syntax_said}
use Rattle.ras_commands.proofs.check.check_text.Goals as goal

pub returns-in-Ok : goal.returns-in-Ok
returns-in-Ok c =
    form_said c.args.types.now c.args.base.now c.args.text.now _ c.check_statement-check.result
    (c.in-Ok.ensures.only (verdict_of c.args.text.now) (verdict_of-is c.args.text.now)) c.check_statement-check.ensures

pub returns-in-Err-Fault : goal.returns-in-Err-Fault
returns-in-Err-Fault c =
    let told = c.in-Err-Fault.ensures.only (verdict_of c.args.text.now) (verdict_of-is c.args.text.now) in
    rw c.in-Err-Fault.field-0-is (syntax_said c.args.types.now c.args.base.now c.args.text.now c.in-Err-Fault.fault (rw c.in-Err-Fault.field-0-is at told))
