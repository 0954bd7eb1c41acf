use Rattle.std.proofs.Common.{sym, ◌∙◌}
use Rattle.ras_commands.proofs.Said.{word_said, passes_said, fault_said}
use Rattle.ras_commands.proofs.check.check_statement.Goals as goal

pub returns-then-is_word : goal.returns-then-is_word
returns-then-is_word c = word_said c.args.types.now c.args.base.now c.args.statement.now (sym c.is_word.ensures ∙ c.if-is_word.true)

pub returns-in-Ok : goal.returns-in-Ok
returns-in-Ok c =
    passes_said c.args.types.now c.args.base.now c.args.statement.now c.in-Ok.checked (sym c.is_word.ensures ∙ c.if-is_word.false) c.in-Ok.ensures

pub returns-in-Err-Fault : goal.returns-in-Err-Fault
returns-in-Err-Fault c =
    let checked = c.in-Err-Fault.ensures in
    fault_said c.args.types.now c.args.base.now c.args.statement.now c.in-Err-Fault.span c.in-Err-Fault.fault
    (sym c.is_word.ensures ∙ c.if-is_word.false) (rw c.in-Err-Fault.field-0-is at checked)
