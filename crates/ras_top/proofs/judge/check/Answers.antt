use Rattle.ras_top.proofs.Due.{says-checked, says-no-memory}
use Rattle.ras_top.specs.declared.command.Command.TheVariants as command
use Rattle.ras_top.proofs.judge.check.Goals as goal

pub returns-in-Ok : goal.returns-in-Ok
returns-in-Ok c = λ text value found is. says-checked text value found c.args.workload c.in-Ok.checks is (c.in-Ok.ensures value is)

pub returns-in-Err : goal.returns-in-Err
returns-in-Err c = λ text value found is. says-no-memory command.Check text
