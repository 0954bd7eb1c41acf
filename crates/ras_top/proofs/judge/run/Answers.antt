use Rattle.std.proofs.Common.{◌≡◌, ◌∙◌, sym, subst}
use Rattle.std.specs.Arc.{arc_value}
use Rattle.ras_core.specs.States.{AreProgramsOf}
use Rattle.ras_server.specs.Runs.{HasPrograms, IsRunOf, scripts_of}
use Rattle.ras_setup.specs.Found.{IsWorkload}
use Rattle.ras_top.proofs.Due.{says-no-memory, says-ran}
use Rattle.ras_top.proofs.Programs.{has-programs}
use Rattle.ras_top.specs.declared.command.Command.TheVariants as command
use Rattle.spec_histories.specs.History.{Programs}
use Rattle.ras_top.proofs.judge.run.Goals as goal

pub returns-in_default : goal.returns-in_default
returns-in_default g c = λ text value found is. says-no-memory (command.Run c.args.workers c.args.schedule.now) text

pub returns-in_default-clone : goal.returns-in_default-clone
returns-in_default-clone g c = λ text value found is. says-no-memory (command.Run c.args.workers c.args.schedule.now) text

pub run_shared-requires-clause-witness : goal.run_shared-requires-clause-witness
run_shared-requires-clause-witness g c κs within =
    let w = c.requires.witness in
    let same : arc_value c.in-Ok-clone.shared ≡ c.args.workload = c.in-Ok-clone.ensures.cases ∙ c.in-Ok.ensures.ok in
    subst HasPrograms (sym same) (has-programs w.text w.value w.found c.args.workload w.is)

pub returns-in-Ok-run_shared : goal.returns-in-Ok-run_shared
returns-in-Ok-run_shared g c = λ text value found is.
    let first : arc_value c.in-Ok.workload ≡ c.args.workload = c.in-Ok.ensures.ok in
    let same : arc_value c.in-Ok-clone.shared ≡ arc_value c.in-Ok.workload = c.in-Ok-clone.ensures.cases in
    says-ran text value found c.in-Ok.workload c.args.workers c.args.schedule.now c.in-Ok-run_shared.outcome
    (subst (IsWorkload value) (sym first) is)
    (subst (λ workload. (programs : Programs) → AreProgramsOf workload programs
    → IsRunOf programs (scripts_of workload) c.args.schedule.now c.in-Ok-run_shared.outcome)
    same c.in-Ok-run_shared.ensures)

pub returns-in-Err : goal.returns-in-Err
returns-in-Err g c = λ text value found is. says-no-memory (command.Run c.args.workers c.args.schedule.now) text
