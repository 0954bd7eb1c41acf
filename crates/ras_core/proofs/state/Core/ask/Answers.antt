use Rattle.std.specs.Arc.{arc_value}
use Rattle.std.proofs.lemmas.Option.{slice_get_within}
use Rattle.ras_core.proofs.CoreAsks.{asked-refusal, asked-refused}
use Rattle.ras_core.proofs.CoreSteps.{core-free}
use Rattle.ras_core.proofs.state.Core.ask.Goals as goal

pub grant-requires-clause-free : goal.grant-requires-clause-free
grant-requires-clause-free c =
    core-free (arc_value c.self.inside.workload) c.self.inside.store c.self.inside.table c.self.inside.journal c.self.inside.begun c.self.inside.committed c.self.invariant
    c.args.self.now c.self.view_is
    c.args.t c.args.list c.in_default.ensures

pub get-mode-requires : goal.get-mode-requires
get-mode-requires c = slice_get_within c.args.list c.in-Some.place c.in-Some.ensures.lock c.in-Some.ensures.found

pub invariant_of-self : goal.invariant_of-self
invariant_of-self c =
    asked-refused (arc_value c.self.inside.workload) c.self.inside.store c.self.inside.table c.self.inside.journal c.self.inside.begun c.self.inside.committed c.self.invariant
    c.args.self.now c.self.view_is
    c.args.t c.args.statement c.args.phase c.args.list c.requires.live c.requires.due
    c.in-Some.place c.in-Some.holder c.in-Some.ensures c.get-mode.result.0.now c.in-Ok-try_clone.recorded c.get-mode.result.1 c.get-mode.ensures
    c.in-Ok-try_clone.ensures c.close_statement.new.self c.close_statement.ensures

pub returns : goal.returns
returns c =
    asked-refusal (arc_value c.self.inside.workload) c.self.inside.store c.self.inside.table c.self.inside.journal c.self.inside.begun c.self.inside.committed c.self.invariant
    c.args.self.now c.self.view_is
    c.args.t c.args.statement c.args.phase c.args.list c.requires.live c.requires.due
    c.in-Some.place c.in-Some.holder c.in-Some.ensures c.get-mode.result.0.now c.in-Ok-try_clone.recorded c.get-mode.result.1 c.get-mode.ensures
    c.in-Ok-try_clone.ensures c.close_statement.new.self c.close_statement.ensures
    c.in-Ok-try_clone-2.lock c.in-Ok-try_clone-2.ensures
