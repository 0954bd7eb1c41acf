use Rattle.std.specs.Arc.{arc_value}
use Rattle.ras_core.proofs.CoreAsks.{asked-grant, asked-granted}
use Rattle.ras_core.proofs.CoreSteps.{core-table, core-uncontested}
use Rattle.ras_core.proofs.state.Core.grant.Goals as goal

pub invariant_of-self : goal.invariant_of-self
invariant_of-self c =
    core-table (arc_value c.self.inside.workload) c.self.inside.store c.self.inside.table c.self.inside.journal c.self.inside.begun c.self.inside.committed c.self.invariant
    c.args.self.now c.self.view_is c.reserve.new.self c.reserve.ensures.holders

pub invariant_of-self-in_err-add : goal.invariant_of-self-in_err-add
invariant_of-self-in_err-add c =
    rw c.in_err-add.ensures.err
    (core-table (arc_value c.self.inside.workload) c.self.inside.store c.self.inside.table c.self.inside.journal c.self.inside.begun c.self.inside.committed c.self.invariant
    c.args.self.now c.self.view_is c.reserve.new.self c.reserve.ensures.holders)

pub grant-requires-clause-uncontested : goal.grant-requires-clause-uncontested
grant-requires-clause-uncontested c =
    core-uncontested (arc_value c.self.inside.workload) c.self.inside.store c.self.inside.table c.self.inside.journal c.self.inside.begun c.self.inside.committed c.self.invariant
    c.args.self.now c.self.view_is
    c.args.t c.args.list c.reserve.new.self c.reserve.ensures.holders c.requires.free

pub invariant_of-self-2 : goal.invariant_of-self-2
invariant_of-self-2 c =
    asked-granted (arc_value c.self.inside.workload) c.self.inside.store c.self.inside.table c.self.inside.journal c.self.inside.begun c.self.inside.committed c.self.invariant
    c.args.self.now c.self.view_is
    c.args.t c.args.statement c.args.phase c.args.list c.requires.live c.requires.due
    c.add.new.self c.in_ok-granted.granted c.in_ok-granted.ensures c.in_ok-add.ensures.ok c.requires.free
    c.reserve.new.self c.grant.new.self c.requires.reserved c.reserve.ensures.holders c.grant.ensures

pub returns-clause-ok : goal.returns-clause-ok
returns-clause-ok c =
    asked-grant (arc_value c.self.inside.workload) c.self.inside.store c.self.inside.table c.self.inside.journal c.self.inside.begun c.self.inside.committed c.self.invariant
    c.args.self.now c.self.view_is
    c.args.t c.args.statement c.args.phase c.args.list c.requires.live c.requires.due
    c.add.new.self c.in_ok-granted.granted c.in_ok-granted.ensures c.in_ok-add.ensures.ok c.requires.free
    c.in_ok-piece.piece c.in_ok-piece.ensures.held c.in_ok-piece.ensures.others
