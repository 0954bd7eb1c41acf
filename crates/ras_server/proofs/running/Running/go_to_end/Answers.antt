use Rattle.std.proofs.Common.{◌<◌, length, arith}
use Rattle.ras_server.proofs.Follows.{drains_rest, drains_turn, has_still, rested_by, same_then, turn_same, turned_by}
use Rattle.ras_server.proofs.running.Running.go_to_end.Goals as goal

pub turn-requires-clause-witness : goal.turn-requires-clause-witness
turn-requires-clause-witness g c = λ κs within. has_still c.args.self.now c.loop.self c.loop.invariant.same c.requires.witness

pub turn-requires-clause-running : goal.turn-requires-clause-running
turn-requires-clause-running g c =
    let drains = c.loop.invariant.drains c.requires.draining.0 c.requires.draining.1 in λ κs within. (drains.walks, drains.running)

pub returns-then-not-branch-clause-same : goal.returns-then-not-branch-clause-same
returns-then-not-branch-clause-same g c =
    let drains = c.loop.invariant.drains c.requires.draining.0 c.requires.draining.1 in
    same_then c.args.self.now c.loop.self c.turn.new.self c.loop.invariant.same
    (turn_same c.args.place drains.walks c.loop.self c.turn.new.self c.in_ok-turn.field-0 (c.in_ok-turn.ensures drains.walks drains.running))

pub returns-then-not-branch-clause-drains : goal.returns-then-not-branch-clause-drains
returns-then-not-branch-clause-drains g c = λ turns drains.
    drains_rest c.args.place c.loop.self c.turn.new.self
    (rested_by c.args.place c.loop.self c.turn.new.self c.in_ok-turn.field-0 c.if-not-branch.true c.in_ok-turn.ensures) turns (c.loop.invariant.drains turns drains)

pub loop-preserved : goal.loop-preserved
loop-preserved g c =
    let was = c.loop.invariant.drains c.requires.draining.0 c.requires.draining.1 in
    let here : c.args.place < length c.loop.self.sessions.items = omega (arith, c.requires.place, c.loop.invariant.same.count) in
    record {
      same = same_then c.args.self.now c.loop.self c.turn.new.self c.loop.invariant.same
          (turn_same c.args.place was.walks c.loop.self c.turn.new.self c.in_ok-turn.field-0 (c.in_ok-turn.ensures was.walks was.running));
      drains = λ turns drains.
          drains_turn c.args.place c.loop.self c.turn.new.self here
          (turned_by c.args.place c.loop.self c.turn.new.self c.in_ok-turn.field-0 c.if-not-branch.false c.in_ok-turn.ensures) turns
          (c.loop.invariant.drains turns drains);
    }
