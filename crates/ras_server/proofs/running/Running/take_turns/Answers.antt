use Rattle.std.proofs.Common.{◌≡◌, ◌<◌, ◌≤◌, length, replicate, subst, arith}
use Rattle.ras_server.specs.Running.{FollowsBy}
use Rattle.ras_server.proofs.Follows.{follows_more, follows_none, follows_rest, follows_start, has_still, rested_by, same_start, same_then, turn_same, turned_by}
use Rattle.ras_server.proofs.running.Running.take_turns.Goals as goal

pub returns-in_default-clause-follows : goal.returns-in_default-clause-follows
returns-in_default-clause-follows g c = follows_none c.args.session c.args.repeat c.args.self.now c.in_default.ensures

pub loop-init : goal.loop-init
loop-init g c = record { same = same_start c.args.self.now; follows = follows_start c.args.self.now }

pub turn-requires-clause-witness : goal.turn-requires-clause-witness
turn-requires-clause-witness g c = λ κs within. has_still c.args.self.now c.loop.self c.loop.invariant.same c.requires.witness

pub turn-requires-clause-running : goal.turn-requires-clause-running
turn-requires-clause-running g c =
    let follows = c.loop.invariant.follows c.requires.following.0 c.requires.following.1 in λ κs within. (follows.walks, follows.running)

pub turn-requires-clause-place : goal.turn-requires-clause-place
turn-requires-clause-place g c = omega (arith, c.in-Some.ensures.1, c.loop.invariant.same.count)

pub returns-then-not-branch-clause-same : goal.returns-then-not-branch-clause-same
returns-then-not-branch-clause-same g c =
    let was = c.loop.invariant.follows c.requires.following.0 c.requires.following.1 in
    same_then c.args.self.now c.loop.self c.turn.new.self c.loop.invariant.same
    (turn_same c.in-Some.place was.walks c.loop.self c.turn.new.self c.in_ok-turn.field-0 (c.in_ok-turn.ensures was.walks was.running))

pub returns-then-not-branch-clause-follows : goal.returns-then-not-branch-clause-follows
returns-then-not-branch-clause-follows g c =
    let here : c.in-Some.place < length c.loop.self.sessions.items = omega (arith, c.in-Some.ensures.1, c.loop.invariant.same.count) in
    let few : c.loop.counter ≤ c.args.repeat = omega (arith, c.loop-test.true) in
    follows_rest c.args.session c.in-Some.place c.loop.counter c.args.repeat c.args.self.now c.loop.self c.turn.new.self c.in-Some.ensures.0 here few
    c.loop.invariant.follows
    (rested_by c.in-Some.place c.loop.self c.turn.new.self c.in_ok-turn.field-0 c.if-not-branch.true c.in_ok-turn.ensures)

pub loop-preserved : goal.loop-preserved
loop-preserved g c =
    let was = c.loop.invariant.follows c.requires.following.0 c.requires.following.1 in
    let here : c.in-Some.place < length c.loop.self.sessions.items = omega (arith, c.in-Some.ensures.1, c.loop.invariant.same.count) in
    record {
      same = same_then c.args.self.now c.loop.self c.turn.new.self c.loop.invariant.same
          (turn_same c.in-Some.place was.walks c.loop.self c.turn.new.self c.in_ok-turn.field-0 (c.in_ok-turn.ensures was.walks was.running));
      follows = follows_more c.args.session c.in-Some.place c.loop.counter c.args.self.now c.loop.self c.turn.new.self c.in-Some.ensures.0 here
          c.loop.invariant.follows
          (turned_by c.in-Some.place c.loop.self c.turn.new.self c.in_ok-turn.field-0 c.if-not-branch.false c.in_ok-turn.ensures);
    }

pub returns-clause-same : goal.returns-clause-same
returns-clause-same g c = c.loop.invariant.same

pub returns-clause-follows : goal.returns-clause-follows
returns-clause-follows g c =
    let e : c.loop.counter ≡ c.args.repeat = omega (arith, c.loop-test.false, c.loop.auto.counter-end) in
    subst (λ n. FollowsBy (replicate n c.args.session) c.args.self.now c.loop.self) e c.loop.invariant.follows
