use Rattle.std.proofs.Common.{◌<◌, ◌++◌, get_or, length, take, sym, subst, arith}
use Rattle.std.proofs.lemmas.List.{take_more}
use Rattle.spec_sessions.specs.Outcomes.{turns_of}
use Rattle.ras_server.specs.Running.{FollowsBy}
use Rattle.ras_server.proofs.Follows.{follows_item, same_then}
use Rattle.ras_server.proofs.running.Running.follow.Goals as goal

pub take_turns-requires-clause-following : goal.take_turns-requires-clause-following
take_turns-requires-clause-following g c = λ κs within. (
  c.requires.following.0 ++ turns_of (take c.loop-session.session-index c.args.schedule.now),
  c.loop-session.invariant.follows c.requires.following.0 c.requires.following.1,
)

pub loop-session-preserved : goal.loop-session-preserved
loop-session-preserved g c =
    let within : c.loop-session.session-index < length c.args.schedule.now = omega (arith, c.loop-session-test.true) in
    record {
      same = same_then c.args.self.now c.loop-session.self c.take_turns.new.self c.loop-session.invariant.same c.in_ok-take_turns.ensures.same;
      follows = subst (λ l. FollowsBy (turns_of l) c.args.self.now c.take_turns.new.self)
          (sym (take_more c.args.schedule.now c.loop-session.session-index (0, 0) within))
          (follows_item (take c.loop-session.session-index c.args.schedule.now) (get_or c.args.schedule.now c.loop-session.session-index (0, 0)) c.args.self.now
          c.loop-session.self c.take_turns.new.self c.loop-session.invariant.follows c.in_ok-take_turns.ensures.follows);
    }
