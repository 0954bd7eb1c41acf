use Rattle.std.proofs.Common.{take}
use Rattle.spec_sessions.specs.Outcomes.{turns_of}
use Rattle.ras_server.specs.Running.{FollowsBy, IsSameRun}
use Rattle.ras_server.proofs.running.Running.follow.Given as goal

abbrev pub invariant-loop-session : goal.invariant-loop-session
invariant-loop-session g l =
    record { same : IsSameRun l.initial.self l.self; follows : FollowsBy (turns_of (take l.session-index l.schedule)) l.initial.self l.self }
