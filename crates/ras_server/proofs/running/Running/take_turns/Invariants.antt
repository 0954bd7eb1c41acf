use Rattle.std.proofs.Common.{replicate}
use Rattle.ras_server.specs.Running.{FollowsBy, IsSameRun}
use Rattle.ras_server.proofs.running.Running.take_turns.Given as goal

abbrev pub invariant-loop : goal.invariant-loop
invariant-loop g l = record { same : IsSameRun l.initial.self l.self; follows : FollowsBy (replicate l.counter l.session) l.initial.self l.self }
