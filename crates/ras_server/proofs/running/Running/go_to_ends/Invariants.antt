use Rattle.ras_server.specs.Running.{DrainsTo, IsSameRun}
use Rattle.ras_server.proofs.running.Running.go_to_ends.Given as goal

abbrev pub invariant-loop-place : goal.invariant-loop-place
invariant-loop-place g l = record { same : IsSameRun l.initial.self l.self; drains : DrainsTo 0 l.place l.initial.self l.self }
