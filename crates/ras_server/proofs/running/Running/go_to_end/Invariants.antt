use Rattle.ras_server.specs.Running.{DrainsTo, IsSameRun}
use Rattle.ras_server.proofs.running.Running.go_to_end.Given as goal

abbrev pub invariant-loop : goal.invariant-loop
invariant-loop g l = record { same : IsSameRun l.initial.self l.self; drains : DrainsTo l.place l.place l.initial.self l.self }
