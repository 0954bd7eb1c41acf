use Rattle.std.proofs.Common.{◌≡◌}
use Rattle.ras_server.specs.Running.{lines_in}
use Rattle.ras_server.proofs.running.lines_of.Given as goal

abbrev pub invariant-loop-session : goal.invariant-loop-session
invariant-loop-session l = l.all ≡ lines_in l.yielded
