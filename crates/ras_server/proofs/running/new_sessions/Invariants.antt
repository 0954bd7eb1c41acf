use Rattle.std.proofs.Common.{◌≡◌, length}
use Rattle.ras_server.specs.Running.{AreNew}
use Rattle.ras_server.proofs.running.new_sessions.Given as goal

abbrev pub invariant-loop-place : goal.invariant-loop-place
invariant-loop-place l = record { count : length l.sessions.items ≡ l.place; new : AreNew l.sessions.items }
