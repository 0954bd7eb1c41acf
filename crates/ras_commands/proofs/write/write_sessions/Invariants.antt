use Rattle.std.proofs.Common.{take}
use Rattle.ras_edges.specs.Sink.{Wrote}
use Rattle.ras_commands.specs.Texts.{sessions_of}
use Rattle.ras_commands.proofs.write.write_sessions.Given as goal

abbrev pub invariant-loop-place : goal.invariant-loop-place
invariant-loop-place g l = Wrote g.K.Sink.taken g.K.Sink.faults l.initial.sink l.sink (sessions_of (take l.place l.scripts) (take l.place l.checks))
