use Rattle.std.proofs.Common.{◌≡◌, ◌-◌, ◌*◌, ◌++◌}
use Rattle.std.specs.Prelude.{flat_map, string_bytes}
use Rattle.std.specs.List.{range_with_len}
use Rattle.ras_gen.specs.Draws.{state_after}
use Rattle.ras_gen.specs.Text.{session_of}
use Rattle.ras_gen.proofs.workload.write_sessions.Given as goal

abbrev pub invariant-loop-number : goal.invariant-loop-number
invariant-loop-number l =
    (string_bytes l.text ≡ string_bytes l.initial.text ++ flat_map (session_of l.initial.draws.state l.size) (range_with_len 1 (l.number - 1)))
    × (l.draws.state ≡ state_after (3 * (l.size * (l.number - 1))) l.initial.draws.state)
