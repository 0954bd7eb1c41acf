use Rattle.std.proofs.Common.{◌≡◌, ◌*◌, ◌++◌}
use Rattle.std.specs.Prelude.{flat_map, string_bytes}
use Rattle.std.specs.List.{range_with_len}
use Rattle.ras_gen.specs.Draws.{state_after}
use Rattle.ras_gen.specs.Text.{transaction_of}
use Rattle.ras_gen.proofs.workload.write_transactions.Given as goal

abbrev pub invariant-loop : goal.invariant-loop
invariant-loop l =
    (string_bytes l.text ≡ string_bytes l.initial.text ++ flat_map (transaction_of l.initial.draws.state) (range_with_len 0 l.counter))
    × (l.draws.state ≡ state_after (3 * l.counter) l.initial.draws.state)
