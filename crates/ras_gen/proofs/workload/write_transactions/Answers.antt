use Rattle.std.proofs.Common.{◌∙◌, ap, sym, arith, append-nil}
use Rattle.std.specs.Prelude.{string_bytes}
use Rattle.ras_gen.specs.Text.{transaction_of}
use Rattle.ras_gen.proofs.States.{state_after-zero}
use Rattle.ras_gen.proofs.Transactions.{state-more, flat_map-range-appended, transaction_of-next}
use Rattle.ras_gen.proofs.workload.write_transactions.Goals as goal

pub loop-init : goal.loop-init
loop-init c = (sym (append-nil (string_bytes c.args.text.now)), sym (state_after-zero c.args.draws.now.state c.args.draws.now.small))

pub loop-preserved : goal.loop-preserved
loop-preserved c =
    let seed = c.args.draws.now.state in
    let next = transaction_of-next seed c.loop.counter _ _ _ _ c.loop.invariant.1
    c.next_change.ensures.row c.next_change.ensures.column c.next_change.ensures.value in (
      flat_map-range-appended (transaction_of seed) 0 c.loop.counter _ _ _ _ c.loop.invariant.0
          c.in_ok-write_transaction.ensures (next ∙ ap (transaction_of seed) (omega arith)),
      state-more seed c.loop.counter _ _ c.loop.invariant.1 c.next_change.ensures.state,
    )
