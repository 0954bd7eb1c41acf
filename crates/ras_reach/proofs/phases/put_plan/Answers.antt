use Rattle.std.specs.Prelude.{option_map, ◌∷◌, []}
use Rattle.ras_rows.specs.Plans.{writing_seen}
use Rattle.spec_expressions.specs.Tree.{tree_of}
use Rattle.spec_statements.specs.Phases.{read_tiles, write_locks}
use Rattle.ras_reach.proofs.KeyOrder.{put_pair}
use Rattle.ras_reach.proofs.phases.put_plan.Goals as goal

pub returns-in-Select : goal.returns-in-Select
returns-in-Select c = rw c.in-Select.is (rw (c.as_slice.ensures, c.as_slice-in-Select.ensures.value) at (c.put_read.ensures c.args.plan.now.number))

pub returns-in_ok-put_write-in-Update : goal.returns-in_ok-put_write-in-Update
returns-in_ok-put_write-in-Update c =
    rw c.in-Update.is
    (put_pair (read_tiles (c.in-Update.source ∷ []) (tree_of c.in-Update.body) (c.args.plan.now.number, c.args.plan.now.row.items))
    (write_locks c.in-Update.source.collection c.args.plan.now.row.items (option_map writing_seen c.args.plan.now.writing))
    c.args.set.now c.put_write.new.set c.put_read-in-Update.new.set c.put_read-in-Update.result
    (rw c.as_slice-row.ensures.value at c.in_ok-put_write-in-Update.ensures)
    (rw (c.from_ref.ensures.value, c.as_slice-row.ensures.value) at (c.put_read-in-Update.ensures c.args.plan.now.number)))
