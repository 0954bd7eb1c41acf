use Rattle.spec_expressions.specs.Tree.{tree_of}
use Rattle.spec_statements.specs.Effects.{insert_store}
use Rattle.ras_rows.specs.Plans.{plan_seen}
use Rattle.ras_eval.proofs.Written.{insert_gives, no_arrays}
use Rattle.ras_eval.proofs.writes.insert.Goals as goal

pub returns-in-empty : goal.returns-in-empty
returns-in-empty c =
    insert_gives (insert_store c.args.of.now) (tree_of c.args.body.now) (plan_seen c.args.plan.now) c.write.result c.write.ensures.stores
    (no_arrays c.args.plan.now.row.items c.as_slice.result.now c.as_slice.ensures.value c.in-empty.len_below)
