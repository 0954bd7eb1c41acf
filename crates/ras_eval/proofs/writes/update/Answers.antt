use Rattle.std.proofs.Common.{[], ◌∷◌, ap, sym, ◌∙◌}
use Rattle.spec_expressions.specs.Tree.{tree_of}
use Rattle.spec_statements.specs.Effects.{update_store}
use Rattle.ras_rows.specs.Plans.{plan_seen}
use Rattle.ras_eval.proofs.Written.{one_array, update_gives}
use Rattle.ras_eval.proofs.writes.update.Goals as goal

pub returns-in-len1 : goal.returns-in-len1
returns-in-len1 c =
    update_gives (update_store c.args.of.now) (tree_of c.args.body.now) (plan_seen c.args.plan.now) c.oid.result c.write.result c.write.ensures.stores c.write.ensures.oid
    (one_array c.args.plan.now.row.items c.as_slice.result.now c.array-item.result c.as_slice.ensures.value c.in-len1.len_at_least c.in-len1.len_below c.array-item.is
    ∙ ap (λ oid. oid ∷ []) (sym c.oid.ensures))
