use Rattle.std.proofs.Common.{[], ◌∷◌, Ok, ap, sym, ◌∙◌}
use Rattle.std.specs.Option.{option_map}
use Rattle.ras_rows.specs.Plans.{plan_seen, writing_seen}
use Rattle.ras_eval.proofs.Written.{delete_made, one_array}
use Rattle.ras_eval.proofs.writes.delete.Goals as goal

pub returns-in_ok-with_room-in-len1-None : goal.returns-in_ok-with_room-in-len1-None
returns-in_ok-with_room-in-len1-None c =
    ap Ok (delete_made (plan_seen c.args.plan.now)
    (record { oid = c.oid.result; grown = c.copy_of_region.result; region = c.copy_of_region-in-len1-None.result; cells = c.in_ok-with_room-in-len1-None.field-0 })
    (one_array c.args.plan.now.row.items c.as_slice.result.now c.array-item.result c.as_slice.ensures.value c.in-len1-None.len_at_least c.in-len1-None.len_below c.array-item.is
    ∙ ap (λ oid. oid ∷ []) (sym c.oid.ensures))
    (ap (option_map writing_seen) c.in-len1-None.is-1))
