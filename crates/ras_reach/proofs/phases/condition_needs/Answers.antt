use Rattle.spec_statements.specs.Limits.{limited_locks}
use Rattle.spec_statements.specs.Phases.{phase_2_list, phase_3_list, shaped_condition, until_rows}
use Rattle.spec_statements.specs.Rows.{where_of}
use Rattle.spec_statements.specs.Statement.{request_of, statement_tree_of}
use Rattle.ras_reach.proofs.PhasesSeen.{after_shapes}
use Rattle.ras_reach.proofs.phases.condition_needs.Goals as goal

pub returns : goal.returns
returns c database shown =
    let tree = statement_tree_of c.args.checked.now in
    after_shapes (until_rows tree database) (λ rows. limited_locks tree (phase_2_list tree rows)) (shaped_condition (where_of (request_of c.args.checked.now.form)))
    (λ rows. limited_locks tree (phase_3_list tree rows)) c.in_ok-rows.rows c.in_ok-_domains._domains c.condition_list.result
    (c.in_ok-rows.ensures.databases database shown) (rw c.sources-sources.ensures at c.in_ok-_domains.ensures) c.in_ok-shape_condition.ensures
    (rw (c.sources-sources.ensures, c.condition.ensures) at c.condition_list.ensures)
