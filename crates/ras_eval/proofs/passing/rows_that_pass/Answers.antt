use Rattle.std.specs.Option.{option_copied, option_map}
use Rattle.std.proofs.lemmas.Result.{err_from_is_err_and}
use Rattle.spec_expressions.specs.Tree.{condition_of, tree_of}
use Rattle.spec_shown.specs.Shown.{rows_shown}
use Rattle.spec_statements.specs.Statement.{request_of, statement_tree_of}
use Rattle.ras_rows.specs.Arrays.{holdings_in}
use Rattle.ras_eval.proofs.PassingRows.{passing_gives, rows_stop, shape_stop}
use Rattle.ras_eval.proofs.passing.rows_that_pass.Goals as goal

pub returns-in_err-rows : goal.returns-in_err-rows
returns-in_err-rows c =
    let p = err_from_is_err_and c.from_residual.result c.from_residual.ensures.1 in
    rw (p.1, p.2)
    (rows_stop (statement_tree_of c.args.checked.now) (rows_shown (request_of c.args.checked.now.form) (holdings_in c.args.view.now)) c.in_err-rows.field-0.0 c.in_err-rows.ensures.shown)

pub returns-in_err-shape_condition : goal.returns-in_err-shape_condition
returns-in_err-shape_condition c =
    let p = err_from_is_err_and c.from_residual-in_err-shape_condition.result c.from_residual-in_err-shape_condition.ensures.1 in
    rw (p.1, p.2)
    (shape_stop (statement_tree_of c.args.checked.now) (rows_shown (request_of c.args.checked.now.form) (holdings_in c.args.view.now)) c.in_ok-rows.rows c.in_ok-rows.ensures.shown
    c.in_err-shape_condition.field-0.0 c.in_err-shape_condition.ensures)

pub returns : goal.returns
returns c =
    passing_gives (statement_tree_of c.args.checked.now) (rows_shown (request_of c.args.checked.now.form) (holdings_in c.args.view.now)) c.in_ok-rows.rows c.in_ok-rows.ensures.shown
    (condition_of (option_map tree_of (option_copied c.condition.result))) c.passing.result c.condition.ensures c.in_ok-shape_condition.ensures c.passing.ensures
