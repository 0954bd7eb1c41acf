use Rattle.std.proofs.Common.{Err, Ok}
use Rattle.std.proofs.lemmas.Result.{err_from_is_err_and}
use Rattle.ras_rows.specs.Arrays.{holdings_in}
use Rattle.ras_course.proofs.Going.{joined, stopped}
use Rattle.ras_course.proofs.course.Course.past_all.Goals as goal

pub returns-in_err-past_first : goal.returns-in_err-past_first
returns-in_err-past_first g c =
    let p = err_from_is_err_and c.from_residual.result c.from_residual.ensures.1 in
    rw (p.1, p.2) (stopped (c.in_err-past_first.ensures c.args.types.now (holdings_in c.args.view.now)))

pub returns-in_err-find_check : goal.returns-in_err-find_check
returns-in_err-find_check g c =
    let p = err_from_is_err_and c.from_residual-in_err-find_check.result c.from_residual-in_err-find_check.ensures.1 in
    rw (p.1, p.2)
    (joined {result = Err c.in_err-find_check.field-0.0} (c.in_ok-past_first.ensures c.args.types.now (holdings_in c.args.view.now))
    (stopped c.in_err-find_check.ensures))

pub returns-in_err-past_early : goal.returns-in_err-past_early
returns-in_err-past_early g c =
    let p = err_from_is_err_and c.from_residual-in_err-past_early.result c.from_residual-in_err-past_early.ensures.1 in
    rw (p.1, p.2)
    (joined {result = Err c.in_err-past_early.field-0.0} (joined {result = Ok tt} (c.in_ok-past_first.ensures c.args.types.now (holdings_in c.args.view.now)) c.in_ok-find_check.ensures)
    (stopped (c.in_err-past_early.ensures c.args.types.now c.args.statement.now)))

pub returns-in_err-past_early-2 : goal.returns-in_err-past_early-2
returns-in_err-past_early-2 g c =
    let p = err_from_is_err_and c.from_residual-in_err-past_early-2.result c.from_residual-in_err-past_early-2.ensures.1 in
    rw (p.1, p.2)
    (joined {result = Err c.in_err-past_early-2.field-0.0} (joined {result = Ok tt} (joined (c.in_ok-past_first.ensures c.args.types.now (holdings_in c.args.view.now)) c.in_ok-find_check.ensures) (c.in_ok-past_early.ensures c.args.types.now c.args.statement.now))
    (stopped (c.in_err-past_early-2.ensures c.args.types.now c.args.statement.now)))

pub returns-in_err-find_rows : goal.returns-in_err-find_rows
returns-in_err-find_rows g c =
    let p = err_from_is_err_and c.from_residual-in_err-find_rows.result c.from_residual-in_err-find_rows.ensures.1 in
    rw (p.1, p.2)
    (joined {result = Err c.in_err-find_rows.field-0.0} (joined {result = Ok tt} (joined (joined {result = Ok tt} (c.in_ok-past_first.ensures c.args.types.now (holdings_in c.args.view.now)) c.in_ok-find_check.ensures) (c.in_ok-past_early.ensures c.args.types.now c.args.statement.now)) (c.in_ok-past_early-2.ensures c.args.types.now c.args.statement.now))
    (stopped (c.in_err-find_rows.ensures c.args.types.now c.args.statement.now)))

pub returns : goal.returns
returns g c =
    joined {result = c.past_last.result} (joined {result = Ok tt} (joined (joined {result = Ok tt} (joined (c.in_ok-past_first.ensures c.args.types.now (holdings_in c.args.view.now)) c.in_ok-find_check.ensures) (c.in_ok-past_early.ensures c.args.types.now c.args.statement.now)) (c.in_ok-past_early-2.ensures c.args.types.now c.args.statement.now)) (c.in_ok-find_rows.ensures c.args.types.now c.args.statement.now))
    (c.past_last.ensures c.args.types.now c.args.statement.now)
