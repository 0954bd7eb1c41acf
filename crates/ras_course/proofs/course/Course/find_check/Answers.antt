use Rattle.std.proofs.Common.{sym, ◌∙◌}
use Rattle.std.proofs.lemmas.Result.{err_from_is_err_and}
use Rattle.ras_rows.specs.Arrays.{holdings_in}
use Rattle.ras_course.proofs.Going.{check_found, check_stops, none_of}
use Rattle.ras_course.proofs.course.Course.find_check.Goals as goal

pub returns-in_err-checked : goal.returns-in_err-checked
returns-in_err-checked c =
    let p = err_from_is_err_and c.from_residual.result c.from_residual.ensures.1 in
    rw (p.1, p.2)
    (check_stops c.args.types.now c.args.statement.now (holdings_in c.args.view.now) c.args.self.now c.in_err-checked.field-0.0 c.in_err-checked.ensures)

pub returns : goal.returns
returns c =
    check_found c.args.types.now c.args.statement.now (holdings_in c.args.view.now) c.args.self.now c.replace.new.self c.in_ok-checked.checked
    (none_of c.args.self.now.checked (sym c.is_some.ensures ∙ c.if-is_some.false)) c.in_ok-checked.ensures c.replace.ensures.after
