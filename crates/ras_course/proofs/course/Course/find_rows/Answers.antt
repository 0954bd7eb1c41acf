use Rattle.std.proofs.Common.{sym, ◌∙◌}
use Rattle.std.proofs.lemmas.Result.{err_from_is_err_and}
use Rattle.ras_rows.specs.Arrays.{holdings_in}
use Rattle.ras_course.proofs.Going.{none_of, rows_found, rows_stop}
use Rattle.ras_course.proofs.course.Course.find_rows.Goals as goal

pub returns-in_err-rows : goal.returns-in_err-rows
returns-in_err-rows g c = λ types statement.
    let p = err_from_is_err_and c.from_residual.result c.from_residual.ensures.1 in
    rw (p.1, p.2)
    (rows_stop types statement (holdings_in c.args.view.now) c.args.self.now c.in-Some.checked c.in-Some.is (none_of c.args.self.now.rows (sym c.is_some.ensures ∙ c.if-is_some.false))
    c.in_err-rows.field-0.0 c.in_err-rows.ensures)

pub returns : goal.returns
returns g c = λ types statement.
    rows_found types statement (holdings_in c.args.view.now) c.args.self.now c.in-Some.checked c.in-Some.is (none_of c.args.self.now.rows (sym c.is_some.ensures ∙ c.if-is_some.false))
    c.replace.new.self c.in_ok-rows.rows c.in_ok-rows.ensures c.replace.ensures.after
