use Rattle.std.proofs.Common.{arith}
use Rattle.std.proofs.lemmas.Result.{err_from_is_err_and}
use Rattle.ras_rows.specs.Arrays.{holdings_in}
use Rattle.ras_course.proofs.Going.{later_goes, later_stops}
use Rattle.ras_course.proofs.course.Course.past_last.Goals as goal

pub returns-in_err-list : goal.returns-in_err-list
returns-in_err-list c = λ types statement.
    let p = err_from_is_err_and c.from_residual.result c.from_residual.ensures.1 in
    rw (p.1, p.2)
    (later_stops types statement (holdings_in c.args.view.now) c.args.self.now c.in-Some.checked c.in-Some.is 4 c.in-Some-rows.rows (omega arith) (omega arith)
    c.if-self-ne4.false (λ fourth. c.in-Some-rows.is) c.in_err-list.field-0.0 c.in_err-list.ensures.asked)

pub returns : goal.returns
returns c = λ types statement.
    later_goes types statement (holdings_in c.args.view.now) c.args.self.now c.in-Some.checked c.in-Some.is 4 c.in-Some-rows.rows (omega arith) (omega arith)
    c.if-self-ne4.false (λ fourth. c.in-Some-rows.is) c.go_past.new.self c.in_ok-list.list c.go_past.result c.in_ok-list.ensures.asked
    c.go_past.ensures.course c.go_past.ensures.list
