use Rattle.std.proofs.Common.{Ok, subst}
use Rattle.ras_rows.specs.Arrays.{holdings_in}
use Rattle.ras_course.proofs.Going.{HasComputed, rows_finish, stop_finish, writes_finish}
use Rattle.ras_course.proofs.course.Course.finish.Goals as goal

pub returns-in-Ok-Rows : goal.returns-in-Ok-Rows
returns-in-Ok-Rows g c = λ types statement.
    rows_finish types statement (holdings_in c.args.view.now) c.args.self.now c.in-Some.checked c.in-Some.is c.in-Some-rows.rows c.in-Some-rows.is c.in-Ok-Rows.rows
    (subst (λ v. HasComputed (holdings_in c.args.view.now) c.in-Some.checked c.in-Some-rows.rows (Ok v)) c.in-Ok-Rows.field-0-is c.in-Ok-Rows.ensures)

pub returns-in-Ok-Writes : goal.returns-in-Ok-Writes
returns-in-Ok-Writes g c = λ types statement.
    writes_finish types statement (holdings_in c.args.view.now) c.args.self.now c.in-Some.checked c.in-Some.is c.in-Some-rows.rows c.in-Some-rows.is c.in-Ok-Writes.writes
    (subst (λ v. HasComputed (holdings_in c.args.view.now) c.in-Some.checked c.in-Some-rows.rows (Ok v)) c.in-Ok-Writes.field-0-is c.in-Ok-Writes.ensures)

pub returns-in-Err : goal.returns-in-Err
returns-in-Err g c = λ types statement.
    rw c.from.ensures
    (stop_finish types statement (holdings_in c.args.view.now) c.args.self.now c.in-Some.checked c.in-Some.is c.in-Some-rows.rows c.in-Some-rows.is c.in-Err.stop c.in-Err.ensures)
