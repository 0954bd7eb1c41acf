use Rattle.ras_rows.specs.Arrays.{holdings_in}
use Rattle.ras_course.proofs.Going.{comes_last}
use Rattle.ras_course.proofs.course.Course.ask.Goals as goal

pub returns-in-Ok : goal.returns-in-Ok
returns-in-Ok g c =
    comes_last c.args.types.now c.args.statement.now (holdings_in c.args.view.now) c.args.self.now c.past_all.new.self c.finish.result c.in-Ok.ensures
    (c.finish.ensures c.args.types.now c.args.statement.now)
