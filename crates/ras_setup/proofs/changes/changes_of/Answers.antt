use Rattle.std.proofs.Common.{subst, sym}
use Rattle.ras_course.specs.Courses.{IsComeTo}
use Rattle.ras_rows.specs.Arrays.{holdings_in}
use Rattle.ras_store.specs.Store.{store_kept}
use Rattle.ras_setup.proofs.Asked.{answered, way-begins, way-goes-on}
use Rattle.ras_setup.proofs.changes.changes_of.Goals as goal

pub loop-init : goal.loop-init
loop-init g c =
    way-begins c.args.types.now c.args.statement.now (store_kept c.args.store.now) c.new-course.result c.new-work.result c.new-course.ensures
    c.new-work.ensures.changes c.new-work.ensures.kept

pub returns-in-Answers : goal.returns-in-Answers
returns-in-Answers g c = λ database setting keeps.
    let come = subst (λ view. IsComeTo c.args.types.now c.args.statement.now (holdings_in view) c.loop.course database) (sym c.view.ensures)
    (c.loop.invariant.come database setting keeps) in
    answered c.args.types.now c.args.statement.now database c.loop.course c.in-Answers.answer c.changes_of_answer.result
    (c.in-Answers.ensures database database come come.seen) c.changes_of_answer.ensures

pub loop-preserved : goal.loop-preserved
loop-preserved g c =
    way-goes-on c.args.types.now c.args.statement.now (store_kept c.args.store.now) c.loop.course c.ask.new.self c.loop.work c.take.new.work c.in-Asks.phase c.in-Asks.list
    c.loop.invariant (λ database come. let here = subst (λ view. IsComeTo c.args.types.now c.args.statement.now (holdings_in view) c.loop.course database)
    (sym c.view.ensures) come in c.in-Asks.ensures database database here here.seen) c.in_ok-take-in-Asks.ensures.taken c.in_ok-take-in-Asks.ensures.changes
