use Rattle.std.proofs.Common.{[], arith}
use Rattle.std.proofs.lemmas.Result.{err_from_is_err_and}
use Rattle.ras_rows.specs.Arrays.{holdings_in}
use Rattle.ras_course.proofs.Going.{later_goes, later_stops}
use Rattle.ras_course.proofs.course.Course.past_early.Goals as goal

pub returns-in_err-list : goal.returns-in_err-list
returns-in_err-list c = λ types statement.
    let p = err_from_is_err_and c.from_residual.result c.from_residual.ensures.1 in
    rw (p.1, p.2)
    (later_stops types statement (holdings_in c.args.view.now) c.args.self.now c.in-Some.checked c.in-Some.is c.args.phase [] c.requires.some (omega (arith, c.requires.within))
    c.if-self-phase.false (λ fourth. absurd (omega (arith, fourth, c.requires.within))) c.in_err-list.field-0.0
    (λ ts s one other given seen pass. c.in_err-list.ensures.asked ts s one other given seen (λ fourth. absurd (omega (arith, fourth, c.requires.within)))))

pub returns : goal.returns
returns c = λ types statement.
    later_goes types statement (holdings_in c.args.view.now) c.args.self.now c.in-Some.checked c.in-Some.is c.args.phase [] c.requires.some (omega (arith, c.requires.within))
    c.if-self-phase.false (λ fourth. absurd (omega (arith, fourth, c.requires.within))) c.go_past.new.self c.in_ok-list.list c.go_past.result
    (λ ts s one other given seen pass. c.in_ok-list.ensures.asked ts s one other given seen (λ fourth. absurd (omega (arith, fourth, c.requires.within))))
    c.go_past.ensures.course c.go_past.ensures.list
