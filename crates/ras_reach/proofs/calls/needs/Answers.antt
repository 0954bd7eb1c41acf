use Rattle.ras_rows.specs.Arrays.{holdings_in}
use Rattle.ras_reach.proofs.AskedReplies.{fourth_over, needed_over, second_over, third_over}
use Rattle.ras_reach.proofs.calls.needs.Goals as goal

pub returns-in-2-clause-asked : goal.returns-in-2-clause-asked
returns-in-2-clause-asked c = λ types statement one other given seen pass.
    second_over types statement (holdings_in c.args.view.now) c.args.checked.now one other c.args.phase c.in-2.is given seen c.domain_needs.result c.domain_needs.ensures

pub returns-in-2-clause-needed : goal.returns-in-2-clause-needed
returns-in-2-clause-needed c = λ types statement one other given seen pass later.
    needed_over types statement (holdings_in c.args.view.now) c.args.checked.now one other c.args.phase later given seen c.domain_needs.result
    (second_over types statement (holdings_in c.args.view.now) c.args.checked.now one other c.args.phase c.in-2.is given seen c.domain_needs.result c.domain_needs.ensures)

pub returns-in-3-clause-asked : goal.returns-in-3-clause-asked
returns-in-3-clause-asked c = λ types statement one other given seen pass.
    third_over types statement (holdings_in c.args.view.now) c.args.checked.now one other c.args.phase c.in-3.is given seen c.condition_needs.result c.condition_needs.ensures

pub returns-in-3-clause-needed : goal.returns-in-3-clause-needed
returns-in-3-clause-needed c = λ types statement one other given seen pass later.
    needed_over types statement (holdings_in c.args.view.now) c.args.checked.now one other c.args.phase later given seen c.condition_needs.result
    (third_over types statement (holdings_in c.args.view.now) c.args.checked.now one other c.args.phase c.in-3.is given seen c.condition_needs.result c.condition_needs.ensures)

pub returns-in-4-clause-asked : goal.returns-in-4-clause-asked
returns-in-4-clause-asked c = λ types statement one other given seen pass.
    fourth_over types statement (holdings_in c.args.view.now) c.args.checked.now one other c.args.phase c.in-4.is given seen c.args.rows.now (pass c.in-4.is) c.body_needs.result c.body_needs.ensures

pub returns-in-4-clause-needed : goal.returns-in-4-clause-needed
returns-in-4-clause-needed c = λ types statement one other given seen pass later.
    needed_over types statement (holdings_in c.args.view.now) c.args.checked.now one other c.args.phase later given seen c.body_needs.result
    (fourth_over types statement (holdings_in c.args.view.now) c.args.checked.now one other c.args.phase c.in-4.is given seen c.args.rows.now (pass c.in-4.is) c.body_needs.result c.body_needs.ensures)
