use Rattle.ras_rows.specs.Arrays.{holdings_in}
use Rattle.ras_eval.proofs.SeenValues.{computed_as}
use Rattle.ras_eval.proofs.calls.evaluate.Goals as goal

pub returns : goal.returns
returns g c = λ types statement one other given short seen pass.
    computed_as types statement (holdings_in c.args.view.now) c.args.checked.now one other c.args.rows.now given short seen pass c.compute.result c.compute.ensures
