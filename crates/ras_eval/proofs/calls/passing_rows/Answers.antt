use Rattle.std.proofs.Common.{subst, sym}
use Rattle.ras_rows.specs.Arrays.{holdings_in}
use Rattle.ras_rows.specs.Stops.{GivesOrStops}
use Rattle.ras_eval.proofs.SeenRows.{passing_seen}
use Rattle.ras_eval.proofs.calls.passing_rows.Goals as goal

pub returns : goal.returns
returns g c = λ types statement one other given short seen.
    subst (λ wanted. GivesOrStops (λ set. set) wanted c.rows_that_pass.result) (sym (passing_seen types statement (holdings_in c.args.view.now) c.args.checked.now one other given short seen))
    c.rows_that_pass.ensures
