use Rattle.std.proofs.Common.{◌∙◌, ap, subst}
use Rattle.std.specs.Prelude.{option_to_list}
use Rattle.ras_fold.specs.Summary.{AddsNumbers}
use Rattle.spec_expressions.specs.Eval.{position_in}
use Rattle.ras_values.specs.Tallies.{counted_number}
use Rattle.ras_values.proofs.Tallied.{added_by}
use Rattle.ras_values.proofs.tally.Tally.add.Goals as goal

pub returns-clause-added : goal.returns-clause-added
returns-clause-added c = λ zs added.
    added_by c.args.self.now.rule c.args.self.now.summary c.add_number.new.self (position_in c.args.x.now) zs
    (subst (λ n. AddsNumbers c.args.self.now.summary c.add_number.new.self (option_to_list n)) (c.counted.ensures ∙ ap
    (counted_number c.args.self.now.rule) c.number_of.ensures) c.add_number.ensures.adds)
    added
