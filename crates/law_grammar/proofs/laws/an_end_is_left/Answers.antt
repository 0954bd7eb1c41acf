use Rattle.std.specs.Prelude.{◌++◌}
use Rattle.std.proofs.Common.{ap, ◌∙◌}
use Rattle.law_grammar.proofs.Unrolled.{left, read_at-leaves, taken, taken-fewer}
use Rattle.law_grammar.proofs.laws.an_end_is_left.Goals as goal

pub returns-clause-read : goal.returns-clause-read
returns-clause-read c = λ level tokens rest x e.
    ((taken level tokens x rest e).before, (taken level tokens x rest e).is, (taken level tokens x rest e).holds)

pub returns-clause-fewer : goal.returns-clause-fewer
returns-clause-fewer c = λ level tokens rest x e. taken-fewer level tokens x rest e

pub returns-clause-wrong : goal.returns-clause-wrong
returns-clause-wrong c = λ level tokens rest e.
    ((read_at-leaves level).read tokens, (read_at-leaves level).is tokens ∙ ap (λ o. (read_at-leaves level).read tokens ++ left o) e)
