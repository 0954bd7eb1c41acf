use Rattle.ras_settings.proofs.Meanings.{means, means_one}
use Rattle.ras_settings.proofs.read.read_words.Goals as goal

pub returns-clause-meant : goal.returns-clause-meant
returns-clause-meant c = λ memory_left. means _ c.in-Ok.values _ (c.has_form.ensures.0 c.if-not-has_form.false) c.in-Ok.ensures.found (c.judge.ensures memory_left)

pub returns-clause-alone : goal.returns-clause-alone
returns-clause-alone c = λ outcome mean memory_left.
    means_one _ _ outcome (means _ c.in-Ok.values _ (c.has_form.ensures.0 c.if-not-has_form.false) c.in-Ok.ensures.found (c.judge.ensures memory_left)) mean
