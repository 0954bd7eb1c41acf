use Rattle.std.proofs.Common.{◌∙◌}
use Rattle.ras_parse.proofs.Follows.{goes-on, goes-by, tail, entered, skipped}
use Rattle.ras_parse.proofs.forms.short_form.Goals as goal

pub returns-then-word : goal.returns-then-word
returns-then-word c = tail
    (entered c.word.ensures c.if-word.true _ _)
    (goes-by c.word.ensures) c.create_rest.ensures

pub returns-then-word-2 : goal.returns-then-word-2
returns-then-word-2 c = tail
    (skipped c.word.ensures c.if-word.false _ _
    ∙ entered c.word-2.ensures c.if-word-2.true _ _)
    (goes-on (goes-by c.word.ensures) (goes-by c.word-2.ensures)) c.drop_rest.ensures

pub returns : goal.returns
returns c = tail
    (skipped c.word.ensures c.if-word.false _ _
    ∙ skipped c.word-2.ensures c.if-word-2.false _ _)
    (goes-on (goes-by c.word.ensures) (goes-by c.word-2.ensures)) c.word_form.ensures
