use Rattle.std.proofs.Common.{◌∙◌}
use Rattle.ras_parse.proofs.Follows.{goes-on, goes-by, tail, entered, skipped}
use Rattle.ras_parse.proofs.forms.form.Goals as goal

pub returns-then-word : goal.returns-then-word
returns-then-word c = tail
    (entered c.word.ensures c.if-word.true _ _)
    (goes-by c.word.ensures) c.select_rest.ensures

pub returns-then-word-2 : goal.returns-then-word-2
returns-then-word-2 c = tail
    (skipped c.word.ensures c.if-word.false _ _
    ∙ entered c.word-2.ensures c.if-word-2.true _ _)
    (goes-on (goes-by c.word.ensures) (goes-by c.word-2.ensures)) c.insert_rest.ensures

pub returns-then-word-3 : goal.returns-then-word-3
returns-then-word-3 c = tail
    (skipped c.word.ensures c.if-word.false _ _
    ∙ skipped c.word-2.ensures c.if-word-2.false _ _
    ∙ entered c.word-3.ensures c.if-word-3.true _ _)
    (goes-on (goes-on (goes-by c.word.ensures) (goes-by c.word-2.ensures)) (goes-by c.word-3.ensures)) c.delete_rest.ensures

pub returns-then-word-4 : goal.returns-then-word-4
returns-then-word-4 c = tail
    (skipped c.word.ensures c.if-word.false _ _
    ∙ skipped c.word-2.ensures c.if-word-2.false _ _
    ∙ skipped c.word-3.ensures c.if-word-3.false _ _
    ∙ entered c.word-4.ensures c.if-word-4.true _ _)
    (goes-on (goes-on (goes-on (goes-by c.word.ensures) (goes-by c.word-2.ensures)) (goes-by c.word-3.ensures)) (goes-by c.word-4.ensures)) c.update_rest.ensures

pub returns : goal.returns
returns c = tail
    (skipped c.word.ensures c.if-word.false _ _
    ∙ skipped c.word-2.ensures c.if-word-2.false _ _
    ∙ skipped c.word-3.ensures c.if-word-3.false _ _
    ∙ skipped c.word-4.ensures c.if-word-4.false _ _)
    (goes-on (goes-on (goes-on (goes-by c.word.ensures) (goes-by c.word-2.ensures)) (goes-by c.word-3.ensures)) (goes-by c.word-4.ensures)) c.short_form.ensures
