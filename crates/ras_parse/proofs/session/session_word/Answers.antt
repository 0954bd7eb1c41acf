use Rattle.std.proofs.Common.{ap, sym, ◌∙◌, refl}
use Rattle.ras_parse.specs.SessionWords.{word_of, word_statement}
use Rattle.ras_parse.proofs.Said.{told-only, told_word}
use Rattle.ras_parse.proofs.Steps.{lexed-start}
use Rattle.ras_parse.proofs.session.session_word.Goals as goal

pub returns-clause-word : goal.returns-clause-word
returns-clause-word c = told_word c.args.text.now c.word_of.result (sym (c.word_of.ensures ∙ ap word_of (lexed-start c.args.text.now)))

pub returns-clause-only : goal.returns-clause-only
returns-clause-only c w is =
    c.word_of.ensures ∙ (ap word_of (lexed-start c.args.text.now) ∙ told-only c.args.text.now (word_statement c.args.text.now w) w is refl)
