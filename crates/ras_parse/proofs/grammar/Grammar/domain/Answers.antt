use Rattle.std.proofs.Common.{refl}
use Rattle.ras_syntax.specs.declared.expr.ExprForm.TheVariants as forms
use Rattle.spec_grammar.specs.Grammar.{w}
use Rattle.law_grammar.specs.Readers.{exactly, mapped}
use Rattle.law_grammar.specs.Reading.{parentheses_read, reads}
use Rattle.ras_parse.specs.Inputs.{left, first}
use Rattle.ras_parse.proofs.Readings.{mapped-is}
use Rattle.ras_parse.proofs.Follows.{goes-on, goes-by, same-left, skipped, found, taken-first, mapped-reads, spanned-made}
use Rattle.ras_parse.proofs.grammar.Grammar.domain.Goals as goal

pub returns : goal.returns
returns g c =
    let goes = goes-on (goes-by c.sign.ensures) (goes-on c.in_ok-expect_word.ensures.0 c.in_ok-e.ensures.gives.0) in
    let whole = spanned-made (first (left c.sign.new.self)) (mapped forms.Sdom (parentheses_read (reads c.args.self.now.depth))) c.at-start.result c.args.cursor.now c.sign.new.self
    c.expect_word.new.self c.parentheses.new.cursor (forms.Sdom c.in_ok-e.e) c.in_ok-whole.whole (same-left c.sign.ensures c.if-sign.false)
    (taken-first (exactly (w "sdom")) c.in_ok-expect_word.ensures.1) (mapped-reads forms.Sdom (parentheses_read (reads c.args.self.now.depth)) c.in_ok-e.ensures) c.at-start.ensures goes.same
    c.in_ok-whole.ensures in
    record { gives = (goes, rw (skipped c.sign.ensures c.if-sign.false, found (w "sdom") c.in_ok-expect_word.ensures, mapped-is, whole) refl) }
