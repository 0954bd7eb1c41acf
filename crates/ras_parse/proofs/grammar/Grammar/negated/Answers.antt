use Rattle.std.proofs.Common.{refl}
use Rattle.std.proofs.lemmas.Result.{err_from_is_err_and}
use Rattle.ras_cells.specs.declared.numbers.Op1.TheVariants as one
use Rattle.ras_syntax.specs.declared.expr.ExprForm.TheVariants as forms
use Rattle.spec_grammar.specs.Grammar.{negation}
use Rattle.law_grammar.specs.Readers.{mapped}
use Rattle.law_grammar.specs.Reading.{negated_read, reads}
use Rattle.ras_parse.specs.Inputs.{left, first}
use Rattle.ras_parse.proofs.Readings.{mapped-is}
use Rattle.ras_parse.proofs.Follows.{goes-on, goes-by, first-left, skipped, entered, mapped-reads, spanned-made, spanned-wrong, tail}
use Rattle.ras_parse.proofs.grammar.Grammar.negated.Goals as goal

pub returns-then-not-word : goal.returns-then-not-word
unfolding negated_read
returns-then-not-word g c = tail (rw (skipped c.word.ensures c.if-not-word.true) refl) (goes-by c.word.ensures) c.compared.ensures

pub returns-in_err-e : goal.returns-in_err-e
unfolding negated_read
returns-in_err-e g c =
    let p = err_from_is_err_and c.from_residual.result c.from_residual.ensures.1 in
    rw (p.1, p.2) (record {
      gives = λ u. rw (entered c.word.ensures c.if-not-word.false)
          (spanned-wrong (first (left c.args.cursor.now)) (mapped (λ x. forms.Unary one.Not x) (reads c.args.self.now.depth negation)) c.word.new.self c.nested.new.cursor
          (rw (mapped-is, c.in_err-e.ensures.gives u) refl));
    })

pub returns : goal.returns
unfolding negated_read
returns g c =
    let goes = goes-on (goes-by c.word.ensures) c.in_ok-e.ensures.gives.0 in
    record {
      gives = (
        goes,
        rw (entered c.word.ensures c.if-not-word.false)
            (spanned-made (first (left c.args.cursor.now)) (mapped (λ x. forms.Unary one.Not x) (reads c.args.self.now.depth negation)) c.at-start.result c.args.cursor.now c.args.cursor.now
            c.word.new.self c.nested.new.cursor (forms.Unary one.Not c.in_ok-e.e) c.in_ok-whole.whole refl (first-left c.word.ensures c.if-not-word.false)
            (mapped-reads (λ x. forms.Unary one.Not x) (reads c.args.self.now.depth negation) c.in_ok-e.ensures) c.at-start.ensures goes.same c.in_ok-whole.ensures),
      );
    }
