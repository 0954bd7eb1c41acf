use Rattle.std.proofs.Common.{◌≡◌, true, false, [], ◌∷◌, refl, sym, ap, ◌∙◌}
use Rattle.std.proofs.lemmas.Result.{err_from_is_err_and}
use Rattle.ras_cells.specs.declared.numbers.Op1.TheVariants as one
use Rattle.ras_syntax.specs.declared.expr.ExprForm.TheVariants as forms
use Rattle.spec_grammar.specs.Grammar.{any, signed, s}
use Rattle.law_grammar.specs.Readers.{mapped, with_span}
use Rattle.law_grammar.specs.Reading.{begins_atom, closed_read, cast_rest, primary_form, signed_read, reads}
use Rattle.ras_parse.specs.Inputs.{left, first, first_passes}
use Rattle.ras_parse.specs.Parts.{parts_from}
use Rattle.ras_parse.proofs.Readings.{choose-is, mapped-is}
use Rattle.ras_parse.proofs.Follows.{goes-on, goes-by, same-left, first-left, skipped, entered, mapped-reads, spanned-made, spanned-wrong, whole-made, whole-wrong, from-place, tail}
use Rattle.ras_parse.proofs.Loops.{part_after-is, part_after-wrong}
use Rattle.ras_parse.proofs.grammar.Grammar.signed.Goals as goal

pub returns-in_err-e : goal.returns-in_err-e
unfolding signed_read
returns-in_err-e g c =
    let p = err_from_is_err_and c.from_residual.result c.from_residual.ensures.1 in
    rw (p.1, p.2) (record {
      gives = λ u. rw (entered c.sign.ensures c.if-sign.true)
          (spanned-wrong (first (left c.args.cursor.now)) (mapped (λ x. forms.Unary one.Neg x) (reads c.args.self.now.depth signed)) c.sign.new.self c.nested.new.cursor
          (rw (mapped-is, c.in_err-e.ensures.gives u) refl));
    })

pub returns-then-sign : goal.returns-then-sign
unfolding signed_read
returns-then-sign g c =
    let goes = goes-on (goes-by c.sign.ensures) c.in_ok-e.ensures.gives.0 in
    record {
      gives = (
        goes,
        rw (entered c.sign.ensures c.if-sign.true)
            (spanned-made (first (left c.args.cursor.now)) (mapped (λ x. forms.Unary one.Neg x) (reads c.args.self.now.depth signed)) c.at-start.result c.args.cursor.now c.args.cursor.now
            c.sign.new.self c.nested.new.cursor (forms.Unary one.Neg c.in_ok-e.e) c.in_ok-negative.negative refl (first-left c.sign.ensures c.if-sign.true)
            (mapped-reads (λ x. forms.Unary one.Neg x) (reads c.args.self.now.depth signed) c.in_ok-e.ensures) c.at-start.ensures goes.same c.in_ok-negative.ensures),
      );
    }

pub returns-in_err-form : goal.returns-in_err-form
unfolding signed_read
returns-in_err-form g c =
    let p = err_from_is_err_and c.from_residual-in_err-form.result c.from_residual-in_err-form.ensures.1 in
    rw (p.1, p.2) (record {
      gives = λ u. rw (skipped c.sign.ensures c.if-sign.false, skipped c.sign-2.ensures c.if-not-sign.true)
          (part_after-wrong (reads c.args.self.now.depth) [] (with_span (primary_form (reads c.args.self.now.depth))) (left c.sign-2.new.self) (left c.primary_form.new.cursor)
          (whole-wrong (primary_form (reads c.args.self.now.depth)) (left c.sign-2.new.self) (left c.primary_form.new.cursor) (c.in_err-form.ensures.gives u)));
    })

pub returns-then-not-sign : goal.returns-then-not-sign
unfolding signed_read
returns-then-not-sign g c =
    let goes = goes-on (goes-by c.sign.ensures) (goes-on (goes-by c.sign-2.ensures) c.in_ok-form.ensures.gives.0) in
    let same : left c.args.cursor.now ≡ left c.sign-2.new.self = same-left c.sign.ensures c.if-sign.false ∙ same-left c.sign-2.ensures c.if-not-sign.true in
    tail
    (rw (skipped c.sign.ensures c.if-sign.false, skipped c.sign-2.ensures c.if-not-sign.true)
    (part_after-is (reads c.args.self.now.depth) [] (with_span (primary_form (reads c.args.self.now.depth))) (left c.sign-2.new.self) c.in_ok-part.part (left c.primary_form.new.cursor)
    (whole-made (primary_form (reads c.args.self.now.depth)) c.at-start.result c.args.cursor.now c.sign-2.new.self c.primary_form.new.cursor c.in_ok-form.form c.in_ok-part.part
    same c.in_ok-form.ensures c.at-start.ensures goes.same c.in_ok-part.ensures)
    ∙ ap (λ ts. parts_from (reads c.args.self.now.depth) ts c.in_ok-part.part (left c.primary_form.new.cursor))
    (sym same ∙ from-place c.at-start.result c.args.cursor.now c.primary_form.new.cursor c.at-start.ensures goes.same)))
    goes c.parts.ensures

pub returns-in_err-cast : goal.returns-in_err-cast
unfolding signed_read
returns-in_err-cast g c =
    let p = err_from_is_err_and c.from_residual-in_err-cast.result c.from_residual-in_err-cast.ensures.1 in
    let begins : first_passes begins_atom (left c.sign-2.new.self) ≡ true = sym c.begins_atom.ensures ∙ c.if-begins_atom.true in
    rw (p.1, p.2) (record {
      gives = λ u. rw (skipped c.sign.ensures c.if-sign.false, entered c.sign-2.ensures c.if-not-sign.false, choose-is, begins)
          (spanned-wrong (first (left c.sign.new.self)) (cast_rest (reads c.args.self.now.depth)) c.sign-2.new.self c.cast_rest.new.cursor (c.in_err-cast.ensures.gives u));
    })

pub returns-then-begins_atom : goal.returns-then-begins_atom
unfolding signed_read
returns-then-begins_atom g c =
    let goes = goes-on (goes-by c.sign.ensures) (goes-on (goes-by c.sign-2.ensures) c.in_ok-cast.ensures.gives.0) in
    let begins : first_passes begins_atom (left c.sign-2.new.self) ≡ true = sym c.begins_atom.ensures ∙ c.if-begins_atom.true in
    record {
      gives = (
        goes,
        rw (skipped c.sign.ensures c.if-sign.false, entered c.sign-2.ensures c.if-not-sign.false, choose-is, begins)
            (spanned-made (first (left c.sign.new.self)) (cast_rest (reads c.args.self.now.depth)) c.at-start.result c.args.cursor.now c.sign.new.self
            c.sign-2.new.self c.cast_rest.new.cursor c.in_ok-cast.cast c.in_ok-whole.whole (same-left c.sign.ensures c.if-sign.false) (first-left c.sign-2.ensures c.if-not-sign.false)
            c.in_ok-cast.ensures c.at-start.ensures goes.same c.in_ok-whole.ensures),
      );
    }

pub returns-in_err-inner : goal.returns-in_err-inner
unfolding signed_read
returns-in_err-inner g c =
    let p = err_from_is_err_and c.from_residual-in_err-inner.result c.from_residual-in_err-inner.ensures.1 in
    let begins : first_passes begins_atom (left c.sign-2.new.self) ≡ false = sym c.begins_atom.ensures ∙ c.if-begins_atom.false in
    rw (p.1, p.2) (record {
      gives = λ u. rw (skipped c.sign.ensures c.if-sign.false, entered c.sign-2.ensures c.if-not-sign.false, choose-is, begins)
          (part_after-wrong (reads c.args.self.now.depth) (first (left c.sign.new.self) ∷ []) (closed_read (s ")") (reads c.args.self.now.depth any)) (left c.sign-2.new.self)
          (left c.closed.new.cursor) (c.in_err-inner.ensures.gives u));
    })

pub returns : goal.returns
unfolding signed_read
returns g c =
    let goes = goes-on (goes-by c.sign.ensures) (goes-on (goes-by c.sign-2.ensures) c.in_ok-inner.ensures.gives.0) in
    let begins : first_passes begins_atom (left c.sign-2.new.self) ≡ false = sym c.begins_atom.ensures ∙ c.if-begins_atom.false in
    let same : first (left c.sign.new.self) ∷ left c.sign-2.new.self ≡ left c.args.cursor.now =
    sym (first-left c.sign-2.ensures c.if-not-sign.false) ∙ sym (same-left c.sign.ensures c.if-sign.false) in
    tail
    (rw (skipped c.sign.ensures c.if-sign.false, entered c.sign-2.ensures c.if-not-sign.false, choose-is, begins)
    (part_after-is (reads c.args.self.now.depth) (first (left c.sign.new.self) ∷ []) (closed_read (s ")") (reads c.args.self.now.depth any)) (left c.sign-2.new.self)
    c.in_ok-inner.inner (left c.closed.new.cursor) c.in_ok-inner.ensures.gives.1
    ∙ ap (λ ts. parts_from (reads c.args.self.now.depth) ts c.in_ok-inner.inner (left c.closed.new.cursor))
    (same ∙ from-place c.at-start.result c.args.cursor.now c.closed.new.cursor c.at-start.ensures goes.same)))
    goes c.parts-2.ensures
