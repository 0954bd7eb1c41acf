use Rattle.std.proofs.Common.{◌≡◌, refl, ◌∙◌}
use Rattle.std.proofs.lemmas.Result.{err_from_is_err_and}
use Rattle.law_grammar.specs.Reading.{marray_rest, condense_rest, concat_rest, whole_read, reads}
use Rattle.ras_parse.specs.Inputs.{left, first}
use Rattle.ras_parse.proofs.Follows.{goes-on, goes-by, same-left, first-left, skipped, entered, spanned-made, spanned-wrong, tail}
use Rattle.ras_parse.proofs.grammar.Grammar.whole.Goals as goal

pub returns-in_err-marray : goal.returns-in_err-marray
unfolding whole_read
returns-in_err-marray g c =
    let p = err_from_is_err_and c.from_residual.result c.from_residual.ensures.1 in
    rw (p.1, p.2) (record {
      gives = λ u. rw (entered c.word.ensures c.if-word.true)
          (spanned-wrong (first (left c.args.cursor.now)) (marray_rest (reads c.args.self.now.depth)) c.word.new.self c.marray_rest.new.cursor (c.in_err-marray.ensures.gives u));
    })

pub returns-then-word : goal.returns-then-word
unfolding whole_read
returns-then-word g c =
    let goes = goes-on (goes-by c.word.ensures) (c.in_ok-marray.ensures.gives.0) in
    let same : left c.args.cursor.now ≡ left c.args.cursor.now = refl in
    record {
      gives = (
        goes,
        rw (entered c.word.ensures c.if-word.true)
            (spanned-made (first (left c.args.cursor.now)) (marray_rest (reads c.args.self.now.depth))
            c.at-start.result c.args.cursor.now c.args.cursor.now c.word.new.self c.marray_rest.new.cursor
            c.in_ok-marray.marray c.in_ok-whole.whole same (first-left c.word.ensures c.if-word.true) c.in_ok-marray.ensures c.at-start.ensures goes.same c.in_ok-whole.ensures),
      );
    }

pub returns-in_err-condense : goal.returns-in_err-condense
unfolding whole_read
returns-in_err-condense g c =
    let p = err_from_is_err_and c.from_residual-in_err-condense.result c.from_residual-in_err-condense.ensures.1 in
    rw (p.1, p.2) (record {
      gives = λ u. rw (skipped c.word.ensures c.if-word.false, entered c.word-2.ensures c.if-word-2.true)
          (spanned-wrong (first (left c.word.new.self)) (condense_rest (reads c.args.self.now.depth)) c.word-2.new.self c.condense_rest.new.cursor (c.in_err-condense.ensures.gives u));
    })

pub returns-then-word-2 : goal.returns-then-word-2
unfolding whole_read
returns-then-word-2 g c =
    let goes = goes-on (goes-by c.word.ensures) (goes-on (goes-by c.word-2.ensures) (c.in_ok-condense.ensures.gives.0)) in
    let same : left c.args.cursor.now ≡ left c.word.new.self = same-left c.word.ensures c.if-word.false in
    record {
      gives = (
        goes,
        rw (skipped c.word.ensures c.if-word.false, entered c.word-2.ensures c.if-word-2.true)
            (spanned-made (first (left c.word.new.self)) (condense_rest (reads c.args.self.now.depth))
            c.at-start.result c.args.cursor.now c.word.new.self c.word-2.new.self c.condense_rest.new.cursor
            c.in_ok-condense.condense c.in_ok-whole-2.whole same
            (first-left c.word-2.ensures c.if-word-2.true) c.in_ok-condense.ensures c.at-start.ensures goes.same c.in_ok-whole-2.ensures),
      );
    }

pub returns-in_err-concat : goal.returns-in_err-concat
unfolding whole_read
returns-in_err-concat g c =
    let p = err_from_is_err_and c.from_residual-in_err-concat.result c.from_residual-in_err-concat.ensures.1 in
    rw (p.1, p.2) (record {
      gives = λ u. rw (skipped c.word.ensures c.if-word.false, skipped c.word-2.ensures c.if-word-2.false, entered c.word-3.ensures c.if-word-3.true)
          (spanned-wrong (first (left c.word-2.new.self)) (concat_rest (reads c.args.self.now.depth)) c.word-3.new.self c.concat_rest.new.cursor (c.in_err-concat.ensures.gives u));
    })

pub returns-then-word-3 : goal.returns-then-word-3
unfolding whole_read
returns-then-word-3 g c =
    let goes = goes-on (goes-by c.word.ensures) (goes-on (goes-by c.word-2.ensures) (goes-on (goes-by c.word-3.ensures) (c.in_ok-concat.ensures.gives.0))) in
    let same : left c.args.cursor.now ≡ left c.word-2.new.self = same-left c.word.ensures c.if-word.false ∙ same-left c.word-2.ensures c.if-word-2.false in
    record {
      gives = (
        goes,
        rw (skipped c.word.ensures c.if-word.false, skipped c.word-2.ensures c.if-word-2.false, entered c.word-3.ensures c.if-word-3.true)
            (spanned-made (first (left c.word-2.new.self)) (concat_rest (reads c.args.self.now.depth))
            c.at-start.result c.args.cursor.now c.word-2.new.self c.word-3.new.self c.concat_rest.new.cursor
            c.in_ok-concat.concat c.in_ok-whole-3.whole same (first-left c.word-3.ensures c.if-word-3.true) c.in_ok-concat.ensures c.at-start.ensures goes.same c.in_ok-whole-3.ensures),
      );
    }

pub returns : goal.returns
unfolding whole_read
returns g c =
    tail (rw (skipped c.word.ensures c.if-word.false, skipped c.word-2.ensures c.if-word-2.false, skipped c.word-3.ensures c.if-word-3.false) refl)
    (goes-on (goes-by c.word.ensures) (goes-on (goes-by c.word-2.ensures) (goes-by c.word-3.ensures))) c.overlaid.ensures
