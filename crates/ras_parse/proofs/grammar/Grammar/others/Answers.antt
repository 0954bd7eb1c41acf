use Rattle.std.proofs.Common.{[], ◌∷◌, ◌++◌, refl, ap, ◌∙◌}
use Rattle.std.proofs.lemmas.Result.{err_from_is_err_and}
use Rattle.spec_grammar.specs.Grammar.{any, w}
use Rattle.law_grammar.specs.Reading.{reads}
use Rattle.ras_parse.specs.Inputs.{left}
use Rattle.ras_parse.proofs.Readings.{mapped-is}
use Rattle.ras_parse.proofs.Follows.{accepted, refused, same-left, goes-by}
use Rattle.ras_parse.proofs.Loops.{row-none, row-wrong, row-begins, list-goes, list-wrong, list-ends}
use Rattle.ras_parse.proofs.grammar.Grammar.others.Goals as goal

pub returns-in_err-expect_word : goal.returns-in_err-expect_word
returns-in_err-expect_word g c =
    let p = err_from_is_err_and c.from_residual-in_err-expect_word.result c.from_residual-in_err-expect_word.ensures.1 in
    rw (p.1, p.2) (record {
      gives = λ u. rw (
        mapped-is,
        row-none (w "with") (reads c.args.self.now.depth any) (left c.args.cursor.now) (left c.expect_word.new.self)
            c.in_err-expect_word.ensures.1 c.in_err-expect_word.ensures.0,
      ) refl;
    })

pub returns-in_err-second : goal.returns-in_err-second
returns-in_err-second g c =
    let p = err_from_is_err_and c.from_residual-in_err-second.result c.from_residual-in_err-second.ensures.1 in
    rw (p.1, p.2) (record {
      gives = λ u. rw (
        mapped-is,
        row-wrong (w "with") (reads c.args.self.now.depth any) (left c.args.cursor.now) (left c.plain.new.cursor) (left c.expect_word.new.self) _
            c.in_ok-expect_word.ensures.1 (c.in_err-second.ensures.gives u),
      ) refl;
    })

pub loop-cursor-init : goal.loop-cursor-init
loop-cursor-init g c = record {
  rest = c.in_ok-second.second ∷ [];
  is = c.in_ok-push.ensures ∙ ap (λ xs. xs ++ c.in_ok-second.second ∷ []) c.in_ok-all.ensures;
  holds = row-begins (w "with") (reads c.args.self.now.depth any) _ _ _ _ _ c.in_ok-expect_word.ensures.0 c.in_ok-expect_word.ensures.1 c.in_ok-second.ensures;
}

pub returns-in_err-next : goal.returns-in_err-next
returns-in_err-next g c =
    let p = err_from_is_err_and c.from_residual-in_err-next.result c.from_residual-in_err-next.ensures.1 in
    rw (p.1, p.2) (record {
      gives = λ u. rw (mapped-is, list-wrong _ c.loop-cursor.invariant.holds (accepted c.word.ensures c.loop-cursor-test.true) c.in_err-next.ensures u) refl;
    })

pub loop-cursor-preserved : goal.loop-cursor-preserved
loop-cursor-preserved g c = record {
  rest = c.loop-cursor.invariant.rest ++ c.in_ok-next.next ∷ [];
  is = c.in_ok-push-2.ensures ∙ ap (λ xs. xs ++ c.in_ok-next.next ∷ []) c.loop-cursor.invariant.is;
  holds = list-goes _ c.loop-cursor.invariant.holds (goes-by c.word.ensures) (accepted c.word.ensures c.loop-cursor-test.true) c.in_ok-next.ensures;
}

pub returns : goal.returns
returns g c =
    let ends = list-ends c.loop-cursor.invariant.holds (goes-by c.word.ensures) (same-left c.word.ensures c.loop-cursor-test.false)
    (refused c.word.ensures c.loop-cursor-test.false) in
    rw c.loop-cursor.invariant.is (record { gives = (ends.0, rw (mapped-is, ends.1) refl) })
