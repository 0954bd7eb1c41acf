use Rattle.std.proofs.Common.{Ok, refl, sym, ap, ◌∙◌}
use Rattle.std.proofs.lemmas.Result.{err_from_is_err_and}
use Rattle.ras_syntax.specs.declared.expr.Expr.{Expr}
use Rattle.spec_grammar.specs.Grammar.{tree}
use Rattle.law_grammar.specs.Readers.{before}
use Rattle.law_grammar.specs.Reading.{compared_read}
use Rattle.ras_parse.specs.Inputs.{left}
use Rattle.ras_parse.proofs.Readings.{with_tokens-is, bind-is, mapped-is, give-is}
use Rattle.ras_parse.proofs.Follows.{goes-on, goes-past, missed, met, made}
use Rattle.ras_parse.proofs.grammar.Grammar.compared.Goals as goal

pub returns-in_err-e : goal.returns-in_err-e
unfolding compared_read
returns-in_err-e g c =
    let p = err_from_is_err_and c.from_residual.result c.from_residual.ensures.1 in
    rw (p.1, p.2) (record { gives = λ u. rw (with_tokens-is, bind-is, c.in_err-e.ensures.gives u) refl })

pub returns-in_default : goal.returns-in_default
unfolding compared_read
returns-in_default g c = record {
  gives = (
    goes-on c.in_ok-e.ensures.gives.0 (goes-past c.in_default.ensures),
    rw (with_tokens-is, bind-is, c.in_ok-e.ensures.gives.1, missed c.in_default.ensures, give-is) refl,
  );
}

pub returns-in_err-other : goal.returns-in_err-other
unfolding compared_read
returns-in_err-other g c =
    let p = err_from_is_err_and c.from_residual-in_err-other.result c.from_residual-in_err-other.ensures.1 in
    rw (p.1, p.2) (record {
      gives = λ u. rw (with_tokens-is, bind-is, c.in_ok-e.ensures.gives.1, met c.in-Some.ensures, mapped-is, c.in_err-other.ensures.gives u) refl;
    })

pub returns : goal.returns
unfolding compared_read
returns g c =
    let goes = goes-on c.in_ok-e.ensures.gives.0 (goes-on (goes-past c.in-Some.ensures) c.in_ok-other.ensures.gives.0) in
    record {
      gives = (
        goes,
        rw (with_tokens-is, bind-is, c.in_ok-e.ensures.gives.1, met c.in-Some.ensures, mapped-is, c.in_ok-other.ensures.gives.1)
            (ap (λ (x : Expr). Ok (x, left c.sum-2.new.cursor))
            (sym (made c.at-start.result c.args.cursor.now c.sum-2.new.cursor c.binary.result c.in_ok-whole.whole c.at-start.ensures goes.same c.in_ok-whole.ensures
            ∙ ap (tree (before (left c.args.cursor.now) (left c.sum-2.new.cursor))) c.binary.ensures))),
      );
    }
