use Rattle.std.proofs.Common.{ℕ, List, drop, Ok, sym, ap, ap₂, ◌∙◌}
use Rattle.ras_syntax.specs.declared.span.Span.{Span}
use Rattle.spec_grammar.specs.Tokens.{Token}
use Rattle.spec_grammar.specs.Grammar.{span_of}
use Rattle.law_grammar.specs.Readers.{before}
use Rattle.ras_parse.specs.Inputs.{left, Goes}
use Rattle.std.proofs.lemmas.Result.{err_from_is_err_and}
use Rattle.ras_parse.proofs.Follows.{goes-on}
use Rattle.ras_parse.proofs.Readings.{reading}
use Rattle.ras_parse.proofs.forms.target.Goals as goal

pub returns-in_err-set : goal.returns-in_err-set
returns-in_err-set c =
    let p = err_from_is_err_and c.from_residual.result c.from_residual.ensures.1 in
    rw (p.1, p.2) (record { gives = λ un. simp ((c.in_err-set.ensures un).0, (c.in_err-set.ensures un).1, reading) })

pub returns-in_err-axes : goal.returns-in_err-axes
returns-in_err-axes c =
    let p = err_from_is_err_and c.from_residual-in_err-axes.result c.from_residual-in_err-axes.ensures.1 in
    rw (p.1, p.2) (record { gives = λ un. simp (c.in_ok-set.ensures.1, c.in_err-axes.ensures.gives un, reading) })

pub returns : goal.returns
returns c =
    let new = c.axes.new.cursor in
    let goes : Goes c.args.cursor.now new = goes-on c.in_ok-set.ensures.0 c.in_ok-axes.ensures.gives.0 in record {
      gives = (
        goes,
        simp (c.in_ok-set.ensures.1, c.in_ok-axes.ensures.gives.1, reading)
            (ap (λ (span : Span). Ok ((c.in_ok-set.set, c.in_ok-axes.axes, span), left new))
            (sym (c.span-span.ensures ∙ ap₂ (λ (ts : List Token) (at : ℕ). span_of (before (drop at ts) (left new))) goes.same c.at-start.ensures))),
      );
    }
