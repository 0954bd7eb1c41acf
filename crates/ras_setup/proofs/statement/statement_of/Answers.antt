use Rattle.std.proofs.Common.{◌≡◌, Ok, Some, subst, sym, ◌∙◌}
use Rattle.law_grammar.proofs.EachVerdict.{is_verdict_of}
use Rattle.spec_grammar.proofs.Numbers.{numbers_of_statement}
use Rattle.ras_setup.specs.Runs.{stop_seen}
use Rattle.ras_setup.proofs.Bases.{told-wanted, word-wanted}
use Rattle.ras_setup.proofs.statement.statement_of.Goals as goal

pub returns-then-is_word : goal.returns-then-is_word
returns-then-is_word c = λ types database k fault seen.
    word-wanted types k c.args.text.now c.in-Ok.statement database fault (is_verdict_of c.args.text.now (Ok c.in-Ok.statement) c.in-Ok.ensures.tree)
    (sym c.is_word.ensures ∙ c.if-is_word.true) seen

pub returns-else-is_word : goal.returns-else-is_word
returns-else-is_word c = record {
  verdict = is_verdict_of c.args.text.now (Ok c.in-Ok.statement) c.in-Ok.ensures.tree;
  no_word = sym c.is_word.ensures ∙ c.if-is_word.false;
  numbers_fit = numbers_of_statement c.args.text.now c.in-Ok.statement c.in-Ok.ensures.tree;
}

pub returns-in-Err : goal.returns-in-Err
returns-in-Err c = λ types database k fault seen.
    told-wanted types k c.args.text.now c.in-Err.fault database fault c.in-Err.ensures.fault
    (subst (λ stop. stop_seen stop ≡ Some fault) c.stop_of.ensures seen)
