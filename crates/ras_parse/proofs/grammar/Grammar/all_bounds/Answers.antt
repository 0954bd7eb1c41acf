use Rattle.std.proofs.lemmas.Result.{err_from_is_err_and}
use Rattle.law_grammar.specs.Reading.{any_count}
use Rattle.ras_parse.proofs.Follows.{accepted, refused, same-left, goes-by}
use Rattle.ras_parse.proofs.Loops.{commas-begin, commas-none, list-goes, list-wrong, list-ends}
use Rattle.ras_parse.proofs.grammar.Grammar.all_bounds.Goals as goal

pub returns-in_err-first : goal.returns-in_err-first
returns-in_err-first g c =
    let p = err_from_is_err_and c.from_residual.result c.from_residual.ensures.1 in rw (p.1, p.2) (commas-none any_count _ _ _ _ c.in_err-first.ensures)

pub loop-cursor-init : goal.loop-cursor-init
loop-cursor-init g c = rw c.in_ok-all.ensures (commas-begin any_count _ _ _ _ c.in_ok-first.ensures)

pub returns-in_err-next : goal.returns-in_err-next
returns-in_err-next g c =
    let p = err_from_is_err_and c.from_residual-in_err-next.result c.from_residual-in_err-next.ensures.1 in
    rw (p.1, p.2) (record { gives = list-wrong _ c.loop-cursor.invariant (accepted c.sign.ensures c.loop-cursor-test.true) c.in_err-next.ensures })

pub loop-cursor-preserved : goal.loop-cursor-preserved
loop-cursor-preserved g c =
    rw c.in_ok-push.ensures
    (list-goes _ c.loop-cursor.invariant (goes-by c.sign.ensures) (accepted c.sign.ensures c.loop-cursor-test.true) c.in_ok-next.ensures)

pub returns : goal.returns
returns g c = record {
  gives = list-ends c.loop-cursor.invariant (goes-by c.sign.ensures) (same-left c.sign.ensures c.loop-cursor-test.false)
      (refused c.sign.ensures c.loop-cursor-test.false);
}
