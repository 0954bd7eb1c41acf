use Rattle.std.proofs.lemmas.Result.{err_from_is_err_and}
use Rattle.law_grammar.specs.Reading.{any_count}
use Rattle.ras_parse.proofs.Follows.{accepted, refused, same-left, goes-by}
use Rattle.ras_parse.proofs.Loops.{commas-begin, commas-none, list-goes, list-wrong, list-ends}
use Rattle.ras_workload.proofs.type_parts.all_nulls.Goals as goal

pub returns-in_err-first : goal.returns-in_err-first
returns-in_err-first c =
    let p = err_from_is_err_and c.from_residual.result c.from_residual.ensures.1 in rw (p.1, p.2) (commas-none any_count _ _ _ _ c.in_err-first.ensures)

pub loop-alloc-init : goal.loop-alloc-init
loop-alloc-init c = rw c.in_ok-items.ensures (commas-begin any_count _ _ _ _ c.in_ok-first.ensures)

pub returns-in_err-item : goal.returns-in_err-item
returns-in_err-item c =
    let p = err_from_is_err_and c.from_residual-in_err-item.result c.from_residual-in_err-item.ensures.1 in
    rw (p.1, p.2) (record { gives = list-wrong _ c.loop-alloc.invariant (accepted c.sign.ensures c.loop-alloc-test.true) c.in_err-item.ensures })

pub loop-alloc-preserved : goal.loop-alloc-preserved
loop-alloc-preserved c =
    rw c.in_ok-push.ensures
    (list-goes _ c.loop-alloc.invariant (goes-by c.sign.ensures) (accepted c.sign.ensures c.loop-alloc-test.true) c.in_ok-item.ensures)

pub returns : goal.returns
returns c = record {
  gives = list-ends c.loop-alloc.invariant (goes-by c.sign.ensures) (same-left c.sign.ensures c.loop-alloc-test.false)
      (refused c.sign.ensures c.loop-alloc-test.false);
}
