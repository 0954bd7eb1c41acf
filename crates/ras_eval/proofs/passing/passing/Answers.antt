use Rattle.std.proofs.Common.{◌≡◌, ◌+◌, Ok, Some, arith, ap, subst, sym, ◌∙◌}
use Rattle.std.specs.Prelude.{List, ℕ}
use Rattle.std.specs.List.{slice_get}
use Rattle.std.specs.Option.{option_copied, option_map}
use Rattle.std.proofs.lemmas.Result.{err_from_is_err_and}
use Rattle.spec_expressions.specs.Tree.{condition_of, tree_of}
use Rattle.ras_eval.specs.Passing.{passing_named}
use Rattle.ras_eval.proofs.Each.{after}
use Rattle.ras_eval.proofs.PassingRows.{passing_end, passing_start, passing_stop, passing_turn}
use Rattle.ras_eval.proofs.passing.passing.Goals as goal

pub loop-place-init : goal.loop-place-init
loop-place-init c =
    let condition = condition_of (option_map tree_of (option_copied c.args.condition)) in
    subst (λ set. after set (passing_named condition c.args.rows.now) ≡ passing_named condition c.args.rows.now) (sym c.new-set.ensures) (passing_start condition c.args.rows.now)

pub returns-in_err-keeps : goal.returns-in_err-keeps
returns-in_err-keeps c =
    let p = err_from_is_err_and c.from_residual-in_err-keeps.result c.from_residual-in_err-keeps.ensures.1 in
    rw (p.1, p.2)
    (passing_stop (condition_of (option_map tree_of (option_copied c.args.condition))) c.args.rows.now c.loop-place.set c.loop-place.place (c.loop-place.place + 1, c.as_slice-arrays.result.now)
    c.in_err-keeps.field-0.0 (c.in_ok-row.ensures ∙ ap (λ row. Some (c.loop-place.place + 1, row)) (sym c.as_slice-arrays.ensures.value)) c.in_err-keeps.ensures c.loop-place.invariant)

pub loop-place-preserved : goal.loop-place-preserved
loop-place-preserved c =
    passing_turn (condition_of (option_map tree_of (option_copied c.args.condition))) c.args.rows.now c.loop-place.set c.put_row.new.set c.loop-place.place
    (c.loop-place.place + 1, c.as_slice-arrays.result.now) c.in_ok-keeps.keeps
    (c.in_ok-row.ensures ∙ ap (λ row. Some (c.loop-place.place + 1, row)) (sym c.as_slice-arrays.ensures.value)) c.in_ok-keeps.ensures c.in_ok-put_row.ensures c.loop-place.invariant

pub returns : goal.returns
returns c =
    passing_end (condition_of (option_map tree_of (option_copied c.args.condition))) c.args.rows.now c.loop-place.set c.loop-place.place
    (omega (arith, c.len-place-end.ensures, c.loop-place-test.false)) c.loop-place.invariant
