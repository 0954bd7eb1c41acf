use Rattle.std.proofs.Common.{ap, ◌∙◌}
use Rattle.std.proofs.lemmas.Result.{err_from_is_err_and}
use Rattle.ras_store.specs.Kept.{changed_by_all}
use Rattle.ras_store.specs.Store.{store_kept}
use Rattle.ras_setup.proofs.Bases.{run-stops, run-to, setting-here}
use Rattle.ras_setup.proofs.base.run.Goals as goal

pub returns-in_err-statement : goal.returns-in_err-statement
returns-in_err-statement g c = λ bound database small is.
    let p = err_from_is_err_and c.from_residual.result c.from_residual.ensures.1 in
    rw (p.1, p.2) (c.in_err-statement.ensures c.args.types.now database)

pub returns-in_err-changes : goal.returns-in_err-changes
returns-in_err-changes g c = λ bound database small is.
    let p = err_from_is_err_and c.from_residual-in_err-changes.result c.from_residual-in_err-changes.ensures.1 in
    rw (p.1, p.2) (run-stops c.args.types.now c.args.text.now c.in_ok-statement.statement c.in_ok-statement.ensures bound database c.in_err-changes.field-0.0
    (c.in_err-changes.ensures database
    (setting-here c.args.types.now c.args.text.now c.in_ok-statement.statement c.in_ok-statement.ensures bound database (store_kept c.args.base.now) is small)
    is.keeps))

pub returns : goal.returns
returns g c = λ bound database small is.
    run-to c.args.types.now c.args.text.now c.in_ok-statement.statement c.in_ok-statement.ensures bound database (store_kept c.args.base.now)
    (store_kept c.apply_prepared.new.self) c.in_ok-changes.changes is
    (c.in_ok-changes.ensures database
    (setting-here c.args.types.now c.args.text.now c.in_ok-statement.statement c.in_ok-statement.ensures bound database (store_kept c.args.base.now) is small)
    is.keeps)
    (λ name. c.apply_prepared.ensures.changed name ∙ ap (changed_by_all c.in_ok-changes.changes name) (c.in_ok-reserve_for.ensures.kept name))
