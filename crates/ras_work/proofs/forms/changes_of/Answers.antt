use Rattle.std.proofs.Common.{refl, sym, subst}
use Rattle.std.specs.Result.{IfOk}
use Rattle.ras_store.specs.Databases.{holdings_of}
use Rattle.ras_store.specs.View.{view_kept}
use Rattle.ras_syntax.specs.declared.typed.CheckedForm.{CheckedForm}
use Rattle.ras_syntax.specs.declared.typed.CheckedForm.TheVariants.{Update}
use Rattle.spec_statements.specs.Statement.{request_of}
use Rattle.ras_work.specs.Made.{AreMade}
use Rattle.ras_work.proofs.Making.{made-of}
use Rattle.ras_work.proofs.forms.changes_of.Goals as goal

pub returns-in-Update : goal.returns-in-Update
returns-in-Update c =
    subst (λ (f : CheckedForm). IfOk c.updated.result (λ made. AreMade (request_of f) (holdings_of (view_kept c.args.view.now)) c.args.writes.now made.0 made.1)) (sym c.in-Update.is)
    (made-of c.updated.result (request_of (Update c.in-Update.source c.in-Update.axes c.in-Update.target c.in-Update.body c.in-Update.cond)) (holdings_of (view_kept c.args.view.now)) c.args.writes.now
    c.updated.ensures.changes c.updated.ensures.number c.updated.ensures.sound refl)
