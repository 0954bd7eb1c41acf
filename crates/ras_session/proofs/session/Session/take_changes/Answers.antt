use Rattle.std.proofs.Common.{◌≡◌, [], None, refl, sym, ap, ◌∙◌, subst}
use Rattle.ras_domain.specs.declared.lock.LockName.{LockName}
use Rattle.ras_work.specs.Works.{IsOwnSeen, work_changes, work_kept}
use Rattle.ras_work.specs.declared.work.Work.{Work}
use Rattle.ras_session.proofs.session.Session.take_changes.Goals as goal

pub returns : goal.returns
returns c = record {
  rest = refl;
  changes_are = c.into_changes.ensures ∙ ap work_changes c.replace-work.ensures.value;
  nothing = subst (λ (w : Work). (name : LockName) → work_kept w name ≡ None) (sym c.replace-work.ensures.after) c.new.ensures.kept;
  none_written = subst (λ (w : Work). work_changes w ≡ []) (sym c.replace-work.ensures.after) c.new.ensures.changes;
  own = subst (λ (w : Work). IsOwnSeen w) (sym c.replace-work.ensures.after) c.new.ensures.own;
}
