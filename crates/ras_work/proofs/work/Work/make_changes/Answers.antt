use Rattle.std.proofs.Common.{◌≡◌, sym, ap, ◌∙◌, subst}
use Rattle.ras_store.specs.Databases.{holdings_of}
use Rattle.ras_store.specs.Kept.{changed_by_all}
use Rattle.ras_store.specs.View.{view_kept}
use Rattle.spec_statements.specs.Statement.{request_of}
use Rattle.law_work.specs.Writes.{writes_in}
use Rattle.ras_work.specs.Copies.{AreCopies}
use Rattle.ras_work.specs.Made.{AreMade}
use Rattle.ras_work.proofs.Applied.{copies-change, made-effect}
use Rattle.ras_work.proofs.work.Work.make_changes.Goals as goal

pub returns-clause-applied : goal.returns-clause-applied
returns-clause-applied c =
    let seen : c.as_slice.result.now ≡ writes_in c.args.computed.now = c.as_slice.ensures ∙ sym (ap writes_in c.in-Writes.is) in
    let made : AreMade (request_of c.args.checked.now.form) (holdings_of (view_kept c.args.self.now.view)) (writes_in c.args.computed.now) c.in_ok-changes.changes c.in_ok-changes.number =
    subst (λ writes. AreMade (request_of c.args.checked.now.form) (holdings_of (view_kept c.args.self.now.view)) writes c.in_ok-changes.changes c.in_ok-changes.number) seen c.in_ok-changes.ensures in
    let copies : AreCopies c.in_ok-changes.changes c.in_ok-copies.copies = subst (λ l. AreCopies l c.in_ok-copies.copies) c.items.ensures c.in_ok-copies.ensures in
    record {
      more = c.in_ok-changes.changes;
      changed = record {
        kept = λ name.
            c.apply_prepared.ensures.changed name ∙ copies-change c.in_ok-changes.changes c.in_ok-copies.copies name _ copies
            ∙ ap (changed_by_all c.in_ok-changes.changes name) (c.in_ok-reserve_for.ensures.kept name);
        changes = c.in_ok-append.ensures.ok;
      };
      made = made;
      effect = made-effect c.args.checked.now c.args.computed.now (holdings_of (view_kept c.args.self.now.view)) c.in_ok-changes.changes c.in_ok-changes.number made;
    }
