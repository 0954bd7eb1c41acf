use Rattle.std.proofs.Common.{sym, ap, ◌∙◌}
use Rattle.ras_store.specs.Kept.{changed_by, kept_in}
use Rattle.ras_store.proofs.Listed.{changed_by_all-push}
use Rattle.ras_store.proofs.contents.Contents.apply_all.Goals as goal

pub loop-change-preserved : goal.loop-change-preserved
loop-change-preserved c =
    record {
      changed = λ name. c.apply.ensures.changed name ∙ ap (changed_by c.in-Some.change name) (c.loop-change.invariant.changed name)
          ∙ sym (changed_by_all-push c.loop-change.yielded c.in-Some.change name (kept_in c.args.self.now name));
      room = λ other room. c.apply.ensures.room other (c.loop-change.invariant.room other room);
    }
