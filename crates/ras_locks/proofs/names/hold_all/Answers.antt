use Rattle.std.proofs.Common.{◌≡◌, ◌∙◌, ap, sym, take}
use Rattle.std.specs.Prelude.{if◌then◌else◌}
use Rattle.ras_locks.specs.Holders.{with_holder}
use Rattle.ras_locks.specs.Tables.{holders_in, equals_lock_name, with_locks}
use Rattle.ras_locks.proofs.Keeping.{take-one-more, with_locks-push}
use Rattle.ras_locks.proofs.names.hold_all.Goals as goal

pub hold_at-requires : goal.hold_at-requires
hold_at-requires c = c.loop-place.invariant.ready c.loop-place.place _ c.get-mode.ensures

pub loop-place-preserved : goal.loop-place-preserved
loop-place-preserved c = record {
  holders = λ other.
      c.hold_at.ensures.holders other
      ∙ ap (λ hs. if equals_lock_name c.get-mode.result.0.now other then with_holder c.args.owner c.get-mode.result.1 hs else hs) (c.loop-place.invariant.holders other)
      ∙ sym (with_locks-push (take c.loop-place.place c.args.list.now) (c.get-mode.result.0.now, c.get-mode.result.1) c.args.owner other (holders_in c.args.names.now.entries other))
      ∙ ap (λ list. with_locks list c.args.owner other (holders_in c.args.names.now.entries other)) (sym (take-one-more c.args.list.now c.loop-place.place _ c.get-mode.ensures));
  ready = λ place lock at. c.hold_at.ensures.kept lock.0 (c.loop-place.invariant.ready place lock at);
}
