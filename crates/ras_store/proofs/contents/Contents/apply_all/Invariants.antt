use Rattle.std.proofs.Common.{◌≡◌}
use Rattle.ras_domain.specs.declared.lock.LockName.{LockName}
use Rattle.ras_store.specs.Kept.{HasRoomAt, changed_by_all, kept_in}
use Rattle.ras_store.proofs.contents.Contents.apply_all.Given as goal

abbrev pub invariant-loop-change : goal.invariant-loop-change
invariant-loop-change l = record {
  changed : (name : LockName) → kept_in l.self name ≡ changed_by_all l.yielded name (kept_in l.initial.self name);
  room : (other : LockName) → HasRoomAt l.initial.self other → HasRoomAt l.self other;
}
