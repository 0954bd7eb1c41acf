use Rattle.std.proofs.Common.{◌≡◌, All, take}
use Rattle.ras_domain.specs.declared.lock.LockName.{LockName}
use Rattle.ras_store.specs.Kept.{HasRoomAt, HasRoomFor, kept_in}
use Rattle.ras_store.proofs.contents.Contents.reserve_all.Given as goal

abbrev pub invariant-loop-change : goal.invariant-loop-change
invariant-loop-change l = record {
  kept : (name : LockName) → kept_in l.self name ≡ kept_in l.initial.self name;
  made : All (HasRoomFor l.self) (take l.change-index l.changes);
  room : (other : LockName) → HasRoomAt l.initial.self other → HasRoomAt l.self other;
}
