use Rattle.std.proofs.Common.{◌≡◌, All, take}
use Rattle.ras_domain.specs.declared.lock.LockName.{LockName}
use Rattle.ras_store.specs.Kept.{HasRoomAt, HasRoomFor, kept_in}
use Rattle.ras_store.specs.Piece.{domain_entry}
use Rattle.ras_store.proofs.piece.reserve_domains.Given as goal

abbrev pub invariant-loop-entry : goal.invariant-loop-entry
invariant-loop-entry l = record {
  kept : (name : LockName) → kept_in l.contents name ≡ kept_in l.initial.contents name;
  made : All (λ entry. HasRoomFor l.contents (domain_entry entry)) (take l.entry-index l.entries);
  room : (other : LockName) → HasRoomAt l.initial.contents other → HasRoomAt l.contents other;
}
