use Rattle.std.proofs.Common.{◌≡◌, All, cond, map}
use Rattle.std.specs.Vec.Iter.{into_iter_items}
use Rattle.ras_domain.specs.declared.lock.LockName.{LockName}
use Rattle.ras_store.specs.Kept.{HasRoomAt, HasRoomFor, kept_in}
use Rattle.ras_store.specs.Piece.{domain_entry, placed_by_all}
use Rattle.ras_store.proofs.piece.put_domains.Given as goal

abbrev pub invariant-loop-entry : goal.invariant-loop-entry
invariant-loop-entry g l = record {
  put : (name : LockName) → kept_in l.contents name
      ≡ cond (g.W.WrittenNames.is_written l.written name) (kept_in l.initial.contents name)
      (placed_by_all (map domain_entry l.yielded) name (kept_in l.initial.contents name));
  room : (other : LockName) → HasRoomAt l.initial.contents other → HasRoomAt l.contents other;
  rest : All (λ entry. HasRoomFor l.contents (domain_entry entry)) (into_iter_items l.entry-iterator);
}
