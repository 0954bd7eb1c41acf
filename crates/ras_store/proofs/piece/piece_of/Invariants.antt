use Rattle.std.proofs.Common.{◌≡◌, cond, false, Option, None, take}
use Rattle.ras_domain.specs.declared.lock.LockName.{LockName}
use Rattle.ras_store.specs.Kept.{Kept, kept_in}
use Rattle.ras_store.specs.Piece.{piece_kept, piece_over}
use Rattle.ras_store.proofs.Pieces.{is_named}
use Rattle.ras_store.proofs.piece.piece_of.Given as goal

abbrev pub invariant-loop-place : goal.invariant-loop-place
invariant-loop-place l = record {
  held : (name : LockName) → piece_kept l.piece name ≡ cond (is_named (take l.place l.list) name) (kept_in l.contents name) None;
  others : (name : LockName) (before : Option Kept) → is_named (take l.place l.list) name ≡ false → piece_over l.piece name before ≡ before;
}
