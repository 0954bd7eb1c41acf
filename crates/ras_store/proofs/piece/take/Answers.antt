use Rattle.std.proofs.Common.{Option, sym, subst}
use Rattle.std.specs.Result.{OnOk}
use Rattle.ras_domain.specs.declared.lock.LockName.{LockName}
use Rattle.ras_store.specs.Kept.{Kept, kept_in}
use Rattle.ras_store.specs.Piece.{IsTakenWhere, is_same_lock_name, piece_over}
use Rattle.ras_store.proofs.piece.take.Goals as goal

pub returns-in-Collection : goal.returns-in-Collection
returns-in-Collection c =
    subst (λ lock. OnOk c.take_collection.result ((other : LockName) (before : Option Kept) → IsTakenWhere (kept_in c.args.contents.now lock) (is_same_lock_name lock other)
    (piece_over c.args.piece.now other before) (piece_over c.take_collection.new.piece other before))) (sym c.in-Collection.is) c.take_collection.ensures

pub returns-in-Domain : goal.returns-in-Domain
returns-in-Domain c =
    subst (λ lock. OnOk c.take_domain.result ((other : LockName) (before : Option Kept) → IsTakenWhere (kept_in c.args.contents.now lock) (is_same_lock_name lock other)
    (piece_over c.args.piece.now other before) (piece_over c.take_domain.new.piece other before))) (sym c.in-Domain.is) c.take_domain.ensures

pub returns-in-Tile : goal.returns-in-Tile
returns-in-Tile c =
    subst (λ lock. OnOk c.take_tile.result ((other : LockName) (before : Option Kept) → IsTakenWhere (kept_in c.args.contents.now lock) (is_same_lock_name lock other)
    (piece_over c.args.piece.now other before) (piece_over c.take_tile.new.piece other before))) (sym c.in-Tile.is) c.take_tile.ensures
