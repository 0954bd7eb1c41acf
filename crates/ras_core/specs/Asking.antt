-- What comes of asking for the locks of a list.
use Rattle.std.specs.Prelude.{◌≡◌, ℕ, List, Option, Contains}
use Rattle.ras_domain.specs.declared.lock.LockName.{LockName}
use Rattle.ras_domain.specs.declared.lock.Mode.{Mode}
use Rattle.ras_syntax.specs.declared.event.Event.TheVariants.{Granted, Refused}
use Rattle.ras_store.specs.Kept.{Kept}
use Rattle.ras_store.specs.Piece.{piece_kept, piece_over}
use Rattle.ras_store.specs.Store.{store_kept}
use Rattle.ras_store.specs.declared.piece.Piece.{Piece}
use Rattle.ras_store.specs.declared.store.Store.{Store}
use Rattle.spec_histories.specs.Legal.{IsFirstBlocked, IsFree}
use Rattle.spec_statements.specs.Locks.{Lock}
use Rattle.spec_statements.specs.ReachLaw.{Names}
use Rattle.ras_core.specs.States.{CoreState, with_closing, with_event}
use Rattle.ras_core.specs.declared.asked.Asked.{Asked}
use Rattle.ras_core.specs.declared.asked.Asked.TheVariants as asked

-- the piece has what the store keeps under the names of a list, and puts nothing over other names
pub record IsPieceUnder (store : Store) (list : List Lock) (piece : Piece) : Type 0 where
  pub held : (name : LockName) → Names list name → piece_kept piece name ≡ store_kept store name
  pub others : (name : LockName) (before : Option Kept) → ¬ Names list name → piece_over piece name before ≡ before

-- every lock of the list is free, and is held from now on
pub record IsGrantOf (t k p : ℕ) (list : List Lock) (old new : CoreState) (piece : Piece) : Type 0 where
  pub state : new ≡ with_event (Granted t k p list) old
  pub free : (lock : Lock) → Contains list lock → IsFree old.history t lock
  pub piece_under : IsPieceUnder old.store list piece

-- this is the first lock of the list that isn't free, and the least transaction that holds a conflicting one; the statement is
-- closed
pub record IsRefusalOf (t k p : ℕ) (list : List Lock) (old new : CoreState) (lock : LockName) (holder : ℕ) : Type 0 where
  pub mode : Mode
  pub state : new ≡ with_closing (Refused t k p lock mode holder) t k old
  pub blocked : IsFirstBlocked old.history t list (lock, mode) holder

abbrev pub ComesOfAsking : ℕ → ℕ → ℕ → List Lock → CoreState → CoreState → Asked → Type 0
ComesOfAsking t k p list old new (asked.Granted piece) = IsGrantOf t k p list old new piece
ComesOfAsking t k p list old new (asked.Refused lock holder) = IsRefusalOf t k p list old new lock holder
ComesOfAsking t k p list old new asked.Memory = new ≡ old
