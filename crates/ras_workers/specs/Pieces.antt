-- What may be called with pieces of work, and what the calls may answer. Places are counted from 0.
use Rattle.std.specs.Prelude.{◌≡◌, ℕ, ◌<◌, List, Option, length, slice_index_or, IsSome, IfSome}
use Rattle.std.specs.Borrow.{Bor}
use Rattle.std.specs.Fn.{Shared}

module _ {F T R : Type 0} (g : Shared F (ℕ × (Bor T × Unit {0})) R) (f : F) (pieces : List T) where
  -- f may be called with each place and a `&` to the piece there
  abbrev pub AcceptsPieces : Type 0
  AcceptsPieces = (i : ℕ) (p : Bor T) → i < length pieces → p.now ≡ slice_index_or pieces i p.now → g.pre f (i, (p, tt))

  -- r is an answer that a call of f with the place i and a `&` to the piece there may give
  pub record IsAnswer (i : ℕ) (r : R) : Type 0 where
    pub piece : Bor T
    pub piece_read : piece.now ≡ slice_index_or pieces i piece.now
    pub piece_is : (d : T) → slice_index_or pieces i d ≡ piece.now
    pub call : g.post f (i, (piece, tt)) r

  -- the answers are, in the order of the pieces, those of calls with each place and the piece there. The equation
  -- shows a tactic the answer at which to use the rest
  abbrev pub AreAnswers : List R → Type 0
  AreAnswers answers = (i : ℕ) (d : R) → i < length pieces → (slice_index_or answers i d ≡ slice_index_or answers i d) × IsAnswer i (slice_index_or answers i d)

  -- each place holds such an answer
  abbrev pub HoldsAnswers : List (Option R) → Type 0
  HoldsAnswers places = (i : ℕ) (d : Option R) → i < length pieces → IsSome (slice_index_or places i d) × IfSome (slice_index_or places i d) (IsAnswer i)
