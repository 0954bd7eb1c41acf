-- Serial histories: the committed transactions, one after another in the order of their commits, are a run of the machine of
-- one thread. And what holds of each live transaction.
use Rattle.std.specs.Prelude.{◌≡◌, ℕ, ◌+◌, ◌≤◌, Bool, true, false, List, [], ◌∷◌, ◌++◌, Some, Contains, IsTrue, count_by}
use Rattle.ras_syntax.specs.Literals.{statement_numbers_fit}
use Rattle.ras_syntax.specs.declared.statement.Statement.{Statement}
use Rattle.spec_expressions.specs.SetTypes.{AreTypes}
use Rattle.spec_statements.specs.Reply.{Reply}
use Rattle.spec_statements.specs.Locks.{Lock}
use Rattle.spec_statements.specs.ReachLaw.{HasParents}
use Rattle.spec_statements.specs.Validity.{HasIdentifiersUpTo, IsValidFor}
use Rattle.ras_syntax.specs.declared.event.Event.{Event}
use Rattle.ras_syntax.specs.declared.event.Event.TheVariants.{Answered, Committed, Granted}
use Rattle.spec_histories.specs.History.{History, Programs, database_after, answered_statements, committed_database, granted_locks, is_closed, events_of, program_needs, own_database, program_replies, replies_in, statement_at, statement_numbered}
use Rattle.ras_syntax.specs.declared.limits.TheConstants.{MAX_IDENTIFIER}

-- programs over types that may be declared and a valid database, whose statements have numbers of their atoms; no collection
-- gives out an identifier beyond a bound next
pub record ArePrograms (programs : Programs) (bound : ℕ) : Type 0 where
  pub types_fit : AreTypes programs.types
  pub valid : IsValidFor programs.types programs.base
  pub identifiers : HasIdentifiersUpTo bound programs.base
  pub numbers_fit : (session k : ℕ) (statement : Statement) → statement_at programs session k ≡ Some statement
      → IsTrue (statement_numbers_fit statement.form)

abbrev pub is_answered : Event → Bool
is_answered (Answered t statement answer) = true
is_answered event = false

-- how many statements were answered
abbrev pub answer_count : History → ℕ
answer_count past = count_by is_answered past

-- identifiers stay numbers of 64 bits, since an answered statement gives out one at most
abbrev pub HasRoom : ℕ → History → Type 0
HasRoom bound past = bound + answer_count past ≤ MAX_IDENTIFIER

-- the answered statements of committed transactions, in the order of the commits
abbrev pub committed_statements : Programs → History → List Statement
committed_statements programs [] = []
committed_statements programs (Committed t number ∷ past) = committed_statements programs past ++ answered_statements programs (events_of t past)
committed_statements programs (event ∷ past) = committed_statements programs past

-- the answers that the history records for them
abbrev pub committed_replies : History → List Reply
committed_replies [] = []
committed_replies (Committed t number ∷ past) = committed_replies past ++ replies_in (events_of t past)
committed_replies (event ∷ past) = committed_replies past

-- a run of these statements gives just these answers, and leaves the committed database
pub record IsSerializable (programs : Programs) (past : History) : Type 0 where
  pub answers : program_replies programs (committed_statements programs past) programs.base ≡ committed_replies past
  pub last : database_after programs (committed_statements programs past) programs.base ≡ committed_database programs past

-- a live transaction's answers are those of a run over the committed database, as it is now; the lists that are granted to its
-- open statement are those that this statement needs now; and it holds with each lock on a tile one on the array's domain,
-- and with each on a domain one on the collection
pub record IsSteady (programs : Programs) (past : History) (t : ℕ) : Type 0 where
  pub answers : program_replies programs (answered_statements programs (events_of t past)) (committed_database programs past) ≡ replies_in (events_of t past)
  pub lists : (k p : ℕ) (list : List Lock) (statement : Statement) → Contains (events_of t past) (Granted t k p list)
      → is_closed k (events_of t past) ≡ false → statement_numbered programs (events_of t past) k ≡ Some statement
      → list ≡ program_needs programs statement p (own_database programs past t)
  pub parents : HasParents (granted_locks (events_of t past))
