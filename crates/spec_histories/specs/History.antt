-- Histories of transactions: who lives, who holds which locks, and what the committed database and a transaction's own one
-- are at each moment. A history is a list of events, the newest first.
use Rattle.std.specs.Prelude.{ℕ, ◌==◌, nat_le, ◌-◌, Bool, true, false, not, ◌&&◌, if◌then◌else◌, List, [], ◌∷◌, ◌++◌, map, filter, slice_get, Option, Some, None, is_some, Contains, IsTrue}
use Rattle.std.specs.List.{list_any}
use Rattle.ras_syntax.specs.declared.statement.Statement.{Statement}
use Rattle.ras_syntax.specs.declared.statement.StatementForm.{StatementForm}
use Rattle.ras_syntax.specs.declared.statement.StatementForm.TheVariants as forms
use Rattle.ras_syntax.specs.declared.types.SetType.{SetType}
use Rattle.spec_expressions.specs.Database.{Database}
use Rattle.spec_statements.specs.Reply.{Reply, reply_of_answer}
use Rattle.spec_statements.specs.Locks.{Lock}
use Rattle.spec_statements.specs.Machine.{effect_of, needs_of, reply_of}
use Rattle.ras_syntax.specs.declared.event.Event.{Event}
use Rattle.ras_syntax.specs.declared.event.Event.TheVariants.{Begun, Granted, Refused, Answered, GaveUp, Committed, Aborted}

-- the types, the database at the start, and of each session its statements in order, none where a text is no statement
pub record Programs : Type 0 where
  pub types : List SetType
  pub base : Database
  pub scripts : List (List (Option Statement))

abbrev pub History : Type 0
History = List Event

-- ---- the events of a transaction

abbrev pub owner_of : Event → ℕ
owner_of (Begun t session statement) = t
owner_of (Granted t statement phase list) = t
owner_of (Refused t statement phase lock mode holder) = t
owner_of (Answered t statement answer) = t
owner_of (GaveUp t statement) = t
owner_of (Committed t number) = t
owner_of (Aborted t) = t

abbrev pub events_of : ℕ → History → History
events_of t past = filter (λ event. owner_of event == t) past

-- the session and the statement at which it began
abbrev pub begun_at : History → Option (ℕ × ℕ)
begun_at [] = None
begun_at (Begun t session statement ∷ past) = Some (session, statement)
begun_at (event ∷ past) = begun_at past

abbrev pub ends : Event → Bool
ends (Committed t number) = true
ends (Aborted t) = true
ends event = false

-- it has begun, and has neither committed nor aborted
abbrev pub is_live : ℕ → History → Bool
is_live t past = is_some (begun_at (events_of t past)) && not (list_any ends (events_of t past))

-- the statement was answered, refused or given up
abbrev pub closes : ℕ → Event → Bool
closes k (Answered t statement answer) = statement == k
closes k (Refused t statement phase lock mode holder) = statement == k
closes k (GaveUp t statement) = statement == k
closes k event = false

abbrev pub is_closed : ℕ → History → Bool
is_closed k own_events = list_any (closes k) own_events

abbrev pub grants : ℕ → Event → Bool
grants k (Granted t statement phase list) = statement == k
grants k event = false

-- it was granted a list of locks, and isn't closed
abbrev pub is_open : ℕ → History → Bool
is_open k own_events = list_any (grants k) own_events && not (is_closed k own_events)

-- a list of this phase was granted to the statement
abbrev pub grants_phase : ℕ → ℕ → Event → Bool
grants_phase k p (Granted t statement phase list) = (statement == k) && (phase == p)
grants_phase k p event = false

abbrev pub has_phase : ℕ → ℕ → History → Bool
has_phase k p own_events = list_any (grants_phase k p) own_events

-- ---- locks

-- all locks of granted lists
abbrev pub granted_locks : History → List Lock
granted_locks [] = []
granted_locks (Granted t statement phase list ∷ past) = list ++ granted_locks past
granted_locks (event ∷ past) = granted_locks past

-- a transaction holds the locks of its grants up to its end
pub record Holds (past : History) (t : ℕ) (lock : Lock) : Type 0 where
  pub live : IsTrue (is_live t past)
  pub granted : Contains (granted_locks (events_of t past)) lock

-- ---- statements

abbrev pub nth : {X : Type 0} → ℕ → List X → Option X
nth n xs = if nat_le 1 n then slice_get xs (n - 1) else None

abbrev pub statement_in : Option (List (Option Statement)) → ℕ → Option Statement
statement_in None k = None
statement_in (Some script) k = elim (nth k script) [ None ↦ None | Some statement ↦ statement ]

-- the statement at a place of a session's script, if its text is one
abbrev pub statement_at : Programs → ℕ → ℕ → Option Statement
statement_at programs session k = statement_in (nth session programs.scripts) k

abbrev pub statement_from : Programs → Option (ℕ × ℕ) → ℕ → Option Statement
statement_from programs None k = None
statement_from programs (Some begun) k = statement_at programs begun.0 k

-- the statement of a transaction's event: that of its number in the script of the session that began it
abbrev pub statement_numbered : Programs → History → ℕ → Option Statement
statement_numbered programs own_events k = statement_from programs (begun_at own_events) k

-- a session word is no data statement
abbrev pub is_data : StatementForm → Bool
is_data (forms.Word word) = false
is_data form = true

-- ---- answered statements

-- the numbers and answers of a transaction's answered statements, in order
abbrev pub numbered_replies_in : History → List (ℕ × Reply)
numbered_replies_in [] = []
numbered_replies_in (Answered t statement answer ∷ past) = numbered_replies_in past ++ (statement, reply_of_answer answer) ∷ []
numbered_replies_in (event ∷ past) = numbered_replies_in past

abbrev pub with_statement : Option Statement → List Statement → List Statement
with_statement None statements = statements
with_statement (Some statement) statements = statement ∷ statements

abbrev pub statements_of : Programs → History → List (ℕ × Reply) → List Statement
statements_of programs own_events [] = []
statements_of programs own_events (one ∷ more) =
    with_statement (statement_numbered programs own_events one.0) (statements_of programs own_events more)

-- the statements that a transaction's events answer, in order
abbrev pub answered_statements : Programs → History → List Statement
answered_statements programs own_events = statements_of programs own_events (numbered_replies_in own_events)

abbrev pub replies_in : History → List Reply
replies_in own_events = map (λ one. one.1) (numbered_replies_in own_events)

-- ---- the machine over these programs' types. These words stay shut in proofs on histories, which need laws of them alone

unfoldable pub program_reply : Programs → Statement → Database → Reply
program_reply programs statement database = reply_of programs.types statement database

unfoldable pub program_effect : Programs → Statement → Database → Database
program_effect programs statement database = effect_of programs.types statement database

unfoldable pub program_needs : Programs → Statement → ℕ → Database → List Lock
program_needs programs statement phase database = needs_of programs.types statement phase database

-- the answers of statements that run one after another
abbrev pub program_replies : Programs → List Statement → Database → List Reply
program_replies programs [] database = []
program_replies programs (statement ∷ statements) database =
    program_reply programs statement database ∷ program_replies programs statements (program_effect programs statement database)

-- and the database that they leave
abbrev pub database_after : Programs → List Statement → Database → Database
database_after programs [] database = database
database_after programs (statement ∷ statements) database = database_after programs statements (program_effect programs statement database)

-- ---- databases

-- the committed database: a commit makes it what the transaction's answered statements leave of it
abbrev pub committed_database : Programs → History → Database
committed_database programs [] = programs.base
committed_database programs (Committed t number ∷ past) = database_after programs (answered_statements programs (events_of t past)) (committed_database programs past)
committed_database programs (event ∷ past) = committed_database programs past

-- a transaction's own database: the committed one with the effects of its own answered statements
abbrev pub own_database : Programs → History → ℕ → Database
own_database programs past t = database_after programs (answered_statements programs (events_of t past)) (committed_database programs past)
