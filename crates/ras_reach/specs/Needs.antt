-- The lists of locks that a statement asks for, and how what the code answers stands for them.
use Rattle.std.specs.Prelude.{◌≡◌, ℕ, nat_lt, if◌then◌else◌, List, length, Result, Ok, Err}
use Rattle.ras_rows.specs.declared.stop.Stop.{Stop}
use Rattle.ras_rows.specs.declared.stop.Stop.TheVariants as stops
use Rattle.ras_syntax.specs.declared.faults.ShapeFault.TheVariants.{TooManyLocks}
use Rattle.ras_syntax.specs.declared.limits.TheConstants.{MAX_LOCKS}
use Rattle.ras_syntax.specs.declared.statement.Statement.{Statement}
use Rattle.spec_statements.specs.Locks.{Lock}
use Rattle.spec_statements.specs.Machine.{first_list}
use Rattle.spec_statements.specs.Reply.{Reply, misfit, reply_of_answer}
use Rattle.ras_reach.specs.declared.first.NeedsFault.{NeedsFault}
use Rattle.ras_reach.specs.declared.first.NeedsFault.TheVariants.{Answer, Memory}

-- a list that isn't too long, for a statement of this length
abbrev pub limited_to : ℕ → List Lock → Result (List Lock) Reply
limited_to size asked =
    if nat_lt MAX_LOCKS (length asked) then Err (misfit 0 (record { from = 0; to = size }) TooManyLocks) else Ok asked

-- the first list, or the answer to a statement whose first list is too long
abbrev pub first_asked : Statement → Result (List Lock) Reply
first_asked statement = limited_to statement.length (first_list statement)

-- the fault is the answer that is wanted, or want of memory
abbrev pub StopsAsNeeds : {B : Type 0} → Result B Reply → NeedsFault → Type 0
StopsAsNeeds wanted (Answer answer) = wanted ≡ Err (reply_of_answer answer)
StopsAsNeeds wanted Memory = Unit {0}

-- the list that is wanted, the answer in its place, or want of memory
abbrev pub GivesLocks : Result (List Lock) Reply → Result (List Lock) NeedsFault → Type 0
GivesLocks wanted (Ok list) = wanted ≡ Ok list
GivesLocks wanted (Err fault) = StopsAsNeeds wanted fault

abbrev pub fault_of_stop : Stop → NeedsFault
fault_of_stop (stops.Answer answer) = Answer answer
fault_of_stop stops.Memory = Memory
