use Rattle.law_sessions.proofs.Workloads.{begins-of_workload, room-of_run}
use Rattle.law_sessions.proofs.laws.runs_begin_few_transactions.Goals as goal

pub returns-clause-begins : goal.returns-clause-begins
returns-clause-begins c = begins-of_workload

pub returns-clause-room : goal.returns-clause-room
returns-clause-room c = room-of_run
