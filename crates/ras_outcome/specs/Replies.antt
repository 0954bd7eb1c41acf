-- What the definitions see of the answer in a line.
use Rattle.ras_outcome.specs.declared.answer.SessionAnswer.{SessionAnswer}
use Rattle.ras_outcome.specs.declared.answer.SessionAnswer.TheVariants.{Recorded, Memory, Syntax, Begun, Committed, Aborted, NoTransaction, InTransaction}
use Rattle.spec_sessions.specs.Walk.{LineReply, aborted, begun, committed, in_transaction, no_statement, no_transaction, out_of_memory, recorded}

abbrev pub line_reply_of : SessionAnswer → LineReply
line_reply_of Recorded = recorded
line_reply_of Memory = out_of_memory
line_reply_of (Syntax fault) = no_statement fault
line_reply_of Begun = begun
line_reply_of (Committed n) = committed n
line_reply_of (Aborted statement) = aborted statement
line_reply_of NoTransaction = no_transaction
line_reply_of InTransaction = in_transaction
