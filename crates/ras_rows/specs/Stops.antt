-- How what the code answers stands for what the definitions say. Want of memory stands for nothing: it may come at any call.
use Rattle.std.specs.Prelude.{◌≡◌, ℕ, Result, Ok, Err}
use Rattle.ras_rows.specs.declared.stop.Stop.{Stop}
use Rattle.ras_rows.specs.declared.stop.Stop.TheVariants.{Answer, Memory}
use Rattle.ras_shape.specs.declared.form.ShapeError.{ShapeError}
use Rattle.ras_shape.specs.declared.form.ShapeError.TheVariants as errors
use Rattle.ras_syntax.specs.declared.answer.Answer.TheVariants as answers
use Rattle.spec_statements.specs.Reply.{Reply, reply_of_answer}

-- the stop is the reply that is wanted, or want of memory
abbrev pub IsStop : {B : Type 0} → Result B Reply → Stop → Type 0
IsStop wanted (Answer answer) = wanted ≡ Err (reply_of_answer answer)
IsStop wanted Memory = Unit {0}

-- the answer, seen by a view of it, is the outcome that is wanted, or want of memory
abbrev pub GivesOrStops : {A B : Type 0} → (A → B) → Result B Reply → Result A Stop → Type 0
GivesOrStops view wanted (Ok a) = wanted ≡ Ok (view a)
GivesOrStops view wanted (Err stop) = IsStop wanted stop

-- the stop at a shape fault in the row of a number
abbrev pub stop_of : ℕ → ShapeError → Stop
stop_of row (errors.Fault span fault) = Answer (answers.Shape row span fault)
stop_of row errors.Memory = Memory
