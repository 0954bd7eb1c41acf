-- What is told of a text by reading the tokens at its front.
use Rattle.std.specs.Prelude.{◌≡◌, List, [], ◌∷◌, length, Result, Ok, Err}
use Rattle.ras_syntax.specs.declared.faults.SyntaxFault.{SyntaxFault}
use Rattle.ras_syntax.specs.declared.faults.SyntaxFault.TheVariants as faults
use Rattle.ras_syntax.specs.declared.statement.Statement.{Statement}
use Rattle.ras_syntax.specs.declared.statement.StatementForm.{StatementForm}
use Rattle.spec_grammar.specs.Tokens.{Text, Token}
use Rattle.spec_grammar.specs.Verdict.{IsVerdict}
use Rattle.law_grammar.specs.Readers.{ReadOutcome}
use Rattle.ras_parse.specs.declared.fault.ParseFault.{ParseFault}
use Rattle.ras_parse.specs.declared.fault.ParseFault.TheVariants.{Fault, Memory}
use Rattle.ras_parse.specs.declared.reading.Behind.{Behind}
use Rattle.ras_parse.specs.declared.reading.Behind.TheVariants as behind
use Rattle.ras_parse.specs.declared.verdict.Outcome.{Outcome}
use Rattle.ras_parse.specs.declared.verdict.Outcome.TheVariants.{Whole, Cut, Wrong}

-- ---- what reading gave

-- a form was read, and these tokens are left: the first of them is wrong
abbrev pub form_before : StatementForm → List Token → Outcome
form_before form [] = Whole form
form_before form (t ∷ rest) = Wrong t.from

-- the tokens from the first wrong one on; where there is none, all are right and no statement
abbrev pub wrong_from : List Token → Outcome
wrong_from [] = Cut
wrong_from (t ∷ rest) = Wrong t.from

abbrev pub outcome_read : ReadOutcome StatementForm → Outcome
outcome_read (Ok p) = form_before p.0 p.1
outcome_read (Err rest) = wrong_from rest

-- ---- what is told

-- where all tokens are right and a statement
abbrev pub told_whole : Text → Behind → StatementForm → Result Statement SyntaxFault
told_whole text behind.End form = Ok (record { form = form; length = length text })
told_whole text (behind.Fault f) form = Err f
told_whole text (behind.TooHeavy place) form = Err (faults.TooDeep place)

-- where all tokens are right, and more have to follow
abbrev pub told_cut : Text → Behind → Result Statement SyntaxFault
told_cut text behind.End = Err (faults.Unexpected (length text))
told_cut text (behind.Fault f) = Err f
told_cut text (behind.TooHeavy place) = Err (faults.TooDeep place)

-- a wrong token comes before whatever stands behind the tokens, and else the heavy token or the fault of a token's own
abbrev pub told_by : Text → Behind → Outcome → Result Statement SyntaxFault
told_by text behind (Whole form) = told_whole text behind form
told_by text behind Cut = told_cut text behind
told_by text behind (Wrong place) = Err (faults.Unexpected place)

-- ---- what parse_statement answers

-- the text's fault; want of memory may come anywhere
abbrev pub IsToldFault : Text → ParseFault → Type 0
IsToldFault text (Fault f) = IsVerdict text (Err f)
IsToldFault text Memory = Unit {0}

-- the answer is this verdict, or want of memory
abbrev pub IsTold : Result Statement SyntaxFault → Result Statement ParseFault → Type 0
IsTold verdict (Ok s) = verdict ≡ Ok s
IsTold verdict (Err (Fault f)) = verdict ≡ Err f
IsTold verdict (Err Memory) = Unit {0}
