-- The programs of a workload: what histories are judged by.
use Rattle.std.specs.Prelude.{List, map, Option, Some, None, Result, Ok, Err}
use Rattle.ras_syntax.specs.declared.faults.SyntaxFault.{SyntaxFault}
use Rattle.ras_syntax.specs.declared.statement.Statement.{Statement}
use Rattle.ras_syntax.specs.declared.types.Script.{Script}
use Rattle.spec_grammar.specs.Tokens.{Text}
use Rattle.spec_histories.specs.History.{Programs}
use Rattle.law_grammar.specs.VerdictOf.{verdict_of}
use Rattle.spec_workloads.specs.Setup.{WorkloadValue}

abbrev pub statement_if_read : Result Statement SyntaxFault → Option Statement
statement_if_read (Ok statement) = Some statement
statement_if_read (Err fault) = None

-- the statement that a text is, if it is one
abbrev pub statement_in_text : Text → Option Statement
statement_in_text text = statement_if_read (verdict_of text)

abbrev pub statements_in_script : Script → List (Option Statement)
statements_in_script script = map statement_in_text script.statements

abbrev pub programs_of : WorkloadValue → Programs
programs_of workload = record { types = workload.types; base = workload.base; scripts = map statements_in_script workload.scripts }
