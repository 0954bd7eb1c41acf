-- The answers of the code, and what they say.
use Rattle.std.specs.Prelude.{◌≡◌, ℕ, Bool, true, false, List, Option, Some, None, Ok, codes}
use Rattle.std.specs.Arc.{arc_value}
use Rattle.ras_commands.specs.Texts.{checks_text, refusal_text}
use Rattle.ras_report.specs.Once.{AreAnsweredOnce}
use Rattle.ras_settings.specs.declared.settings.WordsFault.{WordsFault}
use Rattle.ras_settings.specs.declared.settings.WordsFault.TheVariants.{Memory}
use Rattle.ras_setup.specs.Found.{IsWorkload}
use Rattle.ras_store.specs.declared.workload.Workload.{Workload}
use Rattle.spec_commands.specs.Commands.{whole_workload_of}
use Rattle.spec_grammar.specs.Tokens.{Text}
use Rattle.spec_sessions.specs.Report.{report_text}
use Rattle.spec_workloads.specs.Setup.{WorkloadFaultValue, WorkloadValue}
use Rattle.ras_top.specs.Said.{IsDue, IsSaidBy, IsSaidOf, Said, status_of, text_of, words_refusal}
use Rattle.ras_top.specs.declared.answer.Answer.{Answer}
use Rattle.ras_top.specs.declared.answer.Answer.TheVariants.{Report, Checked, Refused, TooLong, BadWords, ReadFailed, NoMemory}
use Rattle.ras_top.specs.declared.command.Command.{Command}

abbrev pub answer_status : Answer → ℕ
answer_status (Report workload outcome) = 0
answer_status (Checked workload checks) = 0
answer_status (Refused refusal) = 1
answer_status TooLong = 1
answer_status (BadWords fault) = 2
answer_status ReadFailed = 3
answer_status NoMemory = 5

abbrev pub answer_text : Answer → Text
answer_text (Report workload outcome) = report_text (arc_value workload).scripts outcome
answer_text (Checked workload checks) = checks_text workload.scripts checks.sessions
answer_text (Refused refusal) = refusal_text refusal
answer_text TooLong = codes "refused too long\n"
answer_text (BadWords fault) = words_refusal fault
answer_text ReadFailed = codes "refused read\n"
answer_text NoMemory = codes "refused memory\n"

-- what the writing of its text wants
abbrev pub CanBeWritten : Answer → Type 0
CanBeWritten (Report workload outcome) = AreAnsweredOnce outcome.history
CanBeWritten answer = Unit {0}

-- the answer says this
pub record Says (answer : Answer) (said : Said) : Type 0 where
  pub status : answer_status answer ≡ status_of said
  pub text : answer_text answer ≡ text_of said
  pub written : CanBeWritten answer

-- ---- what it may say

-- of a text that was read whole
pub record IsAnswerOf (command : Command) (text : Text) (answer : Answer) : Type 0 where
  pub said : Said
  pub due : IsSaidOf said command text
  pub says : Says answer said

module _ (input rest : Option Text) (faults_before faults_after : ℕ) where
  -- of a text that is read
  pub record IsAnswerBy (command : Command) (answer : Answer) : Type 0 where
    pub said : Said
    pub due : IsSaidBy input rest faults_before faults_after said command
    pub says : Says answer said

  -- of words
  pub record IsAnswerDue (words : List Text) (answer : Answer) : Type 0 where
    pub said : Said
    pub due : IsDue input rest faults_before faults_after said words
    pub says : Says answer said

-- ---- workloads of texts

-- it is the workload of some text
pub record IsOfText (workload : Workload) : Type 0 where
  pub text : Text
  pub value : WorkloadValue
  pub found : whole_workload_of text ≡ Ok value
  pub is : IsWorkload value workload

-- ---- faults

-- to words that ask for no command, or for which memory was wanting
abbrev pub answer_to : WordsFault → Answer
answer_to Memory = NoMemory
answer_to fault = BadWords fault

-- memory was wanting, and there is no fault
abbrev pub is_wanting : Option WorkloadFaultValue → Bool
is_wanting None = true
is_wanting (Some fault) = false
