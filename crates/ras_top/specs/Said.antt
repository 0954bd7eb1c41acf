-- What a call may say: its status, the text that goes with it, and what must hold for it.
use Rattle.std.specs.Prelude.{◌≡◌, ℕ, ◌<◌, ◌≤◌, List, [], ◌∷◌, length, Option, IfSome, Ok, Err, codes, decimal}
use Rattle.std.specs.Io.KnownBytes.{IsAtEnd}
use Rattle.std.specs.List.{concat}
use Rattle.ras_edges.specs.Faults.{Rose}
use Rattle.ras_server.specs.Runs.{IsRunOf}
use Rattle.ras_settings.specs.Schedule.{Turns}
use Rattle.ras_settings.specs.declared.settings.WordsFault.{WordsFault}
use Rattle.ras_settings.specs.declared.settings.WordsFault.TheVariants.{Refused, UnknownCommand, OptionNotOfCommand, BadSchedule, Memory}
use Rattle.spec_commands.specs.Commands.{whole_workload_of}
use Rattle.spec_grammar.specs.Tokens.{Text}
use Rattle.spec_sessions.specs.Begins.{read_scripts}
use Rattle.spec_sessions.specs.Outcomes.{OutcomeValue}
use Rattle.spec_sessions.specs.Report.{report_text}
use Rattle.spec_workloads.specs.Answers.{workload_refusal}
use Rattle.spec_workloads.specs.CheckText.{check_text}
use Rattle.spec_workloads.specs.Programs.{programs_of}
use Rattle.spec_workloads.specs.Setup.{WorkloadFaultValue, WorkloadValue}
use Rattle.ras_top.specs.Commands.{AskFor}
use Rattle.ras_top.specs.declared.TheConstants.{MOST_BYTES}
use Rattle.ras_top.specs.declared.command.Command.{Command}
use Rattle.ras_top.specs.declared.command.Command.TheVariants.{Check, Run}

pub data Said : Type 0 where
  -- the report of a workload and of what became of its run
  report : WorkloadValue → OutcomeValue → Said
  -- the check of each statement of a workload
  checks : WorkloadValue → Said
  -- why the text is no workload
  refusal : WorkloadFaultValue → Said
  -- the text is too long
  too_long : Said
  -- what is wrong with the words
  bad_words : WordsFault → Said
  read_failed : Said
  no_memory : Said

abbrev pub status_of : Said → ℕ
status_of (report workload outcome) = 0
status_of (checks workload) = 0
status_of (refusal fault) = 1
status_of too_long = 1
status_of (bad_words fault) = 2
status_of read_failed = 3
status_of no_memory = 5

-- the status of a call whose text could not be written whole
abbrev pub cut_short : ℕ
cut_short = 4

-- ---- texts

abbrev pub words_refusal : WordsFault → Text
words_refusal Refused = codes "refused words\n"
words_refusal UnknownCommand = codes "refused command\n"
words_refusal OptionNotOfCommand = codes "refused option\n"
words_refusal (BadSchedule place) = concat (codes "refused schedule at " ∷ decimal place ∷ codes "\n" ∷ [])
words_refusal Memory = codes "refused memory\n"

abbrev pub text_of : Said → Text
text_of (report workload outcome) = report_text workload.scripts outcome
text_of (checks workload) = check_text workload
text_of (refusal fault) = workload_refusal fault
text_of too_long = codes "refused too long\n"
text_of (bad_words fault) = words_refusal fault
text_of read_failed = codes "refused read\n"
text_of no_memory = codes "refused memory\n"

-- ---- causes

-- The outcome is one of running the workload's sessions by the schedule: its history is legal, and its committed transactions
-- are, one after another, a run of one thread; its lines and events are those of walks of the scripts, in the schedule's order
abbrev pub IsRunBy : Turns → WorkloadValue → OutcomeValue → Type 0
IsRunBy schedule workload outcome = IsRunOf (programs_of workload) (read_scripts workload) schedule outcome

-- What must hold for what a command says of a text that was read whole. Want of memory may come at any time
abbrev pub IsSaidOf : Said → Command → Text → Type 0
IsSaidOf (report workload outcome) (Run workers schedule) text = (whole_workload_of text ≡ Ok workload) × IsRunBy schedule workload outcome
IsSaidOf (report workload outcome) Check text = ⊥
IsSaidOf (checks workload) (Run workers schedule) text = ⊥
IsSaidOf (checks workload) Check text = whole_workload_of text ≡ Ok workload
IsSaidOf (refusal fault) command text = whole_workload_of text ≡ Err fault
IsSaidOf too_long command text = ⊥
IsSaidOf (bad_words fault) command text = ⊥
IsSaidOf read_failed command text = ⊥
IsSaidOf no_memory command text = Unit {0}

-- The bytes that the source had left when the call began and when it ended, where it tells them; its count of faults at both
-- times.
module _ (input rest : Option Text) (faults_before faults_after : ℕ) where
  -- this is the source's text, it was read to its end, and it isn't too long
  pub record WasRead (text : Text) : Type 0 where
    pub told : IfSome input (λ bytes. text ≡ bytes)
    pub ended : IsAtEnd rest
    pub few : length text ≤ MOST_BYTES

  -- what must hold for what a command says of a text that it reads
  abbrev pub IsSaidBy : Said → Command → Type 0
  IsSaidBy too_long command = IfSome input (λ text. MOST_BYTES < length text)
  IsSaidBy (bad_words fault) command = ⊥
  IsSaidBy read_failed command = Rose faults_before faults_after
  IsSaidBy no_memory command = Unit {0}
  IsSaidBy said command = (text : Text) × WasRead text × IsSaidOf said command text

  -- what must hold for what is said. Want of memory may come at any time
  abbrev pub IsDue : Said → List Text → Type 0
  IsDue (bad_words fault) words = AskFor words (Err fault)
  IsDue no_memory words = Unit {0}
  IsDue said words = (command : Command) × AskFor words (Ok command) × IsSaidBy said command
