-- What the answers of the code say.
use Rattle.std.proofs.Common.{◌≡◌, ◌≢◌, ℕ, List, Option, false, refl, ap}
use Rattle.std.specs.Prelude.{Some, None, Ok, Err}
use Rattle.std.specs.Arc.{arc_value}
use Rattle.std.specs.declared.sync.Arc.{Arc}
use Rattle.std.specs.declared.alloc.Global.{Global}
use Rattle.std.specs.Io.KnownBytes.{IsAtEnd}
use Rattle.ras_commands.proofs.Meaning.{checks_text-is}
use Rattle.ras_commands.specs.Checks.{checks_of}
use Rattle.ras_commands.specs.Texts.{refusal_line}
use Rattle.ras_commands.specs.declared.checks.Checks.{Checks}
use Rattle.ras_setup.specs.Found.{IsWantedFault, IsWorkload, refusal_seen}
use Rattle.ras_setup.specs.declared.fault.WorkloadRefusal.{WorkloadRefusal}
use Rattle.ras_store.specs.declared.workload.Workload.{Workload}
use Rattle.ras_core.specs.States.{AreProgramsOf}
use Rattle.ras_server.specs.Runs.{IsRunOf, scripts_of}
use Rattle.ras_settings.specs.Schedule.{Turns}
use Rattle.ras_settings.specs.declared.settings.WordsFault.{WordsFault}
use Rattle.ras_settings.specs.declared.settings.WordsFault.TheVariants as faults
use Rattle.spec_histories.specs.History.{Programs}
use Rattle.spec_sessions.specs.Outcomes.{OutcomeValue}
use Rattle.spec_sessions.specs.Report.{report_text}
use Rattle.ras_top.proofs.Programs.{answered-once, run-by}
use Rattle.ras_top.specs.Answer.{IsAnswerBy, IsAnswerDue, IsAnswerOf, Says, answer_to, is_wanting}
use Rattle.ras_top.specs.Commands.{AskFor, asked_by}
use Rattle.ras_top.specs.Said.{IsDue, IsSaidBy, IsSaidOf, Said, WasRead, bad_words, checks, no_memory, read_failed, refusal, report, too_long}
use Rattle.ras_top.specs.declared.answer.Answer.{Answer}
use Rattle.ras_top.specs.declared.answer.Answer.TheVariants as answer
use Rattle.ras_top.specs.declared.command.Command.{Command}
use Rattle.ras_top.specs.declared.command.Command.TheVariants as command
use Rattle.spec_commands.specs.Commands.{whole_workload_of}
use Rattle.spec_grammar.specs.Tokens.{Text}
use Rattle.spec_workloads.specs.Setup.{WorkloadFaultValue, WorkloadValue}

-- ---- answers to a text that was read whole

pub says-no-memory : (command : Command) (text : Text) → IsAnswerOf command text answer.NoMemory
says-no-memory command text = record { said = no_memory; due = tt; says = record { status = refl; text = refl; written = tt } }

refused-seen : (command : Command) (text : Text) (fault : WorkloadRefusal) (seen : Option WorkloadFaultValue) → refusal_seen fault ≡ seen → is_wanting seen ≡ false
    → IsWantedFault (whole_workload_of text) fault → IsAnswerOf command text (answer.Refused fault)
refused-seen command text fault None same some wanted = absurd (cc some)
refused-seen command text fault (Some found) same some wanted = record {
  said = refusal found;
  due = wanted found same;
  says = record { status = refl; text = ap refusal_line same; written = tt };
}

pub says-refused : (command : Command) (text : Text) (fault : WorkloadRefusal) → is_wanting (refusal_seen fault) ≡ false
    → IsWantedFault (whole_workload_of text) fault → IsAnswerOf command text (answer.Refused fault)
says-refused command text fault = refused-seen command text fault (refusal_seen fault) refl

module _ (text : Text) (value : WorkloadValue) (found : whole_workload_of text ≡ Ok value) where
  pub says-checked : (workload : Workload) (made : Checks) → IsWorkload value workload → made.sessions ≡ checks_of value
      → IsAnswerOf command.Check text (answer.Checked workload made)
  says-checked workload made is same = record {
    said = checks value;
    due = found;
    says = record { status = refl; text = rw (is.scripts, same) (checks_text-is value); written = tt };
  }

  pub says-ran : (shared : Arc Workload Global) (workers : ℕ) (schedule : Turns) (outcome : OutcomeValue) → IsWorkload value (arc_value shared)
      → ((programs : Programs) → AreProgramsOf (arc_value shared) programs → IsRunOf programs (scripts_of (arc_value shared)) schedule outcome)
      → IsAnswerOf (command.Run workers schedule) text (answer.Report shared outcome)
  says-ran shared workers schedule outcome is run =
      let by = run-by text value found (arc_value shared) schedule outcome is run in
      record {
        said = report value outcome;
        due = (found, by);
        says = record {
          status = refl;
          text = ap (λ scripts. report_text scripts outcome) is.scripts;
          written = answered-once text value found schedule outcome by;
        };
      }

-- ---- answers to a source, and to words

module _ (input rest : Option Text) (before after : ℕ) where
  said-by : (told : Said) (command : Command) (text : Text) → WasRead input rest before after text → IsSaidOf told command text → IsSaidBy input rest before after told command
  said-by (report workload outcome) command text read is = (text, read, is)
  said-by (checks workload) command text read is = (text, read, is)
  said-by (refusal fault) command text read is = (text, read, is)
  said-by too_long command text read is = absurd is
  said-by (bad_words fault) command text read is = absurd is
  said-by read_failed command text read is = absurd is
  said-by no_memory command text read is = tt

  pub answer-by : (command : Command) (text : Text) (a : Answer) → WasRead input rest before after text → IsAnswerOf command text a → IsAnswerBy input rest before after command a
  answer-by command text a read of = record { said = of.said; due = said-by of.said command text read of.due; says = of.says }

  said-due : (told : Said) (words : List Text) (command : Command) → AskFor words (Ok command) → IsSaidBy input rest before after told command → IsDue input rest before after told words
  said-due (report workload outcome) words command asked is = (command, asked, is)
  said-due (checks workload) words command asked is = (command, asked, is)
  said-due (refusal fault) words command asked is = (command, asked, is)
  said-due too_long words command asked is = (command, asked, is)
  said-due (bad_words fault) words command asked is = absurd is
  said-due read_failed words command asked is = (command, asked, is)
  said-due no_memory words command asked is = tt

  pub answer-due : (words : List Text) (command : Command) (a : Answer) → AskFor words (Ok command) → IsAnswerBy input rest before after command a → IsAnswerDue input rest before after words a
  answer-due words command a asked by = record { said = by.said; due = said-due by.said words command asked by.due; says = by.says }

  -- words that ask for no command
  refused-words : (words : List Text) (fault : WordsFault) → AskFor words (Err fault) → IsAnswerDue input rest before after words (answer.BadWords fault)
  refused-words words fault asked = record { said = bad_words fault; due = asked; says = record { status = refl; text = refl; written = tt } }

  pub words-due : (words : List Text) (fault : WordsFault) → (asked_by (Err fault) ≢ asked_by (Err faults.Memory) → AskFor words (Err fault))
      → IsAnswerDue input rest before after words (answer_to fault)
  words-due words faults.Refused asked = refused-words words faults.Refused (asked (λ e. absurd (cc e)))
  words-due words faults.UnknownCommand asked = refused-words words faults.UnknownCommand (asked (λ e. absurd (cc e)))
  words-due words faults.OptionNotOfCommand asked = refused-words words faults.OptionNotOfCommand (asked (λ e. absurd (cc e)))
  words-due words (faults.BadSchedule place) asked = refused-words words (faults.BadSchedule place) (asked (λ e. absurd (cc e)))
  words-due words faults.Memory asked = record { said = no_memory; due = tt; says = record { status = refl; text = refl; written = tt } }
