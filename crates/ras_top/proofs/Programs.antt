-- The workload of a whole text is one of the text with what follows it left out; so its programs are those that histories are
-- judged by, and each outcome of running it can be printed.
use Rattle.std.proofs.Common.{◌≡◌, ◌+◌, ◌≤◌, ℕ, List, [], ◌∷◌, Result, map, All, sym, ap, subst, arith}
use Rattle.std.specs.Prelude.{Ok, Err, drop}
use Rattle.std.proofs.lemmas.List.Elements.{All-weaker}
use Rattle.law_sessions.proofs.Printable.{printable}
use Rattle.law_workloads.proofs.Programs.{workloads-are, sessions-short}
use Rattle.ras_cells.specs.Outcomes.{◌>>=◌}
use Rattle.ras_core.specs.States.{AreProgramsOf, FIRST_IDENTIFIERS}
use Rattle.ras_report.proofs.Sessions.{printable-once}
use Rattle.ras_report.specs.Once.{AreAnsweredOnce}
use Rattle.ras_server.specs.Runs.{HasPrograms, IsRunOf, scripts_of}
use Rattle.ras_settings.specs.Schedule.{Turns}
use Rattle.ras_setup.specs.Found.{IsWorkload}
use Rattle.ras_store.specs.declared.workload.Workload.{Workload}
use Rattle.ras_syntax.specs.declared.limits.TheConstants.{MAX_FIRST_IDENTIFIER, MAX_STATEMENTS}
use Rattle.ras_top.specs.Said.{IsRunBy}
use Rattle.spec_commands.specs.Commands.{after_blanks, after_setup, if_nothing, line_behind, whole_workload_of, with_outline}
use Rattle.spec_grammar.specs.Tokens.{Text}
use Rattle.spec_histories.specs.History.{Programs}
use Rattle.spec_sessions.specs.Begins.{read_script}
use Rattle.spec_sessions.specs.Outcomes.{OutcomeValue}
use Rattle.spec_workloads.specs.Outline.{Outline, OutlineFault, outline_of}
use Rattle.spec_workloads.specs.Programs.{programs_of, statements_in_script}
use Rattle.spec_workloads.specs.Setup.{SetupFault, WorkloadValue, workload_of, workload_of_outline, workload_with_place, with_setup}

set_up : (behind : ℕ) (made : Result WorkloadValue (ℕ × SetupFault)) (value : WorkloadValue) → after_setup made ≡ Ok value
    → workload_with_place behind made ≡ Ok (value, behind)
set_up behind (Ok workload) value e = cc e
set_up behind (Err fault) value e = absurd (cc e)

ended : (rest : Text) (line : ℕ) (outline : Outline) (value : WorkloadValue) → with_outline (if_nothing rest line outline) ≡ Ok value
    → after_setup (workload_of_outline outline) ≡ Ok value
ended [] line outline value e = e
ended (b ∷ bytes) line outline value e = absurd (cc e)

told : (text : Text) (outlined : Result (Outline × ℕ) OutlineFault) (value : WorkloadValue)
    → with_outline (outlined >>= λ found. if_nothing (after_blanks (drop found.1 text)) (line_behind text found.1) found.0) ≡ Ok value
    → (behind : ℕ) × (with_setup outlined ≡ Ok (value, behind))
told text (Ok found) value e = (found.1, set_up found.1 (workload_of_outline found.0) value (ended _ _ found.0 value e))
told text (Err fault) value e = absurd (cc e)

-- what follows the last heading is blank, and so it doesn't matter
placed : (text : Text) (value : WorkloadValue) → whole_workload_of text ≡ Ok value → (behind : ℕ) × (workload_of text ≡ Ok (value, behind))
placed text value found = told text (outline_of text) value found

module _ (text : Text) (value : WorkloadValue) (found : whole_workload_of text ≡ Ok value) where
  -- its programs are those of the workload that is kept
  pub are-programs : (workload : Workload) → IsWorkload value workload → AreProgramsOf workload (programs_of value)
  are-programs workload is =
      let at = placed text value found in
      let are = workloads-are text (value, at.0) at.1 in
      record {
        types = sym is.types;
        base = is.base;
        scripts = ap (map statements_in_script) (sym is.scripts);
        are = record {
          types_fit = are.types_fit;
          valid = are.valid;
          identifiers = All-weaker (λ entry. entry.1.next ≤ 1 + MAX_STATEMENTS) (λ entry. entry.1.next ≤ FIRST_IDENTIFIERS) (λ entry h. omega (arith, h)) value.base are.identifiers;
          numbers_fit = are.numbers_fit;
        };
        short = sessions-short text (value, at.0) at.1;
      }

  pub has-programs : (workload : Workload) → IsWorkload value workload → HasPrograms workload
  has-programs workload is = record { programs = programs_of value; are = are-programs workload is }

  -- what is a run for all programs of the workload is one of the workload's own
  pub run-by : (workload : Workload) (schedule : Turns) (outcome : OutcomeValue) → IsWorkload value workload
      → ((programs : Programs) → AreProgramsOf workload programs → IsRunOf programs (scripts_of workload) schedule outcome)
      → IsRunBy schedule value outcome
  run-by workload schedule outcome is run =
      subst (λ scripts. IsRunOf (programs_of value) (map read_script scripts) schedule outcome) is.scripts
      (run (programs_of value) (are-programs workload is))

  -- and it can be printed
  pub answered-once : (schedule : Turns) (outcome : OutcomeValue) → IsRunBy schedule value outcome → AreAnsweredOnce outcome.history
  answered-once schedule outcome run =
      let at = placed text value found in
      printable-once value.scripts outcome (printable text (value, at.0) outcome at.1 run.legal (run.paced.walks, run.paced.made_by))
