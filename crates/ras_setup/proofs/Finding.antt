-- From what was read and run to what is found of a text.
use Rattle.std.proofs.Common.{◌≡◌, ℕ, ◌<◌, ◌≤◌, ◌^◌, [], length, drop, All, Option, Some, None, Result, Ok, Err, refl, sym, ap, ◌∙◌, arith}
use Rattle.std.proofs.lemmas.List.Elements.{All-from_recursion}
use Rattle.std.specs.Option.{option_map}
use Rattle.law_lists.proofs.Each.{each_weaker}
use Rattle.ras_setup.specs.Ends.{IsEndedAt}
use Rattle.ras_setup.specs.Found.{IsFoundFor, IsPlacedFor, IsWantedFault}
use Rattle.ras_setup.specs.Runs.{FindsBase, IsWantedFailure, SetsUp}
use Rattle.ras_setup.specs.declared.fault.WorkloadRefusal.{WorkloadRefusal}
use Rattle.ras_setup.specs.declared.fault.WorkloadRefusal.TheVariants as refusals
use Rattle.ras_setup.proofs.Shorts.{outlines-within}
use Rattle.ras_setup.proofs.Texts.{followed, no-whole, no-workload, not-ended, over-base, over-fault, whole-of, workload-placed}
use Rattle.ras_store.specs.declared.store.Store.{Store}
use Rattle.ras_store.specs.declared.workload.Workload.{Workload}
use Rattle.ras_workload.specs.Told.{ToldFault, fault_seen}
use Rattle.ras_workload.specs.declared.fault.WorkloadFault.{WorkloadFault}
use Rattle.spec_commands.specs.Commands.{after_blanks, line_behind, whole_workload_of}
use Rattle.spec_grammar.specs.Tokens.{Text}
use Rattle.spec_workloads.specs.Outline.{Outline, OutlineFault, bad_heading, outline_of}
use Rattle.spec_workloads.specs.Setup.{WorkloadFaultValue, WorkloadValue, no_outline, set_up, workload_of, workload_of_outline, workload_over}

-- ---- what was read

pub setup-short : (text : Text) (outline : Outline) (behind : ℕ) → outline_of text ≡ Ok (outline, behind) → length text < 2 ^ 32 → All (λ t. length t < 2 ^ 32) outline.setup
setup-short text outline behind is few =
    All-from_recursion (λ t. length t < 2 ^ 32) outline.setup
    (each_weaker (λ t. length t ≤ length text) (λ t. length t < 2 ^ 32) (λ t short. omega (arith, short, few)) outline.setup
    (outlines-within text (outline, behind) is).short)

pub behind-within : (text : Text) (outline : Outline) (behind : ℕ) → outline_of text ≡ Ok (outline, behind) → behind ≤ length text
behind-within text outline behind is = (outlines-within text (outline, behind) is).place

-- a fault of the outline is one of whatever fails with it
told-outline : {A : Type 0} (wanted : Result A WorkloadFaultValue) (found : WorkloadFault)
    → ((fault : OutlineFault) → fault_seen found ≡ Some fault → wanted ≡ Err (no_outline fault)) → IsWantedFault wanted (refusals.Outline found)
told-outline {A = A} wanted found told fault seen = at (fault_seen found) refl seen
  where
    at : (is : Option OutlineFault) → fault_seen found ≡ is → option_map no_outline is ≡ Some fault → wanted ≡ Err fault
    at None is seen = absurd cc
    at (Some of) is seen = let same : no_outline of ≡ fault = cc in told of is ∙ ap (λ f. let r : Result A WorkloadFaultValue = Err f in r) same

pub no-outline-placed : (text : Text) (found : WorkloadFault) → ToldFault (outline_of text) found → IsWantedFault (workload_of text) (refusals.Outline found)
no-outline-placed text found told = told-outline (workload_of text) found (λ fault is. no-workload text fault (told fault is))

pub no-outline-whole : (text : Text) (found : WorkloadFault) → ToldFault (outline_of text) found → IsWantedFault (whole_workload_of text) (refusals.Outline found)
no-outline-whole text found told = told-outline (whole_workload_of text) found (λ fault is. no-whole text fault (not-ended text fault (told fault is)))

-- ---- the setup of an outline

pub base-fails : (outline : Outline) (refusal : WorkloadRefusal) → IsWantedFailure (set_up outline.types 1 outline.setup []) refusal
    → IsWantedFailure (workload_of_outline outline) refusal
base-fails outline refusal is fault seen = let failed = is fault seen in (failed.0, over-fault outline failed.0 failed.1, failed.2)

pub base-found : (outline : Outline) (store : Store) → FindsBase outline.types (set_up outline.types 1 outline.setup []) (Ok store)
    → SetsUp (workload_of_outline outline) (Ok (record { types = outline.types; base = store; scripts = outline.scripts }))
base-found outline store found =
    (workload_over outline found.0, over-base outline found.0 found.1, record { types = refl; base = found.2; scripts = refl })

-- ---- texts

module _ (text : Text) (outline : Outline) (behind : ℕ) (read : outline_of text ≡ Ok (outline, behind)) where
  pub setup-fails-placed : (refusal : WorkloadRefusal) → IsWantedFailure (workload_of_outline outline) refusal → IsWantedFault (workload_of text) refusal
  setup-fails-placed refusal is fault seen =
      let failed = is fault seen in
      workload-placed text outline behind read (Err failed.0) failed.1
      ∙ ap (λ f. let r : Result (WorkloadValue × ℕ) WorkloadFaultValue = Err f in r) (sym failed.2)

  pub found-placed : (workload : Workload) → SetsUp (workload_of_outline outline) (Ok workload) → IsPlacedFor (workload_of text) (Ok (workload, behind))
  found-placed workload is = record { value = is.0; same = workload-placed text outline behind read (Ok is.0) is.1; is = is.2 }

  pub followed-whole : (found : WorkloadFault) → IsEndedAt text behind (Err found) → IsWantedFault (whole_workload_of text) (refusals.Outline found)
  followed-whole found is =
      told-outline (whole_workload_of text) found (λ fault seen. no-whole text fault (followed text outline behind read is.0 ∙ same fault seen))
    where
      same : (fault : OutlineFault) → fault_seen found ≡ Some fault → (let r : Result Outline OutlineFault = Err (bad_heading (line_behind text behind)) in r) ≡ Err fault
      same fault seen = let e : Some (bad_heading (line_behind text behind)) ≡ Some fault = sym (ap fault_seen is.1) ∙ seen in cc

  pub found-whole : after_blanks (drop behind text) ≡ [] → (result : Result Workload WorkloadRefusal) → SetsUp (workload_of_outline outline) result
      → IsFoundFor (whole_workload_of text) result
  found-whole none (Ok workload) is = record { value = is.0; same = whole-of text outline behind read none (Ok is.0) is.1; is = is.2 }
  found-whole none (Err refusal) is = λ fault seen.
      let failed = is fault seen in
      whole-of text outline behind read none (Err failed.0) failed.1
      ∙ ap (λ f. let r : Result WorkloadValue WorkloadFaultValue = Err f in r) (sym failed.2)
