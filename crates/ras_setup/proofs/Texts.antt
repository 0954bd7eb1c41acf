-- From the outline of a text and the outcome of its setup to the workload of the text.
use Rattle.std.proofs.Common.{◌≡◌, ◌≢◌, ℕ, suc, ◌∷◌, List, [], drop, Result, Ok, Err, refl, ap, ◌∙◌}
use Rattle.ras_cells.specs.Outcomes.{◌>>=◌}
use Rattle.ras_syntax.specs.declared.types.SetType.{SetType}
use Rattle.spec_commands.specs.Commands.{after_blanks, after_setup, ended_outline, if_nothing, line_behind, whole_workload_of, with_outline}
use Rattle.spec_expressions.specs.Database.{Database}
use Rattle.spec_grammar.specs.Tokens.{Text}
use Rattle.spec_workloads.specs.Outline.{Outline, OutlineFault, bad_heading, outline_of}
use Rattle.spec_workloads.specs.Setup.{SetupFault, WorkloadValue, after_verdict, no_outline, set_up, with_setup, workload_of, workload_of_outline, workload_over, workload_with_place}
use Rattle.law_grammar.specs.VerdictOf.{verdict_of}
use Rattle.spec_workloads.proofs.Outlines.{ok_same}

-- ---- statements of a setup

module _ (types : List SetType) (k : ℕ) (text : Text) (texts : List Text) (database : Database) where
  pub goes-on : (next : Database) → after_verdict types k (verdict_of text) database ≡ Ok next → set_up types k (text ∷ texts) database ≡ set_up types (suc k) texts next
  goes-on next is = ap (λ r. r >>= λ next. set_up types (suc k) texts next) is

  pub stops : (fault : SetupFault) → after_verdict types k (verdict_of text) database ≡ Err (k, fault) → set_up types k (text ∷ texts) database ≡ Err (k, fault)
  stops fault is = ap (λ r. r >>= λ next. set_up types (suc k) texts next) is

-- ---- outlines with their setup

module _ (outline : Outline) where
  pub over-base : (base : Database) → set_up outline.types 1 outline.setup [] ≡ Ok base → workload_of_outline outline ≡ Ok (workload_over outline base)
  over-base base is = ap (λ r. r >>= λ base. Ok (workload_over outline base)) is

  pub over-fault : (failed : ℕ × SetupFault) → set_up outline.types 1 outline.setup [] ≡ Err failed → workload_of_outline outline ≡ Err failed
  over-fault failed is = ap (λ r. r >>= λ base. Ok (workload_over outline base)) is

-- ---- texts

module _ (text : Text) where
  pub no-workload : (fault : OutlineFault) → outline_of text ≡ Err fault → workload_of text ≡ Err (no_outline fault)
  no-workload fault is = ap with_setup is

  pub no-whole : (fault : OutlineFault) → ended_outline text ≡ Err fault → whole_workload_of text ≡ Err (no_outline fault)
  no-whole fault is = ap with_outline is

  pub not-ended : (fault : OutlineFault) → outline_of text ≡ Err fault → ended_outline text ≡ Err fault
  not-ended fault is = ap (λ r. r >>= λ (found : Outline × ℕ). if_nothing (after_blanks (drop found.1 text)) (line_behind text found.1) found.0) is

  module _ (outline : Outline) (behind : ℕ) (read : outline_of text ≡ Ok (outline, behind)) where
    pub workload-placed : (r : Result WorkloadValue (ℕ × SetupFault)) → workload_of_outline outline ≡ r → workload_of text ≡ workload_with_place behind r
    workload-placed r is = ap with_setup read ∙ ap (workload_with_place behind) is

    ended-by : ended_outline text ≡ if_nothing (after_blanks (drop behind text)) (line_behind text behind) outline
    ended-by = ap (λ r. r >>= λ (found : Outline × ℕ). if_nothing (after_blanks (drop found.1 text)) (line_behind text found.1) found.0) read

    pub ended : after_blanks (drop behind text) ≡ [] → ended_outline text ≡ Ok outline
    ended is = ended-by ∙ ap (λ rest. if_nothing rest (line_behind text behind) outline) is

    pub followed : after_blanks (drop behind text) ≢ [] → ended_outline text ≡ Err (bad_heading (line_behind text behind))
    followed not = ended-by ∙ at (after_blanks (drop behind text)) not
      where
        at : (rest : Text) → rest ≢ [] → if_nothing rest (line_behind text behind) outline ≡ Err (bad_heading (line_behind text behind))
        at [] not = absurd (not refl)
        at (b ∷ bytes) not = refl

    pub whole-of : after_blanks (drop behind text) ≡ [] → (r : Result WorkloadValue (ℕ × SetupFault)) → workload_of_outline outline ≡ r → whole_workload_of text ≡ after_setup r
    whole-of none r is = ap with_outline (ended none) ∙ ap after_setup is

-- ---- what a whole text has, its front has

nothing-same : (rest : Text) (line : ℕ) (outline found : Outline) → if_nothing rest line outline ≡ Ok found → outline ≡ found
nothing-same [] line outline found is = ok_same outline found is
nothing-same (b ∷ bytes) line outline found is = absurd cc

module _ (text : Text) (value : WorkloadValue) where
  setup-same : (behind : ℕ) (r : Result WorkloadValue (ℕ × SetupFault)) → after_setup r ≡ Ok value → workload_with_place behind r ≡ Ok (value, behind)
  setup-same behind (Ok workload) is = let same : workload ≡ value = cc in ap (λ w. Ok (w, behind)) same
  setup-same behind (Err fault) is = absurd cc

  over-outline : (found : Outline × ℕ) → outline_of text ≡ Ok found → (r : Result Outline OutlineFault)
      → if_nothing (after_blanks (drop found.1 text)) (line_behind text found.1) found.0 ≡ r → with_outline r ≡ Ok value
      → (behind : ℕ) × (workload_of text ≡ Ok (value, behind))
  over-outline found read (Err fault) is whole = absurd cc
  over-outline found read (Ok outline) is whole =
      let same : found.0 ≡ outline = nothing-same (after_blanks (drop found.1 text)) (line_behind text found.1) found.0 outline is in (
        found.1,
        workload-placed text found.0 found.1 read (workload_of_outline outline) (ap workload_of_outline same)
            ∙ setup-same found.1 (workload_of_outline outline) whole,
      )

  pub front-workload : whole_workload_of text ≡ Ok value → (behind : ℕ) × (workload_of text ≡ Ok (value, behind))
  front-workload whole = at (outline_of text) refl whole
    where
      at : (r : Result (Outline × ℕ) OutlineFault) → outline_of text ≡ r
          → with_outline (r >>= λ found. if_nothing (after_blanks (drop found.1 text)) (line_behind text found.1) found.0) ≡ Ok value
          → (behind : ℕ) × (workload_of text ≡ Ok (value, behind))
      at (Err fault) read is = absurd cc
      at (Ok found) read is = over-outline found read (if_nothing (after_blanks (drop found.1 text)) (line_behind text found.1) found.0) refl is
