-- The statements of a section, one after the other, and the types.
use Rattle.std.specs.Prelude.{◌≡◌, ℕ, nat_lt, List, [], ◌∷◌, ◌++◌, length, Option, Some, None, Result, Ok, Err, if◌then◌else◌}
use Rattle.ras_cells.specs.Outcomes.{◌>>=◌}
use Rattle.ras_syntax.specs.declared.limits.TheConstants.{MAX_STATEMENTS}
use Rattle.ras_syntax.specs.declared.types.SetType.{SetType}
use Rattle.spec_grammar.specs.Tokens.{Text}
use Rattle.spec_workloads.specs.Outline.{OutlineFault, closed_before, provided, too_many_statements}
use Rattle.spec_workloads.specs.Sections.{Piece, Section}
use Rattle.spec_workloads.specs.TypeLines.{may_be_declared}
use Rattle.ras_workload.specs.declared.fault.WorkloadFault.{WorkloadFault}
use Rattle.ras_workload.specs.Told.{IsFound}

-- a list grows to what is told, or what is told is a fault
pub record AddsTo {A : Type 0} (told : Result A OutlineFault) (result : Result (Unit {0}) WorkloadFault) (new : A) : Type 0 where
  pub is : IsFound (λ (u : Unit {0}). new) told result

-- ---- statements

-- one more, where there is room for it
abbrev pub with_text : List Text → Piece → Result (List Text) OutlineFault
with_text texts piece = provided (nat_lt (length texts) MAX_STATEMENTS) (too_many_statements piece.line) (Ok (texts ++ piece.text ∷ []))

-- nothing stands behind the last semicolon
abbrev pub ended : List Text → (line : ℕ) → (rest : Text) → List Section → Result (List Text) OutlineFault
ended texts line [] later = Ok texts
ended texts line (b ∷ bytes) later =
    provided (nat_lt (length texts) MAX_STATEMENTS) (too_many_statements line) (closed_before (b ∷ bytes) later texts)

abbrev pub texts_after : List Text → List Piece → Piece → List Section → Result (List Text) OutlineFault
texts_after texts [] rest later = ended texts rest.line rest.text later
texts_after texts (piece ∷ pieces) rest later = with_text texts piece >>= λ more. texts_after more pieces rest later

-- ---- types

-- the type of a line, where it may be declared behind these
abbrev pub declared_behind : List SetType → Option SetType → Option SetType
declared_behind earlier None = None
declared_behind earlier (Some of) = if may_be_declared earlier of then Some of else None
