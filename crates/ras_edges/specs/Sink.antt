-- What became of a text that a function writes to a sink.
use Rattle.std.specs.Prelude.{◌≡◌, ℕ, ◌≤◌, List, ◌++◌, length, Option, IfSome, Result, MatchResult}
use Rattle.std.specs.Io.KnownBytes.{Appends}
use Rattle.ras_edges.specs.Faults.{Rose}

-- all bytes taken are flushed, where the sink tells both
abbrev pub IsFlushed : Option (List ℕ) → Option ℕ → Type 0
IsFlushed taken flushed = IfSome taken (λ bytes. IfSome flushed (λ n. n ≡ length bytes))

module _ {K : Type 0} (taken : K → Option (List ℕ)) (faults : K → ℕ) where
  -- the sink took the whole text
  pub record Wrote (old new : K) (text : List ℕ) : Type 0 where
    pub appended : Appends (taken old) (taken new) text
    pub faults_stay : faults old ≤ faults new

  -- the sink took a prefix of the text, and then its count of faults rose
  pub record Stopped (old new : K) (text : List ℕ) : Type 0 where
    pub front : List ℕ
    pub rest : List ℕ
    pub parts : text ≡ front ++ rest
    pub appended : Appends (taken old) (taken new) front
    pub faults_stay : faults old ≤ faults new
    pub rose : Rose (faults old) (faults new)

  -- Ok where the sink took the whole text, and else it stopped within it
  abbrev pub Writes : {E : Type 0} → K → K → Result (Unit {0}) E → List ℕ → Type 0
  Writes old new result text = MatchResult result (λ _. Wrote old new text) (λ _. Stopped old new text)
