-- Lists of entries, each with the number of its maker.
use Rattle.std.specs.Prelude.{◌≡◌, ◌==◌, ℕ, List, ◌++◌, All}
use Rattle.std.specs.List.{filter}

module _ {E : Type 0} where
  -- the entries of one maker, in their order
  abbrev pub made_by : ℕ → List (ℕ × E) → List (ℕ × E)
  made_by k log = filter (λ (e : ℕ × E). e.0 == k) log

  -- the later list is the earlier one, followed by entries of this maker alone
  abbrev pub Extends : ℕ → List (ℕ × E) → List (ℕ × E) → Type 0
  Extends k earlier later = (more : List (ℕ × E)) × (later ≡ earlier ++ more) × All (λ (e : ℕ × E). e.0 ≡ k) more
