-- Where tokens stand.
use Rattle.std.specs.Prelude.{ℕ, ◌<◌, ◌≤◌, List, [], ◌∷◌}
use Rattle.spec_grammar.specs.Tokens.{Token}

-- from a place on, and up to another one, the tokens stand one after the other, each with a byte at least
abbrev pub AreInOrder : ℕ → List Token → ℕ → Type 0
AreInOrder from [] to = from ≤ to
AreInOrder from (t ∷ ts) to = (from ≤ t.from) × (t.from < t.to) × AreInOrder t.to ts to
