-- Plans and stores over two databases that differ in numbers that a statement doesn't read.
use Rattle.std.specs.Prelude.{◌≡◌, List, [], ◌∷◌}
use Rattle.spec_statements.specs.Plans.{Plan}
use Rattle.spec_statements.specs.Effects.{Stores}
use Rattle.law_reach.specs.Alike.{AreAlike}

-- the plans do the same, with rows that differ in stored numbers alone
pub record IsAlikePlan (a b : Plan) : Type 0 where
  pub number : a.number ≡ b.number
  pub row : AreAlike a.row b.row
  pub shape : a.shape ≡ b.shape
  pub cuts : a.cuts ≡ b.cuts
  pub writing : a.writing ≡ b.writing

-- the same of plans, one by one
abbrev pub AreAlikePlans : List Plan → List Plan → Type 0
AreAlikePlans [] [] = Unit {0}
AreAlikePlans (a ∷ as_) (b ∷ bs) = IsAlikePlan a b × AreAlikePlans as_ bs
AreAlikePlans [] (b ∷ bs) = ⊥
AreAlikePlans (a ∷ as_) [] = ⊥

-- such plans with the same stores, one by one
abbrev pub AreAlikeMade : List (Plan × Stores) → List (Plan × Stores) → Type 0
AreAlikeMade [] [] = Unit {0}
AreAlikeMade (a ∷ as_) (b ∷ bs) = IsAlikePlan a.0 b.0 × (a.1 ≡ b.1) × AreAlikeMade as_ bs
AreAlikeMade [] (b ∷ bs) = ⊥
AreAlikeMade (a ∷ as_) [] = ⊥
