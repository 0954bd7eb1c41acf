-- Rows that differ in stored numbers alone, and where those are the same.
use Rattle.std.specs.Prelude.{◌≡◌, ℕ, ℤ, List, [], ◌∷◌, Some, slice_get, Contains}
use Rattle.ras_domain.specs.Region.{IsIn}
use Rattle.spec_expressions.specs.Database.{Member, stored_at}
use Rattle.spec_expressions.specs.Reach.{Reached}
use Rattle.spec_expressions.specs.Shape.{Box}

-- the members have the same iterator, identifier, set type and domain
pub record IsAlike (a b : Member) : Type 0 where
  pub iterator : a.iterator ≡ b.iterator
  pub oid : a.oid ≡ b.oid
  pub of : a.of ≡ b.of
  pub domain : a.array.domain ≡ b.array.domain

-- the same of rows, one by one
abbrev pub AreAlike : List Member → List Member → Type 0
AreAlike [] [] = Unit {0}
AreAlike (a ∷ as_) (b ∷ bs) = IsAlike a b × AreAlike as_ bs
AreAlike [] (b ∷ bs) = ⊥
AreAlike (a ∷ as_) [] = ⊥

-- at each point that is reached, both rows have the same stored numbers
abbrev pub StoreSame : List Member → List Member → Reached → Type 0
StoreSame one other reached =
    (place : ℕ) (axes : Box) (p : List ℤ) (a b : Member)
    → Contains reached (place, axes) → IsIn p axes → slice_get one place ≡ Some a → slice_get other place ≡ Some b
    → stored_at a.array p ≡ stored_at b.array p
