-- What the law says of one expression, over two rows.
use Rattle.std.proofs.Common.{◌≡◌, ℕ, ℤ, List, [], ◌∷◌, ◌++◌, map, Ok, refl, sym, ap, subst, ◌∙◌}
use Rattle.std.specs.Prelude.{All, Some, if◌then◌else◌}
use Rattle.std.proofs.lemmas.List.Elements.{Contains-append_left, Contains-append_right}
use Rattle.ras_cells.specs.Atoms.{IsInRange}
use Rattle.ras_cells.specs.declared.atom.Atom.TheVariants.{Long}
use Rattle.ras_domain.specs.Region.{IsIn}
use Rattle.ras_syntax.specs.declared.typed.CheckedSource.{CheckedSource}
use Rattle.spec_expressions.specs.Database.{Member}
use Rattle.spec_expressions.specs.Eval.{Environment, cell_at, domains_in}
use Rattle.spec_expressions.specs.Fits.{AreMembersOf, IsAround, LieWithin}
use Rattle.spec_expressions.specs.Reach.{Boxes, Reached, reach_of, reached_within}
use Rattle.spec_expressions.specs.Shape.{Box, Shape, shape_of}
use Rattle.spec_expressions.specs.Tree.{NameOf, Tree, Trees, Pairs, Axes, Condition, no_trees, trees, no_pairs, pairs, no_axes, position, trim, always, only_where}
use Rattle.spec_expressions.specs.WellTyped.{IsWellTyped, Variables}
use Rattle.law_reach.specs.Alike.{AreAlike, StoreSame}
use Rattle.ras_domain.proofs.BoxTests.{not_empty}

-- two rows over the same sources, and variables that stand for the same points in both
pub record Setting : Type 0 where
  pub sources : List CheckedSource
  pub variables : Variables
  pub boxes : Boxes
  pub one : List Member
  pub other : List Member
  pub points : List (NameOf × List ℤ)
  pub members : AreMembersOf sources one
  pub alike : AreAlike one other
  pub within : LieWithin boxes points

abbrev pub first_of : Setting → Environment
first_of at = record { row = at.one; variables = at.points }

abbrev pub second_of : Setting → Environment
second_of at = record { row = at.other; variables = at.points }

abbrev pub domains_of : Setting → List Box
domains_of at = domains_in (first_of at)

-- one more variable, which stands for a point of a box with bounds of 32 bits
abbrev pub extended : (at : Setting) (x : NameOf) (n : ℕ) (axes : Box) (p : List ℤ) → IsIn p axes → All (IsInRange Long) p → Setting
extended at x n axes p inside small = record {
  sources = at.sources;
  variables = (x, n) ∷ at.variables;
  boxes = (x, axes) ∷ at.boxes;
  one = at.one;
  other = at.other;
  points = (x, p) ∷ at.points;
  members = at.members;
  alike = at.alike;
  within = (refl, inside, small, at.within);
}

-- the expression has the same cell over both rows at each point of a box, where they are the same on what is reached
abbrev pub IsSame : Setting → Tree → Type 0
IsSame at e =
    (shape : Shape) (around : Box) (p : List ℤ)
    → shape_of (domains_of at) e ≡ Ok shape → IsAround shape around
    → StoreSame at.one at.other (reach_of (domains_of at) at.boxes e around) → IsIn p around
    → cell_at (first_of at) e p ≡ cell_at (second_of at) e p

-- the same in each setting in which the expression is well typed
abbrev pub IsAlways : Tree → Type 0
IsAlways e = (at : Setting) → IsWellTyped at.sources at.variables e → IsSame at e

-- ---- the same of each part

abbrev pub AreSame : Setting → Trees → Type 0
AreSame at no_trees = Unit {0}
AreSame at (trees e es) = IsSame at e × AreSame at es

abbrev pub ArePairsSame : Setting → Pairs → Type 0
ArePairsSame at no_pairs = Unit {0}
ArePairsSame at (pairs a b ps) = IsSame at a × IsSame at b × ArePairsSame at ps

abbrev pub ArePositionsSame : Setting → Axes → Type 0
ArePositionsSame at no_axes = Unit {0}
ArePositionsSame at (position e axes) = IsSame at e × ArePositionsSame at axes
ArePositionsSame at (trim a b axes) = ArePositionsSame at axes

abbrev pub IsConditionAlways : Condition → Type 0
IsConditionAlways always = Unit {0}
IsConditionAlways (only_where c) = IsAlways c

-- ---- boxes around shapes that are the same

pub around_same : (shape other : Shape) (around : Box) → shape ≡ other → IsAround other around → IsAround shape around
around_same shape other around same lies = subst (λ s. IsAround s around) (sym same) lies

-- ---- the rows

-- both rows have the same domains
pub same_domains : (one other : List Member) → AreAlike one other → map (λ member. member.array.domain) other ≡ map (λ member. member.array.domain) one
same_domains [] [] alike = refl
same_domains [] (b ∷ bs) alike = absurd alike
same_domains (a ∷ as_) [] alike = absurd alike
same_domains (a ∷ as_) (b ∷ bs) alike =
    let first : b.array.domain ≡ a.array.domain = sym alike.0.domain in
    ap (λ d. d ∷ map (λ member. member.array.domain) bs) first ∙ ap (λ ds. a.array.domain ∷ ds) (same_domains as_ bs alike.1)

pub domains_same : (at : Setting) → domains_in (second_of at) ≡ domains_of at
domains_same at = same_domains at.one at.other at.alike

-- ---- what is reached by two parts is reached by each

pub store_left : (one other : List Member) (xs ys : Reached) → StoreSame one other (xs ++ ys) → StoreSame one other xs
store_left one other xs ys same place axes p a b has = same place axes p a b (Contains-append_left xs ys (place, axes) has)

pub store_right : (one other : List Member) (xs ys : Reached) → StoreSame one other (xs ++ ys) → StoreSame one other ys
store_right one other xs ys same place axes p a b has = same place axes p a b (Contains-append_right xs ys (place, axes) has)

-- a box with a point isn't empty
pub store_within : (one other : List Member) (axes : Box) (p : List ℤ) (reached : Box → Reached) → IsIn p axes
    → StoreSame one other (reached_within (Some axes) reached) → StoreSame one other (reached axes)
store_within one other axes p reached within same =
    let e : reached_within (Some axes) reached ≡ reached axes = ap (λ b. if b then [] else reached axes) (not_empty p axes within) in
    subst (StoreSame one other) e same
