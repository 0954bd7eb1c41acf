-- All cells of an expression.
use Rattle.std.proofs.Common.{◌≡◌, ℤ, List, [], ◌∷◌, Ok, refl, sym, ap, subst, ◌∙◌}
use Rattle.std.specs.Prelude.{All, Contains}
use Rattle.std.proofs.lemmas.List.Elements.{All-contains_itself, All-head, All-tail}
use Rattle.ras_domain.specs.Region.{IsIn, points_of}
use Rattle.ras_domain.proofs.Points.{Contains-IsIn}
use Rattle.ras_syntax.specs.declared.typed.CheckedSource.{CheckedSource}
use Rattle.spec_expressions.specs.Eval.{CellOutcome, Environment, all_outcomes, box_in, cell_at, cells_of, domains_in, with_place}
use Rattle.spec_expressions.specs.Fits.{AreMembersOf, IsAround, LieWithin}
use Rattle.spec_expressions.specs.Reach.{Boxes, reach_of}
use Rattle.spec_expressions.specs.Shape.{Box, Shape, shape_of}
use Rattle.spec_expressions.specs.Tree.{Tree}
use Rattle.spec_expressions.specs.WellTyped.{IsWellTyped, Variables}
use Rattle.law_reach.specs.Alike.{AreAlike, StoreSame}
use Rattle.law_reach.proofs.Moved.{around_itself}
use Rattle.law_reach.proofs.Reach.{reach-covers}
use Rattle.law_reach.proofs.Settings.{same_domains}
use Rattle.law_reach.proofs.Outcomes.{joined_same}

outcomes_same : (P : List ℤ → Type 0) (f g : List ℤ → CellOutcome) (ps : List (List ℤ)) → All P ps → ((p : List ℤ) → P p → f p ≡ g p) → all_outcomes f ps ≡ all_outcomes g ps
outcomes_same P f g [] all each = refl
outcomes_same P f g (p ∷ ps) all each =
    joined_same (λ x xs. x ∷ xs) (with_place p (f p)) (with_place p (g p)) (all_outcomes f ps) (all_outcomes g ps) (ap (with_place p) (each p (All-head P p ps all)))
    (outcomes_same P f g ps (All-tail P p ps all) each)

outcomes_in : (f g : List ℤ → CellOutcome) (a b : Box) → a ≡ b → ((p : List ℤ) → IsIn p a → f p ≡ g p) → all_outcomes f (points_of a) ≡ all_outcomes g (points_of b)
outcomes_in f g a b same each =
    outcomes_same (Contains (points_of a)) f g (points_of a) (All-contains_itself (points_of a)) (λ p has. each p ((Contains-IsIn a p).0 has))
    ∙ ap (λ axes. all_outcomes g (points_of axes)) same

-- over rows that are the same on what is reached for the whole shape, an expression has the same cells, or the same first
-- fault
pub cells_of-same : (sources : List CheckedSource) (variables : Variables) (boxes : Boxes) (one other : Environment) (tree : Tree) (shape : Shape)
    → IsWellTyped sources variables tree → AreMembersOf sources one.row → AreAlike one.row other.row → one.variables ≡ other.variables → LieWithin boxes one.variables
    → shape_of (domains_in one) tree ≡ Ok shape → StoreSame one.row other.row (reach_of (domains_in one) boxes tree (box_in (shape_of (domains_in one) tree)))
    → cells_of one tree ≡ cells_of other tree
cells_of-same sources variables boxes one other tree shape typed members alike same lies shaped store =
    let whole = box_in (shape_of (domains_in one) tree) in
    let around : IsAround shape whole = subst (IsAround shape) (ap box_in (sym shaped)) (around_itself shape) in
    outcomes_in (cell_at one tree) (cell_at other tree) whole _
    (ap (λ domains. box_in (shape_of domains tree)) (sym (same_domains one.row other.row alike)))
    (λ p within. reach-covers sources variables boxes one other tree shape whole p typed members alike same lies shaped around store within)
