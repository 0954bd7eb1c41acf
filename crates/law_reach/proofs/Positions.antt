-- The positions of an index.
use Rattle.std.proofs.Common.{◌≡◌, ℤ, true, List, [], ◌∷◌, length, Ok, refl, ap, arith}
use Rattle.std.specs.Prelude.{Some}
use Rattle.std.proofs.lemmas.Bool.{and_parts}
use Rattle.ras_cells.specs.Outcomes.{◌>>=◌}
use Rattle.ras_domain.specs.declared.region.Interval.{Interval}
use Rattle.spec_expressions.specs.Check.{are_numbers, count_of, is_number_tree, on_edge}
use Rattle.spec_expressions.specs.Eval.{position_in, positions_at, with_position}
use Rattle.spec_expressions.specs.Reach.{positions_reach, reach_of}
use Rattle.spec_expressions.specs.Shape.{Box}
use Rattle.spec_expressions.specs.Tree.{Tree, Axes, Edge, no_axes, position, trim}
use Rattle.spec_expressions.specs.WellTyped.{AreWellTypedAxes, kind_in}
use Rattle.law_shapes.proofs.Cuts.{AreCut}
use Rattle.law_reach.specs.Alike.{StoreSame}
use Rattle.law_reach.proofs.Scalars.{number_kind, scalar_from_number, scalar_same}
use Rattle.law_reach.proofs.Settings.{Setting, first_of, second_of, domains_of, ArePositionsSame, store_left, store_right}
use Rattle.law_reach.proofs.Outcomes.{joined_same}

-- well typed axes, one for each interval of a box, which they cut to what is kept
pub record AreOn (at : Setting) (axes : Axes) (rest kept : Box) : Type 0 where
  pub typed : AreWellTypedAxes at.sources at.variables axes
  pub numbers : are_numbers axes ≡ true
  pub count : count_of axes ≡ length rest
  pub cut : AreCut (domains_of at) axes rest kept

pub after_position : (at : Setting) (e : Tree) (axes : Axes) (axis : Interval) (rest kept : Box) → AreOn at (position e axes) (axis ∷ rest) kept → AreOn at axes rest kept
after_position at e axes axis rest kept on =
    let count : count_of axes ≡ length rest = let h = on.count in omega arith in
    record { typed = on.typed.1; numbers = (and_parts (is_number_tree e) (are_numbers axes) on.numbers).1; count = count; cut = on.cut.2 }

pub after_trim : (at : Setting) (a b : Edge) (axes : Axes) (axis x : Interval) (rest kept : Box) → AreOn at (trim a b axes) (axis ∷ rest) (x ∷ kept) → AreOn at axes rest kept
after_trim at a b axes axis x rest kept on =
    let count : count_of axes ≡ length rest = let h = on.count in omega arith in
    let tests = and_parts (on_edge is_number_tree a) _ on.numbers in
    record { typed = on.typed.2; numbers = (and_parts (on_edge is_number_tree b) (are_numbers axes) tests.1).1; count = count; cut = on.cut.3 }

-- the positions are the same over both rows
pub positions_same : (axes : Axes) (at : Setting) (rest kept : Box) (p : List ℤ) → ArePositionsSame at axes → AreOn at axes rest kept
    → StoreSame at.one at.other (positions_reach (domains_of at) at.boxes axes) → positions_at (first_of at) axes p ≡ positions_at (second_of at) axes p
positions_same no_axes at rest kept p same on store = refl
positions_same (position e axes) at [] kept p same on store = absurd (let h = on.count in omega arith)
positions_same (position e axes) at (axis ∷ rest) kept p same on store =
    let number = and_parts (is_number_tree e) (are_numbers axes) on.numbers in
    let of = scalar_from_number (kind_in e) (number_kind e number.0) in
    let here = reach_of (domains_of at) at.boxes e [] in
    let more = positions_reach (domains_of at) at.boxes axes in
    joined_same (λ x rest. with_position (position_in x) rest) _ _ _ _
    (scalar_same at e of.0 on.cut.0.0 on.typed.0 of.1 same.0 on.cut.0.1 (store_left at.one at.other here more store))
    (positions_same axes at rest kept p same.1 (after_position at e axes axis rest kept on) (store_right at.one at.other here more store))
positions_same (trim a b axes) at [] kept p same on store = absurd (let h = on.count in omega arith)
positions_same (trim a b axes) at (axis ∷ rest) [] p same on store = absurd on.cut
positions_same (trim a b axes) at (axis ∷ rest) (x ∷ kept) [] same on store = refl
positions_same (trim a b axes) at (axis ∷ rest) (x ∷ kept) (c ∷ p) same on store =
    ap (λ r. r >>= λ rest. Ok (with_position (Some c) rest)) (positions_same axes at rest kept p same (after_trim at a b axes axis x rest kept on) store)
