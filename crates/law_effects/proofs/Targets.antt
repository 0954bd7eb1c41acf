-- The box that an update's target names, and its points.
use Rattle.std.proofs.Common.{◌≡◌, ℕ, ℤ, Bool, true, false, not, ◌&&◌, if◌then◌else◌, List, [], ◌∷◌, map, Result, Ok, Err, refl, arith}
use Rattle.std.specs.List.{AllByRecursion, list_any}
use Rattle.std.proofs.lemmas.Bool.{and_parts, or_parts}
use Rattle.std.proofs.lemmas.Int.{ints}
use Rattle.ras_cells.specs.declared.cell.CellFault.{CellFault}
use Rattle.ras_domain.specs.Region.{IsIn, IsOrdered}
use Rattle.ras_syntax.specs.declared.span.Span.{Span}
use Rattle.spec_expressions.specs.Tree.{Axes, Edge, no_axes, position, trim}
use Rattle.spec_expressions.specs.Check.{all_are_static, on_edge}
use Rattle.spec_expressions.specs.Shape.{Bound, Box, Cut, fixed, moving, between, broken, cuts_of, edge_value, is_empty_cut, is_small, is_static, kept_axes, position_cut, shape_of, static_of, trim_cut}
use Rattle.ras_domain.specs.Boxes.{is_same_box}
use Rattle.spec_statements.specs.Plans.{equal_domains, is_broken_target, target_box, target_interval, target_point}
use Rattle.ras_domain.proofs.BoxTests.{same-is_same_box}
use Rattle.law_shapes.proofs.Outcomes.{bind_ok, unless_ok, where_ok}
use Rattle.law_lists.proofs.Choices.{ok_keeps}

-- ---- equal boxes

-- the domains that are found to be equal are
pub equal_domains-same : (span : Span) (a b same : Box) → equal_domains span a b ≡ Ok same → a ≡ b
equal_domains-same span a b same is = same-is_same_box a b (where_ok (is_same_box a b) _ (Ok a) same is).0

-- ---- cuts

-- the cut is no position that each cell has for itself
abbrev pub IsStill : Cut → Type 0
IsStill moving = ⊥
IsStill (fixed z) = Unit {0}
IsStill (between lo hi) = Unit {0}
IsStill broken = Unit {0}

-- a trim gives no such cut, and neither does a static position
trim_cut-still : (lo hi : Bound) → IsStill (trim_cut lo hi)
trim_cut-still (Ok lo) (Ok hi) = at (is_small lo && is_small hi)
  where
    at : (b : Bool) → IsStill (if b then between lo hi else broken)
    at true = tt
    at false = tt
trim_cut-still (Ok lo) (Err fault) = tt
trim_cut-still (Err fault) (Ok hi) = tt
trim_cut-still (Err fault) (Err other) = tt

position_cut-still : (static : Bool) (value : Result ℤ CellFault) → static ≡ true → IsStill (position_cut static value)
position_cut-still true (Ok z) is = tt
position_cut-still true (Err fault) is = tt
position_cut-still false value is = absurd cc

-- the axes after a trim
trim-static : (a b : Edge) (axes : Axes) → all_are_static (trim a b axes) ≡ true → all_are_static axes ≡ true
trim-static a b axes is =
    let both = and_parts (on_edge is_static a) (on_edge is_static b && all_are_static axes) is in
    (and_parts (on_edge is_static b) (all_are_static axes) both.1).1

-- static axes give such cuts
pub cuts-still : (domains : List Box) (axes : Axes) (rest : Box) (cuts : List Cut) → all_are_static axes ≡ true → cuts_of domains axes rest ≡ Ok cuts → AllByRecursion IsStill cuts
cuts-still domains no_axes rest cuts static is = ok_keeps (AllByRecursion IsStill) [] cuts is tt
cuts-still domains (position e axes) [] cuts static is = ok_keeps (AllByRecursion IsStill) [] cuts is tt
cuts-still domains (trim a b axes) [] cuts static is = ok_keeps (AllByRecursion IsStill) [] cuts is tt
cuts-still domains (position e axes) (axis ∷ rest) cuts static is =
    let both = and_parts (is_static e) (all_are_static axes) static in
    let (inner, shape, then_1) = bind_ok (shape_of domains e) _ cuts is in
    let (others, found, last) = bind_ok (cuts_of domains axes rest) _ cuts then_1 in
    ok_keeps (AllByRecursion IsStill) (position_cut (is_static e) (static_of domains e) ∷ others) cuts last
    (position_cut-still (is_static e) (static_of domains e) both.0, cuts-still domains axes rest others both.1 found)
cuts-still domains (trim a b axes) (axis ∷ rest) cuts static is =
    let (lo, is_lo, then_1) = bind_ok (edge_value domains axis.lo a) _ cuts is in
    let (hi, is_hi, then_2) = bind_ok (edge_value domains axis.hi b) _ cuts then_1 in
    let (others, found, last) = bind_ok (cuts_of domains axes rest) _ cuts then_2 in
    ok_keeps (AllByRecursion IsStill) (trim_cut lo hi ∷ others) cuts last
    (trim_cut-still lo hi, cuts-still domains axes rest others (trim-static a b axes static) found)

-- ---- the target

-- the box that is named has the interval of each cut, none of them empty
pub target_box_ok : (span : Span) (width : ℕ) (cuts : List Cut) (region : Box) → target_box span width cuts ≡ Ok region
    → (list_any is_broken_target cuts ≡ false) × (list_any is_empty_cut cuts ≡ false) × (map target_interval cuts ≡ region)
target_box_ok span width cuts region is =
    let (whole, then_1) = unless_ok (list_any is_broken_target cuts) _ _ region is in
    let (some, then_2) = unless_ok (list_any is_empty_cut cuts) _ _ region then_1 in
    let (few, last) = unless_ok _ _ _ region then_2 in
    (whole, some, ok_keeps (λ r. map target_interval cuts ≡ r) (map target_interval cuts) region last refl)

-- each such interval is ordered
target_interval-ordered : (cut : Cut) → is_empty_cut cut ≡ false → IsOrdered (target_interval cut)
target_interval-ordered (fixed z) some = omega (arith, ints)
target_interval-ordered moving some = omega (arith, ints)
target_interval-ordered (between lo hi) some = grind (arith, ints)
target_interval-ordered broken some = omega (arith, ints)

pub targets-ordered : (cuts : List Cut) → list_any is_empty_cut cuts ≡ false → AllByRecursion IsOrdered (map target_interval cuts)
targets-ordered [] some = tt
targets-ordered (cut ∷ cuts) some =
    let both = or_parts (is_empty_cut cut) (list_any is_empty_cut cuts) some in
    (target_interval-ordered cut both.0, targets-ordered cuts both.1)

-- a point of the body stands for one of the target
pub target_point-IsIn : (cuts : List Cut) (q : List ℤ) → AllByRecursion IsStill cuts → list_any is_broken_target cuts ≡ false → IsIn q (kept_axes cuts)
    → IsIn (target_point cuts q) (map target_interval cuts)
target_point-IsIn [] q still whole within = within
target_point-IsIn (moving ∷ cuts) q still whole within = absurd still.0
target_point-IsIn (broken ∷ cuts) q still whole within = absurd cc
target_point-IsIn (fixed z ∷ cuts) q still whole within =
    (omega (arith, ints), omega (arith, ints), target_point-IsIn cuts q still.1 (or_parts (not (is_small z)) (list_any is_broken_target cuts) whole).1 within)
target_point-IsIn (between lo hi ∷ cuts) [] still whole within = absurd within
target_point-IsIn (between lo hi ∷ cuts) (c ∷ q) still whole within =
    (within.0, within.1, target_point-IsIn cuts q still.1 whole within.2)
