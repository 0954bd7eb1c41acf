-- What the shape of an expression without a shape fault says of its parts. An operand, a cast or a component has the shape
-- of its one part, and a literal or a variable is a scalar: that computes.
use Rattle.std.proofs.Common.{◌≡◌, ℕ, ℤ, Ok, List, [], ◌∷◌, ◌++◌, sym, ap, subst, ◌∙◌}
use Rattle.std.specs.List.{AllByRecursion}
use Rattle.ras_cells.specs.declared.numbers.Op2.{Op2}
use Rattle.ras_cells.specs.Outcomes.{◌>>=◌}
use Rattle.ras_syntax.specs.declared.span.Span.{Span}
use Rattle.ras_syntax.specs.declared.expr.CellsFold.{CellsFold}
use Rattle.ras_syntax.specs.declared.typed.Kind.{Kind}
use Rattle.spec_expressions.specs.Tree.{NameOf, Side, Tree, Trees, Pairs, node, binary, at_point, choice, composite, folded, domain_of, interval_of, bound_of, no_trees, trees, no_pairs, pairs}
use Rattle.spec_expressions.specs.Shape.{Box, Shape, scalar, box, box_of, shape_of, shapes_of, pair_shapes, common_shape, sized_shape, width_of_kind, interval_list, interval_at}
use Rattle.law_shapes.proofs.Outcomes.{bind_ok, same_ok}
use Rattle.law_shapes.proofs.Cuts.{HasShape}
use Rattle.law_shapes.proofs.Operands.{IsPartOf, IsPartOf-common_shape, HasSizeOf, sized-ok}

-- ---- one part

-- a scalar that is made of one part, which has a shape
one_part : (domains : List Box) (e : Tree) (shape : Shape) → (shape_of domains e >>= λ inner. Ok scalar) ≡ Ok shape → HasShape domains e × (shape ≡ scalar)
one_part domains e shape is =
    let one = bind_ok (shape_of domains e) (λ inner. Ok scalar) shape is in ((one.0, one.1), sym (same_ok scalar shape one.2))

pub at_point-parts : (domains : List Box) (span : Span) (kind : Kind) (e : Tree) (x : NameOf) (shape : Shape)
    → shape_of domains (node span kind (at_point e x)) ≡ Ok shape → HasShape domains e × (shape ≡ scalar)
at_point-parts domains span kind e x shape is = one_part domains e shape is

pub folded-parts : (domains : List Box) (span : Span) (kind : Kind) (f : CellsFold) (e : Tree) (shape : Shape)
    → shape_of domains (node span kind (folded f e)) ≡ Ok shape → HasShape domains e × (shape ≡ scalar)
folded-parts domains span kind f e shape is = one_part domains e shape is

pub bound_of-parts : (domains : List Box) (span : Span) (kind : Kind) (side : Side) (e : Tree) (k : ℤ) (shape : Shape)
    → shape_of domains (node span kind (bound_of side e k)) ≡ Ok shape → HasShape domains e × (shape ≡ scalar)
bound_of-parts domains span kind side e k shape is = one_part domains e shape is

-- the domain of an array, and one of its axes
pub domain_of-parts : (domains : List Box) (span : Span) (kind : Kind) (e : Tree) (shape : Shape) → shape_of domains (node span kind (domain_of e)) ≡ Ok shape
    → (x : Shape) × (shape_of domains e ≡ Ok x) × (shape ≡ box (box_of x))
domain_of-parts domains span kind e shape is =
    let one = bind_ok (shape_of domains e) (λ x. Ok (box (box_of x))) shape is in (one.0, one.1, sym (same_ok _ shape one.2))

pub interval_of-parts : (domains : List Box) (span : Span) (kind : Kind) (e : Tree) (k : ℤ) (shape : Shape) → shape_of domains (node span kind (interval_of e k)) ≡ Ok shape
    → (x : Shape) × (shape_of domains e ≡ Ok x) × (shape ≡ box (interval_list (interval_at (box_of x) k)))
interval_of-parts domains span kind e k shape is =
    let one = bind_ok (shape_of domains e) (λ x. Ok (box (interval_list (interval_at (box_of x) k)))) shape is in (one.0, one.1, sym (same_ok _ shape one.2))

-- ---- operands

-- the part has a shape, which is the whole's where it is an array
abbrev pub IsPart : List Box → Shape → Tree → Type 0
IsPart domains whole e = (x : Shape) × (shape_of domains e ≡ Ok x) × IsPartOf x whole

abbrev pub AreParts : List Box → Shape → Trees → Type 0
AreParts domains whole no_trees = Unit {0}
AreParts domains whole (trees e es) = IsPart domains whole e × AreParts domains whole es

abbrev pub ArePairParts : List Box → Shape → Pairs → Type 0
ArePairParts domains whole no_pairs = Unit {0}
ArePairParts domains whole (pairs a b ps) = IsPart domains whole a × IsPart domains whole b × ArePairParts domains whole ps

-- the shapes of parts, one for each
abbrev pub AreShapesOf : List Box → Trees → List Shape → Type 0
AreShapesOf domains no_trees [] = Unit {0}
AreShapesOf domains (trees e es) (x ∷ xs) = (shape_of domains e ≡ Ok x) × AreShapesOf domains es xs
AreShapesOf domains no_trees (x ∷ xs) = ⊥
AreShapesOf domains (trees e es) [] = ⊥

pub AreShapesOf-shapes_of : (domains : List Box) (es : Trees) (xs : List Shape) → shapes_of domains es ≡ Ok xs → AreShapesOf domains es xs
AreShapesOf-shapes_of domains no_trees xs is = subst (AreShapesOf domains no_trees) (same_ok [] xs is) tt
AreShapesOf-shapes_of domains (trees e es) xs is =
    let one = bind_ok (shape_of domains e) (λ x. shapes_of domains es >>= λ xs. Ok (x ∷ xs)) xs is in
    let two = bind_ok (shapes_of domains es) (λ xs. Ok (one.0 ∷ xs)) xs one.2 in
    subst (AreShapesOf domains (trees e es)) (same_ok (one.0 ∷ two.0) xs two.2) (one.1, AreShapesOf-shapes_of domains es two.0 two.1)

parts_from_shapes : (domains : List Box) (whole : Shape) (es : Trees) (xs : List Shape) → AreShapesOf domains es xs → AllByRecursion (λ x. IsPartOf x whole) xs → AreParts domains whole es
parts_from_shapes domains whole no_trees [] shapes parts = tt
parts_from_shapes domains whole no_trees (x ∷ xs) shapes parts = absurd shapes
parts_from_shapes domains whole (trees e es) [] shapes parts = absurd shapes
parts_from_shapes domains whole (trees e es) (x ∷ xs) shapes parts =
    ((x, shapes.0, parts.0), parts_from_shapes domains whole es xs shapes.1 parts.1)

-- the same of pairs
abbrev pub ArePairShapesOf : List Box → Pairs → List Shape → Type 0
ArePairShapesOf domains no_pairs [] = Unit {0}
ArePairShapesOf domains (pairs a b ps) (x ∷ y ∷ xs) = (shape_of domains a ≡ Ok x) × (shape_of domains b ≡ Ok y) × ArePairShapesOf domains ps xs
ArePairShapesOf domains no_pairs (x ∷ xs) = ⊥
ArePairShapesOf domains (pairs a b ps) [] = ⊥
ArePairShapesOf domains (pairs a b ps) (x ∷ []) = ⊥

pub ArePairShapesOf-pair_shapes : (domains : List Box) (ps : Pairs) (xs : List Shape) → pair_shapes domains ps ≡ Ok xs → ArePairShapesOf domains ps xs
ArePairShapesOf-pair_shapes domains no_pairs xs is = subst (ArePairShapesOf domains no_pairs) (same_ok [] xs is) tt
ArePairShapesOf-pair_shapes domains (pairs a b ps) xs is =
    let one = bind_ok (shape_of domains a) (λ x. shape_of domains b >>= λ y. pair_shapes domains ps >>= λ xs. Ok (x ∷ y ∷ xs)) xs is in
    let two = bind_ok (shape_of domains b) (λ y. pair_shapes domains ps >>= λ xs. Ok (one.0 ∷ y ∷ xs)) xs one.2 in
    let three = bind_ok (pair_shapes domains ps) (λ xs. Ok (one.0 ∷ two.0 ∷ xs)) xs two.2 in
    subst (ArePairShapesOf domains (pairs a b ps)) (same_ok (one.0 ∷ two.0 ∷ three.0) xs three.2)
    (one.1, two.1, ArePairShapesOf-pair_shapes domains ps three.0 three.1)

-- the pairs' parts, and what stands after them
pair_parts : (domains : List Box) (whole : Shape) (ps : Pairs) (xs more : List Shape) → ArePairShapesOf domains ps xs → AllByRecursion (λ x. IsPartOf x whole) (xs ++ more)
    → ArePairParts domains whole ps × AllByRecursion (λ x. IsPartOf x whole) more
pair_parts domains whole no_pairs [] more shapes parts = (tt, parts)
pair_parts domains whole no_pairs (x ∷ xs) more shapes parts = absurd shapes
pair_parts domains whole (pairs a b ps) [] more shapes parts = absurd shapes
pair_parts domains whole (pairs a b ps) (x ∷ []) more shapes parts = absurd shapes
pair_parts domains whole (pairs a b ps) (x ∷ y ∷ xs) more shapes parts =
    let rest = pair_parts domains whole ps xs more shapes.2 parts.1.1 in
    (((x, shapes.0, parts.0), (y, shapes.1, parts.1.0), rest.0), rest.1)

-- two operands, and their common shape
pub record BinaryParts (domains : List Box) (span : Span) (a b : Tree) (shape : Shape) : Type 0 where
  pub left : Shape
  pub left_is : shape_of domains a ≡ Ok left
  pub left_part : IsPartOf left shape
  pub right : Shape
  pub right_is : shape_of domains b ≡ Ok right
  pub right_part : IsPartOf right shape
  pub common : common_shape span (left ∷ right ∷ []) ≡ Ok shape

pub binary-parts : (domains : List Box) (span : Span) (kind : Kind) (op : Op2) (a b : Tree) (shape : Shape)
    → shape_of domains (node span kind (binary op a b)) ≡ Ok shape → BinaryParts domains span a b shape
binary-parts domains span kind op a b shape is =
    let one = bind_ok (shape_of domains a) (λ x. shape_of domains b >>= λ y. common_shape span (x ∷ y ∷ [])) shape is in
    let two = bind_ok (shape_of domains b) (λ y. common_shape span (one.0 ∷ y ∷ [])) shape one.2 in
    let parts = IsPartOf-common_shape span (one.0 ∷ two.0 ∷ []) shape two.2 in
    record { left = one.0; left_is = one.1; left_part = parts.0; right = two.0; right_is = two.1; right_part = parts.1.0; common = two.2 }

-- the conditions, values and the last value of a case, and their common shape
pub record ChoiceParts (domains : List Box) (span : Span) (width : ℕ) (arms : Pairs) (other : Tree) (shape : Shape) : Type 0 where
  pub arms_shapes : List Shape
  pub arms_are : ArePairShapesOf domains arms arms_shapes
  pub arms_parts : ArePairParts domains shape arms
  pub last : Shape
  pub last_is : shape_of domains other ≡ Ok last
  pub last_part : IsPartOf last shape
  pub common : common_shape span (arms_shapes ++ last ∷ []) ≡ Ok shape
  pub size : HasSizeOf width shape

pub choice-parts : (domains : List Box) (span : Span) (kind : Kind) (arms : Pairs) (other : Tree) (shape : Shape) → shape_of domains (node span kind (choice arms other)) ≡ Ok shape
    → ChoiceParts domains span (width_of_kind kind) arms other shape
choice-parts domains span kind arms other shape is =
    let one = bind_ok (pair_shapes domains arms) (λ xs. shape_of domains other >>= λ x. common_shape span (xs ++ x ∷ []) >>= λ common. sized_shape span
    (width_of_kind kind) common) shape is in
    let two = bind_ok (shape_of domains other) (λ x. common_shape span (one.0 ++ x ∷ []) >>= λ common. sized_shape span (width_of_kind kind) common) shape one.2 in
    let three = bind_ok (common_shape span (one.0 ++ two.0 ∷ [])) (λ common. sized_shape span (width_of_kind kind) common) shape two.2 in
    let size = sized-ok span (width_of_kind kind) three.0 shape three.2 in
    let common : common_shape span (one.0 ++ two.0 ∷ []) ≡ Ok shape = three.1 ∙ ap (λ x. Ok x) (sym size.0) in
    let arms_are = ArePairShapesOf-pair_shapes domains arms one.0 one.1 in
    let parts = pair_parts domains shape arms one.0 (two.0 ∷ []) arms_are (IsPartOf-common_shape span (one.0 ++ two.0 ∷ []) shape common) in
    record { arms_shapes = one.0; arms_are = arms_are; arms_parts = parts.0; last = two.0; last_is = two.1; last_part = parts.1.0; common = common; size = size.1 }

-- the components of a composite cell, and their common shape
pub record CompositeParts (domains : List Box) (span : Span) (width : ℕ) (es : Trees) (shape : Shape) : Type 0 where
  pub shapes : List Shape
  pub each : AreShapesOf domains es shapes
  pub parts : AreParts domains shape es
  pub common : common_shape span shapes ≡ Ok shape
  pub size : HasSizeOf width shape

pub composite-parts : (domains : List Box) (span : Span) (kind : Kind) (es : Trees) (shape : Shape) → shape_of domains (node span kind (composite es)) ≡ Ok shape
    → CompositeParts domains span (width_of_kind kind) es shape
composite-parts domains span kind es shape is =
    let one = bind_ok (shapes_of domains es) (λ xs. common_shape span xs >>= λ x. sized_shape span (width_of_kind kind) x) shape is in
    let two = bind_ok (common_shape span one.0) (λ x. sized_shape span (width_of_kind kind) x) shape one.2 in
    let size = sized-ok span (width_of_kind kind) two.0 shape two.2 in
    let common : common_shape span one.0 ≡ Ok shape = two.1 ∙ ap (λ x. Ok x) (sym size.0) in
    let each = AreShapesOf-shapes_of domains es one.0 one.1 in
    let parts = parts_from_shapes domains shape es one.0 each (IsPartOf-common_shape span one.0 shape common) in
    record { shapes = one.0; each = each; parts = parts; common = common; size = size.1 }
