-- Operands and the shape that they have together, and sizes.
use Rattle.std.proofs.Common.{◌≡◌, ℕ, ◌*◌, ◌≤◌, ℤ, Ok, List, [], ◌∷◌, refl, sym, ap, subst, ◌∙◌}
use Rattle.std.specs.Prelude.{◌||◌, nat_lt}
use Rattle.std.specs.List.{AllByRecursion}
use Rattle.std.proofs.lemmas.Bool.{ltb-false, or_parts}
use Rattle.ras_domain.specs.declared.TheConstants.{MAX_POINTS}
use Rattle.ras_syntax.specs.declared.span.Span.{Span}
use Rattle.spec_expressions.specs.Shape.{Box, Shape, scalar, array, box, both_shapes, common_shape, sized_shape, of_size}
use Rattle.ras_domain.specs.Region.{volume_of}
use Rattle.ras_domain.specs.Boxes.{is_same_box}
use Rattle.spec_expressions.specs.Fits.{IsPointOf, IsAround}
use Rattle.law_shapes.proofs.Outcomes.{bind_ok, same_ok, unless_ok, where_ok}
use Rattle.ras_domain.proofs.BoxTests.{same-is_same_box}
use Rattle.law_lists.proofs.Each.{each_weaker}

-- ---- operands

-- an array among the operands has the whole's box
abbrev pub IsPartOf : Shape → Shape → Type 0
IsPartOf (array axes) whole = whole ≡ array axes
IsPartOf x whole = Unit {0}

-- so the points of the whole are points of the operand, and so are the boxes of them
pub IsPointOf-part : (x whole : Shape) (p : List ℤ) → IsPartOf x whole → IsPointOf whole p → IsPointOf x p
IsPointOf-part scalar whole p part point = tt
IsPointOf-part (box axes) whole p part point = tt
IsPointOf-part (array axes) whole p part point = let P : Shape → Type 0 = λ w. IsPointOf w p in subst P part point

pub IsAround-part : (x whole : Shape) (around : Box) → IsPartOf x whole → IsAround whole around → IsAround x around
IsAround-part scalar whole around part covers = tt
IsAround-part (box axes) whole around part covers = tt
IsAround-part (array axes) whole around part covers = let P : Shape → Type 0 = λ w. IsAround w around in subst P part covers

-- a shape is a part of itself, and a part of a part is a part
IsPartOf-itself : (x : Shape) → IsPartOf x x
IsPartOf-itself scalar = tt
IsPartOf-itself (box axes) = tt
IsPartOf-itself (array axes) = refl

IsPartOf-through : (x y z : Shape) → IsPartOf y z → IsPartOf x y → IsPartOf x z
IsPartOf-through scalar y z outer inner = tt
IsPartOf-through (box axes) y z outer inner = tt
IsPartOf-through (array axes) y z outer inner = let P : Shape → Type 0 = λ w. IsPartOf w z in subst P inner outer

-- two operands with a common shape are parts of it
both_parts : (span : Span) (x y whole : Shape) → both_shapes span x y ≡ Ok whole → IsPartOf x whole × IsPartOf y whole
both_parts span (array a) (array b) whole is =
    let same = where_ok (is_same_box a b) _ _ whole is in
    let same_a : array a ≡ whole = same_ok _ _ same.1 in
    let same_b : array b ≡ whole = ap array (sym (same-is_same_box a b same.0)) ∙ same_a in
    (sym same_a, sym same_b)
both_parts span (array a) scalar whole is = (sym (same_ok _ _ is), tt)
both_parts span (array a) (box b) whole is = (sym (same_ok _ _ is), tt)
both_parts span scalar y whole is = (tt, subst (IsPartOf y) (same_ok y whole is) (IsPartOf-itself y))
both_parts span (box a) y whole is = (tt, subst (IsPartOf y) (same_ok y whole is) (IsPartOf-itself y))

-- operands are parts of their common shape
pub IsPartOf-common_shape : (span : Span) (xs : List Shape) (whole : Shape) → common_shape span xs ≡ Ok whole → AllByRecursion (λ x. IsPartOf x whole) xs
IsPartOf-common_shape span [] whole is = tt
IsPartOf-common_shape span (x ∷ xs) whole is =
    let rest = bind_ok (common_shape span xs) (λ others. both_shapes span x others) whole is in
    let both = both_parts span x rest.0 whole rest.2 in
    (both.0, each_weaker (λ x. IsPartOf x rest.0) (λ x. IsPartOf x whole) (λ x. IsPartOf-through x rest.0 whole both.1) xs (IsPartOf-common_shape span xs rest.0 rest.1))

-- what holds of each array among the operands and of a scalar holds of their common shape
holds_both : (P : Shape → Type 0) (span : Span) (x y whole : Shape) → P x → P y → both_shapes span x y ≡ Ok whole → P whole
holds_both P span (array a) (array b) whole p q is = subst P (same_ok _ _ (where_ok (is_same_box a b) _ _ whole is).1) p
holds_both P span (array a) scalar whole p q is = subst P (same_ok _ _ is) p
holds_both P span (array a) (box b) whole p q is = subst P (same_ok _ _ is) p
holds_both P span scalar y whole p q is = subst P (same_ok y whole is) q
holds_both P span (box a) y whole p q is = subst P (same_ok y whole is) q

pub holds-common_shape : (P : Shape → Type 0) (span : Span) (xs : List Shape) (whole : Shape) → P scalar → AllByRecursion P xs → common_shape span xs ≡ Ok whole → P whole
holds-common_shape P span [] whole none all is = subst P (same_ok scalar whole is) none
holds-common_shape P span (x ∷ xs) whole none all is =
    let rest = bind_ok (common_shape span xs) (λ others. both_shapes span x others) whole is in
    holds_both P span x rest.0 whole all.0 (holds-common_shape P span xs rest.0 none all.1 rest.1) rest.2

-- ---- sizes

-- a box of at most 2^24 points, and with so many numbers a cell of at most 2^24 numbers
abbrev pub HasSize : ℕ → Box → Type 0
HasSize width axes = (volume_of axes ≤ MAX_POINTS) × (volume_of axes * width ≤ MAX_POINTS)

-- the same of a shape
abbrev pub HasSizeOf : ℕ → Shape → Type 0
HasSizeOf width (array axes) = HasSize width axes
HasSizeOf width other = Unit {0}

-- what the test of sizes says
pub of_size-ok : (span : Span) (width : ℕ) (axes kept : Box) → of_size span width axes ≡ Ok kept → (kept ≡ axes) × HasSize width axes
of_size-ok span width axes kept is =
    let one = unless_ok (nat_lt MAX_POINTS (volume_of axes) || nat_lt MAX_POINTS (volume_of axes * width)) _ (Ok axes) kept is in
    let both = or_parts (nat_lt MAX_POINTS (volume_of axes)) (nat_lt MAX_POINTS (volume_of axes * width)) one.0 in
    (sym (same_ok axes kept one.1), (ltb-false MAX_POINTS (volume_of axes) both.0, ltb-false MAX_POINTS (volume_of axes * width) both.1))

pub sized-ok : (span : Span) (width : ℕ) (x whole : Shape) → sized_shape span width x ≡ Ok whole → (whole ≡ x) × HasSizeOf width whole
sized-ok span width scalar whole is =
    let same : scalar ≡ whole = same_ok _ _ is in (sym same, subst (HasSizeOf width) same tt)
sized-ok span width (box axes) whole is =
    let same : box axes ≡ whole = same_ok _ _ is in (sym same, subst (HasSizeOf width) same tt)
sized-ok span width (array axes) whole is =
    let one = bind_ok (of_size span width axes) (λ kept. Ok (array kept)) whole is in
    let size = of_size-ok span width axes one.0 one.1 in
    let same : array axes ≡ whole = ap array (sym size.0) ∙ same_ok _ _ one.2 in
    (sym same, subst (HasSizeOf width) same size.1)
