-- The forms whose parts are looked at where the whole is.
use Rattle.std.proofs.Common.{◌≡◌, ℕ, ℤ, Bool, true, false, List, [], ◌∷◌, ◌++◌, slice_get, Ok, refl, sym, ap, ◌∙◌, pos, arith}
use Rattle.std.specs.Prelude.{Option, Some, if◌then◌else◌}
use Rattle.ras_cells.specs.declared.atom.Atom.{Atom}
use Rattle.ras_cells.specs.declared.numbers.Op1.{Op1}
use Rattle.ras_cells.specs.declared.numbers.Op2.{Op2}
use Rattle.ras_cells.specs.Cells.{single, cast_to, outcome1, outcome2}
use Rattle.ras_cells.specs.Outcomes.{◌>>=◌}
use Rattle.ras_domain.specs.Region.{IsIn}
use Rattle.ras_syntax.specs.declared.span.Span.{Span}
use Rattle.ras_syntax.specs.declared.typed.Kind.{Kind}
use Rattle.spec_expressions.specs.Database.{Member, stored_at}
use Rattle.spec_expressions.specs.Eval.{CellOutcome, cell_at, cells_at, chosen_cell, component_of, composite_of, holds, member_cell, member_named, oid_of, stored_cell}
use Rattle.spec_expressions.specs.Fits.{IsAround}
use Rattle.spec_expressions.specs.Reach.{pairs_reach, reach_of, trees_reach}
use Rattle.spec_expressions.specs.Shape.{Box, Shape, static_form}
use Rattle.spec_expressions.specs.Tree.{NameOf, Side, Tree, Trees, Pairs, node, iterator, unary, cast, binary, component, choice, composite, bound_of, oid, no_trees, trees, no_pairs, pairs, is_same_name}
use Rattle.law_shapes.proofs.Operands.{IsAround-part}
use Rattle.law_shapes.proofs.Parts.{AreParts, ArePairParts, IsPart, binary-parts, choice-parts, composite-parts}
use Rattle.law_reach.specs.Alike.{AreAlike, StoreSame}
use Rattle.law_reach.proofs.Settings.{Setting, first_of, second_of, domains_of, domains_same, IsSame, AreSame, ArePairsSame, store_left, store_right}
use Rattle.law_reach.proofs.Outcomes.{joined_same}

-- ---- one part

pub unary_same : (at : Setting) (span : Span) (kind : Kind) (op : Op1) (e : Tree) → IsSame at e → IsSame at (node span kind (unary op e))
unary_same at span kind op e same shape around p shaped lies store within =
    ap (outcome1 op) (same shape around p shaped lies store within)

pub cast_same : (at : Setting) (span : Span) (kind : Kind) (atom : Atom) (e : Tree) → IsSame at e → IsSame at (node span kind (cast atom e))
cast_same at span kind atom e same shape around p shaped lies store within =
    ap (λ r. r >>= cast_to atom) (same shape around p shaped lies store within)

pub component_same : (at : Setting) (span : Span) (kind : Kind) (e : Tree) (k : ℤ) → IsSame at e → IsSame at (node span kind (component e k))
component_same at span kind e k same shape around p shaped lies store within =
    ap (λ r. r >>= λ x. component_of x k) (same shape around p shaped lies store within)

pub bound_of_same : (at : Setting) (span : Span) (kind : Kind) (side : Side) (e : Tree) (k : ℤ) → IsSame at (node span kind (bound_of side e k))
bound_of_same at span kind side e k shape around p shaped lies store within =
    ap (λ domains. (static_form domains (bound_of side e k) >>= λ z. Ok (single z))) (sym (domains_same at))

-- ---- the stored numbers

-- members at one place of two alike rows have the same cell where they have the same stored numbers
member_same : (one other : List Member) (place : ℕ) (p : List ℤ) → AreAlike one other
    → ((a b : Member) → slice_get one place ≡ Some a → slice_get other place ≡ Some b → stored_at a.array p ≡ stored_at b.array p)
    → member_cell (slice_get one place) p ≡ member_cell (slice_get other place) p
member_same [] [] place p alike same = refl
member_same [] (b ∷ bs) place p alike same = absurd alike
member_same (a ∷ as_) [] place p alike same = absurd alike
member_same (a ∷ as_) (b ∷ bs) ℕ.zero p alike same =
    ap (λ of. stored_cell of.nulls (stored_at a.array p)) alike.0.of ∙ ap (stored_cell b.of.nulls) (same a b refl refl)
member_same (a ∷ as_) (b ∷ bs) (ℕ.suc place) p alike same = member_same as_ bs place p alike.1 same

pub iterator_same : (at : Setting) (span : Span) (kind : Kind) (place : ℕ) → IsSame at (node span kind (iterator place))
iterator_same at span kind place shape around p shaped lies store within =
    member_same at.one at.other place p at.alike (λ a b first second. store place around p a b (0, omega arith, refl) within first second)

oid_step : (b : Bool) (x y : Member) (r s : Option Member) → x.oid ≡ y.oid → oid_of r ≡ oid_of s → oid_of (if b then Some x else r) ≡ oid_of (if b then Some y else s)
oid_step true x y r s same others = ap (λ n. Ok (single (pos n))) same
oid_step false x y r s same others = others

oid_found : (one other : List Member) (a : NameOf) → AreAlike one other → oid_of (member_named one a) ≡ oid_of (member_named other a)
oid_found [] [] a alike = refl
oid_found [] (y ∷ ys) a alike = absurd alike
oid_found (x ∷ xs) [] a alike = absurd alike
oid_found (x ∷ xs) (y ∷ ys) a alike =
    ap (λ i. oid_of (if is_same_name a i then Some x else member_named xs a)) alike.0.iterator
    ∙ oid_step (is_same_name a y.iterator) x y (member_named xs a) (member_named ys a) alike.0.oid (oid_found xs ys a alike.1)

pub oid_same : (at : Setting) (span : Span) (kind : Kind) (a : NameOf) → IsSame at (node span kind (oid a))
oid_same at span kind a shape around p shaped lies store within = oid_found at.one at.other a at.alike

-- ---- operands, whose arrays have the domain of the whole

-- an operand at the point at which the whole is looked at
operand_same : (at : Setting) (e : Tree) (whole : Shape) (around : Box) (p : List ℤ) → IsSame at e → IsPart (domains_of at) whole e → IsAround whole around
    → StoreSame at.one at.other (reach_of (domains_of at) at.boxes e around) → IsIn p around → cell_at (first_of at) e p ≡ cell_at (second_of at) e p
operand_same at e whole around p same part lies store within =
    same part.0 around p part.1 (IsAround-part part.0 whole around part.2 lies) store within

outcomes_same : (op : Op2) (a b c d : CellOutcome) → a ≡ b → c ≡ d → outcome2 op a c ≡ outcome2 op b d
outcomes_same op a b c d first second = ap (λ r. outcome2 op r c) first ∙ ap (outcome2 op b) second

pub binary_same : (at : Setting) (span : Span) (kind : Kind) (op : Op2) (a b : Tree) → IsSame at a → IsSame at b → IsSame at (node span kind (binary op a b))
binary_same at span kind op a b first second shape around p shaped lies store within =
    let parts = binary-parts (domains_of at) span kind op a b shape shaped in
    let xs = reach_of (domains_of at) at.boxes a around in
    let ys = reach_of (domains_of at) at.boxes b around in
    outcomes_same op _ _ _ _
    (operand_same at a shape around p first (parts.left, parts.left_is, parts.left_part) lies (store_left at.one at.other xs ys store) within)
    (operand_same at b shape around p second (parts.right, parts.right_is, parts.right_part) lies (store_right at.one at.other xs ys store) within)

-- ---- composites

cells_same : (es : Trees) (at : Setting) (whole : Shape) (around : Box) (p : List ℤ) → AreSame at es → AreParts (domains_of at) whole es → IsAround whole around
    → StoreSame at.one at.other (trees_reach (domains_of at) at.boxes es around) → IsIn p around → cells_at (first_of at) es p ≡ cells_at (second_of at) es p
cells_same no_trees at whole around p same parts lies store within = refl
cells_same (trees e es) at whole around p same parts lies store within =
    let here = reach_of (domains_of at) at.boxes e around in
    let others = trees_reach (domains_of at) at.boxes es around in
    joined_same (λ x xs. x ∷ xs) _ _ _ _
    (operand_same at e whole around p same.0 parts.0 lies (store_left at.one at.other here others store) within)
    (cells_same es at whole around p same.1 parts.1 lies (store_right at.one at.other here others store) within)

pub composite_same : (at : Setting) (span : Span) (kind : Kind) (es : Trees) → AreSame at es → IsSame at (node span kind (composite es))
composite_same at span kind es same shape around p shaped lies store within =
    let parts = composite-parts (domains_of at) span kind es shape shaped in
    ap (λ r. r >>= λ cells. Ok (composite_of cells)) (cells_same es at shape around p same parts.parts lies store within)

-- ---- case

chosen_step : (a b : CellOutcome) (x y z w : CellOutcome) → a ≡ b → x ≡ y → z ≡ w → (a >>= λ cell. if holds cell then x else z) ≡ (b >>= λ cell. if holds cell then y else w)
chosen_step a b x y z w first second third = rw (first, second, third) refl

chosen_same : (arms : Pairs) (at : Setting) (whole : Shape) (around : Box) (p : List ℤ) (one other : CellOutcome) → ArePairsSame at arms
    → ArePairParts (domains_of at) whole arms → IsAround whole around → StoreSame at.one at.other (pairs_reach (domains_of at) at.boxes arms around) → IsIn p around
    → one ≡ other → chosen_cell (first_of at) arms p one ≡ chosen_cell (second_of at) arms p other
chosen_same no_pairs at whole around p one other same parts lies store within others = others
chosen_same (pairs c e arms) at whole around p one other same parts lies store within others =
    let tested = reach_of (domains_of at) at.boxes c around in
    let value = reach_of (domains_of at) at.boxes e around in
    let more = pairs_reach (domains_of at) at.boxes arms around in
    let both = store_left at.one at.other (tested ++ value) more store in
    chosen_step _ _ _ _ _ _
    (operand_same at c whole around p same.0 parts.0 lies (store_left at.one at.other tested value both) within)
    (operand_same at e whole around p same.1 parts.1 lies (store_right at.one at.other tested value both) within)
    (chosen_same arms at whole around p one other same.2 parts.2 lies (store_right at.one at.other (tested ++ value) more store) within others)

pub choice_same : (at : Setting) (span : Span) (kind : Kind) (arms : Pairs) (other : Tree) → ArePairsSame at arms → IsSame at other → IsSame at (node span kind (choice arms other))
choice_same at span kind arms other same last shape around p shaped lies store within =
    let parts = choice-parts (domains_of at) span kind arms other shape shaped in
    let armed = pairs_reach (domains_of at) at.boxes arms around in
    let rest = reach_of (domains_of at) at.boxes other around in
    chosen_same arms at shape around p _ _ same parts.arms_parts lies (store_left at.one at.other armed rest store) within
    (operand_same at other shape around p last (parts.last, parts.last_is, parts.last_part) lies (store_right at.one at.other armed rest store) within)
