-- The forms that look at their parts elsewhere, or at a part of the box alone: folds of all cells, shift, extend, concat.
use Rattle.std.proofs.Common.{◌≡◌, ℕ, ℤ, neg_ℤ, List, [], ◌∷◌, map, length, Ok, Err, refl, sym, ap, subst, ◌∙◌}
use Rattle.std.specs.Prelude.{Option, Some, None, unsigned_abs, if◌then◌else◌}
use Rattle.ras_cells.specs.declared.cell.CellFault.TheVariants.{IndexOut}
use Rattle.ras_domain.specs.Boxes.{Covers, meet_of, moved_by, shifted_by}
use Rattle.ras_domain.specs.Region.{IsIn, points_of, is_in}
use Rattle.ras_domain.proofs.Points.{Contains-IsIn}
use Rattle.ras_syntax.specs.declared.expr.CellsFold.{CellsFold}
use Rattle.ras_syntax.specs.declared.span.Span.{Span}
use Rattle.ras_syntax.specs.declared.typed.Kind.{Kind}
use Rattle.spec_expressions.specs.Check.{concat_kind}
use Rattle.spec_expressions.specs.Eval.{CellOutcome, cell_in, box_in, boxes_in, cell_at, moved_between, offsets_in, part_cell, zeros}
use Rattle.spec_expressions.specs.Fits.{IsAround}
use Rattle.spec_expressions.specs.Fold.{cells_fold_of}
use Rattle.spec_expressions.specs.Reach.{moved_back, parts_reach, reach_of, reached_within}
use Rattle.spec_expressions.specs.Shape.{Box, Shape, scalar, array, box, box_of, offsets_of, placed_parts, shape_of, shapes_of, width_of_kind}
use Rattle.spec_expressions.specs.Tree.{Tree, Trees, Domain, node, folded, shift, extend, concat, no_trees, trees}
use Rattle.spec_expressions.specs.WellTyped.{AreWellTyped, kinds_in}
use Rattle.law_shapes.proofs.Agree.{shapes-agree}
use Rattle.law_shapes.proofs.FittingArrays.{concat-kinds, concat-lengths, length-placed_parts}
use Rattle.ras_domain.proofs.BoxTests.{IsIn-is_in}
use Rattle.law_shapes.proofs.Moves.{LeadsTo, LeadTo, LeadTo-placed_parts}
use Rattle.law_shapes.proofs.Parts.{AreShapesOf, folded-parts}
use Rattle.law_shapes.proofs.ArrayParts.{concat-parts, extend-parts, shift-parts}
use Rattle.law_reach.specs.Alike.{StoreSame}
use Rattle.law_cells.proofs.Scopes.{domains-members}
use Rattle.law_reach.proofs.Moves.{Covers-meet, Covers-moved_back, Covers-shifted_back, HaveAxes, IsIn-meet, IsIn-moved_back, IsIn-shifted_by}
use Rattle.law_reach.proofs.Outcomes.{if_same, map_same}
use Rattle.law_reach.proofs.Settings.{around_same, Setting, first_of, second_of, domains_of, domains_same, IsSame, AreSame, store_left, store_right, store_within}

-- the box of what has a shape
box-shape : (at : Setting) (e : Tree) (x : Shape) → shape_of (domains_of at) e ≡ Ok x → box_in (shape_of (domains_of at) e) ≡ box_of x
box-shape at e x is = ap box_in is

-- ---- a fold of all cells

pub around_itself : (x : Shape) → IsAround x (box_of x)
around_itself scalar = tt
around_itself (array axes) = λ p within. within
around_itself (box axes) = tt

-- what is made of the outcomes at all points of a box
pub made_same : {X Y : Type 0} (f : List X → Y) (one other : List ℤ → X) (a b : Box) → a ≡ b → ((p : List ℤ) → IsIn p a → one p ≡ other p)
    → f (map one (points_of a)) ≡ f (map other (points_of b))
made_same f one other a b same each =
    ap f (map_same one other (points_of a) (λ p has. each p ((Contains-IsIn a p).0 has)) ∙ ap (λ axes. map other (points_of axes)) same)

pub folded_same : (at : Setting) (span : Span) (kind : Kind) (f : CellsFold) (e : Tree) → IsSame at e → IsSame at (node span kind (folded f e))
folded_same at span kind f e same shape around p shaped lies store within =
    let x = (folded-parts (domains_of at) span kind f e shape shaped).0 in
    let axes = box_in (shape_of (domains_of at) e) in
    let lies_inner : IsAround x.0 axes = subst (IsAround x.0) (sym (box-shape at e x.0 x.1)) (around_itself x.0) in
    made_same (cells_fold_of f) (cell_at (first_of at) e) (cell_at (second_of at) e) axes _
    (ap (λ domains. box_in (shape_of domains e)) (sym (domains_same at)))
    (λ q inside. same x.0 axes q x.1 lies_inner store inside)

-- an index has the same cell, where it has at each point of the box
pub cell_in_same : (a b : Box) (one other : List ℤ → CellOutcome) (q : Option (List ℤ)) → a ≡ b → ((p : List ℤ) → q ≡ Some p → IsIn p a → one p ≡ other p)
    → cell_in a one q ≡ cell_in b other q
cell_in_same a b one other None same each = refl
cell_in_same a b one other (Some p) same each =
    if_same (is_in p a) (one p) (other p) (Err IndexOut) (Err IndexOut) (λ is. each p refl ((IsIn-is_in p a).0 is)) refl
    ∙ ap (λ axes. if is_in p axes then other p else Err IndexOut) same

-- ---- extend

-- a box in which the point of an array is looked at, alone
pub around_meet : (x : Shape) (p : List ℤ) (around : Box) → IsIn p around → IsIn p (box_of x) → IsAround x (meet_of around (box_of x))
around_meet scalar p around one other = tt
around_meet (box axes) p around one other = tt
around_meet (array axes) p around one other = Covers-meet p around axes one other

-- what an expression has at a point of two boxes, where it is reached within both
pub met_same : (at : Setting) (e : Tree) (x : Shape) (around : Box) (p : List ℤ) → IsSame at e → shape_of (domains_of at) e ≡ Ok x → IsIn p around
    → IsIn p (box_in (shape_of (domains_of at) e)) → StoreSame at.one at.other
    (reached_within (Some (meet_of around (box_in (shape_of (domains_of at) e)))) (reach_of (domains_of at) at.boxes e)) → cell_at (first_of at) e p ≡ cell_at (second_of at) e p
met_same at e x around p same shaped first second store =
    let inner = box_in (shape_of (domains_of at) e) in
    let is = box-shape at e x shaped in
    let both = IsIn-meet p around inner first second in
    let lies : IsAround x (meet_of around inner) =
    subst (λ axes. IsAround x (meet_of around axes)) (sym is)
    (around_meet x p around first (subst (IsIn p) is second)) in
    same x (meet_of around inner) p shaped lies (store_within at.one at.other (meet_of around inner) p (reach_of (domains_of at) at.boxes e) both store) both

extended_cell : (a b : Box) (p : List ℤ) (x y z : CellOutcome) → a ≡ b → (IsIn p a → x ≡ y) → (if is_in p a then x else z) ≡ (if is_in p b then y else z)
extended_cell a b p x y z same each =
    if_same (is_in p a) x y z z (λ is. each ((IsIn-is_in p a).0 is)) refl ∙ ap (λ axes. if is_in p axes then y else z) same

pub extend_same : (at : Setting) (span : Span) (kind : Kind) (e : Tree) (domain : Domain) → IsSame at e → IsSame at (node span kind (extend e domain))
extend_same at span kind e domain same shape around p shaped lies store within =
    let parts = extend-parts (domains_of at) span kind e domain shape shaped in
    extended_cell (box_in (shape_of (domains_of at) e)) _ p _ _ (Ok (zeros (width_of_kind kind)))
    (ap (λ domains. box_in (shape_of domains e)) (sym (domains_same at)))
    (λ inside. met_same at e parts.inner around p same parts.inner_is within inside store)

-- ---- shift

shifted_around : (x : Shape) (d : List ℤ) (around : Box) → Covers (shifted_by d (box_of x)) around → IsAround x (shifted_by (map neg_ℤ d) around)
shifted_around scalar d around covers = tt
shifted_around (box axes) d around covers = tt
shifted_around (array axes) d around covers = Covers-shifted_back d axes around covers

pub shift_same : (at : Setting) (span : Span) (kind : Kind) (e : Tree) (offsets : Trees) → IsSame at e → IsSame at (node span kind (shift e offsets))
shift_same at span kind e offsets same shape around p shaped lies store within =
    let parts = shift-parts (domains_of at) span kind e offsets shape shaped in
    let d = offsets_in (offsets_of (domains_of at) offsets) in
    let covers : Covers (shifted_by parts.by (box_of parts.inner)) around = around_same (array (shifted_by parts.by (box_of parts.inner))) shape around (sym parts.shape_is) lies in
    let inner = shifted_around parts.inner d around (subst (λ zs. Covers (shifted_by zs (box_of parts.inner)) around) (sym parts.offsets_are) covers) in
    same parts.inner (shifted_by (map neg_ℤ d) around) (moved_by (map neg_ℤ d) p) parts.inner_is inner store (IsIn-shifted_by (map neg_ℤ d) around p within)
    ∙ ap (λ domains. cell_at (second_of at) e (moved_by (map neg_ℤ (offsets_in (offsets_of domains offsets))) p)) (sym (domains_same at))

-- ---- concat

around_moved : (x : Shape) (place met : Box) → length place ≡ length (box_of x) → LeadsTo (box_of x) place → Covers place met → IsAround x (moved_back place (box_of x) met)
around_moved scalar place met same leads covers = tt
around_moved (box axes) place met same leads covers = tt
around_moved (array axes) place met same leads covers = Covers-moved_back place axes met same leads covers

-- the cell of a part at the point that is moved back from its place
part_same : (at : Setting) (e : Tree) (x : Shape) (place around : Box) (p : List ℤ) → IsSame at e → shape_of (domains_of at) e ≡ Ok x → length place ≡ length (box_of x)
    → LeadsTo (box_of x) place → IsIn p around → IsIn p place
    → StoreSame at.one at.other (reached_within (Some (meet_of around place)) (λ met. reach_of (domains_of at) at.boxes e (moved_back place (box_of x) met)))
    → cell_at (first_of at) e (moved_between place (box_of x) p) ≡ cell_at (second_of at) e (moved_between place (box_of x) p)
part_same at e x place around p same shaped axes leads first second store =
    let met = meet_of around place in
    let both = IsIn-meet p around place first second in
    same x (moved_back place (box_of x) met) (moved_between place (box_of x) p) shaped
    (around_moved x place met axes leads (Covers-meet p around place first second))
    (store_within at.one at.other met p (λ met. reach_of (domains_of at) at.boxes e (moved_back place (box_of x) met)) both store)
    (IsIn-moved_back place (box_of x) met p axes second both)

parts_same : (es : Trees) (at : Setting) (n : ℕ) (xs : List Shape) (places : List Box) (around : Box) (p : List ℤ) → AreSame at es → AreShapesOf (domains_of at) es xs
    → HaveAxes n (map box_of xs) → HaveAxes n places → LeadTo (map box_of xs) places → IsIn p around
    → StoreSame at.one at.other (parts_reach (domains_of at) at.boxes es (map box_of xs) places around)
    → part_cell (first_of at) es (map box_of xs) places p ≡ part_cell (second_of at) es (map box_of xs) places p
parts_same no_trees at n xs places around p same shaped axes moved leads within store = refl
parts_same (trees e es) at n [] places around p same shaped axes moved leads within store = refl
parts_same (trees e es) at n (x ∷ xs) [] around p same shaped axes moved leads within store = refl
parts_same (trees e es) at n (x ∷ xs) (place ∷ places) around p same shaped axes moved leads within store =
    let here = reached_within (Some (meet_of around place)) (λ met. reach_of (domains_of at) at.boxes e (moved_back place (box_of x) met)) in
    let more = parts_reach (domains_of at) at.boxes es (map box_of xs) places around in
    if_same (is_in p place) _ _ _ _
    (λ is. part_same at e x place around p same.0 shaped.0 (moved.0 ∙ sym axes.0) leads.0 within ((IsIn-is_in p place).0 is) (store_left at.one at.other here more store))
    (parts_same es at n xs places around p same.1 shaped.1 axes.1 moved.1 leads.1 within (store_right at.one at.other here more store))

pub concat_same : (at : Setting) (span : Span) (kind : Kind) (parts : Trees) (along : ℤ) → AreWellTyped at.sources at.variables parts
    → concat_kind along (kinds_in parts) ≡ Ok kind → AreSame at parts → IsSame at (node span kind (concat parts along))
concat_same at span kind parts along typed joined same shape around p shaped lies store within =
    let made = concat-parts (domains_of at) span kind parts along shape shaped in
    let rule = concat-kinds along (kinds_in parts) kind joined in
    let kinds_fit = shapes-agree at.sources at.variables (domains_of at) parts made.shapes typed (domains-members at.sources at.one at.members) made.each in
    let axes = concat-lengths along (kinds_in parts) kind made.shapes rule kinds_fit in
    let k = unsigned_abs along in
    let owns = map box_of made.shapes in
    let store_at = subst (λ bs. StoreSame at.one at.other (parts_reach (domains_of at) at.boxes parts bs (placed_parts k bs) around)) made.owns_are store in
    ap (λ bs. part_cell (first_of at) parts bs (placed_parts k bs) p) made.owns_are
    ∙ parts_same parts at rule.axes made.shapes (placed_parts k owns) around p same made.each axes (length-placed_parts k rule.axes owns axes)
    (LeadTo-placed_parts k rule.axes owns axes) within store_at
    ∙ ap (λ bs. part_cell (second_of at) parts bs (placed_parts k bs) p) (sym made.owns_are)
    ∙ ap (λ domains. part_cell (second_of at) parts (boxes_in (shapes_of domains parts)) (placed_parts k (boxes_in (shapes_of domains parts))) p) (sym (domains_same at))
