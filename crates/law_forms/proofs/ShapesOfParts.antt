-- The shape of a form, and the shapes of its parts: one lemma for each form whose shape doesn't compute to it.
use Rattle.std.proofs.Common.{◌≡◌, ℕ, ℤ, List, [], ◌∷◌, ◌++◌, map, sym, ap, ◌∙◌}
use Rattle.std.specs.Prelude.{Ok, not, length, slice_get}
use Rattle.std.specs.List.{AllByRecursion, list_any, zip}
use Rattle.std.proofs.lemmas.Bool.{not-false}
use Rattle.ras_cells.specs.Outcomes.{◌>>=◌}
use Rattle.ras_cells.specs.declared.cell.CellType.{CellType}
use Rattle.ras_cells.specs.declared.numbers.Op2.{Op2}
use Rattle.ras_domain.specs.Boxes.{lies_in}
use Rattle.ras_domain.proofs.BoxTests.{LiesIn-lies_in}
use Rattle.ras_syntax.specs.declared.faults.ShapeFault.TheVariants.{Outside}
use Rattle.ras_syntax.specs.declared.expr.CellsFold.{CellsFold}
use Rattle.ras_syntax.specs.declared.expr.FoldOp.{FoldOp}
use Rattle.ras_syntax.specs.declared.span.Span.{Span}
use Rattle.ras_syntax.specs.declared.typed.Kind.{Kind}
use Rattle.ras_syntax.specs.declared.typed.Kind.TheVariants.{Array}
use Rattle.ras_syntax.specs.declared.typed.CheckedSource.{CheckedSource}
use Rattle.spec_expressions.specs.Tree.{NameOf, Side, Tree, Form, Trees, Pairs, Axes, Domain, Condition, node, iterator, binary, index, at_point, choice, composite, marray, condense, folded, shift, extend, concat, domain_of, interval_of, bound_of, no_trees, trees, no_pairs, pairs, bounds, domain_like}
use Rattle.spec_expressions.specs.Kinds.{atoms_of_all, axes_of_kind, choice_type, composite_type}
use Rattle.spec_expressions.specs.Check.{count_of}
use Rattle.spec_expressions.specs.WellTyped.{Variables, HasKind, AreWellTyped, AreWellTypedPairs, IsWellTypedDomain, axes_of_domain, kind_in, kinds_in, firsts_in, seconds_in}
use Rattle.spec_expressions.specs.Shape.{Box, Shape, scalar, array, box, box_of, Written, bounds_of, condition_shape, cut_shape, cuts_of, fault_where, form_shape, interval_list, is_broken, is_empty_cut, is_outside, iterator_shape, literal, of_size, shape_of, sized_shape, width_of_kind, written_box, written_of}
use Rattle.spec_expressions.specs.Fits.{AreDomainsOf}
use Rattle.law_lists.proofs.Each.{split_all}
use Rattle.law_shapes.proofs.Agree.{domain-agrees}
use Rattle.law_shapes.proofs.ArrayParts.{shift-parts, concat-parts}
use Rattle.law_shapes.proofs.Cuts.{written-box}
use Rattle.law_shapes.proofs.Operands.{of_size-ok, sized-ok}
use Rattle.law_shapes.proofs.Outcomes.{bind_ok, same_ok, unless_ok}
use Rattle.law_shapes.proofs.Parts.{AreParts, ArePairParts, AreShapesOf, at_point-parts, folded-parts, bound_of-parts, domain_of-parts, interval_of-parts, binary-parts, choice-parts, composite-parts}
use Rattle.law_shapes.proofs.Rules.{HasCells, induced-ok, choice-cells, composite-cells}
use Rattle.law_forms.specs.FormKinds.{IsArrayWith}
use Rattle.law_forms.specs.FormShapes.{IsOperandIn, AreOperandsIn, AreOperandPairsIn, AreArraysOn, ComesToBox, DomainPartsGive, IteratorShapes, IndexShapes, OneCellShapes, MarrayShapes, CondenseShapes, ShiftShapes, ExtendShapes, ConcatShapes, DomainShapes, IntervalShapes, BoundShapes, HasPartShapes}
use Rattle.law_forms.proofs.CellTypes.{has_cells}
use Rattle.law_forms.proofs.KindsOfParts.{binary-kinds, concat-kinds, condense-kinds, folded-kinds, index-kinds}
use Rattle.law_forms.proofs.ShapesByKind.{array-on, one-cell, domain-on, stands-in, condition-one, offsets-one, bounds-one, axes-one, axis-of, domain-of}

-- ---- operands

binary-shapes : (sources : List CheckedSource) (variables : Variables) (domains : List Box) (span : Span) (kind : Kind) (op : Op2) (a b : Tree) (shape : Shape)
    → HasKind sources variables kind (binary op a b) → AreDomainsOf sources domains → form_shape domains span kind (binary op a b) ≡ Ok shape
    → IsOperandIn domains shape a × IsOperandIn domains shape b
binary-shapes sources variables domains span kind op a b shape typed fits is =
    let parts = binary-parts domains span kind op a b shape is in
    let kinds = binary-kinds op (kind_in a) (kind_in b) kind typed.2 in (
      stands-in sources variables domains shape a parts.left typed.0 fits (has_cells kinds.left (kind_in a) kinds.left_type) parts.left_is parts.left_part,
      stands-in sources variables domains shape b parts.right typed.1 fits (has_cells kinds.right (kind_in b) kinds.right_type) parts.right_is parts.right_part,
    )

pairs-stand : (sources : List CheckedSource) (variables : Variables) (domains : List Box) (whole : Shape) (ps : Pairs) → AreWellTypedPairs sources variables ps
    → AreDomainsOf sources domains → AllByRecursion (HasCells 0) (firsts_in ps) → AllByRecursion (HasCells 0) (seconds_in ps) → ArePairParts domains whole ps
    → AreOperandPairsIn domains whole ps
pairs-stand sources variables domains whole no_pairs typed fits firsts seconds parts = tt
pairs-stand sources variables domains whole (pairs a b ps) typed fits firsts seconds parts = (
  stands-in sources variables domains whole a parts.0.0 typed.0 fits firsts.0 parts.0.1 parts.0.2,
  stands-in sources variables domains whole b parts.1.0 typed.1 fits seconds.0 parts.1.1 parts.1.2,
  pairs-stand sources variables domains whole ps typed.2 fits firsts.1 seconds.1 parts.2,
)

choice-shapes : (sources : List CheckedSource) (variables : Variables) (domains : List Box) (span : Span) (kind : Kind) (arms : Pairs) (other : Tree) (shape : Shape)
    → HasKind sources variables kind (choice arms other) → AreDomainsOf sources domains → form_shape domains span kind (choice arms other) ≡ Ok shape
    → AreOperandPairsIn domains shape arms × IsOperandIn domains shape other
choice-shapes sources variables domains span kind arms other shape typed fits is =
    let branches : List Kind = seconds_in arms ++ kind_in other ∷ [] in
    let parts = choice-parts domains span kind arms other shape is in
    let rule = induced-ok (choice_type (firsts_in arms) branches) (firsts_in arms ++ branches) kind typed.2 in
    let cells = choice-cells (firsts_in arms) branches rule.0 rule.1 in
    let values = split_all (HasCells 0) (seconds_in arms) (kind_in other ∷ []) cells.1 in (
      pairs-stand sources variables domains shape arms typed.0 fits cells.0 values.0 parts.arms_parts,
      stands-in sources variables domains shape other parts.last typed.1 fits values.1.0 parts.last_is parts.last_part,
    )

each-stands : (sources : List CheckedSource) (variables : Variables) (domains : List Box) (whole : Shape) (es : Trees) → AreWellTyped sources variables es
    → AreDomainsOf sources domains → AllByRecursion (HasCells 0) (kinds_in es) → AreParts domains whole es → AreOperandsIn domains whole es
each-stands sources variables domains whole no_trees typed fits cells parts = tt
each-stands sources variables domains whole (trees e es) typed fits cells parts =
    (stands-in sources variables domains whole e parts.0.0 typed.0 fits cells.0 parts.0.1 parts.0.2, each-stands sources variables domains whole es typed.1 fits cells.1 parts.1)

composite-shapes : (sources : List CheckedSource) (variables : Variables) (domains : List Box) (span : Span) (kind : Kind) (es : Trees) (shape : Shape)
    → HasKind sources variables kind (composite es) → AreDomainsOf sources domains → form_shape domains span kind (composite es) ≡ Ok shape → AreOperandsIn domains shape es
composite-shapes sources variables domains span kind es shape typed fits is =
    let parts = composite-parts domains span kind es shape is in
    let rule = induced-ok (composite_type (atoms_of_all (kinds_in es))) (kinds_in es) kind typed.1 in
    each-stands sources variables domains shape es typed.0 fits (composite-cells (kinds_in es) rule.0 rule.1) parts.parts

-- ---- one array

iterator-shapes : (sources : List CheckedSource) (variables : Variables) (domains : List Box) (span : Span) (kind : Kind) (place : ℕ) (shape : Shape)
    → HasKind sources variables kind (iterator place) → AreDomainsOf sources domains → form_shape domains span kind (iterator place) ≡ Ok shape → IteratorShapes domains place shape
iterator-shapes sources variables domains span kind place shape typed fits is =
    let at = domain-of sources domains place typed.0 fits typed.1 in
    record { domain = at.0; found = at.1; shape_is = sym (same_ok (iterator_shape (slice_get domains place)) shape is) ∙ ap iterator_shape at.1 }

-- the box of an array has so many axes
axes-are : (cell : CellType) (n : ℕ) (kind : Kind) (axes : Box) → kind ≡ Array cell n → length axes ≡ axes_of_kind kind → length axes ≡ n
axes-are cell n kind axes kind_is same = same ∙ ap axes_of_kind kind_is

index-shapes : (sources : List CheckedSource) (variables : Variables) (domains : List Box) (span : Span) (kind : Kind) (e : Tree) (axes : Axes) (shape : Shape)
    → HasKind sources variables kind (index e axes) → AreDomainsOf sources domains → form_shape domains span kind (index e axes) ≡ Ok shape → IndexShapes domains e axes shape
index-shapes sources variables domains span kind e axes shape typed fits is =
    let one = bind_ok (shape_of domains e) (λ x. cuts_of domains axes (box_of x) >>= λ cuts. cut_shape span (box_of x) cuts) shape is in
    let two = bind_ok (cuts_of domains axes (box_of one.0)) (λ cuts. cut_shape span (box_of one.0) cuts) shape one.2 in
    let whole = unless_ok (list_any is_broken two.0) _ _ shape two.2 in
    let some = unless_ok (list_any is_empty_cut two.0) _ _ shape whole.1 in
    let inside = unless_ok (list_any is_outside (zip two.0 (box_of one.0))) _ _ shape some.1 in
    let rule = index-kinds (kind_in e) typed.0 typed.1 axes kind typed.4 typed.5 in
    let on = array-on sources variables domains e rule.cell rule.n one.0 typed.2 fits rule.part_is one.1 in
    let same : count_of axes ≡ length (box_of one.0) = rule.count ∙ sym (axes-are rule.cell rule.n (kind_in e) (box_of one.0) rule.part_is on.count) in
    record {
      domain = box_of one.0;
      whole = on;
      positions = axes-one sources variables domains axes (box_of one.0) two.0 typed.3 fits rule.numbers same two.1;
      cuts = two.0;
      cuts_are = two.1;
      whole_cuts = whole.0;
      filled = some.0;
      inside = inside.0;
      shape_is = sym (same_ok _ shape inside.1);
    }

at_point-shapes : (sources : List CheckedSource) (variables : Variables) (domains : List Box) (span : Span) (kind : Kind) (e : Tree) (x : NameOf) (shape : Shape)
    → HasKind sources variables kind (at_point e x) → AreDomainsOf sources domains → form_shape domains span kind (at_point e x) ≡ Ok shape → OneCellShapes domains e shape
at_point-shapes sources variables domains span kind e x shape typed fits is =
    let parts = at_point-parts domains span kind e x shape is in
    record { domain = box_of parts.0.0; part = array-on sources variables domains e typed.0 typed.1 parts.0.0 typed.2 fits typed.4 parts.0.1; shape_is = parts.1 }

folded-shapes : (sources : List CheckedSource) (variables : Variables) (domains : List Box) (span : Span) (kind : Kind) (f : CellsFold) (e : Tree) (shape : Shape)
    → HasKind sources variables kind (folded f e) → AreDomainsOf sources domains → form_shape domains span kind (folded f e) ≡ Ok shape → OneCellShapes domains e shape
folded-shapes sources variables domains span kind f e shape typed fits is =
    let parts = folded-parts domains span kind f e shape is in
    let rule = folded-kinds f (kind_in e) kind typed.1 in
    record { domain = box_of parts.0.0; part = array-on sources variables domains e rule.from rule.n parts.0.0 typed.0 fits rule.part_is parts.0.1; shape_is = parts.1 }

domain_of-shapes : (sources : List CheckedSource) (variables : Variables) (domains : List Box) (span : Span) (kind : Kind) (e : Tree) (shape : Shape)
    → HasKind sources variables kind (domain_of e) → AreDomainsOf sources domains → form_shape domains span kind (domain_of e) ≡ Ok shape → DomainShapes domains e shape
domain_of-shapes sources variables domains span kind e shape typed fits is =
    let parts = domain_of-parts domains span kind e shape is in
    record { domain = box_of parts.0; part = array-on sources variables domains e typed.0 typed.1 parts.0 typed.2 fits typed.3 parts.1; shape_is = parts.2 }

interval_of-shapes : (sources : List CheckedSource) (variables : Variables) (domains : List Box) (span : Span) (kind : Kind) (e : Tree) (k : ℤ) (shape : Shape)
    → HasKind sources variables kind (interval_of e k) → AreDomainsOf sources domains → form_shape domains span kind (interval_of e k) ≡ Ok shape → IntervalShapes domains e k shape
interval_of-shapes sources variables domains span kind e k shape typed fits is =
    let parts = interval_of-parts domains span kind e k shape is in
    let on = array-on sources variables domains e typed.0 typed.1 parts.0 typed.2 fits typed.3 parts.1 in
    let axis = axis-of (box_of parts.0) k typed.1 (axes-are typed.0 typed.1 (kind_in e) (box_of parts.0) typed.3 on.count) typed.4 in
    record { domain = box_of parts.0; part = on; axis = axis.0; found = axis.1; shape_is = parts.2 ∙ ap (λ i. box (interval_list i)) axis.1 }

bound_of-shapes : (sources : List CheckedSource) (variables : Variables) (domains : List Box) (span : Span) (kind : Kind) (side : Side) (e : Tree) (k : ℤ) (shape : Shape)
    → HasKind sources variables kind (bound_of side e k) → AreDomainsOf sources domains → form_shape domains span kind (bound_of side e k) ≡ Ok shape → BoundShapes domains e k shape
bound_of-shapes sources variables domains span kind side e k shape typed fits is =
    let parts = bound_of-parts domains span kind side e k shape is in
    let on = array-on sources variables domains e typed.0 typed.1 parts.0.0 typed.2 fits typed.3 parts.0.1 in
    let axis = axis-of (box_of parts.0.0) k typed.1 (axes-are typed.0 typed.1 (kind_in e) (box_of parts.0.0) typed.3 on.count) typed.4 in
    record { domain = box_of parts.0.0; part = on; axis = axis.0; found = axis.1; shape_is = parts.1 }

shift-shapes : (sources : List CheckedSource) (variables : Variables) (domains : List Box) (span : Span) (kind : Kind) (e : Tree) (offsets : Trees) (shape : Shape)
    → HasKind sources variables kind (shift e offsets) → AreDomainsOf sources domains → form_shape domains span kind (shift e offsets) ≡ Ok shape → ShiftShapes domains e offsets shape
shift-shapes sources variables domains span kind e offsets shape typed fits is =
    let parts = shift-parts domains span kind e offsets shape is in
    record {
      domain = box_of parts.inner;
      part = array-on sources variables domains e typed.0 typed.1 parts.inner typed.2 fits typed.4 parts.inner_is;
      one_cell = offsets-one sources variables domains offsets parts.values typed.3 fits typed.6 parts.values_are;
      values = parts.values;
      values_are = parts.values_are;
      by = parts.by;
      by_is = parts.by_is;
      small = parts.small;
      shape_is = parts.shape_is;
    }

arrays-on : (sources : List CheckedSource) (variables : Variables) (domains : List Box) (n : ℕ) (es : Trees) (xs : List Shape) → AreWellTyped sources variables es
    → AreDomainsOf sources domains → AllByRecursion (IsArrayWith n) (kinds_in es) → AreShapesOf domains es xs → AreArraysOn domains es (map box_of xs)
arrays-on sources variables domains n no_trees [] typed fits arrays are = tt
arrays-on sources variables domains n no_trees (x ∷ xs) typed fits arrays are = absurd are
arrays-on sources variables domains n (trees e es) [] typed fits arrays are = absurd are
arrays-on sources variables domains n (trees e es) (x ∷ xs) typed fits arrays are =
    (array-on sources variables domains e arrays.0.0 n x typed.0 fits arrays.0.1 are.0, arrays-on sources variables domains n es xs typed.1 fits arrays.1 are.1)

concat-shapes : (sources : List CheckedSource) (variables : Variables) (domains : List Box) (span : Span) (kind : Kind) (es : Trees) (along : ℤ) (shape : Shape)
    → HasKind sources variables kind (concat es along) → AreDomainsOf sources domains → form_shape domains span kind (concat es along) ≡ Ok shape → ConcatShapes domains es along shape
concat-shapes sources variables domains span kind es along shape typed fits is =
    let parts = concat-parts domains span kind es along shape is in
    let rule = concat-kinds es along kind typed.1 in
    record {
      boxes = map box_of parts.shapes;
      parts = arrays-on sources variables domains rule.n es parts.shapes typed.0 fits rule.arrays parts.each;
      agree = parts.agree;
      small = parts.small;
      shape_is = parts.shape_is;
    }

-- ---- over a domain

domain-parts : (sources : List CheckedSource) (variables : Variables) (domains : List Box) (span : Span) (domain : Domain) (written : Written) (axes : Box)
    → IsWellTypedDomain sources variables domain → AreDomainsOf sources domains → written_of domains domain ≡ Ok written → written_box span written ≡ Ok axes
    → DomainPartsGive domains domain axes
domain-parts sources variables domains span (bounds ps) written axes typed fits is gives =
    let one = bind_ok (bounds_of domains ps) (λ values. Ok (literal values)) written is in bounds-one sources variables domains ps one.0 typed.0 fits typed.1 one.1
domain-parts sources variables domains span (domain_like e) written axes typed fits is gives =
    let from = written-box domains span (domain_like e) written axes is gives in
    domain-on sources variables domains e typed.0 from.0 typed.1 fits typed.2 from.1 ∙ ap (λ b. Ok (box b)) (sym from.2)

gives-box : (sources : List CheckedSource) (variables : Variables) (domains : List Box) (span : Span) (domain : Domain) (written : Written) (axes : Box)
    → IsWellTypedDomain sources variables domain → AreDomainsOf sources domains → written_of domains domain ≡ Ok written → written_box span written ≡ Ok axes
    → ComesToBox domains span domain axes
gives-box sources variables domains span domain written axes typed fits is gives = record {
  written = written;
  written_is = is;
  box_is = gives;
  count = domain-agrees sources variables domains domain axes typed fits (written-box domains span domain written axes is gives);
  parts = domain-parts sources variables domains span domain written axes typed fits is gives;
}

marray-shapes : (sources : List CheckedSource) (variables : Variables) (domains : List Box) (span : Span) (kind : Kind) (x : NameOf) (domain : Domain) (e : Tree) (shape : Shape)
    → HasKind sources variables kind (marray x domain e) → AreDomainsOf sources domains → form_shape domains span kind (marray x domain e) ≡ Ok shape
    → MarrayShapes domains span domain e shape
marray-shapes sources variables domains span kind x domain e shape typed fits is =
    let one = bind_ok (written_of domains domain) (λ written. shape_of domains e >>= λ inner. written_box span written >>= λ axes. sized_shape span (width_of_kind kind)
    (array axes)) shape is in
    let two = bind_ok (shape_of domains e) (λ inner. written_box span one.0 >>= λ axes. sized_shape span (width_of_kind kind) (array axes)) shape one.2 in
    let three = bind_ok (written_box span one.0) (λ axes. sized_shape span (width_of_kind kind) (array axes)) shape two.2 in
    record {
      axes = three.0;
      over = gives-box sources variables domains span domain one.0 three.0 typed.1 fits one.1 three.1;
      body = one-cell sources ((x, axes_of_domain domain) ∷ variables) domains e typed.0 two.0 typed.2 fits typed.3 two.1;
      shape_is = (sized-ok span (width_of_kind kind) (array three.0) shape three.2).0;
    }

condense-shapes : (sources : List CheckedSource) (variables : Variables) (domains : List Box) (span : Span) (kind : Kind) (op : FoldOp) (x : NameOf) (domain : Domain)
    (condition : Condition) (e : Tree) (shape : Shape)
    → HasKind sources variables kind (condense op x domain condition e) → AreDomainsOf sources domains → form_shape domains span kind (condense op x domain condition e) ≡ Ok shape
    → CondenseShapes domains span domain condition e shape
condense-shapes sources variables domains span kind op x domain condition e shape typed fits is =
    let one = bind_ok (written_of domains domain) (λ written. condition_shape domains condition >>= λ tested. shape_of domains e >>= λ inner. written_box span written
    >>= λ axes. of_size span 1 axes >>= λ all. Ok scalar) shape is in
    let two = bind_ok (condition_shape domains condition) (λ tested. shape_of domains e >>= λ inner. written_box span one.0 >>= λ axes. of_size span 1 axes >>= λ all.
    Ok scalar) shape one.2 in
    let three = bind_ok (shape_of domains e) (λ inner. written_box span one.0 >>= λ axes. of_size span 1 axes >>= λ all. Ok scalar) shape two.2 in
    let four = bind_ok (written_box span one.0) (λ axes. of_size span 1 axes >>= λ all. Ok scalar) shape three.2 in
    let five = bind_ok (of_size span 1 four.0) (λ all. Ok scalar) shape four.2 in
    let rule = condense-kinds op (kind_in e) typed.0 kind typed.4 typed.6 in
    record {
      axes = four.0;
      over = gives-box sources variables domains span domain one.0 four.0 typed.1 fits one.1 four.1;
      few_points = (of_size-ok span 1 four.0 five.0 five.1).1.0;
      test = condition-one sources ((x, axes_of_domain domain) ∷ variables) domains condition two.0 typed.2 fits two.1;
      body = one-cell sources ((x, axes_of_domain domain) ∷ variables) domains e rule.from three.0 typed.3 fits rule.part_is three.1;
      shape_is = sym (same_ok scalar shape five.2);
    }

-- the array on the box that was looked at is the one on the box that was given
on-given : (shape : Shape) (around axes : Box) → shape ≡ array around → axes ≡ around → shape ≡ array axes
on-given shape around axes is same = is ∙ ap array (sym same)

extend-shapes : (sources : List CheckedSource) (variables : Variables) (domains : List Box) (span : Span) (kind : Kind) (e : Tree) (domain : Domain) (shape : Shape)
    → HasKind sources variables kind (extend e domain) → AreDomainsOf sources domains → form_shape domains span kind (extend e domain) ≡ Ok shape
    → ExtendShapes domains span e domain shape
extend-shapes sources variables domains span kind e domain shape typed fits is =
    let one = bind_ok (shape_of domains e) (λ x. written_of domains domain >>= λ written. written_box span written >>= λ axes. fault_where
    (not (lies_in (box_of x) axes)) span Outside axes >>= λ around. sized_shape span (width_of_kind kind) (array around)) shape is in
    let two = bind_ok (written_of domains domain) (λ written. written_box span written >>= λ axes. fault_where (not (lies_in (box_of one.0) axes)) span Outside axes >>=
    λ around. sized_shape span (width_of_kind kind) (array around)) shape one.2 in
    let three = bind_ok (written_box span two.0) (λ axes. fault_where (not (lies_in (box_of one.0) axes)) span Outside axes >>= λ around. sized_shape span
    (width_of_kind kind) (array around)) shape two.2 in
    let four = bind_ok (fault_where (not (lies_in (box_of one.0) three.0)) span Outside three.0) (λ around. sized_shape span (width_of_kind kind) (array around)) shape three.2 in
    let lies = unless_ok (not (lies_in (box_of one.0) three.0)) (span, Outside) (Ok three.0) four.0 four.1 in
    record {
      inner = box_of one.0;
      part = array-on sources variables domains e typed.0 typed.1 one.0 typed.2 fits typed.4 one.1;
      axes = three.0;
      over = gives-box sources variables domains span domain two.0 three.0 typed.3 fits two.1 three.1;
      lies = (LiesIn-lies_in (box_of one.0) three.0).0 (not-false (lies_in (box_of one.0) three.0) lies.0);
      shape_is = on-given shape four.0 three.0 (sized-ok span (width_of_kind kind) (array four.0) shape four.2).0 (same_ok three.0 four.0 lies.1);
    }

-- ---- all forms

pub part-shapes : (sources : List CheckedSource) (variables : Variables) (domains : List Box) (span : Span) (kind : Kind) (form : Form) (shape : Shape)
    → HasKind sources variables kind form → AreDomainsOf sources domains → shape_of domains (node span kind form) ≡ Ok shape → HasPartShapes domains span form shape
part-shapes sources variables domains span kind (iterator place) shape typed fits is = iterator-shapes sources variables domains span kind place shape typed fits is
part-shapes sources variables domains span kind (binary op a b) shape typed fits is = binary-shapes sources variables domains span kind op a b shape typed fits is
part-shapes sources variables domains span kind (index e axes) shape typed fits is = index-shapes sources variables domains span kind e axes shape typed fits is
part-shapes sources variables domains span kind (at_point e x) shape typed fits is = at_point-shapes sources variables domains span kind e x shape typed fits is
part-shapes sources variables domains span kind (choice arms other) shape typed fits is = choice-shapes sources variables domains span kind arms other shape typed fits is
part-shapes sources variables domains span kind (composite es) shape typed fits is = composite-shapes sources variables domains span kind es shape typed fits is
part-shapes sources variables domains span kind (marray x domain e) shape typed fits is = marray-shapes sources variables domains span kind x domain e shape typed fits is
part-shapes sources variables domains span kind (condense op x domain condition e) shape typed fits is =
    condense-shapes sources variables domains span kind op x domain condition e shape typed fits is
part-shapes sources variables domains span kind (folded f e) shape typed fits is = folded-shapes sources variables domains span kind f e shape typed fits is
part-shapes sources variables domains span kind (shift e offsets) shape typed fits is = shift-shapes sources variables domains span kind e offsets shape typed fits is
part-shapes sources variables domains span kind (extend e domain) shape typed fits is = extend-shapes sources variables domains span kind e domain shape typed fits is
part-shapes sources variables domains span kind (concat es along) shape typed fits is = concat-shapes sources variables domains span kind es along shape typed fits is
part-shapes sources variables domains span kind (domain_of e) shape typed fits is = domain_of-shapes sources variables domains span kind e shape typed fits is
part-shapes sources variables domains span kind (interval_of e k) shape typed fits is = interval_of-shapes sources variables domains span kind e k shape typed fits is
part-shapes sources variables domains span kind (bound_of side e k) shape typed fits is = bound_of-shapes sources variables domains span kind side e k shape typed fits is
part-shapes sources variables domains span kind other shape typed fits is = tt
