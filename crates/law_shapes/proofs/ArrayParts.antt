-- What the shape of an index, and of the forms that make arrays or go over them, says of their parts.
use Rattle.std.proofs.Common.{◌≡◌, ℕ, ℤ, true, false, Ok, Option, Some, None, List, ◌∷◌, map, refl, sym, ap, subst, ◌∙◌}
use Rattle.std.specs.Prelude.{neg_ℤ, not, unsigned_abs}
use Rattle.std.proofs.lemmas.Bool.{not-false}
use Rattle.std.specs.List.{list_any, zip}
use Rattle.ras_cells.specs.Outcomes.{◌>>=◌}
use Rattle.ras_domain.specs.Boxes.{moved_by, shifted_by, lies_in, LiesIn}
use Rattle.ras_domain.specs.Region.{IsIn}
use Rattle.ras_syntax.specs.declared.span.Span.{Span}
use Rattle.ras_syntax.specs.declared.expr.FoldOp.{FoldOp}
use Rattle.ras_syntax.specs.declared.faults.ShapeFault.TheVariants.{Outside}
use Rattle.ras_syntax.specs.declared.typed.Kind.{Kind}
use Rattle.spec_expressions.specs.Tree.{NameOf, Tree, Trees, Axes, Domain, Condition, node, index, marray, condense, shift, extend, concat, no_trees, trees, always, only_where}
use Rattle.spec_expressions.specs.Shape.{Box, Shape, scalar, array, box_of, shape_of, shapes_of, condition_shape, sized_shape, of_size, width_of_kind, is_broken, is_empty_cut, is_outside, kept_axes, array_or_scalar_shape, cut_shape, cuts_of, Bound, Written, written_box, written_of, offsets_of, values_of, moved_box, has_large_bound, static_of, fault_where, extents_agree, placed_parts, joined_parts, concat_shape}
use Rattle.spec_expressions.specs.Eval.{axes_in, written_in, boxes_in, offsets_in, numbers_or_none}
use Rattle.law_shapes.proofs.Outcomes.{bind_ok, same_ok, unless_ok}
use Rattle.ras_domain.proofs.BoxTests.{LiesIn-lies_in}
use Rattle.law_shapes.proofs.Cuts.{HasShape, AreCut, cut-axes, IsBoxOf, written-box, written_box-elsewhere}
use Rattle.law_shapes.proofs.Moves.{IsIn-unshifted}
use Rattle.law_shapes.proofs.Operands.{HasSize, HasSizeOf, sized-ok, of_size-ok}
use Rattle.law_shapes.proofs.Parts.{AreShapesOf, AreShapesOf-shapes_of}

-- ---- an index

-- the axes cut the array's box to what is kept, which is the whole's box
pub record IndexParts (domains : List Box) (e : Tree) (axes : Axes) (shape : Shape) : Type 0 where
  pub whole : Shape
  pub whole_is : shape_of domains e ≡ Ok whole
  pub kept : Box
  pub shape_is : shape ≡ array_or_scalar_shape kept
  pub cut : AreCut domains axes (box_of whole) kept

pub index-parts : (domains : List Box) (span : Span) (kind : Kind) (e : Tree) (axes : Axes) (shape : Shape)
    → shape_of domains (node span kind (index e axes)) ≡ Ok shape → IndexParts domains e axes shape
index-parts domains span kind e axes shape is =
    let one = bind_ok (shape_of domains e) (λ x. cuts_of domains axes (box_of x) >>= λ cuts. cut_shape span (box_of x) cuts) shape is in
    let two = bind_ok (cuts_of domains axes (box_of one.0)) (λ cuts. cut_shape span (box_of one.0) cuts) shape one.2 in
    let whole = unless_ok (list_any is_broken two.0) _ _ shape two.2 in
    let some = unless_ok (list_any is_empty_cut two.0) _ _ shape whole.1 in
    let inside = unless_ok (list_any is_outside (zip two.0 (box_of one.0))) _ _ shape some.1 in
    record {
      whole = one.0;
      whole_is = one.1;
      kept = kept_axes two.0;
      shape_is = sym (same_ok _ shape inside.1);
      cut = cut-axes domains axes (box_of one.0) two.0 two.1 whole.0 some.0 inside.0;
    }

-- ---- domains

-- the box that a written domain gives
pub record WrittenParts (domains : List Box) (domain : Domain) (axes : Box) : Type 0 where
  pub written : Written
  pub written_is : written_of domains domain ≡ Ok written
  pub is_box : IsBoxOf domains domain axes
  -- as the cells find it
  pub axes_is : axes_in (written_in (written_of domains domain)) ≡ axes

written-parts : (domains : List Box) (span : Span) (domain : Domain) (written : Written) (axes : Box) → written_of domains domain ≡ Ok written
    → written_box span written ≡ Ok axes → WrittenParts domains domain axes
written-parts domains span domain written axes is gives = record {
  written = written;
  written_is = is;
  is_box = written-box domains span domain written axes is gives;
  axes_is = ap (λ w. axes_in (written_in w)) is ∙ ap axes_in (written_box-elsewhere span (record { from = 0; to = 0 }) written axes gives);
}

-- an array made over a domain
pub record MarrayParts (domains : List Box) (width : ℕ) (domain : Domain) (e : Tree) (shape : Shape) : Type 0 where
  pub axes : Box
  pub domain_parts : WrittenParts domains domain axes
  pub body : HasShape domains e
  pub shape_is : shape ≡ array axes
  pub size : HasSize width axes

pub marray-parts : (domains : List Box) (span : Span) (kind : Kind) (x : NameOf) (domain : Domain) (e : Tree) (shape : Shape)
    → shape_of domains (node span kind (marray x domain e)) ≡ Ok shape
    → MarrayParts domains (width_of_kind kind) domain e shape
marray-parts domains span kind x domain e shape is =
    let one = bind_ok (written_of domains domain) (λ written. shape_of domains e >>= λ inner. written_box span written >>= λ axes. sized_shape span (width_of_kind kind)
    (array axes)) shape is in
    let two = bind_ok (shape_of domains e) (λ inner. written_box span one.0 >>= λ axes. sized_shape span (width_of_kind kind) (array axes)) shape one.2 in
    let three = bind_ok (written_box span one.0) (λ axes. sized_shape span (width_of_kind kind) (array axes)) shape two.2 in
    let size = sized-ok span (width_of_kind kind) (array three.0) shape three.2 in
    record {
      axes = three.0;
      domain_parts = written-parts domains span domain one.0 three.0 one.1 three.1;
      body = (two.0, two.1);
      shape_is = size.0;
      size = subst (HasSizeOf (width_of_kind kind)) size.0 size.1;
    }

-- the condition has a shape, where there is one
abbrev pub HasConditionShape : List Box → Condition → Type 0
HasConditionShape domains always = Unit {0}
HasConditionShape domains (only_where c) = HasShape domains c

condition-shape : (domains : List Box) (condition : Condition) (x : Shape) → condition_shape domains condition ≡ Ok x → HasConditionShape domains condition
condition-shape domains always x is = tt
condition-shape domains (only_where c) x is = (x, is)

-- a fold over a domain
pub record CondenseParts (domains : List Box) (domain : Domain) (condition : Condition) (e : Tree) (shape : Shape) : Type 0 where
  pub axes : Box
  pub domain_parts : WrittenParts domains domain axes
  pub condition_part : HasConditionShape domains condition
  pub body : HasShape domains e
  pub shape_is : shape ≡ scalar
  pub size : HasSize 1 axes

pub condense-parts : (domains : List Box) (span : Span) (kind : Kind) (op : FoldOp) (x : NameOf) (domain : Domain) (condition : Condition) (e : Tree) (shape : Shape)
    → shape_of domains (node span kind (condense op x domain condition e)) ≡ Ok shape → CondenseParts domains domain condition e shape
condense-parts domains span kind op x domain condition e shape is =
    let one = bind_ok (written_of domains domain) (λ written. condition_shape domains condition >>= λ tested. shape_of domains e >>= λ inner. written_box span written
    >>= λ axes. of_size span 1 axes >>= λ all. Ok scalar) shape is in
    let two = bind_ok (condition_shape domains condition) (λ tested. shape_of domains e >>= λ inner. written_box span one.0 >>= λ axes. of_size span 1 axes >>= λ all.
    Ok scalar) shape one.2 in
    let three = bind_ok (shape_of domains e) (λ inner. written_box span one.0 >>= λ axes. of_size span 1 axes >>= λ all. Ok scalar) shape two.2 in
    let four = bind_ok (written_box span one.0) (λ axes. of_size span 1 axes >>= λ all. Ok scalar) shape three.2 in
    let five = bind_ok (of_size span 1 four.0) (λ all. Ok scalar) shape four.2 in
    record {
      axes = four.0;
      domain_parts = written-parts domains span domain one.0 four.0 one.1 four.1;
      condition_part = condition-shape domains condition two.0 two.1;
      body = (three.0, three.1);
      shape_is = sym (same_ok scalar shape five.2);
      size = (of_size-ok span 1 four.0 five.0 five.1).1;
    }

-- an array within a larger domain
pub record ExtendParts (domains : List Box) (width : ℕ) (e : Tree) (domain : Domain) (shape : Shape) : Type 0 where
  pub inner : Shape
  pub inner_is : shape_of domains e ≡ Ok inner
  pub axes : Box
  pub domain_parts : WrittenParts domains domain axes
  pub lies : LiesIn (box_of inner) axes
  pub shape_is : shape ≡ array axes
  pub size : HasSize width axes

extended : (domains : List Box) (span : Span) (width : ℕ) (e : Tree) (domain : Domain) (shape inner : Shape) (written : Written) (axes : Box)
    → shape_of domains e ≡ Ok inner → written_of domains domain ≡ Ok written → written_box span written ≡ Ok axes
    → (fault_where (not (lies_in (box_of inner) axes)) span Outside axes >>= λ around. sized_shape span width (array around)) ≡ Ok shape → ExtendParts domains width e domain shape
extended domains span width e domain shape inner written axes inner_is written_is axes_are is =
    let one = bind_ok (fault_where (not (lies_in (box_of inner) axes)) span Outside axes) (λ around. sized_shape span width (array around)) shape is in
    let lies = unless_ok (not (lies_in (box_of inner) axes)) (span, Outside) (Ok axes) one.0 one.1 in
    let size = sized-ok span width (array one.0) shape one.2 in
    let shape_is : shape ≡ array axes = size.0 ∙ ap array (sym (same_ok axes one.0 lies.1)) in
    record {
      inner = inner;
      inner_is = inner_is;
      axes = axes;
      domain_parts = written-parts domains span domain written axes written_is axes_are;
      lies = (LiesIn-lies_in (box_of inner) axes).0 (not-false (lies_in (box_of inner) axes) lies.0);
      shape_is = shape_is;
      size = subst (HasSizeOf width) shape_is size.1;
    }

pub extend-parts : (domains : List Box) (span : Span) (kind : Kind) (e : Tree) (domain : Domain) (shape : Shape) → shape_of domains (node span kind (extend e domain)) ≡ Ok shape
    → ExtendParts domains (width_of_kind kind) e domain shape
extend-parts domains span kind e domain shape is =
    let one = bind_ok (shape_of domains e) (λ x. written_of domains domain >>= λ written. written_box span written >>= λ axes. fault_where
    (not (lies_in (box_of x) axes)) span Outside axes >>= λ around. sized_shape span (width_of_kind kind) (array around)) shape is in
    let two = bind_ok (written_of domains domain) (λ written. written_box span written >>= λ axes. fault_where (not (lies_in (box_of one.0) axes)) span Outside axes >>=
    λ around. sized_shape span (width_of_kind kind) (array around)) shape one.2 in
    let three = bind_ok (written_box span two.0) (λ axes. fault_where (not (lies_in (box_of one.0) axes)) span Outside axes >>= λ around. sized_shape span
    (width_of_kind kind) (array around)) shape two.2 in
    extended domains span (width_of_kind kind) e domain shape one.0 two.0 three.0 one.1 two.1 three.1 three.2

-- ---- shift and concat

-- each expression has a shape
abbrev pub HaveShapes : List Box → Trees → Type 0
HaveShapes domains no_trees = Unit {0}
HaveShapes domains (trees e es) = HasShape domains e × HaveShapes domains es

-- the offsets have shapes, and there is one value for each
offsets-shapes : (domains : List Box) (es : Trees) (values : List Bound) → offsets_of domains es ≡ Ok values → HaveShapes domains es
offsets-shapes domains no_trees values is = tt
offsets-shapes domains (trees e es) values is =
    let one = bind_ok (shape_of domains e) (λ inner. offsets_of domains es >>= λ values. Ok (static_of domains e ∷ values)) values is in
    let two = bind_ok (offsets_of domains es) (λ values. Ok (static_of domains e ∷ values)) values one.2 in
    ((one.0, one.1), offsets-shapes domains es two.0 two.1)

-- an array moved by offsets
pub record ShiftParts (domains : List Box) (e : Tree) (offsets : Trees) (shape : Shape) : Type 0 where
  pub inner : Shape
  pub inner_is : shape_of domains e ≡ Ok inner
  pub offsets_shapes : HaveShapes domains offsets
  pub values : List Bound
  pub values_are : offsets_of domains offsets ≡ Ok values
  pub by : List ℤ
  pub by_is : values_of values ≡ Some by
  -- as the cells find them
  pub offsets_are : offsets_in (offsets_of domains offsets) ≡ by
  pub shape_is : shape ≡ array (shifted_by by (box_of inner))
  pub small : list_any has_large_bound (shifted_by by (box_of inner)) ≡ false
  -- a point of the whole is a point of the part, moved
  pub moves : (p : List ℤ) → IsIn p (shifted_by by (box_of inner)) → IsIn (moved_by (map neg_ℤ by) p) (box_of inner)

shifted : (domains : List Box) (span : Span) (e : Tree) (offsets : Trees) (shape inner : Shape) (values : List Bound) (found : Option (List ℤ))
    → shape_of domains e ≡ Ok inner → offsets_of domains offsets ≡ Ok values
    → values_of values ≡ found → moved_box span (box_of inner) found ≡ Ok shape → ShiftParts domains e offsets shape
shifted domains span e offsets shape inner values None inner_is values_are found_is is = absurd cc
shifted domains span e offsets shape inner values (Some by) inner_is values_are found_is is =
    let small = unless_ok (list_any has_large_bound (shifted_by by (box_of inner))) _ _ shape is in
    record {
      inner = inner;
      inner_is = inner_is;
      offsets_shapes = offsets-shapes domains offsets values values_are;
      values = values;
      values_are = values_are;
      by = by;
      by_is = found_is;
      offsets_are = ap offsets_in values_are ∙ ap numbers_or_none found_is;
      shape_is = sym (same_ok _ shape small.1);
      small = small.0;
      moves = λ p. IsIn-unshifted by (box_of inner) p;
    }

pub shift-parts : (domains : List Box) (span : Span) (kind : Kind) (e : Tree) (offsets : Trees) (shape : Shape)
    → shape_of domains (node span kind (shift e offsets)) ≡ Ok shape → ShiftParts domains e offsets shape
shift-parts domains span kind e offsets shape is =
    let one = bind_ok (shape_of domains e) (λ x. offsets_of domains offsets >>= λ values. moved_box span (box_of x) (values_of values)) shape is in
    let two = bind_ok (offsets_of domains offsets) (λ values. moved_box span (box_of one.0) (values_of values)) shape one.2 in
    shifted domains span e offsets shape one.0 two.0 (values_of two.0) one.1 two.1 refl two.2

-- arrays one after the other, each moved to its place
pub record ConcatParts (domains : List Box) (width : ℕ) (parts : Trees) (along : ℤ) (shape : Shape) : Type 0 where
  pub shapes : List Shape
  pub shapes_are : shapes_of domains parts ≡ Ok shapes
  pub each : AreShapesOf domains parts shapes
  -- as the cells find them
  pub owns_are : boxes_in (shapes_of domains parts) ≡ map box_of shapes
  pub agree : extents_agree (unsigned_abs along) (map box_of shapes) ≡ true
  pub small : list_any (list_any has_large_bound) (placed_parts (unsigned_abs along) (map box_of shapes)) ≡ false
  pub shape_is : shape ≡ array (joined_parts (placed_parts (unsigned_abs along) (map box_of shapes)))
  pub size : HasSize width (joined_parts (placed_parts (unsigned_abs along) (map box_of shapes)))

pub concat-parts : (domains : List Box) (span : Span) (kind : Kind) (parts : Trees) (along : ℤ) (shape : Shape) → shape_of domains (node span kind (concat parts along)) ≡ Ok shape
    → ConcatParts domains (width_of_kind kind) parts along shape
concat-parts domains span kind parts along shape is =
    let width : ℕ = width_of_kind kind in
    let n : ℕ = unsigned_abs along in
    let one = bind_ok (shapes_of domains parts) (λ xs. concat_shape span (width_of_kind kind) (unsigned_abs along) (map box_of xs)) shape is in
    let agree = unless_ok (not (extents_agree n (map box_of one.0))) _ _ shape one.2 in
    let small = unless_ok (list_any (list_any has_large_bound) (placed_parts n (map box_of one.0))) _ _ shape agree.1 in
    let size = sized-ok span width (array (joined_parts (placed_parts n (map box_of one.0)))) shape small.1 in
    record {
      shapes = one.0;
      shapes_are = one.1;
      each = AreShapesOf-shapes_of domains parts one.0 one.1;
      owns_are = ap boxes_in one.1;
      agree = not-false (extents_agree n (map box_of one.0)) agree.0;
      small = small.0;
      shape_is = size.0;
      size = subst (HasSizeOf width) size.0 size.1;
    }
