-- What the shape of a form says of the shapes of its parts, where the form keeps the rules of the check over sources with these domains.
-- An operation on one part and a component have the part's own shape, and a literal, a name and an identifier have no part: `shape_of`
-- computes to that.
use Rattle.std.specs.Prelude.{◌≡◌, ◌≤◌, ◌⊎◌, ℕ, ℤ, unsigned_abs, false, true, List, [], ◌∷◌, length, Some, Ok, slice_get}
use Rattle.std.specs.List.{list_any, zip}
use Rattle.ras_domain.specs.declared.region.Interval.{Interval}
use Rattle.ras_domain.specs.declared.TheConstants.{MAX_POINTS}
use Rattle.ras_domain.specs.Boxes.{LiesIn, shifted_by}
use Rattle.ras_domain.specs.Region.{volume_of}
use Rattle.ras_syntax.specs.declared.span.Span.{Span}
use Rattle.spec_expressions.specs.Tree.{Tree, Form, Trees, Pairs, Axes, Edge, Domain, Condition, iterator, binary, index, at_point, choice, composite, marray, condense, folded, shift, extend, concat, domain_of, interval_of, bound_of, no_trees, trees, no_pairs, pairs, no_axes, position, trim, own, edge, bounds, domain_like, always, only_where}
use Rattle.spec_expressions.specs.Kinds.{axes_of_kind}
use Rattle.spec_expressions.specs.WellTyped.{axes_of_domain, kind_in}
use Rattle.spec_expressions.specs.Shape.{Box, Shape, scalar, array, box, Bound, Cut, Written, array_or_scalar_shape, cuts_of, extents_agree, has_large_bound, interval_at, is_broken, is_empty_cut, is_outside, joined_parts, kept_axes, offsets_of, placed_parts, shape_of, values_of, written_box, written_of}

-- ---- parts

-- the expression has one cell
abbrev pub IsOneCell : List Box → Tree → Type 0
IsOneCell domains e = shape_of domains e ≡ Ok scalar

-- the expression is an array on this box, which has as many axes as its kind says
pub record IsArrayOn (domains : List Box) (e : Tree) (domain : Box) : Type 0 where
  pub shape_is : shape_of domains e ≡ Ok (array domain)
  pub count : length domain ≡ axes_of_kind (kind_in e)

-- the expression stands as an operand in what has this shape: it is one cell, or an array of that shape
abbrev pub IsOperandIn : List Box → Shape → Tree → Type 0
IsOperandIn domains whole e = (shape_of domains e ≡ Ok whole) ⊎ IsOneCell domains e

abbrev pub AreOperandsIn : List Box → Shape → Trees → Type 0
AreOperandsIn domains whole no_trees = Unit {0}
AreOperandsIn domains whole (trees e es) = IsOperandIn domains whole e × AreOperandsIn domains whole es

abbrev pub AreOperandPairsIn : List Box → Shape → Pairs → Type 0
AreOperandPairsIn domains whole no_pairs = Unit {0}
AreOperandPairsIn domains whole (pairs a b ps) = IsOperandIn domains whole a × IsOperandIn domains whole b × AreOperandPairsIn domains whole ps

abbrev pub HaveOneCell : List Box → Trees → Type 0
HaveOneCell domains no_trees = Unit {0}
HaveOneCell domains (trees e es) = IsOneCell domains e × HaveOneCell domains es

abbrev pub PairsHaveOneCell : List Box → Pairs → Type 0
PairsHaveOneCell domains no_pairs = Unit {0}
PairsHaveOneCell domains (pairs a b ps) = IsOneCell domains a × IsOneCell domains b × PairsHaveOneCell domains ps

-- each array on a box of its own
abbrev pub AreArraysOn : List Box → Trees → List Box → Type 0
AreArraysOn domains no_trees [] = Unit {0}
AreArraysOn domains (trees e es) (own_box ∷ boxes) = IsArrayOn domains e own_box × AreArraysOn domains es boxes
AreArraysOn domains no_trees (own_box ∷ boxes) = ⊥
AreArraysOn domains (trees e es) [] = ⊥

abbrev pub EdgeHasOneCell : List Box → Edge → Type 0
EdgeHasOneCell domains own = Unit {0}
EdgeHasOneCell domains (edge e) = IsOneCell domains e

-- each position and each bound has one cell
abbrev pub AxesHaveOneCell : List Box → Axes → Type 0
AxesHaveOneCell domains no_axes = Unit {0}
AxesHaveOneCell domains (position e axes) = IsOneCell domains e × AxesHaveOneCell domains axes
AxesHaveOneCell domains (trim a b axes) = EdgeHasOneCell domains a × EdgeHasOneCell domains b × AxesHaveOneCell domains axes

abbrev pub ConditionHasOneCell : List Box → Condition → Type 0
ConditionHasOneCell domains always = Unit {0}
ConditionHasOneCell domains (only_where c) = IsOneCell domains c

-- the bounds that are written have one cell each, and what a domain is taken from has that domain
abbrev pub DomainPartsGive : List Box → Domain → Box → Type 0
DomainPartsGive domains (bounds ps) axes = PairsHaveOneCell domains ps
DomainPartsGive domains (domain_like e) axes = shape_of domains e ≡ Ok (box axes)

-- the box that a domain gives in an expression of this span
pub record ComesToBox (domains : List Box) (span : Span) (domain : Domain) (axes : Box) : Type 0 where
  pub written : Written
  pub written_is : written_of domains domain ≡ Ok written
  pub box_is : written_box span written ≡ Ok axes
  pub count : length axes ≡ axes_of_domain domain
  pub parts : DomainPartsGive domains domain axes

-- ---- the forms

pub record IteratorShapes (domains : List Box) (place : ℕ) (shape : Shape) : Type 0 where
  pub domain : Box
  pub found : slice_get domains place ≡ Some domain
  pub shape_is : shape ≡ array domain

pub record IndexShapes (domains : List Box) (e : Tree) (axes : Axes) (shape : Shape) : Type 0 where
  pub domain : Box
  pub whole : IsArrayOn domains e domain
  pub positions : AxesHaveOneCell domains axes
  pub cuts : List Cut
  pub cuts_are : cuts_of domains axes domain ≡ Ok cuts
  pub whole_cuts : list_any is_broken cuts ≡ false
  pub filled : list_any is_empty_cut cuts ≡ false
  pub inside : list_any is_outside (zip cuts domain) ≡ false
  pub shape_is : shape ≡ array_or_scalar_shape (kept_axes cuts)

-- one cell, made of an array
pub record OneCellShapes (domains : List Box) (e : Tree) (shape : Shape) : Type 0 where
  pub domain : Box
  pub part : IsArrayOn domains e domain
  pub shape_is : shape ≡ scalar

pub record MarrayShapes (domains : List Box) (span : Span) (domain : Domain) (e : Tree) (shape : Shape) : Type 0 where
  pub axes : Box
  pub over : ComesToBox domains span domain axes
  pub body : IsOneCell domains e
  pub shape_is : shape ≡ array axes

pub record CondenseShapes (domains : List Box) (span : Span) (domain : Domain) (condition : Condition) (e : Tree) (shape : Shape) : Type 0 where
  pub axes : Box
  pub over : ComesToBox domains span domain axes
  pub few_points : volume_of axes ≤ MAX_POINTS
  pub test : ConditionHasOneCell domains condition
  pub body : IsOneCell domains e
  pub shape_is : shape ≡ scalar

pub record ShiftShapes (domains : List Box) (e : Tree) (offsets : Trees) (shape : Shape) : Type 0 where
  pub domain : Box
  pub part : IsArrayOn domains e domain
  pub one_cell : HaveOneCell domains offsets
  pub values : List Bound
  pub values_are : offsets_of domains offsets ≡ Ok values
  pub by : List ℤ
  pub by_is : values_of values ≡ Some by
  pub small : list_any has_large_bound (shifted_by by domain) ≡ false
  pub shape_is : shape ≡ array (shifted_by by domain)

pub record ExtendShapes (domains : List Box) (span : Span) (e : Tree) (domain : Domain) (shape : Shape) : Type 0 where
  pub inner : Box
  pub part : IsArrayOn domains e inner
  pub axes : Box
  pub over : ComesToBox domains span domain axes
  pub lies : LiesIn inner axes
  pub shape_is : shape ≡ array axes

pub record ConcatShapes (domains : List Box) (es : Trees) (along : ℤ) (shape : Shape) : Type 0 where
  pub boxes : List Box
  pub parts : AreArraysOn domains es boxes
  pub agree : extents_agree (unsigned_abs along) boxes ≡ true
  pub small : list_any (list_any has_large_bound) (placed_parts (unsigned_abs along) boxes) ≡ false
  pub shape_is : shape ≡ array (joined_parts (placed_parts (unsigned_abs along) boxes))

pub record DomainShapes (domains : List Box) (e : Tree) (shape : Shape) : Type 0 where
  pub domain : Box
  pub part : IsArrayOn domains e domain
  pub shape_is : shape ≡ box domain

pub record IntervalShapes (domains : List Box) (e : Tree) (k : ℤ) (shape : Shape) : Type 0 where
  pub domain : Box
  pub part : IsArrayOn domains e domain
  pub axis : Interval
  pub found : interval_at domain k ≡ Some axis
  pub shape_is : shape ≡ box (axis ∷ [])

pub record BoundShapes (domains : List Box) (e : Tree) (k : ℤ) (shape : Shape) : Type 0 where
  pub domain : Box
  pub part : IsArrayOn domains e domain
  pub axis : Interval
  pub found : interval_at domain k ≡ Some axis
  pub shape_is : shape ≡ scalar

-- what the shape of the form of this span says of the shapes of the parts
abbrev pub HasPartShapes : List Box → Span → Form → Shape → Type 0
HasPartShapes domains span (iterator place) shape = IteratorShapes domains place shape
HasPartShapes domains span (binary op a b) shape = IsOperandIn domains shape a × IsOperandIn domains shape b
HasPartShapes domains span (index e axes) shape = IndexShapes domains e axes shape
HasPartShapes domains span (at_point e x) shape = OneCellShapes domains e shape
HasPartShapes domains span (choice arms other) shape = AreOperandPairsIn domains shape arms × IsOperandIn domains shape other
HasPartShapes domains span (composite es) shape = AreOperandsIn domains shape es
HasPartShapes domains span (marray x domain e) shape = MarrayShapes domains span domain e shape
HasPartShapes domains span (condense op x domain condition e) shape = CondenseShapes domains span domain condition e shape
HasPartShapes domains span (folded f e) shape = OneCellShapes domains e shape
HasPartShapes domains span (shift e offsets) shape = ShiftShapes domains e offsets shape
HasPartShapes domains span (extend e domain) shape = ExtendShapes domains span e domain shape
HasPartShapes domains span (concat es along) shape = ConcatShapes domains es along shape
HasPartShapes domains span (domain_of e) shape = DomainShapes domains e shape
HasPartShapes domains span (interval_of e k) shape = IntervalShapes domains e k shape
HasPartShapes domains span (bound_of side e k) shape = BoundShapes domains e k shape
HasPartShapes domains span other shape = Unit {0}
