-- Over sound boxes each expression that has a shape has one on a sound box.
use Rattle.std.proofs.Common.{◌≡◌, ℕ, ℤ, List, [], ◌∷◌, ◌++◌, map, Ok, Err, Result, Option, Some, None, All, refl, sym, subst}
use Rattle.std.specs.Prelude.{slice_get, unsigned_abs}
use Rattle.std.specs.List.{AllByRecursion}
use Rattle.ras_cells.specs.declared.atom.Atom.TheVariants.{Long}
use Rattle.ras_cells.specs.Atoms.{IsInRange}
use Rattle.ras_domain.specs.declared.region.Interval.{Interval}
use Rattle.ras_domain.specs.Region.{IsOrdered}
use Rattle.ras_syntax.specs.declared.span.Span.{Span}
use Rattle.ras_syntax.specs.declared.typed.Kind.{Kind}
use Rattle.spec_expressions.specs.Tree.{Side, lower, upper, Tree, Form, Trees, Pairs, Domain, node, truth, number, iterator, variable, coordinate, unary, cast, binary, index, at_point, component, choice, composite, marray, condense, folded, shift, extend, concat, domain_of, interval_of, bound_of, oid, no_trees, trees, no_pairs, pairs, bounds, domain_like}
use Rattle.spec_expressions.specs.Shape.{Box, Shape, scalar, ShapeMisfit, box_of, shape_of, form_shape, iterator_shape, width_of_kind, interval_at, side_of, side_of_shape, static_form, placed_parts, joined_parts}
use Rattle.spec_expressions.specs.Fits.{IsSound}
use Rattle.law_shapes.proofs.Outcomes.{same_ok}
use Rattle.law_shapes.proofs.SmallBounds.{Long-HasSmallBounds}
use Rattle.law_shapes.proofs.Cuts.{IsBoxOf}
use Rattle.law_shapes.proofs.Operands.{holds-common_shape}
use Rattle.law_shapes.proofs.Parts.{AreShapesOf, ArePairShapesOf, at_point-parts, folded-parts, bound_of-parts, domain_of-parts, interval_of-parts, binary-parts, ChoiceParts, choice-parts, composite-parts}
use Rattle.law_shapes.proofs.SoundBoxes.{IsFirm, sound-firm, firm-sound, sound-nil, small-at, sound-interval_list, sound-cut, box_of-array_or_scalar, firm-intervals, sound-shifted_by, firm-placed_parts}
use Rattle.law_lists.proofs.Each.{append_all, slice_get-All, each_map}
use Rattle.law_shapes.proofs.ArrayParts.{IndexParts, index-parts, marray-parts, condense-parts, extend-parts, ShiftParts, shift-parts, ConcatParts, concat-parts}

-- the shape has a sound box
abbrev pub IsSoundShape : Shape → Type 0
IsSoundShape x = IsSound (box_of x)

-- a scalar has a sound box
sound-scalar : (shape : Shape) → shape ≡ scalar → IsSoundShape shape
sound-scalar shape is = subst IsSoundShape (sym is) sound-nil

-- an iterator has a sound box
iterator-sound : (domains : List Box) (place : ℕ) (o : Option Box) → All IsSound domains → slice_get domains place ≡ o → IsSoundShape (iterator_shape o)
iterator-sound domains place None sound at = sound-nil
iterator-sound domains place (Some axes) sound at = slice_get-All IsSound domains place axes sound at

-- ---- the forms with several parts, from their parts

index-sound : (domains : List Box) (e : Tree) (axes : _) (shape : Shape) (parts : IndexParts domains e axes shape) → IsSoundShape parts.whole → IsSoundShape shape
index-sound domains e axes shape parts whole =
    let kept : IsSound parts.kept = sound-cut domains axes (box_of parts.whole) parts.kept parts.cut whole in
    subst IsSoundShape (sym parts.shape_is) (subst IsSound (sym (box_of-array_or_scalar parts.kept)) kept)

choice-sound : (domains : List Box) (span : Span) (width : ℕ) (arms : Pairs) (other : Tree) (shape : Shape) (parts : ChoiceParts domains span width arms other shape)
    → AllByRecursion IsSoundShape parts.arms_shapes
    → IsSoundShape parts.last → IsSoundShape shape
choice-sound domains span width arms other shape parts all last =
    holds-common_shape IsSoundShape span (parts.arms_shapes ++ parts.last ∷ []) shape sound-nil (append_all IsSoundShape parts.arms_shapes (parts.last ∷ []) all (last, tt)) parts.common

shift-sound : (domains : List Box) (e : Tree) (offsets : Trees) (shape : Shape) (parts : ShiftParts domains e offsets shape) → IsSoundShape parts.inner → IsSoundShape shape
shift-sound domains e offsets shape parts inner =
    subst IsSoundShape (sym parts.shape_is) (sound-shifted_by parts.by (box_of parts.inner) inner parts.small)

concat-sound : (domains : List Box) (width : ℕ) (es : Trees) (along : ℤ) (shape : Shape) (parts : ConcatParts domains width es along shape)
    → AllByRecursion IsSoundShape parts.shapes → IsSoundShape shape
concat-sound domains width es along shape parts all =
    let firm = firm-placed_parts (unsigned_abs along) (map box_of parts.shapes) (each_map IsSoundShape (All IsOrdered) box_of (λ x sound. sound.ordered) parts.shapes all) parts.small in
    subst IsSoundShape (sym parts.shape_is) (sound-firm (joined_parts (placed_parts (unsigned_abs along) (map box_of parts.shapes))) firm parts.size.0)

mutual
  pub shape-sound : (domains : List Box) (tree : Tree) (shape : Shape) → All IsSound domains → shape_of domains tree ≡ Ok shape → IsSound (box_of shape)
  shape-sound domains (node span kind form) shape sound is = form-sound domains span kind form shape sound is

  form-sound : (domains : List Box) (span : Span) (kind : Kind) (form : Form) (shape : Shape) → All IsSound domains → form_shape domains span kind form ≡ Ok shape → IsSound (box_of shape)
  form-sound domains span kind (truth b) shape sound is = sound-scalar shape (sym (same_ok scalar shape is))
  form-sound domains span kind (number z atom) shape sound is = sound-scalar shape (sym (same_ok scalar shape is))
  form-sound domains span kind (iterator place) shape sound is =
      subst IsSoundShape (same_ok (iterator_shape (slice_get domains place)) shape is) (iterator-sound domains place (slice_get domains place) sound refl)
  form-sound domains span kind (variable x) shape sound is = sound-scalar shape (sym (same_ok scalar shape is))
  form-sound domains span kind (coordinate x k) shape sound is = sound-scalar shape (sym (same_ok scalar shape is))
  form-sound domains span kind (unary op e) shape sound is = shape-sound domains e shape sound is
  form-sound domains span kind (cast atom e) shape sound is = shape-sound domains e shape sound is
  form-sound domains span kind (binary op a b) shape sound is =
      let parts = binary-parts domains span kind op a b shape is in
      holds-common_shape IsSoundShape span (parts.left ∷ parts.right ∷ []) shape sound-nil
      (shape-sound domains a parts.left sound parts.left_is, (shape-sound domains b parts.right sound parts.right_is, tt)) parts.common
  form-sound domains span kind (index e axes) shape sound is =
      let parts = index-parts domains span kind e axes shape is in
      index-sound domains e axes shape parts (shape-sound domains e parts.whole sound parts.whole_is)
  form-sound domains span kind (at_point e x) shape sound is = sound-scalar shape (at_point-parts domains span kind e x shape is).1
  form-sound domains span kind (component e k) shape sound is = shape-sound domains e shape sound is
  form-sound domains span kind (choice arms other) shape sound is =
      let parts = choice-parts domains span kind arms other shape is in
      choice-sound domains span (width_of_kind kind) arms other shape parts (pairs-sound domains arms parts.arms_shapes sound parts.arms_are)
      (shape-sound domains other parts.last sound parts.last_is)
  form-sound domains span kind (composite es) shape sound is =
      let parts = composite-parts domains span kind es shape is in
      holds-common_shape IsSoundShape span parts.shapes shape sound-nil (shapes-sound domains es parts.shapes sound parts.each) parts.common
  form-sound domains span kind (marray x domain e) shape sound is =
      let parts = marray-parts domains span kind x domain e shape is in
      subst IsSoundShape (sym parts.shape_is) (sound-firm parts.axes (domain-firm domains domain parts.axes sound parts.domain_parts.is_box) parts.size.0)
  form-sound domains span kind (condense op x domain condition e) shape sound is =
      sound-scalar shape (condense-parts domains span kind op x domain condition e shape is).shape_is
  form-sound domains span kind (folded f e) shape sound is = sound-scalar shape (folded-parts domains span kind f e shape is).1
  form-sound domains span kind (shift e offsets) shape sound is =
      let parts = shift-parts domains span kind e offsets shape is in
      shift-sound domains e offsets shape parts (shape-sound domains e parts.inner sound parts.inner_is)
  form-sound domains span kind (extend e domain) shape sound is =
      let parts = extend-parts domains span kind e domain shape is in
      subst IsSoundShape (sym parts.shape_is) (sound-firm parts.axes (domain-firm domains domain parts.axes sound parts.domain_parts.is_box) parts.size.0)
  form-sound domains span kind (concat es along) shape sound is =
      let parts = concat-parts domains span kind es along shape is in
      concat-sound domains (width_of_kind kind) es along shape parts (shapes-sound domains es parts.shapes sound parts.each)
  form-sound domains span kind (domain_of e) shape sound is =
      let parts = domain_of-parts domains span kind e shape is in
      subst IsSoundShape (sym parts.2) (shape-sound domains e parts.0 sound parts.1)
  form-sound domains span kind (interval_of e k) shape sound is =
      let parts = interval_of-parts domains span kind e k shape is in
      subst IsSoundShape (sym parts.2)
      (sound-interval_list (box_of parts.0) (unsigned_abs k) (interval_at (box_of parts.0) k) (shape-sound domains e parts.0 sound parts.1) refl)
  form-sound domains span kind (bound_of side e k) shape sound is = sound-scalar shape (bound_of-parts domains span kind side e k shape is).1
  form-sound domains span kind (oid a) shape sound is = sound-scalar shape (sym (same_ok scalar shape is))

  pub shapes-sound : (domains : List Box) (es : Trees) (xs : List Shape) → All IsSound domains → AreShapesOf domains es xs → AllByRecursion IsSoundShape xs
  shapes-sound domains no_trees [] sound are = tt
  shapes-sound domains no_trees (x ∷ xs) sound are = absurd are
  shapes-sound domains (trees e es) [] sound are = absurd are
  shapes-sound domains (trees e es) (x ∷ xs) sound are = (shape-sound domains e x sound are.0, shapes-sound domains es xs sound are.1)

  pairs-sound : (domains : List Box) (ps : Pairs) (xs : List Shape) → All IsSound domains → ArePairShapesOf domains ps xs → AllByRecursion IsSoundShape xs
  pairs-sound domains no_pairs [] sound are = tt
  pairs-sound domains no_pairs (x ∷ xs) sound are = absurd are
  pairs-sound domains (pairs a b ps) [] sound are = absurd are
  pairs-sound domains (pairs a b ps) (x ∷ []) sound are = absurd are
  pairs-sound domains (pairs a b ps) (x ∷ y ∷ xs) sound are =
      (shape-sound domains a x sound are.0, (shape-sound domains b y sound are.1, pairs-sound domains ps xs sound are.2))

  domain-firm : (domains : List Box) (domain : Domain) (axes : Box) → All IsSound domains → IsBoxOf domains domain axes → IsFirm axes
  domain-firm domains (bounds ps) axes sound is = firm-intervals domains ps axes is
  domain-firm domains (domain_like e) axes sound is =
      subst IsFirm (sym is.2) (firm-sound (box_of is.0) (shape-sound domains e is.0 sound is.1))

-- ---- bounds of domains

-- a bound of a sound box has 32 bits
side-small : (side : Side) (axes : Box) (place : ℕ) (o : Option Interval) (z : ℤ) → IsSound axes → slice_get axes place ≡ o → side_of side o ≡ Ok z → IsInRange Long z
side-small lower axes place None z sound at is = absurd cc
side-small upper axes place None z sound at is = absurd cc
side-small lower axes place (Some axis) z sound at is =
    subst (IsInRange Long) (same_ok axis.lo z is) (Long-HasSmallBounds axis (small-at axes place axis sound at)).0
side-small upper axes place (Some axis) z sound at is =
    subst (IsInRange Long) (same_ok axis.hi z is) (Long-HasSmallBounds axis (small-at axes place axis sound at)).1

bound-small : (domains : List Box) (side : Side) (e : Tree) (k z : ℤ) (r : Result Shape ShapeMisfit) → All IsSound domains → shape_of domains e ≡ r
    → side_of_shape side k r ≡ Ok z → IsInRange Long z
bound-small domains side e k z (Ok shape) sound is gives =
    side-small side (box_of shape) (unsigned_abs k) (interval_at (box_of shape) k) z (shape-sound domains e shape sound is) refl gives
bound-small domains side e k z (Err misfit) sound is gives = absurd cc

-- a bound of a domain is a number of 32 bits
pub bound_of-small : (domains : List Box) (side : Side) (e : Tree) (k z : ℤ) → All IsSound domains → static_form domains (bound_of side e k) ≡ Ok z → IsInRange Long z
bound_of-small domains side e k z sound is = bound-small domains side e k z (shape_of domains e) sound refl is
