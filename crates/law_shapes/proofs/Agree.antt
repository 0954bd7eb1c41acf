-- The shape of a well typed expression fits its kind.
use Rattle.std.proofs.Common.{◌≡◌, Ok, List, [], ◌∷◌, length, sym, subst, ◌∙◌}
use Rattle.std.specs.Prelude.{slice_get}
use Rattle.ras_syntax.specs.declared.span.Span.{Span}
use Rattle.ras_syntax.specs.declared.typed.CheckedSource.{CheckedSource}
use Rattle.ras_syntax.specs.declared.typed.Kind.{Kind}
use Rattle.spec_expressions.specs.Tree.{Tree, Form, Trees, Pairs, Domain, node, truth, number, iterator, variable, coordinate, unary, cast, binary, index, at_point, component, choice, composite, marray, condense, folded, shift, extend, concat, domain_of, interval_of, bound_of, oid, no_trees, trees, no_pairs, pairs, bounds, domain_like}
use Rattle.spec_expressions.specs.Kinds.{on_cells, type1_of, cast_type, cells_type, on_array}
use Rattle.spec_expressions.specs.Check.{iterator_kind}
use Rattle.spec_expressions.specs.WellTyped.{Variables, kind_in, kinds_in, axes_of_domain, IsWellTyped, HasKind, AreWellTyped, AreWellTypedPairs, IsWellTypedDomain}
use Rattle.spec_expressions.specs.Shape.{Box, Shape, scalar, shape_of, form_shape, iterator_shape}
use Rattle.spec_expressions.specs.Fits.{AreDomainsOf, IsShapeOf}
use Rattle.law_shapes.proofs.Outcomes.{same_ok}
use Rattle.law_shapes.proofs.Cuts.{IsBoxOf}
use Rattle.law_shapes.proofs.Parts.{AreShapesOf, ArePairShapesOf, at_point-parts, folded-parts, bound_of-parts, domain_of-parts, interval_of-parts, binary-parts, choice-parts, composite-parts}
use Rattle.law_shapes.proofs.Rules.{unary-cells, cast-cells}
use Rattle.law_shapes.proofs.Fitting.{AreOfKinds}
use Rattle.law_shapes.proofs.Sound.{shape-sound}
use Rattle.law_shapes.proofs.FittingForms.{sound-domains, fits-iterator, fits-as, fits-induced_one, fits-binary, fits-index, fits-component, pair_kinds, fits-choice, fits-composite}
use Rattle.law_shapes.proofs.FittingArrays.{array-fit, fits-folded, fits-shift, fits-concat, fits-domain_of, fits-interval_of, length-intervals, length-domain_like}
use Rattle.law_shapes.proofs.ArrayParts.{index-parts, marray-parts, condense-parts, extend-parts, shift-parts, concat-parts}

mutual
  pub shape-agrees : (sources : List CheckedSource) (variables : Variables) (domains : List Box) (tree : Tree) (shape : Shape) → IsWellTyped sources variables tree
      → AreDomainsOf sources domains → shape_of domains tree ≡ Ok shape
      → IsShapeOf (kind_in tree) shape
  shape-agrees sources variables domains (node span kind form) shape typed fits is = form-agrees sources variables domains span kind form shape typed fits is

  form-agrees : (sources : List CheckedSource) (variables : Variables) (domains : List Box) (span : Span) (kind : Kind) (form : Form) (shape : Shape)
      → HasKind sources variables kind form → AreDomainsOf sources domains
      → form_shape domains span kind form ≡ Ok shape → IsShapeOf kind shape
  form-agrees sources variables domains span kind (truth b) shape typed fits is = fits-as kind _ shape scalar typed (sym (same_ok scalar shape is)) tt
  form-agrees sources variables domains span kind (number z atom) shape typed fits is = fits-as kind _ shape scalar typed.1 (sym (same_ok scalar shape is)) tt
  form-agrees sources variables domains span kind (iterator place) shape typed fits is =
      fits-as kind (iterator_kind typed.0) shape (iterator_shape (slice_get domains place)) typed.2 (sym (same_ok (iterator_shape (slice_get domains place)) shape is))
      (fits-iterator sources domains place typed.0 fits typed.1)
  form-agrees sources variables domains span kind (variable x) shape typed fits is = fits-as kind _ shape scalar typed.2 (sym (same_ok scalar shape is)) tt
  form-agrees sources variables domains span kind (coordinate x k) shape typed fits is = fits-as kind _ shape scalar typed.3 (sym (same_ok scalar shape is)) tt
  form-agrees sources variables domains span kind (unary op e) shape typed fits is =
      fits-induced_one (on_cells (type1_of op) (kind_in e)) (kind_in e) kind shape typed.1 (unary-cells op (kind_in e)) (shape-agrees sources variables domains e shape typed.0 fits is)
  form-agrees sources variables domains span kind (cast atom e) shape typed fits is =
      fits-induced_one (on_cells (cast_type atom) (kind_in e)) (kind_in e) kind shape typed.1 (cast-cells atom (kind_in e)) (shape-agrees sources variables domains e shape typed.0 fits is)
  form-agrees sources variables domains span kind (binary op a b) shape typed fits is =
      let parts = binary-parts domains span kind op a b shape is in
      fits-binary domains span op a b kind shape typed.2 parts
      (shape-agrees sources variables domains a parts.left typed.0 fits parts.left_is) (shape-agrees sources variables domains b parts.right typed.1 fits parts.right_is)
  form-agrees sources variables domains span kind (index e axes) shape typed fits is =
      let parts = index-parts domains span kind e axes shape is in
      fits-index domains e axes typed.0 typed.1 kind shape typed.5 parts
      (subst (λ k. IsShapeOf k parts.whole) typed.4 (shape-agrees sources variables domains e parts.whole typed.2 fits parts.whole_is))
      (shape-sound domains e parts.whole (sound-domains sources domains fits) parts.whole_is)
  form-agrees sources variables domains span kind (at_point e x) shape typed fits is = fits-as kind _ shape scalar typed.5 (at_point-parts domains span kind e x shape is).1 tt
  form-agrees sources variables domains span kind (component e k) shape typed fits is =
      fits-component k (kind_in e) typed.0 kind shape typed.2 typed.3 (shape-agrees sources variables domains e shape typed.1 fits is)
  form-agrees sources variables domains span kind (choice arms other) shape typed fits is =
      let parts = choice-parts domains span kind arms other shape is in
      fits-choice domains span kind arms other shape typed.2 parts
      (pairs-agree sources variables domains arms parts.arms_shapes typed.0 fits parts.arms_are)
      (shape-agrees sources variables domains other parts.last typed.1 fits parts.last_is)
  form-agrees sources variables domains span kind (composite es) shape typed fits is =
      let parts = composite-parts domains span kind es shape is in
      fits-composite domains span kind es shape typed.1 parts (shapes-agree sources variables domains es parts.shapes typed.0 fits parts.each)
  form-agrees sources variables domains span kind (marray x domain e) shape typed fits is =
      let parts = marray-parts domains span kind x domain e shape is in
      array-fit typed.0 (axes_of_domain domain) kind parts.axes shape typed.5 parts.shape_is
      (domain-agrees sources variables domains domain parts.axes typed.1 fits parts.domain_parts.is_box) parts.size.1
  form-agrees sources variables domains span kind (condense op x domain condition e) shape typed fits is =
      fits-as kind _ shape scalar typed.6 (condense-parts domains span kind op x domain condition e shape is).shape_is tt
  form-agrees sources variables domains span kind (folded f e) shape typed fits is =
      fits-folded (on_array (cells_type f) (kind_in e)) kind shape typed.1 (folded-parts domains span kind f e shape is).1
  form-agrees sources variables domains span kind (shift e offsets) shape typed fits is =
      let parts = shift-parts domains span kind e offsets shape is in
      fits-shift domains e offsets typed.0 typed.1 kind shape parts typed.8
      (subst (λ k. IsShapeOf k parts.inner) typed.4 (shape-agrees sources variables domains e parts.inner typed.2 fits parts.inner_is))
  form-agrees sources variables domains span kind (extend e domain) shape typed fits is =
      let parts = extend-parts domains span kind e domain shape is in
      array-fit typed.0 typed.1 kind parts.axes shape typed.7 parts.shape_is
      (domain-agrees sources variables domains domain parts.axes typed.3 fits parts.domain_parts.is_box ∙ typed.5) parts.size.1
  form-agrees sources variables domains span kind (concat es along) shape typed fits is =
      let parts = concat-parts domains span kind es along shape is in
      fits-concat domains kind es along shape typed.1 parts (shapes-agree sources variables domains es parts.shapes typed.0 fits parts.each)
  form-agrees sources variables domains span kind (domain_of e) shape typed fits is =
      let parts = domain_of-parts domains span kind e shape is in
      fits-domain_of typed.0 typed.1 kind parts.0 shape typed.4 parts.2
      (subst (λ k. IsShapeOf k parts.0) typed.3 (shape-agrees sources variables domains e parts.0 typed.2 fits parts.1))
  form-agrees sources variables domains span kind (interval_of e k) shape typed fits is =
      let parts = interval_of-parts domains span kind e k shape is in
      fits-interval_of typed.0 typed.1 k kind parts.0 shape typed.5 typed.4 parts.2
      (subst (λ k. IsShapeOf k parts.0) typed.3 (shape-agrees sources variables domains e parts.0 typed.2 fits parts.1))
  form-agrees sources variables domains span kind (bound_of side e k) shape typed fits is = fits-as kind _ shape scalar typed.5 (bound_of-parts domains span kind side e k shape is).1 tt
  form-agrees sources variables domains span kind (oid a) shape typed fits is = fits-as kind _ shape scalar typed.2 (sym (same_ok scalar shape is)) tt

  pub shapes-agree : (sources : List CheckedSource) (variables : Variables) (domains : List Box) (es : Trees) (xs : List Shape) → AreWellTyped sources variables es
      → AreDomainsOf sources domains → AreShapesOf domains es xs
      → AreOfKinds (kinds_in es) xs
  shapes-agree sources variables domains no_trees [] typed fits are = tt
  shapes-agree sources variables domains no_trees (x ∷ xs) typed fits are = absurd are
  shapes-agree sources variables domains (trees e es) [] typed fits are = absurd are
  shapes-agree sources variables domains (trees e es) (x ∷ xs) typed fits are =
      (shape-agrees sources variables domains e x typed.0 fits are.0, shapes-agree sources variables domains es xs typed.1 fits are.1)

  pairs-agree : (sources : List CheckedSource) (variables : Variables) (domains : List Box) (ps : Pairs) (xs : List Shape) → AreWellTypedPairs sources variables ps
      → AreDomainsOf sources domains → ArePairShapesOf domains ps xs
      → AreOfKinds (pair_kinds ps) xs
  pairs-agree sources variables domains no_pairs [] typed fits are = tt
  pairs-agree sources variables domains no_pairs (x ∷ xs) typed fits are = absurd are
  pairs-agree sources variables domains (pairs a b ps) [] typed fits are = absurd are
  pairs-agree sources variables domains (pairs a b ps) (x ∷ []) typed fits are = absurd are
  pairs-agree sources variables domains (pairs a b ps) (x ∷ y ∷ xs) typed fits are = (
    shape-agrees sources variables domains a x typed.0 fits are.0,
    (shape-agrees sources variables domains b y typed.1 fits are.1, pairs-agree sources variables domains ps xs typed.2 fits are.2),
  )

  pub domain-agrees : (sources : List CheckedSource) (variables : Variables) (domains : List Box) (domain : Domain) (axes : Box)
      → IsWellTypedDomain sources variables domain → AreDomainsOf sources domains → IsBoxOf domains domain axes
      → length axes ≡ axes_of_domain domain
  domain-agrees sources variables domains (bounds ps) axes typed fits is = length-intervals domains ps axes is
  domain-agrees sources variables domains (domain_like e) axes typed fits is =
      length-domain_like typed.0 (kind_in e) is.0 axes typed.2 is.2 (shape-agrees sources variables domains e is.0 typed.1 fits is.1)
