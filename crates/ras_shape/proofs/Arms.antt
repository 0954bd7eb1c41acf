-- What the walk knows of each form, from its calls.
use Rattle.std.proofs.Common.{◌≡◌, ℕ, ℤ, List, Result, Ok, Err, Bool, false, refl, sym, subst, Vec, Global}
use Rattle.std.specs.Prelude.{unsigned_abs, IfOk}
use Rattle.ras_cells.specs.declared.cell.CellFault.TheVariants.{Overflow}
use Rattle.ras_cells.specs.declared.numbers.Op1.{Op1}
use Rattle.ras_cells.specs.declared.numbers.Op2.{Op2}
use Rattle.ras_cells.specs.declared.atom.Atom.{Atom}
use Rattle.ras_syntax.specs.declared.span.Span.{Span}
use Rattle.ras_syntax.specs.declared.expr.FoldOp.{FoldOp}
use Rattle.ras_syntax.specs.declared.expr.CellsFold.{CellsFold}
use Rattle.ras_syntax.specs.declared.typed.Kind.{Kind}
use Rattle.spec_expressions.specs.Tree.{NameOf, Tree, Form, Trees, Pairs, Axes, Domain, Condition, node, number, unary, cast, binary, choice, composite, marray}
use Rattle.spec_expressions.specs.Tree.{condense, folded, shift, extend, concat, domain_of}
use Rattle.spec_expressions.specs.Shape.{Box, scalar, box_of, Bound, shape_of, form_shape, shapes_of, pair_shapes, condition_shape}
use Rattle.spec_expressions.specs.Shape.{cuts_of, offsets_of, is_static_form, static_form}
use Rattle.spec_expressions.specs.Shape.{width_of_kind}
use Rattle.ras_shape.specs.declared.form.Form.{Form as Found}
use Rattle.ras_shape.specs.declared.form.ShapeError.{ShapeError}
use Rattle.ras_shape.specs.declared.form.Form.TheVariants.{Scalar}
use Rattle.ras_shape.specs.declared.ways.Way.{Way}
use Rattle.ras_shape.specs.declared.look.Look.{Look}
use Rattle.ras_shape.specs.declared.cuts.Cut.{Cut as CutFound}
use Rattle.ras_shape.specs.declared.domains.Written.{Written}
use Rattle.ras_shape.specs.Gives.{shape_of_form, GivesAs, GivesShape, FollowsAsShape, shape_seen}
use Rattle.ras_shape.specs.Looks.{Sees, IsBinaryLook, plain_look, form_seen, unary_look, number_look}
use Rattle.ras_shape.specs.Joins.{SeesDomain, binary_from, build_from, case_from, concat_from, condense_from, cuts_seen, domain_from, extend_from, index_from, marray_from, offsets_seen}
use Rattle.ras_shape.specs.Joins.{scalar_from, shapes_seen, shift_from}
use Rattle.spec_expressions.specs.Tree.{truth, variable, iterator, oid, index_form, part_form}
use Rattle.spec_expressions.specs.Shape.{iterator_shape}
use Rattle.std.specs.Prelude.{slice_get}
use Rattle.ras_syntax.specs.declared.expr.Part.{Part}
use Rattle.ras_shape.specs.Ways.{index_way_of, is_axis_of_domain, part_look, part_way_of}
use Rattle.ras_shape.proofs.Looking.{GivesForms, sees_form, sees_plain, sees_number, sees_unary, sees_binary, scalar-gives, domain-gives, build-gives, case-gives, concat-gives, shift-gives}
use Rattle.ras_shape.proofs.Looking.{marray-gives, condense-gives, extend-gives}
use Rattle.ras_shape.proofs.Indexing.{GivesCuts, sees_index, sees_part}

-- what is known of an expression, from its node
pub at_node : (domains : List Box) (x : Tree) (span : Span) (kind : Kind) (form : Form) (got : Result Look ShapeError) → x ≡ node span kind form → Sees domains (node span kind form) got
    → Sees domains x got
at_node domains x span kind form got is s = subst (λ t. Sees domains t got) (sym is) s

-- a form that isn't static, from what the code makes of its answer
plain_arm : (domains : List Box) (span : Span) (kind : Kind) (form : Form) (res : Result Found ShapeError) (got : Result Look ShapeError)
    → is_static_form form ≡ false → static_form domains form ≡ Err Overflow → GivesShape (form_shape domains span kind form) res → got ≡ plain_look res → Sees domains (node span kind form) got
plain_arm domains span kind form res got fixed value gives is = subst (Sees domains (node span kind form)) (sym is) (sees_plain domains span kind form res fixed value gives)

pub arm_iterator : (domains : List Box) (span : Span) (kind : Kind) (place : ℕ) (res : Result Found ShapeError) (got : Result Look ShapeError)
    → GivesShape (Ok (iterator_shape (slice_get domains place))) res → got ≡ plain_look res → Sees domains (node span kind (iterator place)) got
arm_iterator domains span kind place res got s is = plain_arm domains span kind (iterator place) res got refl refl (s) is

pub arm_cast : (domains : List Box) (span : Span) (kind : Kind) (atom : Atom) (e : Tree) (r : Result Look ShapeError) (res : Result Found ShapeError) (got : Result Look ShapeError)
    → Sees domains e r → res ≡ form_seen r → got ≡ plain_look res → Sees domains (node span kind (cast atom e)) got
arm_cast domains span kind atom e r res got s same is = plain_arm domains span kind (cast atom e) res got refl refl (subst (GivesShape (shape_of domains e)) (sym same) (sees_form domains e r s)) is

pub arm_folded : (domains : List Box) (span : Span) (kind : Kind) (f : CellsFold) (e : Tree) (r : Result Look ShapeError) (res : Result Found ShapeError) (got : Result Look ShapeError)
    → Sees domains e r → FollowsAsShape (scalar_from (shape_seen (form_seen r))) res → got ≡ plain_look res → Sees domains (node span kind (folded f e)) got
arm_folded domains span kind f e r res got s from is = plain_arm domains span kind (folded f e) res got refl refl (scalar-gives domains e (form_seen r) res (sees_form domains e r s) from) is

pub arm_domain : (domains : List Box) (span : Span) (kind : Kind) (e : Tree) (r : Result Look ShapeError) (res : Result Found ShapeError) (got : Result Look ShapeError)
    → Sees domains e r → FollowsAsShape (domain_from (shape_seen (form_seen r))) res → got ≡ plain_look res → Sees domains (node span kind (domain_of e)) got
arm_domain domains span kind e r res got s from is = plain_arm domains span kind (domain_of e) res got refl refl (domain-gives domains span kind e (form_seen r) res (sees_form domains e r s) from) is

pub arm_build : (domains : List Box) (span : Span) (kind : Kind) (es : Trees) (parts : Result (Vec Found Global) ShapeError) (width : ℕ) (res : Result Found ShapeError) (got : Result Look ShapeError)
    → GivesForms (shapes_of domains es) parts → width ≡ width_of_kind kind → FollowsAsShape (build_from span width (shapes_seen parts)) res → got ≡ plain_look res
    → Sees domains (node span kind (composite es)) got
arm_build domains span kind es parts width res got s same from is = plain_arm domains span kind (composite es) res got refl refl
    (build-gives domains span kind es parts res s (subst (λ n. FollowsAsShape (build_from span n (shapes_seen parts)) res) same from)) is

pub arm_case : (domains : List Box) (span : Span) (kind : Kind) (arms : Pairs) (other : Tree) (parts : Result (Vec Found Global) ShapeError) (r : Result Look ShapeError) (width : ℕ)
    (res : Result Found ShapeError) (got : Result Look ShapeError)
    → GivesForms (pair_shapes domains arms) parts → Sees domains other r → width ≡ width_of_kind kind → FollowsAsShape (case_from span width (shapes_seen parts) (shape_seen (form_seen r))) res
    → got ≡ plain_look res → Sees domains (node span kind (choice arms other)) got
arm_case domains span kind arms other parts r width res got s t same from is = plain_arm domains span kind (choice arms other) res got refl refl
    (case-gives domains span kind arms other parts (form_seen r) res s (sees_form domains other r t)
    (subst (λ n. FollowsAsShape (case_from span n (shapes_seen parts) (shape_seen (form_seen r))) res) same from)) is

pub arm_concat : (domains : List Box) (span : Span) (kind : Kind) (es : Trees) (along : ℤ) (parts : Result (Vec Found Global) ShapeError) (width : ℕ) (res : Result Found ShapeError)
    (got : Result Look ShapeError)
    → GivesForms (shapes_of domains es) parts → width ≡ width_of_kind kind → FollowsAsShape (concat_from span width (unsigned_abs along) (shapes_seen parts)) res → got ≡ plain_look res
    → Sees domains (node span kind (concat es along)) got
arm_concat domains span kind es along parts width res got s same from is = plain_arm domains span kind (concat es along) res got refl refl
    (concat-gives domains span kind es along parts res s (subst (λ n. FollowsAsShape (concat_from span n (unsigned_abs along) (shapes_seen parts)) res) same from)) is

pub arm_shift : (domains : List Box) (span : Span) (kind : Kind) (e : Tree) (offsets : Trees) (r : Result Look ShapeError) (values : Result (Vec Bound Global) ShapeError)
    (res : Result Found ShapeError) (got : Result Look ShapeError)
    → Sees domains e r → GivesAs (λ zs. zs.items) (offsets_of domains offsets) values → FollowsAsShape (shift_from span (shape_seen (form_seen r)) (offsets_seen values)) res → got ≡ plain_look res
    → Sees domains (node span kind (shift e offsets)) got
arm_shift domains span kind e offsets r values res got s t from is = plain_arm domains span kind (shift e offsets) res got refl refl
    (shift-gives domains span kind e offsets (form_seen r) values res (sees_form domains e r s) t from) is

pub arm_marray : (domains : List Box) (span : Span) (kind : Kind) (x : NameOf) (domain : Domain) (e : Tree) (d : Result Written ShapeError) (r : Result Look ShapeError) (width : ℕ)
    (res : Result Found ShapeError) (got : Result Look ShapeError)
    → SeesDomain domains domain d → Sees domains e r → width ≡ width_of_kind kind → FollowsAsShape (marray_from span width d (shape_seen (form_seen r))) res → got ≡ plain_look res
    → Sees domains (node span kind (marray x domain e)) got
arm_marray domains span kind x domain e d r width res got sd s same from is = plain_arm domains span kind (marray x domain e) res got refl refl
    (marray-gives domains span kind x domain e d (form_seen r) res sd (sees_form domains e r s) (subst (λ n. FollowsAsShape (marray_from span n d (shape_seen (form_seen r))) res) same from)) is

pub arm_condense : (domains : List Box) (span : Span) (kind : Kind) (op : FoldOp) (x : NameOf) (domain : Domain) (condition : Condition) (e : Tree) (d : Result Written ShapeError)
    (c : Result Found ShapeError) (r : Result Look ShapeError) (res : Result Found ShapeError) (got : Result Look ShapeError)
    → SeesDomain domains domain d → GivesShape (condition_shape domains condition) c → Sees domains e r → FollowsAsShape (condense_from span d (shape_seen c) (shape_seen (form_seen r))) res
    → got ≡ plain_look res → Sees domains (node span kind (condense op x domain condition e)) got
arm_condense domains span kind op x domain condition e d c r res got sd sc s from is = plain_arm domains span kind (condense op x domain condition e) res got refl refl
    (condense-gives domains span kind op x domain condition e d c (form_seen r) res sd sc (sees_form domains e r s) from) is

pub arm_extend : (domains : List Box) (span : Span) (kind : Kind) (e : Tree) (domain : Domain) (r : Result Look ShapeError) (d : Result Written ShapeError) (width : ℕ) (res : Result Found ShapeError)
    (got : Result Look ShapeError)
    → Sees domains e r → SeesDomain domains domain d → width ≡ width_of_kind kind → FollowsAsShape (extend_from span width (shape_seen (form_seen r)) d) res → got ≡ plain_look res
    → Sees domains (node span kind (extend e domain)) got
arm_extend domains span kind e domain r d width res got s sd same from is = plain_arm domains span kind (extend e domain) res got refl refl
    (extend-gives domains span kind e domain (form_seen r) d res (sees_form domains e r s) sd (subst (λ n. FollowsAsShape (extend_from span n (shape_seen (form_seen r)) d) res) same from)) is

pub arm_unary : (domains : List Box) (span : Span) (kind : Kind) (op : Op1) (e : Tree) (r got : Result Look ShapeError) → Sees domains e r → got ≡ unary_look op r
    → Sees domains (node span kind (unary op e)) got
arm_unary domains span kind op e r got s is = subst (Sees domains (node span kind (unary op e))) (sym is) (sees_unary domains span kind op e r s)

pub arm_part : (domains : List Box) (span : Span) (kind : Kind) (e : Tree) (part : Part) (r got : Result Look ShapeError)
    → Sees domains e r → got ≡ part_look (part_way_of part (is_axis_of_domain e)) r → Sees domains (node span kind (part_form e part)) got
arm_part domains span kind e part r got s is = subst (Sees domains (node span kind (part_form e part))) (sym is) (sees_part domains span kind e part r s)

-- ---- literals, names and operations on two operands

scalar_arm : (domains : List Box) (span : Span) (kind : Kind) (form : Form) (got : Result Look ShapeError)
    → is_static_form form ≡ false → static_form domains form ≡ Err Overflow → form_shape domains span kind form ≡ Ok scalar → got ≡ plain_look (Ok Scalar) → Sees domains (node span kind form) got
scalar_arm domains span kind form got fixed value shape is = plain_arm domains span kind form (Ok Scalar) got fixed value shape is

pub arm_truth : (domains : List Box) (span : Span) (kind : Kind) (b : Bool) (got : Result Look ShapeError) → got ≡ plain_look (Ok Scalar) → Sees domains (node span kind (truth b)) got
arm_truth domains span kind b got is = scalar_arm domains span kind (truth b) got refl refl refl is

pub arm_variable : (domains : List Box) (span : Span) (kind : Kind) (x : NameOf) (got : Result Look ShapeError) → got ≡ plain_look (Ok Scalar) → Sees domains (node span kind (variable x)) got
arm_variable domains span kind x got is = scalar_arm domains span kind (variable x) got refl refl refl is

pub arm_oid : (domains : List Box) (span : Span) (kind : Kind) (a : NameOf) (got : Result Look ShapeError) → got ≡ plain_look (Ok Scalar) → Sees domains (node span kind (oid a)) got
arm_oid domains span kind a got is = scalar_arm domains span kind (oid a) got refl refl refl is

pub arm_number : (domains : List Box) (span : Span) (kind : Kind) (z : ℤ) (atom : Atom) (look : Look) → look ≡ number_look z atom → Sees domains (node span kind (number z atom)) (Ok look)
arm_number domains span kind z atom look is = subst (λ l. Sees domains (node span kind (number z atom)) (Ok l)) (sym is) (sees_number domains span kind z atom)

pub arm_binary : (domains : List Box) (span : Span) (kind : Kind) (op : Op2) (a b : Tree) (ra rb got : Result Look ShapeError) → Sees domains a ra → Sees domains b rb
    → FollowsAsShape (binary_from span (shape_seen (form_seen ra)) (shape_seen (form_seen rb))) (form_seen got) → IsBinaryLook op ra rb got → Sees domains (node span kind (binary op a b)) got
arm_binary domains span kind op a b ra rb got sa sb from is = sees_binary domains span kind op a b ra rb got sa sb from is

pub arm_index : (domains : List Box) (span : Span) (kind : Kind) (e : Tree) (axes : Axes) (r : Result Look ShapeError) (form : Result Found ShapeError) (boxes : Box)
    (cuts : Result (Vec CutFound Global) ShapeError) (way : Way)
    (res : Result Found ShapeError) (got : Result Look ShapeError)
    → Sees domains e r → form ≡ form_seen r → IfOk form (λ f. boxes ≡ box_of (shape_of_form f)) → GivesCuts (cuts_of domains axes boxes) cuts → way ≡ index_way_of e axes
    → FollowsAsShape (index_from way span (shape_seen form) (cuts_seen cuts)) res → got ≡ plain_look res → Sees domains (node span kind (index_form e axes)) got
arm_index domains span kind e axes r form boxes cuts way res got s same found given by from is =
    subst (Sees domains (node span kind (index_form e axes))) (sym is)
    (sees_index domains span kind e axes form cuts res (subst (GivesShape (shape_of domains e)) (sym same) (sees_form domains e r s))
    (λ f known. subst (λ b. GivesCuts (cuts_of domains axes b) cuts) (subst (λ o. IfOk o (λ g. boxes ≡ box_of (shape_of_form g))) known found) given)
    (subst (λ w. FollowsAsShape (index_from w span (shape_seen form) (cuts_seen cuts)) res) by from))
