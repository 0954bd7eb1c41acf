-- What is known of an expression, from what is known of its parts, form by form.
use Rattle.std.proofs.Common.{◌≡◌, ℕ, ℤ, List, [], ◌∷◌, ◌++◌, map, Result, Ok, Err, false, refl, sym, ap, subst, Vec, Global, ◌∙◌}
use Rattle.std.specs.Prelude.{◌&&◌, unsigned_abs, not}
use Rattle.ras_cells.specs.declared.cell.CellFault.TheVariants.{Overflow}
use Rattle.ras_cells.specs.declared.numbers.Op1.{Op1}
use Rattle.ras_cells.specs.declared.numbers.Op1.TheVariants as one
use Rattle.ras_cells.specs.declared.numbers.Op2.{Op2}
use Rattle.ras_cells.specs.declared.numbers.Op2.TheVariants as two
use Rattle.ras_cells.specs.declared.atom.Atom.{Atom}
use Rattle.ras_cells.specs.declared.atom.Atom.TheVariants as atoms
use Rattle.ras_cells.specs.Outcomes.{◌>>=◌}
use Rattle.ras_domain.specs.Boxes.{lies_in}
use Rattle.ras_syntax.specs.declared.span.Span.{Span}
use Rattle.ras_syntax.specs.declared.expr.FoldOp.{FoldOp}
use Rattle.ras_syntax.specs.declared.typed.Kind.{Kind}
use Rattle.ras_syntax.specs.declared.faults.ShapeFault.TheVariants.{Outside}
use Rattle.spec_expressions.specs.Tree.{NameOf, Tree, Form, Trees, Pairs, Domain, Condition, node, number, unary, binary, choice, composite, marray}
use Rattle.spec_expressions.specs.Tree.{condense, shift, extend, concat, domain_of}
use Rattle.spec_expressions.specs.Shape.{Written as WrittenBounds, Box, Shape, scalar, array, box, box_of, Bound, ShapeMisfit, shape_of, form_shape, shapes_of, pair_shapes, condition_shape}
use Rattle.spec_expressions.specs.Shape.{written_of, written_box, offsets_of, is_static, is_static_form, static_form}
use Rattle.spec_expressions.specs.Shape.{common_shape, sized_shape, of_size, fault_where, moved_box, values_of, concat_shape, width_of_kind}
use Rattle.ras_shape.specs.declared.form.Form.{Form as Found}
use Rattle.ras_shape.specs.declared.form.ShapeError.{ShapeError}
use Rattle.ras_shape.specs.declared.look.Look.{Look}
use Rattle.ras_shape.specs.declared.domains.Written.{Written}
use Rattle.ras_shape.specs.Gives.{shape_of_form, GivesAs, GivesShape, FollowsAsShape, shape_seen, fault_told}
use Rattle.ras_shape.specs.Looks.{Sees, IsBinaryLook, plain_look, form_seen, is_minus, is_sum_or_product, unary_look, one_value, number_look}
use Rattle.ras_shape.specs.Joins.{SeesDomain, box_written, binary_from, build_from, case_from, concat_from, condense_from, domain_from, extend_from, marray_from, offsets_seen}
use Rattle.ras_shape.specs.Joins.{scalar_from, shapes_seen, shift_from, sized_from}
use Rattle.ras_shape.proofs.Follow.{stops_bind, first_stop, gives_told, told_bind, gives_bind, gives_step}

-- the form of a part that is seen
pub sees_form : (domains : List Box) (e : Tree) (r : Result Look ShapeError) → Sees domains e r → GivesShape (shape_of domains e) (form_seen r)
sees_form domains e (Ok look) is = is.shape
sees_form domains e (Err error) stop = stop

-- a form that isn't static
pub sees_plain : (domains : List Box) (span : Span) (kind : Kind) (form : Form) (got : Result Found ShapeError)
    → is_static_form form ≡ false → static_form domains form ≡ Err Overflow → GivesShape (form_shape domains span kind form) got
    → Sees domains (node span kind form) (plain_look got)
sees_plain domains span kind form (Ok found) fixed value is = record { shape = is; fixed = fixed; value = value }
sees_plain domains span kind form (Err error) fixed value stop = stop

-- ---- static forms

pub sees_number : (domains : List Box) (span : Span) (kind : Kind) (z : ℤ) (atom : Atom) → Sees domains (node span kind (number z atom)) (Ok (number_look z atom))
sees_number domains span kind z atoms.Wide = record { shape = refl; fixed = refl; value = refl }
sees_number domains span kind z atoms.Bool = record { shape = refl; fixed = refl; value = refl }
sees_number domains span kind z atoms.Octet = record { shape = refl; fixed = refl; value = refl }
sees_number domains span kind z atoms.Char = record { shape = refl; fixed = refl; value = refl }
sees_number domains span kind z atoms.Short = record { shape = refl; fixed = refl; value = refl }
sees_number domains span kind z atoms.Ushort = record { shape = refl; fixed = refl; value = refl }
sees_number domains span kind z atoms.Long = record { shape = refl; fixed = refl; value = refl }
sees_number domains span kind z atoms.Ulong = record { shape = refl; fixed = refl; value = refl }

static-unary : (op : Op1) (e : Tree) → is_static_form (unary op e) ≡ (is_minus op && is_static e)
static-unary one.Neg e = refl
static-unary one.Abs e = refl
static-unary one.Not e = refl

pub sees_unary : (domains : List Box) (span : Span) (kind : Kind) (op : Op1) (e : Tree) (r : Result Look ShapeError)
    → Sees domains e r → Sees domains (node span kind (unary op e)) (unary_look op r)
sees_unary domains span kind op e (Ok look) is = record {
  shape = is.shape;
  fixed = static-unary op e ∙ ap (λ b. is_minus op && b) is.fixed;
  value = ap (one_value op) is.value;
}
sees_unary domains span kind op e (Err error) stop = stop

static-binary : (op : Op2) (a b : Tree) → is_static_form (binary op a b) ≡ (is_sum_or_product op && (is_static a && is_static b))
static-binary two.Add a b = refl
static-binary two.Sub a b = refl
static-binary two.Mul a b = refl
static-binary two.Div a b = refl
static-binary two.Mod a b = refl
static-binary two.Eq a b = refl
static-binary two.Ne a b = refl
static-binary two.Lt a b = refl
static-binary two.Le a b = refl
static-binary two.Gt a b = refl
static-binary two.Ge a b = refl
static-binary two.And a b = refl
static-binary two.Or a b = refl
static-binary two.Xor a b = refl
static-binary two.Bit a b = refl
static-binary two.Overlay a b = refl

binary-gives : (domains : List Box) (span : Span) (kind : Kind) (op : Op2) (a b : Tree) (ra rb : Result Found ShapeError) (got : Result Found ShapeError)
    → GivesShape (shape_of domains a) ra → GivesShape (shape_of domains b) rb → FollowsAsShape (binary_from span (shape_seen ra) (shape_seen rb)) got
    → GivesShape (form_shape domains span kind (binary op a b)) got
binary-gives domains span kind op a b ra rb got sa sb from =
    gives_bind shape_of_form shape_of_form (shape_of domains a) ra (λ x. shape_of domains b >>= λ y. common_shape span (x ∷ y ∷ []))
    (λ x. shape_seen rb >>= λ y. fault_told (common_shape span (x ∷ y ∷ []))) got sa from
    (λ x more. gives_step shape_of_form shape_of_form (shape_of domains b) rb (λ y. common_shape span (shape_of_form x ∷ y ∷ [])) got sb more)

binary-sees : (domains : List Box) (span : Span) (kind : Kind) (op : Op2) (a b : Tree) (ra rb got : Result Look ShapeError)
    → Sees domains a ra → Sees domains b rb → GivesShape (form_shape domains span kind (binary op a b)) (form_seen got)
    → FollowsAsShape (binary_from span (shape_seen (form_seen ra)) (shape_seen (form_seen rb))) (form_seen got) → IsBinaryLook op ra rb got
    → Sees domains (node span kind (binary op a b)) got
binary-sees domains span kind op a b ra rb (Err error) sa sb gives from is = gives
binary-sees domains span kind op a b (Err error) rb (Ok look) sa sb gives from is = absurd cc
binary-sees domains span kind op a b (Ok x) (Err error) (Ok look) sa sb gives from is = absurd cc
binary-sees domains span kind op a b (Ok x) (Ok y) (Ok look) sa sb gives from is = record {
  shape = gives;
  fixed = static-binary op a b ∙ (rw (sa.fixed, sb.fixed) (sym is.0));
  value = (rw (sa.value, sb.value) refl) ∙ sym is.1;
}

pub sees_binary : (domains : List Box) (span : Span) (kind : Kind) (op : Op2) (a b : Tree) (ra rb got : Result Look ShapeError)
    → Sees domains a ra → Sees domains b rb
    → FollowsAsShape (binary_from span (shape_seen (form_seen ra)) (shape_seen (form_seen rb))) (form_seen got) → IsBinaryLook op ra rb got
    → Sees domains (node span kind (binary op a b)) got
sees_binary domains span kind op a b ra rb got sa sb from is =
    binary-sees domains span kind op a b ra rb got sa sb
    (binary-gives domains span kind op a b (form_seen ra) (form_seen rb) (form_seen got) (sees_form domains a ra sa) (sees_form domains b rb sb) from) from is

-- ---- forms with one part

pub scalar-gives : (domains : List Box) (e : Tree) (r got : Result Found ShapeError) → GivesShape (shape_of domains e) r → FollowsAsShape (scalar_from (shape_seen r)) got
    → GivesShape (shape_of domains e >>= λ inner. Ok scalar) got
scalar-gives domains e r got s from = gives_step shape_of_form shape_of_form (shape_of domains e) r (λ inner. Ok scalar) got s from

pub domain-gives : (domains : List Box) (span : Span) (kind : Kind) (e : Tree) (r got : Result Found ShapeError) → GivesShape (shape_of domains e) r
    → FollowsAsShape (domain_from (shape_seen r)) got → GivesShape (form_shape domains span kind (domain_of e)) got
domain-gives domains span kind e r got s from = gives_step shape_of_form shape_of_form (shape_of domains e) r (λ x. Ok (box (box_of x))) got s from

-- ---- forms with several parts

-- the common shape of parts, with its size
sized-gives : (span : Span) (width : ℕ) (xs : List Shape) (got : Result Found ShapeError) → FollowsAsShape (sized_from span width (fault_told (common_shape span xs))) got
    → GivesShape (common_shape span xs >>= λ x. sized_shape span width x) got
sized-gives span width xs got from =
    gives_told shape_of_form (common_shape span xs >>= λ x. sized_shape span width x) got
    (subst (λ w. FollowsAsShape w got) (told_bind (common_shape span xs) (λ x. sized_shape span width x)) from)

abbrev pub GivesForms : Result (List Shape) ShapeMisfit → Result (Vec Found Global) ShapeError → Type 0
GivesForms = GivesAs (λ forms. map shape_of_form forms.items)

pub build-gives : (domains : List Box) (span : Span) (kind : Kind) (es : Trees) (parts : Result (Vec Found Global) ShapeError) (got : Result Found ShapeError)
    → GivesForms (shapes_of domains es) parts → FollowsAsShape (build_from span (width_of_kind kind) (shapes_seen parts)) got
    → GivesShape (form_shape domains span kind (composite es)) got
build-gives domains span kind es parts got s from =
    gives_bind (λ forms. map shape_of_form forms.items) shape_of_form (shapes_of domains es) parts
    (λ xs. common_shape span xs >>= λ x. sized_shape span (width_of_kind kind) x) (λ xs. sized_from span (width_of_kind kind) (fault_told (common_shape span xs))) got s from
    (λ forms more. sized-gives span (width_of_kind kind) (map shape_of_form forms.items) got more)

pub case-gives : (domains : List Box) (span : Span) (kind : Kind) (arms : Pairs) (other : Tree) (parts : Result (Vec Found Global) ShapeError) (last got : Result Found ShapeError)
    → GivesForms (pair_shapes domains arms) parts → GivesShape (shape_of domains other) last
    → FollowsAsShape (case_from span (width_of_kind kind) (shapes_seen parts) (shape_seen last)) got → GivesShape (form_shape domains span kind (choice arms other)) got
case-gives domains span kind arms other parts last got s t from =
    gives_bind (λ forms. map shape_of_form forms.items) shape_of_form (pair_shapes domains arms) parts
    (λ xs. shape_of domains other >>= λ x. common_shape span (xs ++ x ∷ []) >>= λ common. sized_shape span (width_of_kind kind) common)
    (λ xs. shape_seen last >>= λ x. sized_from span (width_of_kind kind) (fault_told (common_shape span (xs ++ x ∷ [])))) got s from
    (λ forms more. gives_bind shape_of_form shape_of_form (shape_of domains other) last
    (λ x. common_shape span (map shape_of_form forms.items ++ x ∷ []) >>= λ common. sized_shape span (width_of_kind kind) common)
    (λ x. sized_from span (width_of_kind kind) (fault_told (common_shape span (map shape_of_form forms.items ++ x ∷ [])))) got t more
    (λ x rest. sized-gives span (width_of_kind kind) (map shape_of_form forms.items ++ shape_of_form x ∷ []) got rest))

pub concat-gives : (domains : List Box) (span : Span) (kind : Kind) (es : Trees) (along : ℤ) (parts : Result (Vec Found Global) ShapeError) (got : Result Found ShapeError)
    → GivesForms (shapes_of domains es) parts → FollowsAsShape (concat_from span (width_of_kind kind) (unsigned_abs along) (shapes_seen parts)) got
    → GivesShape (form_shape domains span kind (concat es along)) got
concat-gives domains span kind es along parts got s from =
    gives_step (λ forms. map shape_of_form forms.items) shape_of_form (shapes_of domains es) parts
    (λ xs. concat_shape span (width_of_kind kind) (unsigned_abs along) (map box_of xs)) got s from

pub shift-gives : (domains : List Box) (span : Span) (kind : Kind) (e : Tree) (offsets : Trees) (r : Result Found ShapeError) (values : Result (Vec Bound Global) ShapeError)
    (got : Result Found ShapeError)
    → GivesShape (shape_of domains e) r → GivesAs (λ zs. zs.items) (offsets_of domains offsets) values
    → FollowsAsShape (shift_from span (shape_seen r) (offsets_seen values)) got → GivesShape (form_shape domains span kind (shift e offsets)) got
shift-gives domains span kind e offsets r values got s t from =
    gives_bind shape_of_form shape_of_form (shape_of domains e) r (λ x. offsets_of domains offsets >>= λ zs. moved_box span (box_of x) (values_of zs))
    (λ x. offsets_seen values >>= λ zs. fault_told (moved_box span (box_of x) (values_of zs))) got s from
    (λ x more. gives_step (λ zs. zs.items) shape_of_form (offsets_of domains offsets) values (λ zs. moved_box span (box_of (shape_of_form x)) (values_of zs)) got t more)

-- ---- domains

-- a step that takes a domain
domain_bind : (domains : List Box) (domain : Domain) (d : Result Written ShapeError) (k : WrittenBounds → Result Shape ShapeMisfit) (h : Written → Result Shape ShapeError)
    (got : Result Found ShapeError)
    → SeesDomain domains domain d → FollowsAsShape (d >>= h) got
    → ((found : Written) (written : WrittenBounds) → ((span : Span) → written_box span written ≡ box_written span found) → FollowsAsShape (h found) got → GivesShape (k written) got)
    → GivesShape (written_of domains domain >>= k) got
domain_bind domains domain (Ok found) k h got is from next = rw is.1 (next found is.0 is.2 from)
domain_bind domains domain (Err error) k h got stop from next = first_stop shape_of_form (written_of domains domain >>= k) error got (stops_bind (written_of domains domain) k error stop) from

pub marray-gives : (domains : List Box) (span : Span) (kind : Kind) (x : NameOf) (domain : Domain) (e : Tree) (d : Result Written ShapeError) (r got : Result Found ShapeError)
    → SeesDomain domains domain d → GivesShape (shape_of domains e) r → FollowsAsShape (marray_from span (width_of_kind kind) d (shape_seen r)) got
    → GivesShape (form_shape domains span kind (marray x domain e)) got
marray-gives domains span kind x domain e d r got sd s from =
    domain_bind domains domain d
    (λ written. shape_of domains e >>= λ inner. written_box span written >>= λ axes. sized_shape span (width_of_kind kind) (array axes))
    (λ written. shape_seen r >>= λ inner. fault_told (box_written span written) >>= λ axes. fault_told (sized_shape span (width_of_kind kind) (array axes))) got sd from
    (λ found written boxes more. gives_bind shape_of_form shape_of_form (shape_of domains e) r
    (λ inner. written_box span written >>= λ axes. sized_shape span (width_of_kind kind) (array axes))
    (λ inner. fault_told (box_written span found) >>= λ axes. fault_told (sized_shape span (width_of_kind kind) (array axes))) got s more
    (λ inner rest. rw (boxes span) (gives_told shape_of_form (box_written span found >>= λ axes. sized_shape span (width_of_kind kind) (array axes)) got
    (subst (λ w. FollowsAsShape w got) (told_bind (box_written span found) (λ axes. sized_shape span (width_of_kind kind) (array axes))) rest))))

-- the points of a condense, few enough
abbrev condensed : Span → Result Box ShapeMisfit → Result Shape ShapeMisfit
condensed span axes = do
  these ← axes
  all ← of_size span 1 these
  Ok scalar

condensed-told : (span : Span) (axes : Result Box ShapeMisfit)
    → (fault_told axes >>= λ these. fault_told (of_size span 1 these) >>= λ all. Ok scalar) ≡ fault_told (condensed span axes)
condensed-told span (Ok axes) = told_bind (of_size span 1 axes) (λ all. Ok scalar)
condensed-told span (Err misfit) = refl

pub condense-gives : (domains : List Box) (span : Span) (kind : Kind) (op : FoldOp) (x : NameOf) (domain : Domain) (condition : Condition) (e : Tree) (d : Result Written ShapeError)
    (c r got : Result Found ShapeError)
    → SeesDomain domains domain d → GivesShape (condition_shape domains condition) c → GivesShape (shape_of domains e) r
    → FollowsAsShape (condense_from span d (shape_seen c) (shape_seen r)) got → GivesShape (form_shape domains span kind (condense op x domain condition e)) got
condense-gives domains span kind op x domain condition e d c r got sd sc s from =
    domain_bind domains domain d
    (λ written. condition_shape domains condition >>= λ tested. shape_of domains e >>= λ inner. condensed span (written_box span written))
    (λ written. shape_seen c >>= λ tested. shape_seen r >>= λ inner. fault_told (box_written span written) >>= λ axes. fault_told (of_size span 1 axes) >>= λ all. Ok scalar) got sd from
    (λ found written boxes more. gives_bind shape_of_form shape_of_form (condition_shape domains condition) c
    (λ tested. shape_of domains e >>= λ inner. condensed span (written_box span written))
    (λ tested. shape_seen r >>= λ inner. fault_told (box_written span found) >>= λ axes. fault_told (of_size span 1 axes) >>= λ all. Ok scalar) got sc more
    (λ tested rest. gives_bind shape_of_form shape_of_form (shape_of domains e) r
    (λ inner. condensed span (written_box span written))
    (λ inner. fault_told (box_written span found) >>= λ axes. fault_told (of_size span 1 axes) >>= λ all. Ok scalar) got s rest
    (λ inner last. rw (boxes span) (gives_told shape_of_form (condensed span (box_written span found)) got
    (subst (λ w. FollowsAsShape w got) (condensed-told span (box_written span found)) last)))))

-- the box around an array, where the array lies in it
abbrev around_box : Span → ℕ → Box → Result Box ShapeMisfit → Result Shape ShapeMisfit
around_box span width inner axes = do
  these ← axes
  around ← fault_where (not (lies_in inner these)) span Outside these
  sized_shape span width (array around)

around-told : (span : Span) (width : ℕ) (inner : Box) (axes : Result Box ShapeMisfit)
    → (fault_told axes >>= λ these. fault_told (fault_where (not (lies_in inner these)) span Outside these) >>= λ around. fault_told (sized_shape span width (array around)))
    ≡ fault_told (around_box span width inner axes)
around-told span width inner (Ok axes) = told_bind (fault_where (not (lies_in inner axes)) span Outside axes) (λ around. sized_shape span width (array around))
around-told span width inner (Err misfit) = refl

pub extend-gives : (domains : List Box) (span : Span) (kind : Kind) (e : Tree) (domain : Domain) (r : Result Found ShapeError) (d : Result Written ShapeError) (got : Result Found ShapeError)
    → GivesShape (shape_of domains e) r → SeesDomain domains domain d
    → FollowsAsShape (extend_from span (width_of_kind kind) (shape_seen r) d) got → GivesShape (form_shape domains span kind (extend e domain)) got
extend-gives domains span kind e domain r d got s sd from =
    gives_bind shape_of_form shape_of_form (shape_of domains e) r
    (λ x. written_of domains domain >>= λ written. around_box span (width_of_kind kind) (box_of x) (written_box span written))
    (λ x. d >>= λ written. fault_told (box_written span written) >>= λ these. fault_told (fault_where (not (lies_in (box_of x) these)) span Outside these) >>= λ around. fault_told
    (sized_shape span (width_of_kind kind) (array around)))
    got s from
    (λ x more. domain_bind domains domain d (λ written. around_box span (width_of_kind kind) (box_of (shape_of_form x)) (written_box span written))
    (λ written. fault_told (box_written span written) >>= λ these. fault_told (fault_where (not (lies_in (box_of (shape_of_form x)) these)) span Outside these) >>= λ around. fault_told
    (sized_shape span (width_of_kind kind) (array around)))
    got sd more
    (λ found written boxes rest. rw (boxes span) (gives_told shape_of_form (around_box span (width_of_kind kind) (box_of (shape_of_form x)) (box_written span found)) got
    (subst (λ w. FollowsAsShape w got) (around-told span (width_of_kind kind) (box_of (shape_of_form x)) (box_written span found)) rest))))
