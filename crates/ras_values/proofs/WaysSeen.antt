-- What the forms that are written as an index or a part are, by what their operands are.
use Rattle.std.proofs.Common.{◌≡◌, ℕ, ℤ, pos, Bor, List, Bool, true, false, Result, Ok, Err, Option, Some, None, refl, sym, ap, subst, ◌∙◌, length, ◌≢◌}
use Rattle.std.specs.Prelude.{if◌then◌else◌, codes, slice_get}
use Rattle.ras_cells.specs.declared.atom.Atom.{Atom}
use Rattle.ras_cells.specs.Outcomes.{◌>>=◌}
use Rattle.ras_domain.specs.declared.region.Interval.{Interval}
use Rattle.ras_syntax.specs.declared.expr.Part.{Part}
use Rattle.ras_syntax.specs.declared.expr.Part.TheVariants as parts
use Rattle.ras_syntax.specs.declared.span.Span.{Span}
use Rattle.ras_syntax.specs.declared.typed.Kind.{Kind}
use Rattle.ras_syntax.specs.declared.typed.TypedExpr.{TypedExpr, out-TypedExpr}
use Rattle.spec_expressions.specs.Tree.{NameOf, tree_of, Tree, Form, Axes, Side, lower, upper, node, variable, domain_of, number, interval_of, bound_of}
use Rattle.spec_expressions.specs.Tree.{component, at_point, index, index_form, part_form, no_axes, position, is_same_name}
use Rattle.spec_expressions.specs.Shape.{Box, Shape, ShapeMisfit, box, box_of, shape_of, side_of, side_of_shape, interval_at, interval_list}
use Rattle.ras_shape.specs.Ways.{has_one_position, is_axis_form, is_axis_of_domain}
use Rattle.ras_shape.proofs.TreesSeen.{NodeOf}
use Rattle.ras_shape.proofs.Indexing.{one_axis}
use Rattle.ras_syntax.specs.declared.typed.TypedAxis.{TypedAxis}
use Rattle.spec_expressions.specs.Check.{tree_of_axes}
use Rattle.ras_values.specs.declared.heads.Head.{Head}
use Rattle.ras_values.specs.declared.heads.Head.TheVariants as heads
use Rattle.ras_values.specs.declared.heads.IndexWay.{IndexWay}
use Rattle.ras_values.specs.declared.heads.IndexWay.TheVariants as ways
use Rattle.ras_values.specs.Heads.{HasFormHead, HasHead, IsBound, IsIndexWay, has_other_head, takes_axis}
use Rattle.ras_values.specs.Statics.{first_side}

-- ---- heads

pub at_tree : (t other : Tree) (head : Head) → t ≡ other → HasHead other head → HasHead t head
at_tree t other head is h = subst (λ t. HasHead t head) (sym is) h

pub head_by : (e : TypedExpr) (t : Tree) (form : Form) (head : Head) → t ≡ node (out-TypedExpr e).span (out-TypedExpr e).kind form → HasFormHead form head → HasHead t head
head_by e t form head is h = subst (λ t. HasHead t head) (sym is) h

pub index_other : (s : Span) (kind : Kind) (e : Tree) (axes : Axes) → HasHead (node s kind (index_form e axes)) heads.Other
index_other s kind (node t k (variable x)) (position (node u l (number n atom)) no_axes) = refl
index_other s kind (node t k (domain_of e)) (position (node u l (number n atom)) no_axes) = refl
index_other s kind e (position (node u l (variable x)) no_axes) = refl
index_other s kind e axes = refl

pub part_other : (s : Span) (kind : Kind) (e : Tree) (part : Part) → HasHead (node s kind (part_form e part)) heads.Other
part_other s kind (node t k (interval_of e n)) (parts.Named name) =
    elim (is_same_name name (codes "lo")) as (λ b. HasHead (node s kind (if b then bound_of lower e n else bound_of upper e n)) heads.Other) [ true ↦ refl | false ↦ refl ]
part_other s kind e (parts.Named name) = refl
part_other s kind e (parts.Numbered n) = refl

-- ---- ways of an index

-- the way by the heads of a position and of the whole
abbrev pub WayIs : Tree → Tree → IndexWay → Type 0
WayIs t e way = IsIndexWay e (position t no_axes) way

variable-head : (form : Form) (name : Bor (List ℕ)) → HasFormHead form (heads.Variable name) → form ≡ variable name.now
variable-head (variable x) name h = ap variable (sym h)
variable-head (domain_of e) name h = absurd h
variable-head (number z atom) name h = absurd h
variable-head other name h = absurd h

number-head : (form : Form) (k : ℤ) → HasFormHead form (heads.Number k) → (atom : Atom) × (form ≡ number k atom)
number-head (variable x) k h = absurd h
number-head (domain_of e) k h = absurd h
number-head (number z atom) k h = (atom, ap (λ z. number z atom) (sym h))
number-head other k h = absurd h

domain-head : (form : Form) → HasFormHead form heads.Domain → (e : Tree) × (form ≡ domain_of e)
domain-head (variable x) h = absurd h
domain-head (domain_of e) h = (e, refl)
domain-head (number z atom) h = absurd h
domain-head other h = absurd h

other-head : (form : Form) → HasFormHead form heads.Other → has_other_head form ≡ true
other-head (variable x) h = h
other-head (domain_of e) h = h
other-head (number z atom) h = h
other-head other h = h

pub way_coordinate : (e t : Tree) (name : Bor (List ℕ)) (k : ℤ) → HasHead t (heads.Number k) → HasHead e (heads.Variable name) → WayIs t e (ways.Coordinate name k)
way_coordinate (node s i f) (node u l g) name k ht he = rw ((number-head g k ht).1, variable-head f name he) refl

pub way_interval : (e t : Tree) (k : ℤ) → HasHead t (heads.Number k) → HasHead e heads.Domain → WayIs t e ways.Interval
way_interval (node s i f) (node u l g) k ht he = rw ((number-head g k ht).1, (domain-head f he).1) refl

at-index : (e : Tree) (u : Span) (l : Kind) (x : NameOf) → index_form e (position (node u l (variable x)) no_axes) ≡ at_point e x
at-index (node s k (variable y)) u l x = refl
at-index (node s k (domain_of d)) u l x = refl
at-index e u l x = refl

pub way_point : (e t : Tree) (name : Bor (List ℕ)) → HasHead t (heads.Variable name) → WayIs t e (ways.AtPoint name)
way_point e (node u l g) name ht = rw (variable-head g name ht) (at-index e u l name.now)

-- neither a variable nor a literal
abbrev is_plain : Form → Bool
is_plain (variable x) = false
is_plain (number z atom) = false
is_plain other = true

cells-position : (e : Tree) (u : Span) (l : Kind) (g : Form) → is_plain g ≡ true → index_form e (position (node u l g) no_axes) ≡ index e (position (node u l g) no_axes)
cells-position (node s k (variable y)) u l (number n atom) is = absurd cc
cells-position (node s k (variable y)) u l (variable x) is = absurd cc
cells-position (node s k (variable y)) u l g is = refl
cells-position (node s k (domain_of d)) u l (number n atom) is = absurd cc
cells-position (node s k (domain_of d)) u l (variable x) is = absurd cc
cells-position (node s k (domain_of d)) u l g is = refl
cells-position e u l (variable x) is = absurd cc
cells-position e u l (number n atom) is = absurd cc
cells-position e u l g is = refl

plain-other : (form : Form) → has_other_head form ≡ true → is_plain form ≡ true
plain-other (variable x) is = is
plain-other (number z atom) is = is
plain-other (domain_of e) is = refl
plain-other other is = refl

pub way_domain : (e t : Tree) → HasHead t heads.Domain → WayIs t e ways.Cells
way_domain e (node u l g) ht = let h = domain-head g ht in rw h.1 (cells-position e u l (domain_of h.0) refl)

pub way_other : (e t : Tree) → HasHead t heads.Other → WayIs t e ways.Cells
way_other e (node u l g) ht = cells-position e u l g (plain-other g (other-head g ht))

-- neither a variable nor a domain
abbrev is_whole : Form → Bool
is_whole (variable x) = false
is_whole (domain_of e) = false
is_whole other = true

whole-other : (form : Form) → has_other_head form ≡ true → is_whole form ≡ true
whole-other (variable x) is = is
whole-other (domain_of e) is = is
whole-other (number z atom) is = refl
whole-other other is = refl

cells-whole : (s : Span) (k : Kind) (f : Form) (u : Span) (l : Kind) (n : ℤ) (atom : Atom) → is_whole f ≡ true
    → index_form (node s k f) (position (node u l (number n atom)) no_axes) ≡ index (node s k f) (position (node u l (number n atom)) no_axes)
cells-whole s k (variable y) u l n atom is = absurd cc
cells-whole s k (domain_of d) u l n atom is = absurd cc
cells-whole s k f u l n atom is = refl

pub way_number : (e t : Tree) (j k : ℤ) → HasHead t (heads.Number j) → HasHead e (heads.Number k) → WayIs t e ways.Cells
way_number (node s i f) (node u l g) j k ht he =
    let t = number-head g j ht in let e = number-head f k he in rw (t.1, e.1) refl

pub way_number_other : (e t : Tree) (j : ℤ) → HasHead t (heads.Number j) → HasHead e heads.Other → WayIs t e ways.Cells
way_number_other (node s i f) (node u l g) j ht he =
    let t = number-head g j ht in rw t.1 (cells-whole s i f u l j t.0 (whole-other f (other-head f he)))

pub way_more : (e : Tree) (axes : Axes) → has_one_position axes ≡ false → IsIndexWay e axes ways.Cells
way_more (node s k (variable x)) (position (node t l (number n atom)) no_axes) other = absurd cc
way_more (node s k (domain_of e)) (position (node t l (number n atom)) no_axes) other = absurd cc
way_more e (position (node t l (variable x)) no_axes) other = absurd cc
way_more e axes other = refl

pub way_axis : (e : Tree) (axes : Axes) (way : IndexWay) → IsIndexWay e axes way → takes_axis way ≡ is_axis_form (index_form e axes)
way_axis e axes (ways.Coordinate name k) h = sym (ap is_axis_form h)
way_axis e axes ways.Interval h = sym h
way_axis e axes (ways.AtPoint name) h = sym (ap is_axis_form h)
way_axis e axes ways.Cells h = sym (ap is_axis_form h)

pub axis_by : (x e : TypedExpr) (axes : Axes) (way : IndexWay) (b : Bool) → NodeOf x (index_form (tree_of e) axes) → IsIndexWay (tree_of e) axes way → b ≡ takes_axis way
    → b ≡ is_axis_of_domain (tree_of x)
axis_by x e axes way b tree h is = is ∙ way_axis (tree_of e) axes way h ∙ sym (ap is_axis_of_domain tree)

-- ---- parts

pub part_numbered : (e : Tree) (k : ℤ) → part_form e (parts.Numbered k) ≡ component e k
part_numbered (node s l (interval_of e n)) k = refl
part_numbered e k = refl

pub part_plain : (e : Tree) (name : NameOf) → is_axis_of_domain e ≡ false → part_form e (parts.Named name) ≡ component e (pos 0)
part_plain (node s k (interval_of e n)) name is = absurd cc
part_plain e name is = refl

pub bound_lower : (e : Tree) (name : NameOf) → is_axis_of_domain e ≡ true → is_same_name name (codes "lo") ≡ true → IsBound lower e (parts.Named name)
bound_lower (node s k (interval_of e n)) name is same = record { span = s; kind = k; array = e; axis = n; whole_is = refl; part_is = rw same refl }
bound_lower e name is same = absurd cc

pub bound_upper : (e : Tree) (name : NameOf) → is_axis_of_domain e ≡ true → is_same_name name (codes "lo") ≡ false → IsBound upper e (parts.Named name)
bound_upper (node s k (interval_of e n)) name is same = record { span = s; kind = k; array = e; axis = n; whole_is = refl; part_is = rw same refl }
bound_upper e name is same = absurd cc

-- the bound is that of the first axis of the whole
side-list : (side : Side) (axis : Option Interval) → side_of side (slice_get (interval_list axis) 0) ≡ side_of side axis
side-list lower None = refl
side-list upper None = refl
side-list lower (Some axis) = refl
side-list upper (Some axis) = refl

side-first : (side : Side) (n : ℤ) (r : Result Shape ShapeMisfit) → first_side side (r >>= λ x. Ok (box (interval_list (interval_at (box_of x) n)))) ≡ side_of_shape side n r
side-first side n (Ok x) = side-list side (interval_at (box_of x) n)
side-first side n (Err m) = refl

pub bound_value : (domains : List Box) (side : Side) (whole : Tree) (part : Part) (h : IsBound side whole part)
    → first_side side (shape_of domains whole) ≡ side_of_shape side h.axis (shape_of domains h.array)
bound_value domains side whole part h =
    ap (λ t. first_side side (shape_of domains t)) h.whole_is ∙ side-first side h.axis (shape_of domains h.array)

-- where there is not one axis, there is not one position
pub one_axis_only : (axes : List TypedAxis) → length axes ≢ 1 → has_one_position (tree_of_axes axes) ≡ false
one_axis_only = one_axis

pub ruleset ways_between = (way_coordinate, way_interval, way_point, way_domain, way_other, way_number, way_number_other)

pub ruleset part_ways_seen = (part_numbered, part_plain, bound_lower, bound_upper)
