-- What the forms that are written as an index or a part are, by what their operands are.
use Rattle.std.proofs.Common.{◌≡◌, true, false, refl}
use Rattle.std.specs.Prelude.{if◌then◌else◌, codes}
use Rattle.ras_syntax.specs.declared.span.Span.{Span}
use Rattle.ras_syntax.specs.declared.expr.Part.{Part}
use Rattle.ras_syntax.specs.declared.expr.Part.TheVariants as parts
use Rattle.ras_syntax.specs.declared.typed.Kind.{Kind}
use Rattle.spec_expressions.specs.Tree.{Tree, Axes, lower, upper, node, variable}
use Rattle.spec_expressions.specs.Tree.{number, domain_of, interval_of, bound_of, no_axes, position, index_form, part_form}
use Rattle.spec_expressions.specs.Tree.{is_same_name}
use Rattle.ras_shape.specs.Ways.{has_one_position, is_axis_of_domain}
use Rattle.ras_reach.specs.Forms.{head_of_node, other_head, head_between, seen_cells, index_told, axis_in_index}

-- ---- heads and axes

pub index_head : (s : Span) (kind : Kind) (e : Tree) (axes : Axes) → head_of_node (node s kind (index_form e axes)) ≡ other_head
index_head s kind (node t k (variable x)) (position (node u l (number n atom)) no_axes) = refl
index_head s kind (node t k (domain_of e)) (position (node u l (number n atom)) no_axes) = refl
index_head s kind e (position (node u l (variable x)) no_axes) = refl
index_head s kind e axes = refl

pub part_head : (s : Span) (kind : Kind) (e : Tree) (part : Part) → head_of_node (node s kind (part_form e part)) ≡ other_head
part_head s kind (node t k (interval_of e n)) (parts.Named name) =
    elim (is_same_name name (codes "lo")) as (λ b. head_of_node (node s kind (if b then bound_of lower e n else bound_of upper e n)) ≡ other_head) [ true ↦ refl | false ↦ refl ]
part_head s kind e (parts.Named name) = refl
part_head s kind e (parts.Numbered n) = refl

-- by the heads of its parts, where there is one position, and where there is none or more
pub told_by_heads : (e t : Tree) → index_told e (position t no_axes) ≡ head_between (head_of_node t) (head_of_node e)
told_by_heads (node s k (variable x)) (node t l (number n atom)) = refl
told_by_heads (node s k (domain_of e)) (node t l (number n atom)) = refl
told_by_heads e (node t l (variable x)) = refl
told_by_heads e t = refl

pub told_as_cells : (e : Tree) (axes : Axes) → has_one_position axes ≡ false → index_told e axes ≡ seen_cells
told_as_cells (node s k (variable x)) (position (node t l (number n atom)) no_axes) other = absurd cc
told_as_cells (node s k (domain_of e)) (position (node t l (number n atom)) no_axes) other = absurd cc
told_as_cells e (position (node t l (variable x)) no_axes) other = absurd cc
told_as_cells e axes other = refl

pub index_axis : (s : Span) (kind : Kind) (e : Tree) (axes : Axes) → is_axis_of_domain (node s kind (index_form e axes)) ≡ axis_in_index (index_told e axes)
index_axis s kind (node t k (variable x)) (position (node u l (number n atom)) no_axes) = refl
index_axis s kind (node t k (domain_of e)) (position (node u l (number n atom)) no_axes) = refl
index_axis s kind e (position (node u l (variable x)) no_axes) = refl
index_axis s kind e axes = refl
