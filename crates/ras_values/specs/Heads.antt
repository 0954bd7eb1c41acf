-- What an index and a part are, by what their operands are.
use Rattle.std.specs.Prelude.{◌≡◌, ℤ, Bool, true, false}
use Rattle.ras_syntax.specs.declared.expr.Part.{Part}
use Rattle.ras_syntax.specs.declared.span.Span.{Span}
use Rattle.ras_syntax.specs.declared.typed.Kind.{Kind}
use Rattle.spec_expressions.specs.Tree.{Tree, Form, Axes, Side, lower, upper, node, variable, domain_of, number, interval_of, bound_of, component, coordinate, at_point, index, index_form, part_form}
use Rattle.ras_shape.specs.Ways.{is_axis_form}
use Rattle.ras_values.specs.declared.heads.Head.{Head}
use Rattle.ras_values.specs.declared.heads.Head.TheVariants as heads
use Rattle.ras_values.specs.declared.heads.IndexWay.{IndexWay}
use Rattle.ras_values.specs.declared.heads.IndexWay.TheVariants as ways
use Rattle.ras_values.specs.declared.heads.PartWay.{PartWay}
use Rattle.ras_values.specs.declared.heads.PartWay.TheVariants as part_ways

-- neither a variable nor a domain nor a literal
abbrev pub has_other_head : Form → Bool
has_other_head (variable x) = false
has_other_head (domain_of e) = false
has_other_head (number z atom) = false
has_other_head other = true

abbrev pub HasFormHead : Form → Head → Type 0
HasFormHead (variable x) (heads.Variable name) = name.now ≡ x
HasFormHead (domain_of e) heads.Domain = Unit {0}
HasFormHead (number z atom) (heads.Number n) = n ≡ z
HasFormHead form heads.Other = has_other_head form ≡ true
HasFormHead form head = ⊥

abbrev pub HasHead : Tree → Head → Type 0
HasHead (node span kind form) head = HasFormHead form head

abbrev pub IsIndexWay : Tree → Axes → IndexWay → Type 0
IsIndexWay e axes (ways.Coordinate name k) = index_form e axes ≡ coordinate name.now k
IsIndexWay e axes ways.Interval = is_axis_form (index_form e axes) ≡ true
IsIndexWay e axes (ways.AtPoint name) = index_form e axes ≡ at_point e name.now
IsIndexWay e axes ways.Cells = index_form e axes ≡ index e axes

abbrev pub takes_axis : IndexWay → Bool
takes_axis ways.Interval = true
takes_axis other = false

-- the part is a bound of an axis of a domain, which the whole is
pub record IsBound (side : Side) (whole : Tree) (part : Part) : Type 0 where
  pub span : Span
  pub kind : Kind
  pub array : Tree
  pub axis : ℤ
  pub whole_is : whole ≡ node span kind (interval_of array axis)
  pub part_is : part_form whole part ≡ bound_of side array axis

abbrev pub IsPartWay : Tree → Part → PartWay → Type 0
IsPartWay whole part (part_ways.Component k) = part_form whole part ≡ component whole k
IsPartWay whole part part_ways.Lower = IsBound lower whole part
IsPartWay whole part part_ways.Upper = IsBound upper whole part
