-- What an index and a part do, by their operands.
use Rattle.std.specs.Prelude.{Bool, true, false, if◌then◌else◌, codes, slice_get, Result, Ok, Err}
use Rattle.ras_syntax.specs.declared.expr.Part.{Part}
use Rattle.ras_syntax.specs.declared.expr.Part.TheVariants as parts
use Rattle.spec_expressions.specs.Tree.{Tree, Form, Axes, node, number, variable, domain_of, interval_of, no_axes, position, is_same_name, lower, upper}
use Rattle.spec_expressions.specs.Shape.{Bound, side_of, box_of}
use Rattle.ras_shape.specs.declared.form.Form.TheVariants as forms
use Rattle.ras_shape.specs.declared.form.ShapeError.{ShapeError}
use Rattle.ras_shape.specs.declared.look.Look.{Look}
use Rattle.ras_shape.specs.declared.ways.Head.{Head}
use Rattle.ras_shape.specs.declared.ways.Head.TheVariants as heads
use Rattle.ras_shape.specs.declared.ways.Way.{Way}
use Rattle.ras_shape.specs.declared.ways.Way.TheVariants.{Cell, Interval, Cells}
use Rattle.ras_shape.specs.declared.ways.PartWay.{PartWay}
use Rattle.ras_shape.specs.declared.ways.PartWay.TheVariants.{Component, Lower, Upper}
use Rattle.ras_shape.specs.Gives.{shape_of_form}
use Rattle.ras_shape.specs.Looks.{plain_look, form_seen}

abbrev pub head_of_form : Form → Head
head_of_form (variable x) = heads.Variable
head_of_form (domain_of e) = heads.Domain
head_of_form (number z atom) = heads.Number z
head_of_form other = heads.Other

abbrev pub head_of_tree : Tree → Head
head_of_tree (node span kind form) = head_of_form form

-- an index with one position, by the heads of the position and of its operand
abbrev pub way_between : Head → Head → Way
way_between (heads.Number z) heads.Variable = Cell
way_between (heads.Number z) heads.Domain = Interval z
way_between (heads.Number z) _ = Cells
way_between heads.Variable whole = Cell
way_between heads.Domain whole = Cells
way_between heads.Other whole = Cells

abbrev pub index_way_of : Tree → Axes → Way
index_way_of (node s k (variable x)) (position (node t l (number n atom)) no_axes) = Cell
index_way_of (node s k (domain_of e)) (position (node t l (number n atom)) no_axes) = Interval n
index_way_of e (position (node t l (variable x)) no_axes) = Cell
index_way_of e axes = Cells

-- one position and no more
abbrev pub has_one_position : Axes → Bool
has_one_position (position e no_axes) = true
has_one_position other = false

abbrev pub is_axis_form : Form → Bool
is_axis_form (interval_of e k) = true
is_axis_form other = false

abbrev pub is_axis_of_domain : Tree → Bool
is_axis_of_domain (node span kind form) = is_axis_form form

abbrev pub is_axis_way : Way → Bool
is_axis_way (Interval k) = true
is_axis_way other = false

abbrev pub part_way_of : Part → Bool → PartWay
part_way_of (parts.Numbered k) is_interval = Component
part_way_of (parts.Named name) true = if is_same_name name (codes "lo") then Lower else Upper
part_way_of (parts.Named name) false = Component

abbrev pub bound_look : Bound → Look
bound_look value = record { form = forms.Scalar; fixed = true; value = value }

-- a component, or the bound of a domain's axis
abbrev pub part_look : PartWay → Result Look ShapeError → Result Look ShapeError
part_look Component e = plain_look (form_seen e)
part_look Lower (Ok e) = Ok (bound_look (side_of lower (slice_get (box_of (shape_of_form e.form)) 0)))
part_look Lower (Err error) = Err error
part_look Upper (Ok e) = Ok (bound_look (side_of upper (slice_get (box_of (shape_of_form e.form)) 0)))
part_look Upper (Err error) = Err error
