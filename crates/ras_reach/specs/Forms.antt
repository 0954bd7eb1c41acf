-- What an index and a part are, by their operands.
use Rattle.std.specs.Prelude.{ℤ, Bool, true, false, if◌then◌else◌, codes}
use Rattle.ras_syntax.specs.declared.expr.Part.{Part}
use Rattle.ras_syntax.specs.declared.expr.Part.TheVariants as parts
use Rattle.spec_expressions.specs.Tree.{NameOf, Tree, Form, Axes, node, number, variable, domain_of, no_axes, position, is_same_name}
use Rattle.ras_reach.specs.declared.forms.Head.{Head}
use Rattle.ras_reach.specs.declared.forms.Head.TheVariants as heads
use Rattle.ras_reach.specs.declared.forms.IndexForm.{IndexForm}
use Rattle.ras_reach.specs.declared.forms.IndexForm.TheVariants as indexes
use Rattle.ras_reach.specs.declared.forms.PartForm.{PartForm}
use Rattle.ras_reach.specs.declared.forms.PartForm.TheVariants.{Component, Lower, Upper}

-- ---- heads

pub data HeadSeen : Type 0 where
  variable_head : NameOf → HeadSeen
  domain_head : HeadSeen
  number_head : ℤ → HeadSeen
  other_head : HeadSeen

abbrev pub head_seen : Head → HeadSeen
head_seen (heads.Variable x) = variable_head x.now
head_seen heads.Domain = domain_head
head_seen (heads.Number z) = number_head z
head_seen heads.Other = other_head

abbrev pub head_in : Form → HeadSeen
head_in (variable x) = variable_head x
head_in (domain_of e) = domain_head
head_in (number z atom) = number_head z
head_in other = other_head

abbrev pub head_of_node : Tree → HeadSeen
head_of_node (node span kind form) = head_in form

-- ---- indexes

pub data IndexSeen : Type 0 where
  -- a coordinate of a variable's point
  seen_coordinate : NameOf → ℤ → IndexSeen
  -- one axis of a domain
  seen_axis : IndexSeen
  -- the cell at a variable's point
  seen_at_point : NameOf → IndexSeen
  -- positions and trims
  seen_cells : IndexSeen

abbrev pub index_seen : IndexForm → IndexSeen
index_seen (indexes.Coordinate x k) = seen_coordinate x.now k
index_seen indexes.AxisOfDomain = seen_axis
index_seen (indexes.AtPoint x) = seen_at_point x.now
index_seen indexes.Cells = seen_cells

-- an index with one position, by the heads of the position and of its operand
abbrev pub head_between : HeadSeen → HeadSeen → IndexSeen
head_between (number_head z) (variable_head x) = seen_coordinate x z
head_between (number_head z) domain_head = seen_axis
head_between (number_head z) _ = seen_cells
head_between (variable_head x) whole = seen_at_point x
head_between domain_head whole = seen_cells
head_between other_head whole = seen_cells

abbrev pub index_told : Tree → Axes → IndexSeen
index_told (node s k (variable x)) (position (node t l (number n atom)) no_axes) = seen_coordinate x n
index_told (node s k (domain_of e)) (position (node t l (number n atom)) no_axes) = seen_axis
index_told e (position (node t l (variable x)) no_axes) = seen_at_point x
index_told e axes = seen_cells

-- ---- parts

abbrev pub axis_in_index : IndexSeen → Bool
axis_in_index seen_axis = true
axis_in_index other = false

abbrev pub part_told : Part → Bool → PartForm
part_told (parts.Numbered k) is_axis = Component
part_told (parts.Named name) true = if is_same_name name (codes "lo") then Lower else Upper
part_told (parts.Named name) false = Component
