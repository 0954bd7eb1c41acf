-- What forms without parts are prepared as.
use Rattle.std.specs.Prelude.{◌≡◌, ℕ, ℤ, pos, List, Option, Some, None, Ok, Err}
use Rattle.ras_cells.specs.Cells.{single}
use Rattle.ras_cells.specs.declared.cell.Cell.TheVariants.{Null}
use Rattle.spec_expressions.specs.Shape.{Bound, Box}
use Rattle.spec_expressions.specs.Tree.{NameOf}
use Rattle.ras_values.specs.declared.node.Node.{Node}
use Rattle.ras_values.specs.declared.node.Node.TheVariants as nodes
use Rattle.ras_values.specs.Variables.{FindsVariable}

abbrev pub known_node : Bound → Node
known_node (Ok z) = nodes.Constant (single z)
known_node (Err fault) = nodes.Faulty fault

abbrev pub oid_node : Option ℕ → Node
oid_node None = nodes.Constant Null
oid_node (Some oid) = nodes.Constant (single (pos oid))

abbrev pub coordinate_node : Option ℕ → ℤ → Node
coordinate_node None axis = nodes.Constant Null
coordinate_node (Some place) axis = nodes.Coordinate place axis

abbrev pub point_node : Node → Option Box → Option ℕ → Node
point_node e axes None = nodes.Constant Null
point_node e axes (Some place) = nodes.AtPoint e axes place

-- a coordinate of the variable of this name, or null
pub record CoordinateOf (name : NameOf) (names : List NameOf) (axis : ℤ) (node : Node) : Type 0 where
  pub place : Option ℕ
  pub found : FindsVariable name names place
  pub node_is : node ≡ coordinate_node place axis

-- the cell at the point of the variable of this name, or null
pub record AtPointOf (name : NameOf) (names : List NameOf) (e : Node) (axes : Option Box) (node : Node) : Type 0 where
  pub place : Option ℕ
  pub found : FindsVariable name names place
  pub node_is : node ≡ point_node e axes place
