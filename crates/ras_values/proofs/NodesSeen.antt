-- What a prepared expression gives, by its form.
use Rattle.std.proofs.Common.{◌≡◌, ℕ, ℤ, List, Option, sym, ap, ◌∙◌, map}
use Rattle.ras_cells.specs.declared.atom.Atom.{Atom}
use Rattle.ras_cells.specs.declared.cell.Cell.{Cell}
use Rattle.ras_cells.specs.declared.cell.CellFault.{CellFault}
use Rattle.ras_cells.specs.declared.numbers.Op1.{Op1}
use Rattle.ras_cells.specs.declared.numbers.Op2.{Op2}
use Rattle.arrayvec.specs.ArrayVec.{ArrayVec}
use Rattle.ras_syntax.specs.declared.expr.FoldOp.{FoldOp}
use Rattle.ras_syntax.specs.declared.expr.CellsFold.{CellsFold}
use Rattle.spec_expressions.specs.Shape.{Box}
use Rattle.ras_values.specs.declared.node.Node.{Node, fold-roll-Node}
use Rattle.ras_values.specs.declared.node.Node.TheOpen.{Node-F}
use Rattle.ras_values.specs.declared.node.Node.TheVariants as n
use Rattle.ras_values.specs.declared.node.Part.{Part}
use Rattle.ras_values.specs.declared.node.Position.{Position}
use Rattle.ras_values.specs.Nodes.{NodeCells, PartCells, cells_of_node, part_cells, position_cells, node_step, part_step, position_step}

pub seen_Constant : (x : Cell) → cells_of_node (n.Constant x) ≡ node_step (Node-F.Constant x)
seen_Constant x =
    ap cells_of_node (sym (n.rolls-Constant x)) ∙ fold-roll-Node NodeCells (Option NodeCells) PartCells node_step position_step part_step (Node-F.Constant x)

pub seen_Faulty : (f : CellFault) → cells_of_node (n.Faulty f) ≡ node_step (Node-F.Faulty f)
seen_Faulty f =
    ap cells_of_node (sym (n.rolls-Faulty f)) ∙ fold-roll-Node NodeCells (Option NodeCells) PartCells node_step position_step part_step (Node-F.Faulty f)

pub seen_Member : (place : ℕ) → cells_of_node (n.Member place) ≡ node_step (Node-F.Member place)
seen_Member place =
    ap cells_of_node (sym (n.rolls-Member place)) ∙ fold-roll-Node NodeCells (Option NodeCells) PartCells node_step position_step part_step (Node-F.Member place)

pub seen_Coordinate : (variable : ℕ) (axis : ℤ) → cells_of_node (n.Coordinate variable axis) ≡ node_step (Node-F.Coordinate variable axis)
seen_Coordinate variable axis =
    ap cells_of_node (sym (n.rolls-Coordinate variable axis)) ∙ fold-roll-Node NodeCells (Option NodeCells) PartCells node_step position_step part_step (Node-F.Coordinate variable axis)

pub seen_Unary : (op : Op1) (e : Node) → cells_of_node (n.Unary op e) ≡ node_step (Node-F.Unary op (cells_of_node e))
seen_Unary op e =
    ap cells_of_node (sym (n.rolls-Unary op e)) ∙ fold-roll-Node NodeCells (Option NodeCells) PartCells node_step position_step part_step (Node-F.Unary op e)

pub seen_Cast : (to : Atom) (e : Node) → cells_of_node (n.Cast to e) ≡ node_step (Node-F.Cast to (cells_of_node e))
seen_Cast to e =
    ap cells_of_node (sym (n.rolls-Cast to e)) ∙ fold-roll-Node NodeCells (Option NodeCells) PartCells node_step position_step part_step (Node-F.Cast to e)

pub seen_Binary : (op : Op2) (a b : Node) → cells_of_node (n.Binary op a b) ≡ node_step (Node-F.Binary op (cells_of_node a) (cells_of_node b))
seen_Binary op a b =
    ap cells_of_node (sym (n.rolls-Binary op a b)) ∙ fold-roll-Node NodeCells (Option NodeCells) PartCells node_step position_step part_step (Node-F.Binary op a b)

pub seen_Index : (e : Node) (axes : Option Box) (positions : List Position)
    → cells_of_node (n.Index e axes positions) ≡ node_step (Node-F.Index (cells_of_node e) axes (map position_cells positions))
seen_Index e axes positions =
    ap cells_of_node (sym (n.rolls-Index e axes positions)) ∙ fold-roll-Node NodeCells (Option NodeCells) PartCells node_step position_step part_step (Node-F.Index e axes positions)

pub seen_AtPoint : (e : Node) (axes : Option Box) (variable : ℕ) → cells_of_node (n.AtPoint e axes variable) ≡ node_step (Node-F.AtPoint (cells_of_node e) axes variable)
seen_AtPoint e axes variable =
    ap cells_of_node (sym (n.rolls-AtPoint e axes variable)) ∙ fold-roll-Node NodeCells (Option NodeCells) PartCells node_step position_step part_step (Node-F.AtPoint e axes variable)

pub seen_Component : (e : Node) (part : ℤ) → cells_of_node (n.Component e part) ≡ node_step (Node-F.Component (cells_of_node e) part)
seen_Component e part =
    ap cells_of_node (sym (n.rolls-Component e part)) ∙ fold-roll-Node NodeCells (Option NodeCells) PartCells node_step position_step part_step (Node-F.Component e part)

pub seen_If : (condition e other : Node) → cells_of_node (n.If condition e other) ≡ node_step (Node-F.If (cells_of_node condition) (cells_of_node e) (cells_of_node other))
seen_If condition e other =
    ap cells_of_node (sym (n.rolls-If condition e other)) ∙ fold-roll-Node NodeCells (Option NodeCells) PartCells node_step position_step part_step (Node-F.If condition e other)

pub seen_Composite : (es : List Node) → cells_of_node (n.Composite es) ≡ node_step (Node-F.Composite (map cells_of_node es))
seen_Composite es =
    ap cells_of_node (sym (n.rolls-Composite es)) ∙ fold-roll-Node NodeCells (Option NodeCells) PartCells node_step position_step part_step (Node-F.Composite es)

pub seen_Marray : (e : Node) → cells_of_node (n.Marray e) ≡ node_step (Node-F.Marray (cells_of_node e))
seen_Marray e =
    ap cells_of_node (sym (n.rolls-Marray e)) ∙ fold-roll-Node NodeCells (Option NodeCells) PartCells node_step position_step part_step (Node-F.Marray e)

pub seen_Condense : (op : FoldOp) (axes : Option Box) (e : Node) → cells_of_node (n.Condense op axes e) ≡ node_step (Node-F.Condense op axes (cells_of_node e))
seen_Condense op axes e =
    ap cells_of_node (sym (n.rolls-Condense op axes e)) ∙ fold-roll-Node NodeCells (Option NodeCells) PartCells node_step position_step part_step (Node-F.Condense op axes e)

pub seen_Folded : (f : CellsFold) (axes : Option Box) (e : Node) → cells_of_node (n.Folded f axes e) ≡ node_step (Node-F.Folded f axes (cells_of_node e))
seen_Folded f axes e =
    ap cells_of_node (sym (n.rolls-Folded f axes e)) ∙ fold-roll-Node NodeCells (Option NodeCells) PartCells node_step position_step part_step (Node-F.Folded f axes e)

pub seen_Shift : (e : Node) (offsets : ArrayVec ℤ) → cells_of_node (n.Shift e offsets) ≡ node_step (Node-F.Shift (cells_of_node e) offsets)
seen_Shift e offsets =
    ap cells_of_node (sym (n.rolls-Shift e offsets)) ∙ fold-roll-Node NodeCells (Option NodeCells) PartCells node_step position_step part_step (Node-F.Shift e offsets)

pub seen_Extend : (e : Node) (axes : Option Box) (zeros : Cell) → cells_of_node (n.Extend e axes zeros) ≡ node_step (Node-F.Extend (cells_of_node e) axes zeros)
seen_Extend e axes zeros =
    ap cells_of_node (sym (n.rolls-Extend e axes zeros)) ∙ fold-roll-Node NodeCells (Option NodeCells) PartCells node_step position_step part_step (Node-F.Extend e axes zeros)

pub seen_Concat : (parts : List Part) → cells_of_node (n.Concat parts) ≡ node_step (Node-F.Concat (map part_cells parts))
seen_Concat parts =
    ap cells_of_node (sym (n.rolls-Concat parts)) ∙ fold-roll-Node NodeCells (Option NodeCells) PartCells node_step position_step part_step (Node-F.Concat parts)

pub ruleset nodes_seen = (
  seen_Constant,
  seen_Faulty,
  seen_Member,
  seen_Coordinate,
  seen_Unary,
  seen_Cast,
  seen_Binary,
  seen_Index,
  seen_AtPoint,
  seen_Component,
  seen_If,
  seen_Composite,
  seen_Marray,
  seen_Condense,
  seen_Folded,
  seen_Shift,
  seen_Extend,
  seen_Concat,
)
