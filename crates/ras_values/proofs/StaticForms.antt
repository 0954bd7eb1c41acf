-- Values of static expressions, by their forms.
use Rattle.std.proofs.Common.{◌≡◌, ℤ, List, Err, sym, ap, ap₂, ◌∙◌}
use Rattle.ras_cells.specs.declared.cell.CellFault.TheVariants.{Overflow}
use Rattle.ras_cells.specs.declared.numbers.Op1.{Op1}
use Rattle.ras_cells.specs.declared.numbers.Op2.{Op2}
use Rattle.ras_syntax.specs.declared.expr.Part.{Part}
use Rattle.ras_syntax.specs.declared.typed.TypedExpr.{TypedExpr}
use Rattle.spec_expressions.specs.Shape.{Bound, Box, shape_of, static_form, static_of}
use Rattle.spec_expressions.specs.Tree.{Form, Side, Tree, component, part_form, tree_of, unary, binary, index_form, Axes}
use Rattle.ras_shape.proofs.TreesSeen.{NodeOf}
use Rattle.ras_shape.proofs.Indexing.{index-value}
use Rattle.ras_values.specs.Heads.{IsBound}
use Rattle.ras_values.specs.Statics.{first_side, value_of_both, value_of_operand}
use Rattle.ras_values.proofs.WaysSeen.{bound_value}

pub static_by : (domains : List Box) (e : TypedExpr) (form : Form) (value : Bound) → NodeOf e form → value ≡ static_form domains form → value ≡ static_of domains (tree_of e)
static_by domains e form value tree is = is ∙ sym (ap (static_of domains) tree)

pub static_unary : (domains : List Box) (e a : TypedExpr) (op : Op1) (x value : Bound) → NodeOf e (unary op (tree_of a)) → x ≡ static_of domains (tree_of a) → value ≡ value_of_operand op x
    → value ≡ static_of domains (tree_of e)
static_unary domains e a op x value tree h is = static_by domains e (unary op (tree_of a)) value tree (is ∙ ap (value_of_operand op) h)

pub static_binary : (domains : List Box) (e a b : TypedExpr) (op : Op2) (x y value : Bound) → NodeOf e (binary op (tree_of a) (tree_of b)) → x ≡ static_of domains (tree_of a)
    → y ≡ static_of domains (tree_of b) → value ≡ value_of_both op x y → value ≡ static_of domains (tree_of e)
static_binary domains e a b op x y value tree h k is = static_by domains e (binary op (tree_of a) (tree_of b)) value tree (is ∙ ap₂ (value_of_both op) h k)

pub static_component : (domains : List Box) (e a : TypedExpr) (part : Part) (k : ℤ) → NodeOf e (part_form (tree_of a) part) → part_form (tree_of a) part ≡ component (tree_of a) k
    → Err Overflow ≡ static_of domains (tree_of e)
static_component domains e a part k tree is = static_by domains e (part_form (tree_of a) part) (Err Overflow) tree (sym (ap (static_form domains) is))

pub static_bound : (domains : List Box) (side : Side) (e a : TypedExpr) (part : Part) (value : Bound) → NodeOf e (part_form (tree_of a) part) → IsBound side (tree_of a) part
    → value ≡ first_side side (shape_of domains (tree_of a)) → value ≡ static_of domains (tree_of e)
static_bound domains side e a part value tree h is =
    static_by domains e (part_form (tree_of a) part) value tree (is ∙ bound_value domains side (tree_of a) part h ∙ sym (ap (static_form domains) h.part_is))

pub static_index : (domains : List Box) (e : TypedExpr) (a : Tree) (axes : Axes) → NodeOf e (index_form a axes) → Err Overflow ≡ static_of domains (tree_of e)
static_index domains e a axes tree = static_by domains e (index_form a axes) (Err Overflow) tree (sym (index-value domains a axes))
