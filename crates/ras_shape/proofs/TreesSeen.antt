-- What the tree of an expression is, by its form.
use Rattle.std.proofs.Common.{◌≡◌, ℕ, ℤ, List, Bool, Option, Some, None, sym, ap, ◌∙◌}
use Rattle.std.specs.Prelude.{option_map}
use Rattle.ras_cells.specs.declared.atom.Atom.{Atom}
use Rattle.ras_cells.specs.declared.numbers.Op1.{Op1}
use Rattle.ras_cells.specs.declared.numbers.Op2.{Op2}
use Rattle.ras_syntax.specs.declared.expr.Part.{Part}
use Rattle.ras_syntax.specs.declared.expr.FoldOp.{FoldOp}
use Rattle.ras_syntax.specs.declared.expr.CellsFold.{CellsFold}
use Rattle.ras_syntax.specs.declared.span.Spanned.{Spanned}
use Rattle.ras_syntax.specs.declared.typed.TypedAxis.{TypedAxis}
use Rattle.ras_syntax.specs.declared.typed.TypedDomain.{TypedDomain}
use Rattle.ras_syntax.specs.declared.typed.TypedAxis.TheOpen.{TypedForm-F}
use Rattle.ras_syntax.specs.declared.typed.TypedExpr.{TypedExpr, out-TypedExpr, fold_out-TypedExpr}
use Rattle.ras_syntax.specs.declared.typed.TypedForm.{TypedForm, fold-TypedForm, fold-roll-TypedForm}
use Rattle.ras_syntax.specs.declared.typed.TypedForm.TheVariants as typed
use Rattle.spec_expressions.specs.Check.{tree_of_axes}
use Rattle.spec_expressions.specs.Tree.{NameOf, Tree, Form, Axes, Domain, node, truth, number, iterator, variable, unary, cast, binary, choice, composite, marray, condense, folded, shift, extend}
use Rattle.spec_expressions.specs.Tree.{concat, domain_of, oid, index_form, part_form, condition_of, tree_of, axis_tree_step, domain_tree_step, form_tree_step, expr_tree_step}
use Rattle.ras_shape.specs.Trees.{domain_looked_at, trees_seen, pairs_seen}
use Rattle.ras_shape.specs.declared.ways.Head.TheVariants.{Other}
use Rattle.ras_shape.specs.declared.ways.Way.{Way}
use Rattle.ras_shape.specs.Ways.{head_of_tree, index_way_of, is_axis_of_domain, is_axis_way}
use Rattle.ras_shape.proofs.Indexing.{index_head, index_axis}

abbrev pub form_within : TypedForm → Form
form_within = fold-TypedForm (Axes → Axes) Domain Form Tree axis_tree_step domain_tree_step form_tree_step expr_tree_step

abbrev pub NodeOf : TypedExpr → Form → Type 0
NodeOf x form = tree_of x ≡ node (out-TypedExpr x).span (out-TypedExpr x).kind form

pub node_is : (x : TypedExpr) (f : TypedForm) (form : Form) → (out-TypedExpr x).form ≡ f → form_within f ≡ form → NodeOf x form
node_is x f form is same =
    fold_out-TypedExpr (Axes → Axes) Domain Form Tree axis_tree_step domain_tree_step form_tree_step expr_tree_step x
    ∙ ap (node (out-TypedExpr x).span (out-TypedExpr x).kind) (ap form_within is ∙ same)

pub node_Bool : (x : TypedExpr) (b : Bool) → (out-TypedExpr x).form ≡ typed.Bool b → NodeOf x (truth b)
node_Bool x b is =
    node_is x (typed.Bool b) (truth b) is
    (ap form_within (sym (typed.rolls-Bool b))
    ∙ fold-roll-TypedForm (Axes → Axes) Domain Form Tree axis_tree_step domain_tree_step form_tree_step expr_tree_step (TypedForm-F.Bool b))

pub node_Number : (x : TypedExpr) (z : ℤ) (atom : Atom) → (out-TypedExpr x).form ≡ typed.Number z atom → NodeOf x (number z atom)
node_Number x z atom is =
    node_is x (typed.Number z atom) (number z atom) is
    (ap form_within (sym (typed.rolls-Number z atom))
    ∙ fold-roll-TypedForm (Axes → Axes) Domain Form Tree axis_tree_step domain_tree_step form_tree_step expr_tree_step (TypedForm-F.Number z atom))

pub node_Iterator : (x : TypedExpr) (name : NameOf) (place : ℕ) → (out-TypedExpr x).form ≡ typed.Iterator name place → NodeOf x (iterator place)
node_Iterator x name place is =
    node_is x (typed.Iterator name place) (iterator place) is
    (ap form_within (sym (typed.rolls-Iterator name place))
    ∙ fold-roll-TypedForm (Axes → Axes) Domain Form Tree axis_tree_step domain_tree_step form_tree_step expr_tree_step (TypedForm-F.Iterator name place))

pub node_Variable : (x : TypedExpr) (name : NameOf) → (out-TypedExpr x).form ≡ typed.Variable name → NodeOf x (variable name)
node_Variable x name is =
    node_is x (typed.Variable name) (variable name) is
    (ap form_within (sym (typed.rolls-Variable name))
    ∙ fold-roll-TypedForm (Axes → Axes) Domain Form Tree axis_tree_step domain_tree_step form_tree_step expr_tree_step (TypedForm-F.Variable name))

pub node_Unary : (x : TypedExpr) (op : Op1) (e : TypedExpr) → (out-TypedExpr x).form ≡ typed.Unary op e → NodeOf x (unary op (tree_of e))
node_Unary x op e is =
    node_is x (typed.Unary op e) (unary op (tree_of e)) is
    (ap form_within (sym (typed.rolls-Unary op e))
    ∙ fold-roll-TypedForm (Axes → Axes) Domain Form Tree axis_tree_step domain_tree_step form_tree_step expr_tree_step (TypedForm-F.Unary op e))

pub node_Cast : (x : TypedExpr) (to : Atom) (e : TypedExpr) → (out-TypedExpr x).form ≡ typed.Cast to e → NodeOf x (cast to (tree_of e))
node_Cast x to e is =
    node_is x (typed.Cast to e) (cast to (tree_of e)) is
    (ap form_within (sym (typed.rolls-Cast to e))
    ∙ fold-roll-TypedForm (Axes → Axes) Domain Form Tree axis_tree_step domain_tree_step form_tree_step expr_tree_step (TypedForm-F.Cast to e))

pub node_Binary : (x : TypedExpr) (op : Op2) (a b : TypedExpr) → (out-TypedExpr x).form ≡ typed.Binary op a b → NodeOf x (binary op (tree_of a) (tree_of b))
node_Binary x op a b is =
    node_is x (typed.Binary op a b) (binary op (tree_of a) (tree_of b)) is
    (ap form_within (sym (typed.rolls-Binary op a b))
    ∙ fold-roll-TypedForm (Axes → Axes) Domain Form Tree axis_tree_step domain_tree_step form_tree_step expr_tree_step (TypedForm-F.Binary op a b))

pub node_Index : (x : TypedExpr) (e : TypedExpr) (axes : List TypedAxis) → (out-TypedExpr x).form ≡ typed.Index e axes → NodeOf x (index_form (tree_of e) (tree_of_axes axes))
node_Index x e axes is =
    node_is x (typed.Index e axes) (index_form (tree_of e) (tree_of_axes axes)) is
    (ap form_within (sym (typed.rolls-Index e axes))
    ∙ fold-roll-TypedForm (Axes → Axes) Domain Form Tree axis_tree_step domain_tree_step form_tree_step expr_tree_step (TypedForm-F.Index e axes))

pub node_Part : (x : TypedExpr) (e : TypedExpr) (part : Part) → (out-TypedExpr x).form ≡ typed.Part e part → NodeOf x (part_form (tree_of e) part)
node_Part x e part is =
    node_is x (typed.Part e part) (part_form (tree_of e) part) is
    (ap form_within (sym (typed.rolls-Part e part))
    ∙ fold-roll-TypedForm (Axes → Axes) Domain Form Tree axis_tree_step domain_tree_step form_tree_step expr_tree_step (TypedForm-F.Part e part))

pub node_Case : (x : TypedExpr) (arms : List (TypedExpr × TypedExpr)) (other : TypedExpr) → (out-TypedExpr x).form ≡ typed.Case arms other → NodeOf x (choice (pairs_seen arms) (tree_of other))
node_Case x arms other is =
    node_is x (typed.Case arms other) (choice (pairs_seen arms) (tree_of other)) is
    (ap form_within (sym (typed.rolls-Case arms other))
    ∙ fold-roll-TypedForm (Axes → Axes) Domain Form Tree axis_tree_step domain_tree_step form_tree_step expr_tree_step (TypedForm-F.Case arms other))

pub node_Build : (x : TypedExpr) (es : List TypedExpr) → (out-TypedExpr x).form ≡ typed.Build es → NodeOf x (composite (trees_seen es))
node_Build x es is =
    node_is x (typed.Build es) (composite (trees_seen es)) is
    (ap form_within (sym (typed.rolls-Build es))
    ∙ fold-roll-TypedForm (Axes → Axes) Domain Form Tree axis_tree_step domain_tree_step form_tree_step expr_tree_step (TypedForm-F.Build es))

pub node_Marray : (x : TypedExpr) (v : Spanned) (domain : TypedDomain) (e : TypedExpr) → (out-TypedExpr x).form ≡ typed.Marray v domain e
    → NodeOf x (marray v.name (domain_looked_at domain) (tree_of e))
node_Marray x v domain e is =
    node_is x (typed.Marray v domain e) (marray v.name (domain_looked_at domain) (tree_of e)) is
    (ap form_within (sym (typed.rolls-Marray v domain e))
    ∙ fold-roll-TypedForm (Axes → Axes) Domain Form Tree axis_tree_step domain_tree_step form_tree_step expr_tree_step (TypedForm-F.Marray v domain e))

pub node_Condense : (x : TypedExpr) (op : FoldOp) (v : Spanned) (domain : TypedDomain) (test : Option TypedExpr) (e : TypedExpr) → (out-TypedExpr x).form ≡ typed.Condense op v domain test e
    → NodeOf x (condense op v.name (domain_looked_at domain) (condition_of (option_map tree_of test)) (tree_of e))
node_Condense x op v domain None e is =
    node_is x (typed.Condense op v domain None e) (condense op v.name (domain_looked_at domain) (condition_of (option_map tree_of None)) (tree_of e)) is
    (ap form_within (sym (typed.rolls-Condense op v domain None e))
    ∙ fold-roll-TypedForm (Axes → Axes) Domain Form Tree axis_tree_step domain_tree_step form_tree_step expr_tree_step (TypedForm-F.Condense op v domain None e))
node_Condense x op v domain (Some t) e is =
    node_is x (typed.Condense op v domain (Some t) e) (condense op v.name (domain_looked_at domain) (condition_of (option_map tree_of (Some t))) (tree_of e)) is
    (ap form_within (sym (typed.rolls-Condense op v domain (Some t) e))
    ∙ fold-roll-TypedForm (Axes → Axes) Domain Form Tree axis_tree_step domain_tree_step form_tree_step expr_tree_step (TypedForm-F.Condense op v domain (Some t) e))

pub node_Cells : (x : TypedExpr) (f : CellsFold) (e : TypedExpr) → (out-TypedExpr x).form ≡ typed.Cells f e → NodeOf x (folded f (tree_of e))
node_Cells x f e is =
    node_is x (typed.Cells f e) (folded f (tree_of e)) is
    (ap form_within (sym (typed.rolls-Cells f e))
    ∙ fold-roll-TypedForm (Axes → Axes) Domain Form Tree axis_tree_step domain_tree_step form_tree_step expr_tree_step (TypedForm-F.Cells f e))

pub node_Shift : (x : TypedExpr) (e : TypedExpr) (offsets : List TypedExpr) → (out-TypedExpr x).form ≡ typed.Shift e offsets → NodeOf x (shift (tree_of e) (trees_seen offsets))
node_Shift x e offsets is =
    node_is x (typed.Shift e offsets) (shift (tree_of e) (trees_seen offsets)) is
    (ap form_within (sym (typed.rolls-Shift e offsets))
    ∙ fold-roll-TypedForm (Axes → Axes) Domain Form Tree axis_tree_step domain_tree_step form_tree_step expr_tree_step (TypedForm-F.Shift e offsets))

pub node_Extend : (x : TypedExpr) (e : TypedExpr) (domain : TypedDomain) → (out-TypedExpr x).form ≡ typed.Extend e domain → NodeOf x (extend (tree_of e) (domain_looked_at domain))
node_Extend x e domain is =
    node_is x (typed.Extend e domain) (extend (tree_of e) (domain_looked_at domain)) is
    (ap form_within (sym (typed.rolls-Extend e domain))
    ∙ fold-roll-TypedForm (Axes → Axes) Domain Form Tree axis_tree_step domain_tree_step form_tree_step expr_tree_step (TypedForm-F.Extend e domain))

pub node_Concat : (x : TypedExpr) (parts : List TypedExpr) (along : ℤ) → (out-TypedExpr x).form ≡ typed.Concat parts along → NodeOf x (concat (trees_seen parts) along)
node_Concat x parts along is =
    node_is x (typed.Concat parts along) (concat (trees_seen parts) along) is
    (ap form_within (sym (typed.rolls-Concat parts along))
    ∙ fold-roll-TypedForm (Axes → Axes) Domain Form Tree axis_tree_step domain_tree_step form_tree_step expr_tree_step (TypedForm-F.Concat parts along))

pub node_Sdom : (x : TypedExpr) (e : TypedExpr) → (out-TypedExpr x).form ≡ typed.Sdom e → NodeOf x (domain_of (tree_of e))
node_Sdom x e is =
    node_is x (typed.Sdom e) (domain_of (tree_of e)) is
    (ap form_within (sym (typed.rolls-Sdom e))
    ∙ fold-roll-TypedForm (Axes → Axes) Domain Form Tree axis_tree_step domain_tree_step form_tree_step expr_tree_step (TypedForm-F.«TypedForm::Sdom» e))

pub node_Oid : (x : TypedExpr) (a : Spanned) → (out-TypedExpr x).form ≡ typed.Oid a → NodeOf x (oid a.name)
node_Oid x a is =
    node_is x (typed.Oid a) (oid a.name) is
    (ap form_within (sym (typed.rolls-Oid a))
    ∙ fold-roll-TypedForm (Axes → Axes) Domain Form Tree axis_tree_step domain_tree_step form_tree_step expr_tree_step (TypedForm-F.Oid a))

-- ---- an index

pub other_head : (x e : TypedExpr) (axes : List TypedAxis) → (out-TypedExpr x).form ≡ typed.Index e axes → Other ≡ head_of_tree (tree_of x)
other_head x e axes is =
    sym (ap head_of_tree (node_Index x e axes is) ∙ index_head (out-TypedExpr x).span (out-TypedExpr x).kind (tree_of e) (tree_of_axes axes))

pub axis_by_way : (x e : TypedExpr) (axes : List TypedAxis) (way : Way) (fault_told : Bool) → (out-TypedExpr x).form ≡ typed.Index e axes
    → way ≡ index_way_of (tree_of e) (tree_of_axes axes) → fault_told ≡ is_axis_way way → fault_told ≡ is_axis_of_domain (tree_of x)
axis_by_way x e axes way fault_told is by same =
    same ∙ ap is_axis_way by
    ∙ sym (ap is_axis_of_domain (node_Index x e axes is) ∙ index_axis (out-TypedExpr x).span (out-TypedExpr x).kind (tree_of e) (tree_of_axes axes))
