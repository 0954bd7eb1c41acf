-- What an expression is prepared as, by its form.
use Rattle.std.proofs.Common.{◌≡◌, ℕ, ℤ, pos, List, [], ◌∷◌, ◌++◌, map, length, Option, Some, None, Result, Ok, Err, true, false, refl, sym, ap, ap₂, ◌∙◌}
use Rattle.std.proofs.Math.Path.{fun_ext}
use Rattle.std.specs.Prelude.{if◌then◌else◌, neg_ℤ, option_map, unsigned_abs}
use Rattle.arrayvec.specs.ArrayVec.{ArrayVec}
use Rattle.ras_cells.specs.declared.atom.Atom.{Atom}
use Rattle.ras_cells.specs.declared.cell.Cell.{Cell}
use Rattle.ras_cells.specs.declared.cell.Cell.TheVariants.{Null}
use Rattle.ras_cells.specs.declared.cell.CellFault.{CellFault}
use Rattle.ras_cells.specs.declared.cell.CellFault.TheVariants.{IndexOut}
use Rattle.ras_cells.specs.declared.numbers.Op1.{Op1}
use Rattle.ras_cells.specs.declared.numbers.Op2.{Op2}
use Rattle.ras_cells.specs.Cells.{cast_to, outcome1, outcome2, single}
use Rattle.ras_cells.specs.Outcomes.{◌>>=◌}
use Rattle.ras_domain.specs.Boxes.{moved_by}
use Rattle.ras_domain.specs.Region.{is_in, points_of}
use Rattle.ras_syntax.specs.declared.expr.CellsFold.{CellsFold}
use Rattle.ras_syntax.specs.declared.expr.FoldOp.{FoldOp}
use Rattle.ras_syntax.specs.declared.typed.TypedExpr.{TypedExpr, out-TypedExpr}
use Rattle.spec_expressions.specs.Database.{Member}
use Rattle.spec_expressions.specs.Eval.{CellOutcome, Environment, coordinate_of, moved_between, point_of, position_in, with_position, axes_in, box_in, boxes_in}
use Rattle.spec_expressions.specs.Eval.{cell_at, cell_in, cells_at, component_of, composite_of, domains_in, form_cell, holds, member_named}
use Rattle.spec_expressions.specs.Eval.{offsets_in, oid_of, positions_at, part_cell, where_true, written_in, zeros}
use Rattle.spec_expressions.specs.Fold.{fold_of, cells_fold_of}
use Rattle.spec_expressions.specs.Shape.{Bound, Box, Shape, ShapeMisfit, offsets_of, placed_after, placed_parts, shape_of, shapes_of}
use Rattle.spec_expressions.specs.Shape.{width_of_kind, written_of}
use Rattle.spec_expressions.specs.Tree.{NameOf, Tree, Form, Trees, Pairs, Axes, Domain, Condition, iterator, coordinate, unary}
use Rattle.spec_expressions.specs.Tree.{cast, binary, index, at_point, component, choice, composite, marray, condense, folded, shift, extend, concat}
use Rattle.spec_expressions.specs.Tree.{oid, tree_of, no_trees, trees, no_pairs, pairs, no_axes, position, trim, always, only_where}
use Rattle.ras_shape.proofs.TreesSeen.{NodeOf}
use Rattle.ras_values.specs.declared.node.Node.{Node}
use Rattle.ras_values.specs.declared.node.Node.TheVariants as n
use Rattle.ras_values.specs.declared.node.Part.{Part}
use Rattle.ras_values.specs.declared.node.Position.{Position}
use Rattle.ras_values.specs.Nodes.{NodeCells, PartCells, axes_kept, cells_of_node, each_cell, joined_at, oid_of_member, part_cells}
use Rattle.ras_values.specs.Nodes.{position_cells, positions_by}
use Rattle.ras_values.specs.Prepared.{ArePartsFrom, ArePositions, ArePrepared, IsPrepared, IsPreparedChoice, IsPreparedTest, domain_of_member}
use Rattle.ras_values.specs.Prepared.{place_next, placed_with, scope_over}
use Rattle.ras_values.specs.Extents.{has_outcome}
use Rattle.ras_values.specs.Joins.{coordinate_node, known_node, oid_node, point_node}
use Rattle.ras_values.specs.Variables.{FindsVariable}
use Rattle.ras_values.proofs.NodesSeen.{seen_Constant, seen_Faulty, seen_Member, seen_Coordinate, seen_Unary, seen_Cast, seen_Binary, seen_Index, seen_AtPoint}
use Rattle.ras_values.proofs.NodesSeen.{seen_Component, seen_If}
use Rattle.ras_values.proofs.NodesSeen.{seen_Composite, seen_Marray, seen_Condense, seen_Folded, seen_Shift, seen_Extend, seen_Concat}
use Rattle.ras_values.proofs.Scopes.{lengths_more, scope_more}

-- ---- parts of a concat

no-boxes : (scope : Environment) (ts : Trees) (r : Result (List Shape) ShapeMisfit) → has_outcome r ≡ false → (places : List Box) (p : List ℤ)
    → part_cell scope ts (boxes_in r) places p ≡ Err IndexOut
no-boxes scope ts (Ok shapes) none places p = absurd cc
no-boxes scope no_trees (Err m) none places p = refl
no-boxes scope (trees t ts) (Err m) none places p = refl

-- the places of parts after those that were placed
abbrev places-with : ℕ → Option (Box × Box) → List Box → List Box
places-with n None owns = placed_parts n owns
places-with n (Some before) owns = placed_after n before.0 before.1 owns

places-turn : (n : ℕ) (before : Option (Box × Box)) (own : Box) (owns : List Box)
    → places-with n before (own ∷ owns) ≡ place_next n before own ∷ places-with n (placed_with before (place_next n before own)) owns
places-turn n None own owns = refl
places-turn n (Some before) own owns = refl

shapes-both : (x : Result Shape ShapeMisfit) (xs : Result (List Shape) ShapeMisfit) → has_outcome (x >>= λ y. xs >>= λ ys. Ok (y ∷ ys)) ≡ true
    → (has_outcome xs ≡ true) × (boxes_in (x >>= λ y. xs >>= λ ys. Ok (y ∷ ys)) ≡ box_in x ∷ boxes_in xs)
shapes-both (Ok y) (Ok ys) has = (refl, refl)
shapes-both (Ok y) (Err m) has = absurd cc
shapes-both (Err m) xs has = absurd cc

module _ (row : List Member) (domains : List Box) (names : List NameOf) (n : ℕ) where
  parts-from : (before : Option (Box × Box)) (ts : Trees) (parts : List PartCells) → ArePartsFrom row domains names n before ts parts
      → map domain_of_member row ≡ domains
      → (points : List (List ℤ)) → length points ≡ length names → (p : List ℤ) → has_outcome (shapes_of domains ts) ≡ true
      → joined_at parts row points p ≡ part_cell (scope_over row names points) ts (boxes_in (shapes_of domains ts))
      (places-with n before (boxes_in (shapes_of domains ts))) p
  parts-from before no_trees [] are d points len p shaped = refl
  parts-from before no_trees (part ∷ parts) are d points len p shaped = absurd are
  parts-from before (trees t ts) [] are d points len p shaped = absurd are
  parts-from before (trees t ts) (part ∷ parts) are d points len p shaped =
      let both = shapes-both (shape_of domains t) (shapes_of domains ts) shaped in
      let scope : Environment = scope_over row names points in
      let owns : List Box = boxes_in (shapes_of domains ts) in
      let place : Box = place_next n before (box_in (shape_of domains t)) in
      let place_is : part.place ≡ place = are.2 ∙ ap (place_next n before) are.1 in
      let others = parts-from (placed_with before part.place) ts parts are.3 d points len p both.0
      ∙ ap (λ x. part_cell scope ts owns (places-with n (placed_with before x) owns) p) place_is in
      ap₂ (λ (x y : Box). if is_in p x then part.cells row points (moved_between x y p) else joined_at parts row points p) place_is are.1
      ∙ ap₂ (λ (one other : CellOutcome). if is_in p place then one else other)
      (are.0.same d points len (moved_between place (box_in (shape_of domains t)) p)) others
      ∙ sym (ap (λ bs. part_cell scope (trees t ts) bs (places-with n before bs) p) both.1
      ∙ ap (λ ps. part_cell scope (trees t ts) (box_in (shape_of domains t) ∷ owns) ps p) (places-turn n before (box_in (shape_of domains t)) owns))

  parts-first : (ts : Trees) (parts : List PartCells) → ArePartsFrom row domains names n None ts parts → map domain_of_member row ≡ domains
      → (points : List (List ℤ)) → length points ≡ length names → (p : List ℤ) → has_outcome (shapes_of domains ts) ≡ true
      → joined_at parts row points p ≡ part_cell (scope_over row names points) ts (boxes_in (shapes_of domains ts))
      (placed_parts n (boxes_in (shapes_of domains ts))) p
  parts-first ts parts are d points len p shaped = parts-from None ts parts are d points len p shaped

-- ---- forms

module _ (row : List Member) (domains : List Box) (names : List NameOf) where
  -- a prepared expression by its layer
  abbrev pub LayerIs : TypedExpr → Form → NodeCells → Type 0
  LayerIs e form layer =
      map domain_of_member row ≡ domains → (points : List (List ℤ)) → length points ≡ length names → (p : List ℤ)
      → layer row points p ≡ form_cell (scope_over row names points) (out-TypedExpr e).kind form p

  pub prepared_by : (e : TypedExpr) (form : Form) (node : Node) (layer : NodeCells) → NodeOf e form → cells_of_node node ≡ layer → LayerIs e form layer
      → IsPrepared row domains names (tree_of e) (cells_of_node node)
  prepared_by e form m layer tree seen h =
      record { same = λ d points len p. ap (λ f. f row points p) seen ∙ h d points len p ∙ sym (ap (λ t. cell_at (scope_over row names points) t p) tree) }

  pub prepared_null : (e : TypedExpr) (form : Form) → NodeOf e form → LayerIs e form (λ row points p. Ok Null)
      → IsPrepared row domains names (tree_of e) (cells_of_node (n.Constant Null))
  prepared_null e form tree h = prepared_by e form (n.Constant Null) _ tree (seen_Constant Null) h

  pub prepared_number : (e : TypedExpr) (form : Form) (z : ℤ) → NodeOf e form → LayerIs e form (λ row points p. Ok (single z))
      → IsPrepared row domains names (tree_of e) (cells_of_node (n.Constant (single z)))
  prepared_number e form z tree h = prepared_by e form (n.Constant (single z)) _ tree (seen_Constant (single z)) h

  pub prepared_iterator : (e : TypedExpr) (place : ℕ) → NodeOf e (iterator place) → IsPrepared row domains names (tree_of e) (cells_of_node (n.Member place))
  prepared_iterator e place tree = prepared_by e (iterator place) (n.Member place) _ tree (seen_Member place) (λ d points len p. refl)

  pub prepared_unary : (e a : TypedExpr) (op : Op1) (x : Node) → NodeOf e (unary op (tree_of a)) → IsPrepared row domains names (tree_of a) (cells_of_node x)
      → IsPrepared row domains names (tree_of e) (cells_of_node (n.Unary op x))
  prepared_unary e a op x tree h = prepared_by e (unary op (tree_of a)) (n.Unary op x) _ tree (seen_Unary op x)
      (λ d points len p. ap (outcome1 op) (h.same d points len p))

  pub prepared_cast : (e a : TypedExpr) (to : Atom) (x : Node) → NodeOf e (cast to (tree_of a)) → IsPrepared row domains names (tree_of a) (cells_of_node x)
      → IsPrepared row domains names (tree_of e) (cells_of_node (n.Cast to x))
  prepared_cast e a to x tree h =
      prepared_by e (cast to (tree_of a)) (n.Cast to x) _ tree (seen_Cast to x)
      (λ d points len p. ap (λ (o : CellOutcome). o >>= λ c. cast_to to c) (h.same d points len p))

  pub prepared_binary : (e a b : TypedExpr) (op : Op2) (x y : Node) → NodeOf e (binary op (tree_of a) (tree_of b))
      → IsPrepared row domains names (tree_of a) (cells_of_node x)
      → IsPrepared row domains names (tree_of b) (cells_of_node y) → IsPrepared row domains names (tree_of e) (cells_of_node (n.Binary op x y))
  prepared_binary e a b op x y tree h k =
      prepared_by e (binary op (tree_of a) (tree_of b)) (n.Binary op x y) _ tree (seen_Binary op x y)
      (λ d points len p. ap₂ (outcome2 op) (h.same d points len p) (k.same d points len p))

  pub prepared_component : (e a : TypedExpr) (part : ℤ) (x : Node) → NodeOf e (component (tree_of a) part)
      → IsPrepared row domains names (tree_of a) (cells_of_node x)
      → IsPrepared row domains names (tree_of e) (cells_of_node (n.Component x part))
  prepared_component e a part x tree h =
      prepared_by e (component (tree_of a) part) (n.Component x part) _ tree (seen_Component x part)
      (λ d points len p. ap (λ (o : CellOutcome). o >>= λ c. component_of c part) (h.same d points len p))

  pub prepared_marray : (e a : TypedExpr) (x : NameOf) (domain : Domain) (m : Node) → NodeOf e (marray x domain (tree_of a))
      → IsPrepared row domains (names ++ x ∷ []) (tree_of a) (cells_of_node m) → IsPrepared row domains names (tree_of e) (cells_of_node (n.Marray m))
  prepared_marray e a x domain m tree h =
      prepared_by e (marray x domain (tree_of a)) (n.Marray m) _ tree (seen_Marray m)
      (λ d points len p. h.same d (points ++ p ∷ []) (lengths_more names points x p len) [] ∙ ap (λ s. cell_at s (tree_of a) [])
      (scope_more row names points x p len))

  pub prepared_condense : (e : TypedExpr) (op : FoldOp) (x : NameOf) (domain : Domain) (condition : Condition) (t : Tree) (axes : Option Box) (m : Node)
      → NodeOf e (condense op x domain condition t)
      → axes_kept axes ≡ axes_in (written_in (written_of domains domain)) → IsPreparedTest row domains (names ++ x ∷ []) condition t (cells_of_node m)
      → IsPrepared row domains names (tree_of e) (cells_of_node (n.Condense op axes m))
  prepared_condense e op x domain condition t axes m tree within h =
      prepared_by e (condense op x domain condition t) (n.Condense op axes m) _ tree (seen_Condense op axes m)
      (λ d points len p.
      ap₂ (λ cells qs. fold_of op (map cells qs))
      (fun_ext (λ q. h.same d (points ++ q ∷ []) (lengths_more names points x q len)
      ∙ ap (λ s. where_true s condition (cell_at s t [])) (scope_more row names points x q len)))
      (ap points_of (within ∙ ap (λ ds. axes_in (written_in (written_of ds domain))) (sym d))))

  pub prepared_folded : (e a : TypedExpr) (f : CellsFold) (axes : Option Box) (m : Node) → NodeOf e (folded f (tree_of a))
      → axes_kept axes ≡ box_in (shape_of domains (tree_of a))
      → IsPrepared row domains names (tree_of a) (cells_of_node m) → IsPrepared row domains names (tree_of e) (cells_of_node (n.Folded f axes m))
  prepared_folded e a f axes m tree within h =
      prepared_by e (folded f (tree_of a)) (n.Folded f axes m) _ tree (seen_Folded f axes m)
      (λ d points len p.
      ap₂ (λ cells qs. cells_fold_of f (map cells qs)) (fun_ext (λ q. h.same d points len q))
      (ap points_of (within ∙ ap (λ ds. box_in (shape_of ds (tree_of a))) (sym d))))

  pub prepared_shift : (e a : TypedExpr) (offsets : Trees) (values : ArrayVec ℤ) (m : Node) → NodeOf e (shift (tree_of a) offsets)
      → values.items ≡ offsets_in (offsets_of domains offsets)
      → IsPrepared row domains names (tree_of a) (cells_of_node m) → IsPrepared row domains names (tree_of e) (cells_of_node (n.Shift m values))
  prepared_shift e a offsets values m tree are h =
      prepared_by e (shift (tree_of a) offsets) (n.Shift m values) _ tree (seen_Shift m values)
      (λ d points len p.
      ap (λ zs. cells_of_node m row points (moved_by (map neg_ℤ zs) p)) (are ∙ ap (λ ds. offsets_in (offsets_of ds offsets)) (sym d))
      ∙ h.same d points len (moved_by (map neg_ℤ (offsets_in (offsets_of (domains_in (scope_over row names points)) offsets))) p))

  pub prepared_extend : (e a : TypedExpr) (domain : Domain) (axes : Option Box) (x : Cell) (m : Node) → NodeOf e (extend (tree_of a) domain)
      → axes_kept axes ≡ box_in (shape_of domains (tree_of a))
      → x ≡ zeros (width_of_kind (out-TypedExpr e).kind) → IsPrepared row domains names (tree_of a) (cells_of_node m)
      → IsPrepared row domains names (tree_of e) (cells_of_node (n.Extend m axes x))
  prepared_extend e a domain axes x m tree within are h =
      prepared_by e (extend (tree_of a) domain) (n.Extend m axes x) _ tree (seen_Extend m axes x)
      (λ d points len p.
      ap₂ (λ b y. if b then cells_of_node m row points p else Ok y) (ap (is_in p) (within ∙ ap (λ ds. box_in (shape_of ds (tree_of a))) (sym d))) are
      ∙ ap (λ (o : CellOutcome). if is_in p (box_in (shape_of (domains_in (scope_over row names points)) (tree_of a))) then o else Ok
      (zeros (width_of_kind (out-TypedExpr e).kind))) (h.same d points len p))

  -- ---- indexes

  positions-are : (axes : Axes) (es : List (Option NodeCells)) → ArePositions row domains names axes es → map domain_of_member row ≡ domains
      → (points : List (List ℤ)) → length points ≡ length names
      → (p : List ℤ) → positions_by es row points p ≡ positions_at (scope_over row names points) axes p
  positions-are no_axes [] h d points len p = refl
  positions-are no_axes (o ∷ es) h d points len p = absurd h
  positions-are (position t axes) [] h d points len p = absurd h
  positions-are (position t axes) (None ∷ es) h d points len p = absurd h
  positions-are (position t axes) (Some e ∷ es) h d points len p =
      ap₂ (λ (o : CellOutcome) (r : Result (Option (List ℤ)) CellFault). o >>= λ x. r >>= λ rest. Ok (with_position (position_in x) rest)) (h.0.same d points len [])
      (positions-are axes es h.1 d points len p)
  positions-are (trim a b axes) [] h d points len p = absurd h
  positions-are (trim a b axes) (Some e ∷ es) h d points len p = absurd h
  positions-are (trim a b axes) (None ∷ es) h d points len [] = refl
  positions-are (trim a b axes) (None ∷ es) h d points len (c ∷ p) =
      ap (λ (r : Result (Option (List ℤ)) CellFault). r >>= λ rest. Ok (with_position (Some c) rest)) (positions-are axes es h d points len p)

  pub prepared_index : (e a : TypedExpr) (axes : Axes) (within : Option Box) (positions : List Position) (m : Node) → NodeOf e (index (tree_of a) axes)
      → axes_kept within ≡ box_in (shape_of domains (tree_of a)) → ArePositions row domains names axes (map position_cells positions)
      → IsPrepared row domains names (tree_of a) (cells_of_node m)
      → IsPrepared row domains names (tree_of e) (cells_of_node (n.Index m within positions))
  prepared_index e a axes within positions m tree box are h =
      prepared_by e (index (tree_of a) axes) (n.Index m within positions) _ tree (seen_Index m within positions)
      (λ d points len p.
      ap (λ (r : Result (Option (List ℤ)) CellFault). r >>= λ q. cell_in (axes_kept within) (cells_of_node m row points) q)
      (positions-are axes (map position_cells positions) are d points len p)
      ∙ ap₂ (λ b cells. positions_at (scope_over row names points) axes p >>= λ q. cell_in b cells q) (box ∙ ap (λ ds. box_in (shape_of ds (tree_of a))) (sym d))
      (fun_ext (λ q. h.same d points len q)))

  pub prepared_point : (e a : TypedExpr) (x : NameOf) (within : Option Box) (place : Option ℕ) (m : Node) → NodeOf e (at_point (tree_of a) x)
      → axes_kept within ≡ box_in (shape_of domains (tree_of a)) → FindsVariable x names place → IsPrepared row domains names (tree_of a) (cells_of_node m)
      → IsPrepared row domains names (tree_of e) (cells_of_node (point_node m within place))
  prepared_point e a x within None m tree box found h =
      prepared_null e (at_point (tree_of a) x) tree
      (λ d points len p. ap (λ q. cell_in (box_in (shape_of (domains_in (scope_over row names points)) (tree_of a)))
      (cell_at (scope_over row names points) (tree_of a)) q) (found.each points len))
  prepared_point e a x within (Some place) m tree box found h =
      prepared_by e (at_point (tree_of a) x) (n.AtPoint m within place) _ tree (seen_AtPoint m within place)
      (λ d points len p.
      ap (λ q. cell_in (axes_kept within) (cells_of_node m row points) q) (found.each points len)
      ∙ ap₂ (λ b cells. cell_in b cells (point_of (scope_over row names points) x)) (box ∙ ap (λ ds. box_in (shape_of ds (tree_of a))) (sym d))
      (fun_ext (λ q. h.same d points len q)))

  pub prepared_coordinate : (e : TypedExpr) (x : NameOf) (axis : ℤ) (place : Option ℕ) → NodeOf e (coordinate x axis) → FindsVariable x names place
      → IsPrepared row domains names (tree_of e) (cells_of_node (coordinate_node place axis))
  prepared_coordinate e x axis None tree found =
      prepared_null e (coordinate x axis) tree (λ d points len p. ap (λ q. coordinate_of q axis) (found.each points len))
  prepared_coordinate e x axis (Some place) tree found =
      prepared_by e (coordinate x axis) (n.Coordinate place axis) _ tree (seen_Coordinate place axis)
      (λ d points len p. ap (λ q. coordinate_of q axis) (found.each points len))

  -- ---- composites and case

  each-are : (ts : Trees) (es : List NodeCells) → ArePrepared row domains names ts es → map domain_of_member row ≡ domains → (points : List (List ℤ))
      → length points ≡ length names → (p : List ℤ)
      → each_cell es row points p ≡ cells_at (scope_over row names points) ts p
  each-are no_trees [] h d points len p = refl
  each-are no_trees (e ∷ es) h d points len p = absurd h
  each-are (trees t ts) [] h d points len p = absurd h
  each-are (trees t ts) (e ∷ es) h d points len p =
      ap₂ (λ (o : CellOutcome) (r : Result (List Cell) CellFault). o >>= λ x. r >>= λ xs. Ok (x ∷ xs)) (h.0.same d points len p) (each-are ts es h.1 d points len p)

  pub prepared_composite : (e : TypedExpr) (ts : Trees) (es : List Node) → NodeOf e (composite ts) → ArePrepared row domains names ts (map cells_of_node es)
      → IsPrepared row domains names (tree_of e) (cells_of_node (n.Composite es))
  prepared_composite e ts es tree are =
      prepared_by e (composite ts) (n.Composite es) _ tree (seen_Composite es)
      (λ d points len p. ap (λ (r : Result (List Cell) CellFault). r >>= λ cells. Ok (composite_of cells)) (each-are ts (map cells_of_node es) are d points len p))

  pub prepared_choice : (e : TypedExpr) (arms : Pairs) (t : Tree) (m : Node) → NodeOf e (choice arms t) → IsPreparedChoice row domains names arms t (cells_of_node m)
      → IsPrepared row domains names (tree_of e) (cells_of_node m)
  prepared_choice e arms t m tree h = record { same = λ d points len p. h.same d points len p ∙ sym (ap (λ t. cell_at (scope_over row names points) t p) tree) }

  -- the last arm that isn't prepared yet
  pub choice_first : (t : Tree) (cells : NodeCells) → IsPrepared row domains names t cells → IsPreparedChoice row domains names no_pairs t cells
  choice_first t cells h = record { same = h.same }

  pub choice_more : (c e t : Tree) (arms : Pairs) (x y z : Node) → IsPrepared row domains names c (cells_of_node x)
      → IsPrepared row domains names e (cells_of_node y)
      → IsPreparedChoice row domains names arms t (cells_of_node z) → IsPreparedChoice row domains names (pairs c e arms) t (cells_of_node (n.If x y z))
  choice_more c e t arms x y z hc he hz =
      record {
        same = λ d points len p. ap (λ f. f row points p) (seen_If x y z)
            ∙ ap₂ (λ (o : CellOutcome) (step : Cell → CellOutcome). o >>= step) (hc.same d points len p)
            (fun_ext (λ v. ap₂ (λ one other. if holds v then one else other) (he.same d points len p) (hz.same d points len p)));
      }

  pub test_always : (t : Tree) (cells : NodeCells) → IsPrepared row domains names t cells → IsPreparedTest row domains names always t cells
  test_always t cells h = record { same = λ d points len. h.same d points len [] }

  pub test_where : (c t : Tree) (x y z : Node) → IsPrepared row domains names c (cells_of_node x) → IsPrepared row domains names t (cells_of_node y)
      → z ≡ n.Constant Null
      → IsPreparedTest row domains names (only_where c) t (cells_of_node (n.If x y z))
  test_where c t x y z hc ht null =
      record {
        same = λ d points len. ap (λ f. f row points []) (seen_If x y z)
            ∙ ap₂ (λ (o : CellOutcome) (step : Cell → CellOutcome). o >>= step) (hc.same d points len [])
            (fun_ext (λ v. ap₂ (λ (one other : CellOutcome). if holds v then one else other) (ht.same d points len [])
            (ap (λ f. f row points []) (ap cells_of_node null ∙ seen_Constant Null))));
      }

  -- ---- known values

  pub prepared_known : (e : TypedExpr) (form : Form) (value : Bound) → NodeOf e form → LayerIs e form (λ row points p. value >>= λ z. Ok (single z))
      → IsPrepared row domains names (tree_of e) (cells_of_node (known_node value))
  prepared_known e form (Ok z) tree h = prepared_by e form (n.Constant (single z)) _ tree (seen_Constant (single z)) h
  prepared_known e form (Err f) tree h = prepared_by e form (n.Faulty f) _ tree (seen_Faulty f) h

  oid-is : (member : Option Member) (row : List Member) (points : List (List ℤ)) (p : List ℤ)
      → cells_of_node (oid_node (option_map oid_of_member member)) row points p ≡ oid_of member
  oid-is None row points p = ap (λ f. f row points p) (seen_Constant Null)
  oid-is (Some member) row points p = ap (λ f. f row points p) (seen_Constant (single (pos member.oid)))

  pub prepared_oid : (e : TypedExpr) (a : NameOf) (found : Option ℕ) → NodeOf e (oid a) → found ≡ option_map oid_of_member (member_named row a)
      → IsPrepared row domains names (tree_of e) (cells_of_node (oid_node found))
  prepared_oid e a found tree is =
      record {
        same = λ d points len p. ap (λ o. cells_of_node (oid_node o) row points p) is ∙ oid-is (member_named row a) row points p
            ∙ sym (ap (λ t. cell_at (scope_over row names points) t p) tree);
      }

  -- ---- concat

  pub prepared_unshaped : (e : TypedExpr) (ts : Trees) (along : ℤ) → NodeOf e (concat ts along) → has_outcome (shapes_of domains ts) ≡ false
      → IsPrepared row domains names (tree_of e) (cells_of_node (n.Faulty IndexOut))
  prepared_unshaped e ts along tree none =
      prepared_by e (concat ts along) (n.Faulty IndexOut) _ tree (seen_Faulty IndexOut)
      (λ d points len p.
      sym (ap (λ ds. part_cell (scope_over row names points) ts (boxes_in (shapes_of ds ts)) (placed_parts (unsigned_abs along) (boxes_in (shapes_of ds ts))) p) d
      ∙ no-boxes (scope_over row names points) ts (shapes_of domains ts) none (placed_parts (unsigned_abs along) (boxes_in (shapes_of domains ts))) p))

  pub prepared_concat : (e : TypedExpr) (ts : Trees) (along : ℤ) (parts : List Part) → NodeOf e (concat ts along) → has_outcome (shapes_of domains ts) ≡ true
      → ArePartsFrom row domains names (unsigned_abs along) None ts (map part_cells parts)
      → IsPrepared row domains names (tree_of e) (cells_of_node (n.Concat parts))
  prepared_concat e ts along parts tree shaped are =
      prepared_by e (concat ts along) (n.Concat parts) _ tree (seen_Concat parts)
      (λ d points len p.
      parts-first row domains names (unsigned_abs along) ts (map part_cells parts) are d points len p shaped
      ∙ sym (ap (λ ds. part_cell (scope_over row names points) ts (boxes_in (shapes_of ds ts))
      (placed_parts (unsigned_abs along) (boxes_in (shapes_of ds ts))) p) d))
