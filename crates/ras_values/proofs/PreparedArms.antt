-- Forms that are prepared by calls, and lists of parts that are prepared one after another.
use Rattle.std.proofs.Common.{◌≡◌, ℕ, ℤ, List, [], ◌∷◌, ◌++◌, map, length, Option, None, Result, Ok, Err, Bool, true, false, refl, sym, ap, ◌∙◌, subst}
use Rattle.std.proofs.Common.{◌+◌, ◌<◌, ◌≤◌, get_or, drop, arith}
use Rattle.std.proofs.lemmas.List.{append-nil, append_assoc, drop_all}
use Rattle.std.proofs.Math.Path.{fun_ext}
use Rattle.std.specs.Prelude.{option_map}
use Rattle.std.proofs.Common.{pos, w64, to_z, of_z}
use Rattle.std.specs.Int.{from_bool}
use Rattle.std.specs.Result.{IfOk}
use Rattle.ras_cells.specs.Cells.{single}
use Rattle.ras_cells.specs.Outcomes.{◌>>=◌}
use Rattle.ras_cells.specs.declared.cell.Cell.TheVariants.{Null}
use Rattle.ras_syntax.specs.declared.expr.Part.{Part as PartOf}
use Rattle.ras_syntax.specs.declared.typed.Kind.{Kind}
use Rattle.ras_syntax.specs.declared.typed.TypedAxis.{TypedAxis}
use Rattle.ras_syntax.specs.declared.typed.TypedAxis.TheVariants as typed
use Rattle.ras_syntax.specs.declared.typed.TypedExpr.{TypedExpr, out-TypedExpr}
use Rattle.spec_expressions.specs.Check.{tree_of_axes}
use Rattle.spec_expressions.specs.Database.{Member}
use Rattle.spec_expressions.specs.Eval.{Environment, box_in, cell_at, form_cell}
use Rattle.spec_expressions.specs.Shape.{Bound, Box, shape_of, side_of_shape}
use Rattle.spec_expressions.specs.Tree.{NameOf, Tree, Form, Pairs, Side, node, interval_of, at_point, choice, coordinate, only_where, part_form}
use Rattle.spec_expressions.specs.Tree.{tree_of, edge_of, position, trim}
use Rattle.ras_shape.specs.Trees.{pairs_seen, trees_seen}
use Rattle.ras_shape.specs.Ways.{is_axis_form}
use Rattle.ras_shape.proofs.AxesSeen.{axis_at, axis_trim}
use Rattle.ras_shape.proofs.TreesSeen.{NodeOf}
use Rattle.ras_values.specs.declared.node.Node.{Node}
use Rattle.ras_values.specs.declared.node.Node.TheVariants as n
use Rattle.ras_values.specs.declared.node.Part.{Part, out-Part}
use Rattle.ras_values.specs.declared.node.Position.{Position}
use Rattle.ras_values.specs.declared.node.Position.TheVariants as ps
use Rattle.ras_values.specs.Nodes.{NodeCells, axes_kept, cells_of_node, part_cells, position_cells}
use Rattle.ras_values.specs.Prepared.{ArePartsFrom, ArePositions, ArePrepared, IsPrepared, IsPreparedChoice, IsPreparedTest, domain_of_member, place_next}
use Rattle.ras_values.specs.Prepared.{placed_with, scope_over}
use Rattle.ras_values.specs.Heads.{IsBound}
use Rattle.ras_values.specs.Joins.{AtPointOf, CoordinateOf, known_node}
use Rattle.ras_values.specs.Statics.{first_side}
use Rattle.ras_values.proofs.PreparedForms.{choice_first, choice_more, prepared_choice, prepared_coordinate, prepared_known, prepared_null, prepared_point}
use Rattle.ras_values.proofs.PreparedForms.{test_where}
use Rattle.ras_values.proofs.WalkLoops.{from_item, part_is, position_at, position_kept}
use Rattle.ras_values.proofs.WaysSeen.{bound_value}

-- ---- forms by other forms

-- the same node, whose form is known better
pub as_form : (e : TypedExpr) (form other : Form) → NodeOf e form → form ≡ other → NodeOf e other
as_form e form other tree is = tree ∙ ap (λ f. node (out-TypedExpr e).span (out-TypedExpr e).kind f) is

axis-null : (scope : Environment) (kind : Kind) (form : Form) (p : List ℤ) → is_axis_form form ≡ true → Ok Null ≡ form_cell scope kind form p
axis-null scope kind (interval_of e k) p is = refl
axis-null scope kind form p is = absurd cc

-- a truth value keeps its number as one of 64 bits
pub truth_kept : (b : Bool) → to_z w64 (of_z w64 (pos (from_bool b))) ≡ pos (from_bool b)
truth_kept true = refl
truth_kept false = refl

module _ (row : List Member) (domains : List Box) (names : List NameOf) where
  abbrev Prepares : Tree → Node → Type 0
  Prepares t m = IsPrepared row domains names t (cells_of_node m)

  -- the node is given, or there is want of memory
  pub is_given : {E : Type 0} (t : Tree) (m : Node) (r : Result Node E) → IfOk r (λ node. node ≡ m) → IsPrepared row domains names t (cells_of_node m)
      → IfOk r (λ node. IsPrepared row domains names t (cells_of_node node))
  is_given t m (Ok x) is h = subst (λ m. Prepares t m) (sym is) h
  is_given t m (Err e) is h = tt

  pub prepared_axis : (e : TypedExpr) (form : Form) → NodeOf e form → is_axis_form form ≡ true
      → IsPrepared row domains names (tree_of e) (cells_of_node (n.Constant Null))
  prepared_axis e form tree is = prepared_null row domains names e form tree
      (λ d points len p. axis-null (scope_over row names points) (out-TypedExpr e).kind form p is)

  pub coordinate_given : {E : Type 0} (e : TypedExpr) (x : NameOf) (axis : ℤ) (r : Result Node E) → NodeOf e (coordinate x axis)
      → IfOk r (λ node. CoordinateOf x names axis node)
      → IfOk r (λ node. IsPrepared row domains names (tree_of e) (cells_of_node node))
  coordinate_given e x axis (Ok m) tree h = subst (λ m. Prepares (tree_of e) m) (sym h.node_is) (prepared_coordinate row domains names e x axis h.place tree h.found)
  coordinate_given e x axis (Err error) tree h = tt

  pub point_given : {E : Type 0} (e a : TypedExpr) (x : NameOf) (within : Option Box) (m : Node) (r : Result Node E) → NodeOf e (at_point (tree_of a) x)
      → axes_kept within ≡ box_in (shape_of domains (tree_of a)) → IsPrepared row domains names (tree_of a) (cells_of_node m)
      → IfOk r (λ node. AtPointOf x names m within node)
      → IfOk r (λ node. IsPrepared row domains names (tree_of e) (cells_of_node node))
  point_given e a x within m (Ok y) tree box are h =
      subst (λ m. Prepares (tree_of e) m) (sym h.node_is) (prepared_point row domains names e a x within h.place m tree box h.found are)
  point_given e a x within m (Err error) tree box are h = tt

  pub prepared_bound : (side : Side) (e a : TypedExpr) (part : PartOf) (value : Bound) → NodeOf e (part_form (tree_of a) part) → IsBound side (tree_of a) part
      → value ≡ first_side side (shape_of domains (tree_of a)) → IsPrepared row domains names (tree_of e) (cells_of_node (known_node value))
  prepared_bound side e a part value tree h is =
      prepared_known row domains names e (part_form (tree_of a) part) value tree
      (λ d points len p.
      ap (λ (v : Bound). v >>= λ z. Ok (single z))
      (is ∙ bound_value domains side (tree_of a) part h ∙ ap (λ ds. side_of_shape side h.axis (shape_of ds h.array)) (sym d))
      ∙ sym (ap (λ f. form_cell (scope_over row names points) (out-TypedExpr e).kind f p) h.part_is))

  pub choice_given : {E : Type 0} (e : TypedExpr) (arms : Pairs) (t : Tree) (m : Node) (r : Result Node E) → NodeOf e (choice arms t)
      → IsPrepared row domains names t (cells_of_node m)
      → IfOk r (λ node. (u : Tree) → IsPrepared row domains names u (cells_of_node m) → IsPreparedChoice row domains names arms u (cells_of_node node))
      → IfOk r (λ node. IsPrepared row domains names (tree_of e) (cells_of_node node))
  choice_given e arms t m (Ok x) tree are h = prepared_choice row domains names e arms t x tree (h t are)
  choice_given e arms t m (Err error) tree are h = tt

  pub test_given : {E : Type 0} (c : TypedExpr) (x y z : Node) (r : Result Node E) → IsPrepared row domains names (tree_of c) (cells_of_node x) → z ≡ n.Constant Null
      → IfOk r (λ node. node ≡ n.If x y z)
      → IfOk r (λ node. (t : Tree) → IsPrepared row domains names t (cells_of_node y) → IsPreparedTest row domains names (only_where (tree_of c)) t
      (cells_of_node node))
  test_given c x y z (Ok m) hc null is =
      λ t ht. subst (λ m. IsPreparedTest row domains names (only_where (tree_of c)) t (cells_of_node m)) (sym is)
      (test_where row domains names (tree_of c) t x y z hc ht null)
  test_given c x y z (Err error) hc null is = tt

-- ---- lists, an item after another

-- these items stand in front of the whole: what fits for the rest makes the whole with them
pub record Front {A : Type 0} (whole rest : List A → Type 0) (done : List A) : Type 0 where
  pub each : (more : List A) → rest more → whole (done ++ more)

pub front_start : {A : Type 0} (whole : List A → Type 0) (done : List A) → done ≡ [] → Front whole whole done
front_start whole done none = record { each = λ more h. subst (λ xs. whole (xs ++ more)) (sym none) h }

pub front_next : {A : Type 0} (whole rest others : List A → Type 0) (done after : List A) (x : A) → after ≡ done ++ x ∷ []
    → ((more : List A) → others more → rest (x ∷ more))
    → Front whole rest done → Front whole others after
front_next whole rest others done after x is step front =
    record {
      each = λ more h. subst whole (sym (ap (λ xs. xs ++ more) is ∙ append_assoc done (x ∷ []) more)) (front.each (x ∷ more) (step more h));
    }

pub front_stop : {A : Type 0} (whole rest : List A → Type 0) (done : List A) → rest [] → Front whole rest done → whole done
front_stop whole rest done h front = subst whole (append-nil done) (front.each [] h)

module _ (row : List Member) (domains : List Box) (names : List NameOf) where
  -- ---- parts

  abbrev pub PartsOver : List TypedExpr → List Node → Type 0
  PartsOver es nodes = ArePrepared row domains names (trees_seen es) (map cells_of_node nodes)

  pub parts_next : (es : List TypedExpr) (i : ℕ) (e : TypedExpr) (m : Node) (done after : List Node) → i < length es → e ≡ get_or es i e
      → IsPrepared row domains names (tree_of e) (cells_of_node m) → after ≡ done ++ m ∷ [] → Front (PartsOver es) (PartsOver (drop i es)) done
      → Front (PartsOver es) (PartsOver (drop (i + 1) es)) after
  parts_next es i e m done after within is prepared more front =
      front_next (PartsOver es) (PartsOver (drop i es)) (PartsOver (drop (i + 1) es)) done after m more
      (λ nodes h. subst (λ xs. PartsOver xs (m ∷ nodes)) (sym (from_item es i e within is)) (prepared, h)) front

  pub parts_end : (es : List TypedExpr) (i : ℕ) (done : List Node) → length es ≤ i → Front (PartsOver es) (PartsOver (drop i es)) done
      → ArePrepared row domains names (trees_seen es) (map cells_of_node done)
  parts_end es i done over front = front_stop (PartsOver es) (PartsOver (drop i es)) done (subst (λ xs. PartsOver xs []) (sym (drop_all i es over)) tt) front

  -- ---- positions

  abbrev pub PositionsOver : List TypedAxis → List Position → Type 0
  PositionsOver axes positions = ArePositions row domains names (tree_of_axes axes) (map position_cells positions)

  position-fits : (x : TypedAxis) (axes : List TypedAxis) (e : TypedExpr) (m : Node) (y : Position) (more : List Position) → x ≡ typed.At e → y ≡ ps.At m
      → IsPrepared row domains names (tree_of e) (cells_of_node m) → PositionsOver axes more → PositionsOver (x ∷ axes) (y ∷ more)
  position-fits x axes e m y more is at prepared h =
      subst (λ t. ArePositions row domains names t (position_cells y ∷ map position_cells more)) (sym (axis_at x e (tree_of_axes axes) is))
      (subst (λ o. ArePositions row domains names (position (tree_of e) (tree_of_axes axes)) (o ∷ map position_cells more))
      (sym (ap position_cells at ∙ position_at m)) (prepared, h))

  trim-fits : (x : TypedAxis) (axes : List TypedAxis) (a b : Option TypedExpr) (y : Position) (more : List Position) → x ≡ typed.Trim a b → y ≡ ps.Kept
      → PositionsOver axes more → PositionsOver (x ∷ axes) (y ∷ more)
  trim-fits x axes a b y more is kept h =
      subst (λ t. ArePositions row domains names t (position_cells y ∷ map position_cells more)) (sym (axis_trim x a b (tree_of_axes axes) is))
      (subst (λ o. ArePositions row domains names (trim (edge_of (option_map tree_of a)) (edge_of (option_map tree_of b)) (tree_of_axes axes))
      (o ∷ map position_cells more))
      (sym (ap position_cells kept ∙ position_kept)) h)

  pub position_next : (axes : List TypedAxis) (i : ℕ) (x : TypedAxis) (e : TypedExpr) (m : Node) (y : Position) (done after : List Position) → i < length axes
      → x ≡ get_or axes i x
      → x ≡ typed.At e → y ≡ ps.At m → IsPrepared row domains names (tree_of e) (cells_of_node m) → after ≡ done ++ y ∷ []
      → Front (PositionsOver axes) (PositionsOver (drop i axes)) done
      → Front (PositionsOver axes) (PositionsOver (drop (i + 1) axes)) after
  position_next axes i x e m y done after within is form at prepared more front =
      front_next (PositionsOver axes) (PositionsOver (drop i axes)) (PositionsOver (drop (i + 1) axes)) done after y more
      (λ others h. subst (λ xs. PositionsOver xs (y ∷ others)) (sym (from_item axes i x within is))
      (position-fits x (drop (i + 1) axes) e m y others form at prepared h)) front

  pub trim_next : (axes : List TypedAxis) (i : ℕ) (x : TypedAxis) (a b : Option TypedExpr) (y : Position) (done after : List Position) → i < length axes
      → x ≡ get_or axes i x
      → x ≡ typed.Trim a b → y ≡ ps.Kept → after ≡ done ++ y ∷ [] → Front (PositionsOver axes) (PositionsOver (drop i axes)) done
      → Front (PositionsOver axes) (PositionsOver (drop (i + 1) axes)) after
  trim_next axes i x a b y done after within is form kept more front =
      front_next (PositionsOver axes) (PositionsOver (drop i axes)) (PositionsOver (drop (i + 1) axes)) done after y more
      (λ others h. subst (λ xs. PositionsOver xs (y ∷ others)) (sym (from_item axes i x within is)) (trim-fits x (drop (i + 1) axes) a b y others form kept h)) front

  pub positions_end : (axes : List TypedAxis) (i : ℕ) (done : List Position) → length axes ≤ i → Front (PositionsOver axes) (PositionsOver (drop i axes)) done
      → ArePositions row domains names (tree_of_axes axes) (map position_cells done)
  positions_end axes i done over front =
      front_stop (PositionsOver axes) (PositionsOver (drop i axes)) done (subst (λ xs. PositionsOver xs []) (sym (drop_all i axes over)) tt) front

  -- ---- parts of a concat

  abbrev pub PlacedOver : ℕ → Option (Box × Box) → List TypedExpr → List Part → Type 0
  PlacedOver along before es parts = ArePartsFrom row domains names along before (trees_seen es) (map part_cells parts)

  placed-fits : (along : ℕ) (before : Option (Box × Box)) (es : List TypedExpr) (e : TypedExpr) (x : Part) (more : List Part)
      → IsPrepared row domains names (tree_of e) (cells_of_node (out-Part x).e) → axes_kept (out-Part x).own ≡ box_in (shape_of domains (tree_of e))
      → axes_kept (out-Part x).place ≡ place_next along before (axes_kept (out-Part x).own)
      → PlacedOver along (placed_with before (axes_kept (out-Part x).place)) es more
      → PlacedOver along before (e ∷ es) (x ∷ more)
  placed-fits along before es e x more prepared own place h =
      subst (λ y. ArePartsFrom row domains names along before (trees_seen (e ∷ es)) (y ∷ map part_cells more)) (sym (part_is x)) (prepared, own, place, h)

  pub placed_next : (along : ℕ) (es : List TypedExpr) (i : ℕ) (e : TypedExpr) (x : Part) (before next : Option (Box × Box)) (done after : List Part) → i < length es
      → e ≡ get_or es i e
      → IsPrepared row domains names (tree_of e) (cells_of_node (out-Part x).e) → axes_kept (out-Part x).own ≡ box_in (shape_of domains (tree_of e))
      → axes_kept (out-Part x).place ≡ place_next along before (axes_kept (out-Part x).own) → next ≡ placed_with before (axes_kept (out-Part x).place)
      → after ≡ done ++ x ∷ [] → Front (PlacedOver along None es) (PlacedOver along before (drop i es)) done
      → Front (PlacedOver along None es) (PlacedOver along next (drop (i + 1) es)) after
  placed_next along es i e x before next done after within is prepared own place placed more front =
      front_next (PlacedOver along None es) (PlacedOver along before (drop i es)) (PlacedOver along next (drop (i + 1) es)) done after x more
      (λ others h. subst (λ xs. PlacedOver along before xs (x ∷ others)) (sym (from_item es i e within is))
      (placed-fits along before (drop (i + 1) es) e x others prepared own place (subst (λ b. PlacedOver along b (drop (i + 1) es) others) placed h))) front

  pub placed_end : (along : ℕ) (es : List TypedExpr) (i : ℕ) (before : Option (Box × Box)) (done : List Part) → length es ≤ i
      → Front (PlacedOver along None es) (PlacedOver along before (drop i es)) done → ArePartsFrom row domains names along None (trees_seen es) (map part_cells done)
  placed_end along es i before done over front =
      front_stop (PlacedOver along None es) (PlacedOver along before (drop i es)) done
      (subst (λ xs. PlacedOver along before xs []) (sym (drop_all i es over)) tt) front

  -- ---- arms, from the last one to the first

  -- what is prepared of the arms from a place on
  pub record FromArm (arms : List (TypedExpr × TypedExpr)) (left : ℕ) (other whole : Node) : Type 0 where
    pub each : (t : Tree) → IsPrepared row domains names t (cells_of_node other)
        → IsPreparedChoice row domains names (pairs_seen (drop left arms)) t (cells_of_node whole)

  pub arms_last : (arms : List (TypedExpr × TypedExpr)) (other : Node) → FromArm arms (length arms) other other
  arms_last arms other =
      record {
        each = λ t h. subst (λ xs. IsPreparedChoice row domains names (pairs_seen xs) t (cells_of_node other)) (sym (drop_all (length arms) arms (omega arith)))
            (choice_first row domains names t (cells_of_node other) h);
      }

  pub arms_more : (arms : List (TypedExpr × TypedExpr)) (left next : ℕ) (a : TypedExpr × TypedExpr) (x y whole other : Node) → left ≡ next + 1 → next < length arms
      → a ≡ get_or arms next a
      → IsPrepared row domains names (tree_of a.0) (cells_of_node x) → IsPrepared row domains names (tree_of a.1) (cells_of_node y) → FromArm arms left other whole
      → FromArm arms next other (n.If x y whole)
  arms_more arms left next a x y whole other is within item hc he from =
      record {
        each = λ t h. subst (λ xs. IsPreparedChoice row domains names (pairs_seen xs) t (cells_of_node (n.If x y whole))) (sym (from_item arms next a within item))
            (choice_more row domains names (tree_of a.0) (tree_of a.1) t (pairs_seen (drop (next + 1) arms)) x y whole hc he
            (subst (λ k. IsPreparedChoice row domains names (pairs_seen (drop k arms)) t (cells_of_node whole)) is (from.each t h)));
      }

  pub arms_all : (arms : List (TypedExpr × TypedExpr)) (left : ℕ) (other whole : Node) → left ≡ 0 → FromArm arms left other whole
      → (t : Tree) → IsPrepared row domains names t (cells_of_node other) → IsPreparedChoice row domains names (pairs_seen arms) t (cells_of_node whole)
  arms_all arms left other whole none from =
      λ t h. subst (λ k. IsPreparedChoice row domains names (pairs_seen (drop k arms)) t (cells_of_node whole)) none (from.each t h)

-- ---- the whole

-- where no variable is in scope, the cells over a row with these domains are those of the definition
pub prepared_cells : (row : List Member) (domains : List Box) (t : Tree) (cells : NodeCells) → IsPrepared row domains [] t cells → map domain_of_member row ≡ domains
    → cells row [] ≡ cell_at (record { row = row; variables = [] }) t
prepared_cells row domains t cells h are = fun_ext (λ p. h.same are [] refl p)
