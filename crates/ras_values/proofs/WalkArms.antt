-- What the walk gives of a prepared expression, from what it gives of the parts.
use Rattle.std.proofs.Common.{◌≡◌, ℕ, ℤ, List, map, Option, Some, None, Result, Ok, Err, Bool, true, false, refl, sym, ap, ◌∙◌, subst}
use Rattle.std.specs.Prelude.{IfSome, IfNone, neg_ℤ, if◌then◌else◌, slice_get}
use Rattle.arrayvec.specs.ArrayVec.{ArrayVec}
use Rattle.ras_cells.specs.declared.atom.Atom.{Atom}
use Rattle.ras_cells.specs.declared.cell.Cell.{Cell}
use Rattle.ras_cells.specs.declared.cell.CellFault.{CellFault}
use Rattle.ras_cells.specs.declared.cell.CellFault.TheVariants.{IndexOut}
use Rattle.ras_cells.specs.declared.numbers.Op1.{Op1}
use Rattle.ras_cells.specs.declared.numbers.Op2.{Op2}
use Rattle.ras_cells.specs.Cells.{outcome1, outcome2}
use Rattle.ras_cells.specs.Outcomes.{◌>>=◌}
use Rattle.ras_domain.specs.Boxes.{moved_by}
use Rattle.ras_domain.specs.Region.{is_in, points_of}
use Rattle.ras_syntax.specs.declared.expr.FoldOp.{FoldOp}
use Rattle.ras_syntax.specs.declared.expr.CellsFold.{CellsFold}
use Rattle.spec_expressions.specs.Database.{Member}
use Rattle.spec_expressions.specs.Eval.{CellOutcome, cell_in, coordinate_of, holds, member_cell}
use Rattle.spec_expressions.specs.Fold.{fold_of, cells_fold_of}
use Rattle.spec_expressions.specs.Shape.{Box}
use Rattle.ras_values.specs.declared.error.CellError.{CellError}
use Rattle.ras_values.specs.declared.error.CellError.TheVariants.{Fault, Memory}
use Rattle.ras_values.specs.declared.node.Node.{Node}
use Rattle.ras_values.specs.declared.node.Node.TheVariants as n
use Rattle.ras_values.specs.declared.node.Part.{Part}
use Rattle.ras_values.specs.declared.node.Position.{Position}
use Rattle.ras_values.specs.Nodes.{NodeCells, axes_kept, cells_of_node, part_cells, position_cells, seen_at, positions_by, each_cell, composed_of, condensed_at, joined_at}
use Rattle.ras_values.specs.Given.{GivesCell, GivesSeen, Makes, MakesOfBoth, StopsWith, cast_outcome, component_in, looked_up, point_seen, tested}
use Rattle.ras_values.proofs.NodesSeen.{seen_Constant, seen_Faulty, seen_Member, seen_Coordinate, seen_Unary, seen_Cast, seen_Binary, seen_Index, seen_AtPoint, seen_Component, seen_If}
use Rattle.ras_values.proofs.NodesSeen.{seen_Composite, seen_Marray, seen_Condense, seen_Folded, seen_Shift, seen_Extend, seen_Concat}

-- ---- outcomes

some-ok : {A : Type 0} {x y : A} → (let r : Result A CellFault = Ok x in r) ≡ Ok y → x ≡ y
some-ok e = cc

pub gives_at : {A B : Type 0} (view : A → B) (one other : Result B CellFault) (result : Result A CellError) → one ≡ other → GivesSeen view one result → GivesSeen view other result
gives_at view one other result e h = subst (λ r. GivesSeen view r result) e h

-- an error of a part is one of the whole
pub stops_bind : {A B : Type 0} (r : Result A CellFault) (step : A → Result B CellFault) (e : CellError) → StopsWith r e → StopsWith (r >>= step) e
stops_bind r step (Fault f) h = ap (λ r. r >>= step) h
stops_bind r step Memory h = tt

test-is : (w : CellOutcome) (b : Bool) (yes_cell no_cell : CellOutcome) → tested w ≡ Ok b → (w >>= λ x. if holds x then yes_cell else no_cell) ≡ (if b then yes_cell else no_cell)
test-is (Ok x) b yes_cell no_cell e = ap (λ c. if c then yes_cell else no_cell) (some-ok e)
test-is (Err f) b yes_cell no_cell e = absurd cc

test-stops : (w : CellOutcome) (step : Cell → CellOutcome) (f : CellFault) → tested w ≡ Err f → (w >>= step) ≡ Err f
test-stops (Ok x) step f e = absurd cc
test-stops (Err g) step f e = cc

test-error : (w : CellOutcome) (step : Cell → CellOutcome) (e : CellError) → StopsWith (tested w) e → StopsWith (w >>= step) e
test-error w step (Fault f) h = test-stops w step f h
test-error w step Memory h = tt

look-at : (axes : Box) (cells : List ℤ → CellOutcome) (q : Option (List ℤ)) → seen_at cells (looked_up axes (Ok q)) ≡ cell_in axes cells q
look-at axes cells None = refl
look-at axes cells (Some p) =
    elim (is_in p axes) as (λ b. seen_at cells (if b then Ok (Some p) else Err IndexOut) ≡ (if b then cells p else Err IndexOut)) [ true ↦ refl | false ↦ refl ]

look-is : (axes : Box) (cells : List ℤ → CellOutcome) (q : Result (Option (List ℤ)) CellFault) → seen_at cells (looked_up axes q) ≡ (q >>= λ q. cell_in axes cells q)
look-is axes cells (Ok q) = look-at axes cells q
look-is axes cells (Err f) = refl

pub moved_gives : (cells : List ℤ → CellOutcome) (target : List ℤ) (q : Option (ArrayVec ℤ)) (result : Result Cell CellError) → IfSome q (λ q. q.items ≡ target)
    → IfSome q (λ q. GivesCell (cells q.items) result) → IfNone q (result ≡ Err Memory) → GivesCell (cells target) result
moved_gives cells target (Some q) result is h none = subst (λ p. GivesCell (cells p) result) is h
moved_gives cells target None result is h none = rw none tt

-- ---- forms

module _ (row : List Member) (points : List (List ℤ)) (p : List ℤ) where
  by_seen : (node other : Node) (layer : NodeCells) (result : Result Cell CellError) → node ≡ other → cells_of_node other ≡ layer → GivesCell (layer row points p) result
      → GivesCell (cells_of_node node row points p) result
  by_seen node other layer result is seen h = subst (λ f. GivesCell (f row points p) result) (sym (ap cells_of_node is ∙ seen)) h

  pub arm_Constant : (node : Node) (x copy : Cell) → node ≡ n.Constant x → copy ≡ x → GivesCell (cells_of_node node row points p) (Ok copy)
  arm_Constant node x copy is same = by_seen node (n.Constant x) _ (Ok copy) is (seen_Constant x) (ap Ok (sym same))

  pub arm_Faulty : (node : Node) (f g : CellFault) → node ≡ n.Faulty f → g ≡ f → GivesCell (cells_of_node node row points p) (Err (Fault g))
  arm_Faulty node f g is same = by_seen node (n.Faulty f) _ (Err (Fault g)) is (seen_Faulty f) (ap Err (sym same))

  pub arm_Member : (node : Node) (place : ℕ) (outcome : CellOutcome) (result : Result Cell CellError) → node ≡ n.Member place → outcome ≡ member_cell (slice_get row place) p
      → GivesCell outcome result → GivesCell (cells_of_node node row points p) result
  arm_Member node place outcome result is cell h =
      by_seen node (n.Member place) _ result is (seen_Member place) (subst (λ r. GivesCell r result) cell h)

  pub arm_Coordinate : (node : Node) (variable : ℕ) (axis : ℤ) (q : Option (List ℤ)) (x : Cell) → node ≡ n.Coordinate variable axis → q ≡ slice_get points variable
      → coordinate_of q axis ≡ Ok x → GivesCell (cells_of_node node row points p) (Ok x)
  arm_Coordinate node variable axis q x is found h =
      by_seen node (n.Coordinate variable axis) _ (Ok x) is (seen_Coordinate variable axis) (ap (λ q. coordinate_of q axis) (sym found) ∙ h)

  pub arm_Unary : (node e : Node) (op : Op1) (x result : Result Cell CellError) → node ≡ n.Unary op e → GivesCell (cells_of_node e row points p) x → Makes (outcome1 op) x result
      → GivesCell (cells_of_node node row points p) result
  arm_Unary node e op x result is h step = by_seen node (n.Unary op e) _ result is (seen_Unary op e) (step _ h)

  pub arm_Cast : (node e : Node) (to : Atom) (x result : Result Cell CellError) → node ≡ n.Cast to e → GivesCell (cells_of_node e row points p) x → Makes (cast_outcome to) x result
      → GivesCell (cells_of_node node row points p) result
  arm_Cast node e to x result is h step = by_seen node (n.Cast to e) _ result is (seen_Cast to e) (step _ h)

  pub arm_Binary : (node a b : Node) (op : Op2) (x y result : Result Cell CellError) → node ≡ n.Binary op a b → GivesCell (cells_of_node a row points p) x
      → GivesCell (cells_of_node b row points p) y → MakesOfBoth (outcome2 op) x y result → GivesCell (cells_of_node node row points p) result
  arm_Binary node a b op x y result is h k step = by_seen node (n.Binary op a b) _ result is (seen_Binary op a b) (step _ _ h k)

  pub arm_Component : (node e : Node) (part : ℤ) (x result : Result Cell CellError) → node ≡ n.Component e part → GivesCell (cells_of_node e row points p) x
      → Makes (component_in part) x result → GivesCell (cells_of_node node row points p) result
  arm_Component node e part x result is h step = by_seen node (n.Component e part) _ result is (seen_Component e part) (step _ h)

  pub arm_Index : (node e : Node) (axes : Option Box) (positions : List Position) (q r : Result (Option (ArrayVec ℤ)) CellError) (result : Result Cell CellError)
      → node ≡ n.Index e axes positions → GivesSeen point_seen (positions_by (map position_cells positions) row points p) q
      → ((wanted : Result (Option (List ℤ)) CellFault) → GivesSeen point_seen wanted q → GivesSeen point_seen (looked_up (axes_kept axes) wanted) r)
      → ((wanted : Result (Option (List ℤ)) CellFault) → GivesSeen point_seen wanted r → GivesCell (seen_at (cells_of_node e row points) wanted) result)
      → GivesCell (cells_of_node node row points p) result
  arm_Index node e axes positions q r result is h within look =
      by_seen node (n.Index e axes positions) _ result is (seen_Index e axes positions)
      (gives_at (λ c. c) _ _ result (look-is (axes_kept axes) (cells_of_node e row points) (positions_by (map position_cells positions) row points p)) (look _ (within _ h)))

  pub arm_AtPoint : (node e : Node) (axes : Option Box) (variable : ℕ) (q : Option (ArrayVec ℤ)) (r : Result (Option (ArrayVec ℤ)) CellError) (result : Result Cell CellError)
      → node ≡ n.AtPoint e axes variable → point_seen q ≡ slice_get points variable
      → ((wanted : Result (Option (List ℤ)) CellFault) → GivesSeen point_seen wanted (Ok q) → GivesSeen point_seen (looked_up (axes_kept axes) wanted) r)
      → ((wanted : Result (Option (List ℤ)) CellFault) → GivesSeen point_seen wanted r → GivesCell (seen_at (cells_of_node e row points) wanted) result)
      → GivesCell (cells_of_node node row points p) result
  arm_AtPoint node e axes variable q r result is found within look =
      by_seen node (n.AtPoint e axes variable) _ result is (seen_AtPoint e axes variable)
      (gives_at (λ c. c) _ _ result (look-at (axes_kept axes) (cells_of_node e row points) (slice_get points variable)) (look _ (within (Ok (slice_get points variable)) (ap Ok (sym found)))))

  pub arm_If : (node condition e other : Node) (b : Bool) (x : Result Cell CellError) (t : Result Bool CellError) (result : Result Cell CellError) → node ≡ n.If condition e other
      → GivesCell (cells_of_node condition row points p) x → ((wanted : CellOutcome) → GivesCell wanted x → GivesSeen (λ b. b) (tested wanted) t) → t ≡ Ok b
      → GivesCell (if b then cells_of_node e row points p else cells_of_node other row points p) result → GivesCell (cells_of_node node row points p) result
  arm_If node condition e other b x t result is h test told then_or_else =
      let at : tested (cells_of_node condition row points p) ≡ Ok b = subst (λ t. GivesSeen (λ b. b) (tested (cells_of_node condition row points p)) t) told (test _ h) in
      by_seen node (n.If condition e other) _ result is (seen_If condition e other)
      (gives_at (λ c. c) _ _ result (sym (test-is (cells_of_node condition row points p) b (cells_of_node e row points p) (cells_of_node other row points p) at)) then_or_else)

  pub arm_If_stops : (node condition e other : Node) (x : Result Cell CellError) (t : Result Bool CellError) (error : CellError) → node ≡ n.If condition e other
      → GivesCell (cells_of_node condition row points p) x → ((wanted : CellOutcome) → GivesCell wanted x → GivesSeen (λ b. b) (tested wanted) t) → t ≡ Err error
      → GivesCell (cells_of_node node row points p) (Err error)
  arm_If_stops node condition e other x t error is h test told =
      let at : StopsWith (tested (cells_of_node condition row points p)) error = subst (λ t. GivesSeen (λ b. b) (tested (cells_of_node condition row points p)) t) told (test _ h) in
      by_seen node (n.If condition e other) _ (Err error) is (seen_If condition e other) (test-error (cells_of_node condition row points p) _ error at)

  pub arm_Composite : (node : Node) (es : List Node) (result : Result Cell CellError) → node ≡ n.Composite es
      → GivesCell (composed_of (each_cell (map cells_of_node es) row points p)) result → GivesCell (cells_of_node node row points p) result
  arm_Composite node es result is h = by_seen node (n.Composite es) _ result is (seen_Composite es) h

  pub arm_Marray : (node e : Node) (result : Result Cell CellError) → node ≡ n.Marray e → GivesCell (condensed_at (cells_of_node e) row points p) result
      → GivesCell (cells_of_node node row points p) result
  arm_Marray node e result is h = by_seen node (n.Marray e) _ result is (seen_Marray e) h

  pub arm_Condense : (node e : Node) (op : FoldOp) (axes : Option Box) (result : Result Cell CellError) → node ≡ n.Condense op axes e
      → GivesCell (fold_of op (map (condensed_at (cells_of_node e) row points) (points_of (axes_kept axes)))) result → GivesCell (cells_of_node node row points p) result
  arm_Condense node e op axes result is h = by_seen node (n.Condense op axes e) _ result is (seen_Condense op axes e) h

  pub arm_Folded : (node e : Node) (f : CellsFold) (axes : Option Box) (result : Result Cell CellError) → node ≡ n.Folded f axes e
      → GivesCell (cells_fold_of f (map (cells_of_node e row points) (points_of (axes_kept axes)))) result → GivesCell (cells_of_node node row points p) result
  arm_Folded node e f axes result is h = by_seen node (n.Folded f axes e) _ result is (seen_Folded f axes e) h

  pub arm_Shift : (node e : Node) (offsets : ArrayVec ℤ) (q : Option (ArrayVec ℤ)) (result : Result Cell CellError) → node ≡ n.Shift e offsets
      → IfSome q (λ q. q.items ≡ moved_by (map neg_ℤ offsets.items) p) → IfSome q (λ q. GivesCell (cells_of_node e row points q.items) result) → IfNone q (result ≡ Err Memory)
      → GivesCell (cells_of_node node row points p) result
  arm_Shift node e offsets q result is at h none =
      by_seen node (n.Shift e offsets) _ result is (seen_Shift e offsets) (moved_gives (cells_of_node e row points) (moved_by (map neg_ℤ offsets.items) p) q result at h none)

  pub arm_Extend : (node e : Node) (axes : Option Box) (zeros : Cell) (b : Bool) (result : Result Cell CellError) → node ≡ n.Extend e axes zeros → b ≡ is_in p (axes_kept axes)
      → GivesCell (if b then cells_of_node e row points p else Ok zeros) result → GivesCell (cells_of_node node row points p) result
  arm_Extend node e axes zeros b result is within h =
      by_seen node (n.Extend e axes zeros) _ result is (seen_Extend e axes zeros)
      (gives_at (λ c. c) _ _ result (ap (λ b. if b then cells_of_node e row points p else Ok zeros) within) h)

  pub arm_outside : (node e : Node) (axes : Option Box) (zeros copy : Cell) → node ≡ n.Extend e axes zeros → false ≡ is_in p (axes_kept axes) → copy ≡ zeros
      → GivesCell (cells_of_node node row points p) (Ok copy)
  arm_outside node e axes zeros copy is within same = arm_Extend node e axes zeros false (Ok copy) is within (ap Ok (sym same))

  pub arm_Concat : (node : Node) (parts : List Part) (result : Result Cell CellError) → node ≡ n.Concat parts
      → GivesCell (joined_at (map part_cells parts) row points p) result → GivesCell (cells_of_node node row points p) result
  arm_Concat node parts result is h = by_seen node (n.Concat parts) _ result is (seen_Concat parts) h
