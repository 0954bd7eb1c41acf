-- The cells of bodies, over two databases that agree on all lists: the same answers, and the same stores.
use Rattle.std.proofs.Common.{◌≡◌, ℤ, List, [], ◌∷◌, Option, Some, Result, Ok, refl, sym, ap, ◌∙◌, subst}
use Rattle.std.specs.List.{AllByRecursion, AllZip}
use Rattle.ras_cells.specs.declared.cell.Cell.{Cell}
use Rattle.ras_cells.specs.declared.cell.CellFault.{CellFault}
use Rattle.ras_cells.specs.Outcomes.{◌>>=◌}
use Rattle.ras_domain.specs.Region.{IsIn, points_of}
use Rattle.ras_syntax.specs.declared.types.SetType.{SetType}
use Rattle.spec_expressions.specs.Database.{Database}
use Rattle.spec_expressions.specs.Eval.{Environment, box_in, cell_at, cells_of, domains_in}
use Rattle.spec_expressions.specs.Fits.{IsAround}
use Rattle.spec_expressions.specs.Shape.{Box, Cut, box_of, shape_of}
use Rattle.spec_expressions.specs.Tree.{Tree}
use Rattle.spec_expressions.specs.WellTyped.{IsWellTyped}
use Rattle.spec_statements.specs.Plans.{Plan, target_point}
use Rattle.spec_statements.specs.Effects.{at_body_point, body_points, faulty_in, plan_stores, row_reply, stores_at, stores_of_plans, values_of_plans}
use Rattle.spec_statements.specs.Rows.{environment_of, sources_of}
use Rattle.spec_statements.specs.Statement.{Request}
use Rattle.ras_domain.proofs.BoxTests.{each_point}
use Rattle.law_reach.proofs.AllCells.{cells_of-same}
use Rattle.law_reach.proofs.Moved.{around_itself}
use Rattle.law_reach.proofs.Reach.{reach-covers}
use Rattle.law_locks.specs.Plans.{AreAlikeMade, AreAlikePlans}
use Rattle.law_locks.proofs.Pairs.{left_fits}
use Rattle.law_locks.proofs.Planned.{HasBodyShape, IsBodyPair, IsReadSame, body_in}
use Rattle.law_locks.proofs.Sides.{Alike, Alike-bind, Alike-same}

module _ (types : List SetType) (one other : Database) (request : Request) (body : Tree) (is : body_in request ≡ Some body) (typed : IsWellTyped (sources_of request) [] body) where
  abbrev Pair : Plan → Plan → Type 0
  Pair = IsBodyPair types one other request

  -- the body's box is that of the plan's shape
  shaped : (a b : Plan) → Pair a b → shape_of (domains_in (environment_of a.row)) body ≡ Ok a.shape
  shaped a b pair = subst (λ o. HasBodyShape o a.row a.shape) is pair.0.shaped

  store : (a b : Plan) → Pair a b → IsReadSame (Some body) a.row b.row
  store a b pair = subst (λ o. IsReadSame o a.row b.row) is pair.1

  -- ---- values

  cells_same : (a b : Plan) → Pair a b → cells_of (environment_of a.row) body ≡ cells_of (environment_of b.row) body
  cells_same a b pair =
      cells_of-same (sources_of request) [] [] (environment_of a.row) (environment_of b.row) body a.shape typed
      (left_fits types one other (sources_of request) a.row b.row pair.0.pairs) pair.0.alike.row refl tt (shaped a b pair) (store a b pair)

  pub values_same : (plans others : List Plan) → AllZip Pair plans others → values_of_plans body plans ≡ values_of_plans body others
  values_same [] [] pairs = refl
  values_same [] (b ∷ bs) pairs = absurd pairs
  values_same (a ∷ as_) [] pairs = absurd pairs
  values_same (a ∷ as_) (b ∷ bs) pairs =
      let here : faulty_in a.number (cells_of (environment_of a.row) body) ≡ faulty_in b.number (cells_of (environment_of b.row) body) = λ i. faulty_in
      (pairs.0.0.alike.number i) (cells_same a b pairs.0 i) in
      let shape : a.shape ≡ b.shape = pairs.0.0.alike.shape in
      let later : values_of_plans body as_ ≡ values_of_plans body bs = values_same as_ bs pairs.1 in
      λ i. here i >>= λ cells. (later i >>= λ others. Ok (row_reply (shape i) cells ∷ others))

  -- ---- stores

  cell_same : (a b : Plan) → Pair a b → (p : List ℤ) → IsIn p (box_of a.shape) → cell_at (environment_of a.row) body p ≡ cell_at (environment_of b.row) body p
  cell_same a b pair p within =
      let around : Box = box_in (shape_of (domains_in (environment_of a.row)) body) in
      let same : around ≡ box_of a.shape = ap box_in (shaped a b pair) in
      reach-covers (sources_of request) [] [] (environment_of a.row) (environment_of b.row) body a.shape around p typed
      (left_fits types one other (sources_of request) a.row b.row pair.0.pairs) pair.0.alike.row refl tt (shaped a b pair)
      (subst (IsAround a.shape) (sym same) (around_itself a.shape)) (store a b pair) (subst (IsIn p) (sym same) within)

  stores_at_same : (put : Cell → Result (Option (List ℤ)) CellFault) (s t : Environment) (cuts : List Cut) (P : List ℤ → Type 0)
      → ((p : List ℤ) → P p → cell_at s body p ≡ cell_at t body p) → (ps : List (List ℤ)) → AllByRecursion P ps → stores_at put s body cuts ps ≡ stores_at put t body cuts ps
  stores_at_same put s t cuts P same [] each = refl
  stores_at_same put s t cuts P same (p ∷ ps) each =
      let here : cell_at s body p ≡ cell_at t body p = same p each.0 in
      let later : stores_at put s body cuts ps ≡ stores_at put t body cuts ps = stores_at_same put s t cuts P same ps each.1 in
      λ i. at_body_point p (here i) >>= λ cell. (at_body_point p (put cell) >>= λ stored. (later i >>= λ others. Ok ((target_point cuts p, stored) ∷ others)))

  plan_stores_same : (put : Cell → Result (Option (List ℤ)) CellFault) (a b : Plan) → Pair a b → plan_stores put body a ≡ plan_stores put body b
  plan_stores_same put a b pair =
      let alike = pair.0.alike in
      ap (faulty_in a.number) (stores_at_same put (environment_of a.row) (environment_of b.row) a.cuts (λ p. IsIn p (box_of a.shape)) (cell_same a b pair)
      (body_points a) (each_point (box_of a.shape)))
      ∙ (λ i. faulty_in (alike.number i) (stores_at put (environment_of b.row) body (alike.cuts i) (points_of (box_of (alike.shape i)))))

  -- the same fault, or alike plans with the same stores
  pub made_same : (put : Cell → Result (Option (List ℤ)) CellFault) (plans others : List Plan) → AllZip Pair plans others
      → Alike AreAlikeMade (stores_of_plans put body plans) (stores_of_plans put body others)
  made_same put [] [] pairs = tt
  made_same put [] (b ∷ bs) pairs = absurd pairs
  made_same put (a ∷ as_) [] pairs = absurd pairs
  made_same put (a ∷ as_) (b ∷ bs) pairs =
      Alike-bind (λ x y. x ≡ y) AreAlikeMade (plan_stores put body a) (plan_stores put body b) _ _
      (Alike-same (λ x y. x ≡ y) (plan_stores put body a) (plan_stores put body b) (plan_stores_same put a b pairs.0) (λ x is. refl))
      (λ x y left right same. Alike-bind AreAlikeMade AreAlikeMade (stores_of_plans put body as_) (stores_of_plans put body bs) _ _ (made_same put as_ bs pairs.1)
      (λ xs ys first second rest. (pairs.0.0.alike, same, rest)))

-- plans whose bodies read the same are alike
pub plans_alike : (types : List SetType) (one other : Database) (request : Request) (plans others : List Plan)
    → AllZip (IsBodyPair types one other request) plans others → AreAlikePlans plans others
plans_alike types one other request [] [] pairs = tt
plans_alike types one other request [] (b ∷ bs) pairs = absurd pairs
plans_alike types one other request (a ∷ as_) [] pairs = absurd pairs
plans_alike types one other request (a ∷ as_) (b ∷ bs) pairs = (pairs.0.0.alike, plans_alike types one other request as_ bs pairs.1)
