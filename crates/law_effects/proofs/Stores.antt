-- What is stored at the points of a body.
use Rattle.std.proofs.Common.{◌≡◌, ℕ, ℤ, List, [], ◌∷◌, Option, Some, None, IfSome, Result, Ok, Err, refl}
use Rattle.std.specs.List.{AllByRecursion}
use Rattle.ras_cells.specs.declared.cell.Cell.{Cell}
use Rattle.ras_cells.specs.declared.cell.Cell.TheVariants.{Null, Value}
use Rattle.ras_cells.specs.declared.cell.CellFault.{CellFault}
use Rattle.ras_cells.specs.Atoms.{AreInRange}
use Rattle.ras_cells.specs.Stored.{Numbers, atoms_of, stored_of, IsNullSetOf}
use Rattle.ras_cells.proofs.Storing.{AreInRange-stored_of}
use Rattle.ras_domain.specs.Region.{IsIn}
use Rattle.ras_syntax.specs.declared.types.SetType.{SetType}
use Rattle.spec_expressions.specs.Tree.{Tree}
use Rattle.spec_expressions.specs.Eval.{Environment, cell_at}
use Rattle.spec_expressions.specs.Shape.{Cut, box_of}
use Rattle.spec_statements.specs.Plans.{Plan, target_point}
use Rattle.spec_statements.specs.Effects.{Stores, written_numbers, at_body_point, body_points, faulty_in, insert_store, plan_stores, stores_at, stores_of_plans, update_store}
use Rattle.spec_statements.specs.Rows.{environment_of}
use Rattle.law_shapes.proofs.Outcomes.{bind_ok}
use Rattle.ras_domain.proofs.BoxTests.{each_point}
use Rattle.law_lists.proofs.Choices.{ok_keeps}

-- an outcome that is no fault is one at each step
point_ok : {X : Type 0} (p : List ℤ) (r : Result X CellFault) (x : X) → at_body_point p r ≡ Ok x → r ≡ Ok x
point_ok p (Ok y) x is = let e : y ≡ x = cc in cc
point_ok p (Err fault) x is = absurd cc

faulty_ok : {X : Type 0} (k : ℕ) (r : Result X (List ℤ × CellFault)) (x : X) → faulty_in k r ≡ Ok x → r ≡ Ok x
faulty_ok k (Ok y) x is = let e : y ≡ x = cc in cc
faulty_ok k (Err fault) x is = absurd cc

-- what holds of each that is stored
abbrev pub Store : Type 0
Store = List ℤ × Option (List ℤ)

-- at each point, in each plan
stores_at-each : (store : Cell → Result (Option (List ℤ)) CellFault) (scope : Environment) (body : Tree) (cuts : List Cut) (T : List ℤ → Type 0) (S : Store → Type 0)
    → ((p : List ℤ) (cell : Cell) (o : Option (List ℤ)) → T p → store cell ≡ Ok o → S (target_point cuts p, o))
    → (ps : List (List ℤ)) (stores : Stores) → AllByRecursion T ps → stores_at store scope body cuts ps ≡ Ok stores → AllByRecursion S stores
stores_at-each store scope body cuts T S gives [] stores all is = ok_keeps (AllByRecursion S) [] stores is tt
stores_at-each store scope body cuts T S gives (p ∷ ps) stores all is =
    let (cell, is_cell, then_1) = bind_ok (at_body_point p (cell_at scope body p)) _ stores is in
    let (stored, is_stored, then_2) = bind_ok (at_body_point p (store cell)) _ stores then_1 in
    let (others, found, last) = bind_ok (stores_at store scope body cuts ps) _ stores then_2 in
    ok_keeps (AllByRecursion S) ((target_point cuts p, stored) ∷ others) stores last
    (gives p cell stored all.0 (point_ok p (store cell) stored is_stored), stores_at-each store scope body cuts T S gives ps others all.1 found)

pub plan_stores-each : (store : Cell → Result (Option (List ℤ)) CellFault) (body : Tree) (plan : Plan) (S : Store → Type 0)
    → ((p : List ℤ) (cell : Cell) (o : Option (List ℤ)) → IsIn p (box_of plan.shape) → store cell ≡ Ok o → S (target_point plan.cuts p, o))
    → (stores : Stores) → plan_stores store body plan ≡ Ok stores → AllByRecursion S stores
plan_stores-each store body plan S gives stores is =
    stores_at-each store (environment_of plan.row) body plan.cuts (λ p. IsIn p (box_of plan.shape)) S gives (body_points plan) stores (each_point (box_of plan.shape))
    (faulty_ok plan.number (stores_at store (environment_of plan.row) body plan.cuts (body_points plan)) stores is)

pub stores_of_plans-each : (store : Cell → Result (Option (List ℤ)) CellFault) (body : Tree) (Q : Plan → Type 0) (R : Plan × Stores → Type 0)
    → ((plan : Plan) (stores : Stores) → Q plan → plan_stores store body plan ≡ Ok stores → R (plan, stores))
    → (plans : List Plan) (made : List (Plan × Stores)) → AllByRecursion Q plans → stores_of_plans store body plans ≡ Ok made → AllByRecursion R made
stores_of_plans-each store body Q R gives [] made all is = ok_keeps (AllByRecursion R) [] made is tt
stores_of_plans-each store body Q R gives (plan ∷ plans) made all is =
    let (stores, is_stores, then_1) = bind_ok (plan_stores store body plan) _ made is in
    let (others, found, last) = bind_ok (stores_of_plans store body plans) _ made then_1 in
    ok_keeps (AllByRecursion R) ((plan, stores) ∷ others) made last
    (gives plan stores all.0 is_stores, stores_of_plans-each store body Q R gives plans others all.1 found)

-- ---- stored numbers are of the type's atoms

-- numbers that are written are those that were stored
written_ok : (P : List ℤ → Type 0) (r : Result Numbers CellFault) (o : Option (List ℤ)) → ((numbers : Numbers) → r ≡ Ok numbers → P numbers.items) → written_numbers r ≡ Ok o → IfSome o P
written_ok P (Ok numbers) o gives is = ok_keeps (λ o. IfSome o P) (Some numbers.items) o is (gives numbers refl)
written_ok P (Err fault) o gives is = absurd cc

pub insert_store-fits : (of : SetType) (cell : Cell) (o : Option (List ℤ)) → IsNullSetOf of.cell of.nulls.items → insert_store of cell ≡ Ok o → IfSome o (AreInRange (atoms_of of.cell))
insert_store-fits of cell o nulls is =
    written_ok (AreInRange (atoms_of of.cell)) (stored_of cell of.cell of.nulls) o (λ numbers. AreInRange-stored_of cell of.cell of.nulls numbers nulls) is

pub update_store-fits : (of : SetType) (cell : Cell) (o : Option (List ℤ)) → IsNullSetOf of.cell of.nulls.items → update_store of cell ≡ Ok o → IfSome o (AreInRange (atoms_of of.cell))
update_store-fits of Null o nulls is = ok_keeps (λ o. IfSome o (AreInRange (atoms_of of.cell))) None o is tt
update_store-fits of (Value numbers) o nulls is = insert_store-fits of (Value numbers) o nulls is
