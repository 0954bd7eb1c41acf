-- What it is that an expression is prepared: the prepared one gives its cells.
use Rattle.std.specs.Prelude.{◌≡◌, ℕ, ℤ, List, [], ◌∷◌, length, map, reverse, Option, Some, None}
use Rattle.std.specs.List.{zip}
use Rattle.spec_expressions.specs.Database.{Member}
use Rattle.spec_expressions.specs.Tree.{NameOf, Tree, Trees, Pairs, Axes, Condition, no_trees, trees, no_axes, position, trim}
use Rattle.spec_expressions.specs.Shape.{Box, shape_of, moved_after}
use Rattle.spec_expressions.specs.Eval.{CellOutcome, Environment, box_in, cell_at, chosen_cell, where_true}
use Rattle.ras_values.specs.Nodes.{NodeCells, PartCells}

abbrev pub domain_of_member : Member → Box
domain_of_member member = member.array.domain

-- the row, and the variables of these names at these points, outermost first
abbrev pub scope_over : List Member → List NameOf → List (List ℤ) → Environment
scope_over row names points = record { row = row; variables = reverse (zip names points) }

-- the outcomes are those of a definition at each point, over a row with these domains and where variables of these names are in
-- scope, outermost first
pub record AreCellsOf (row : List Member) (domains : List Box) (names : List NameOf) (wanted : Environment → List ℤ → CellOutcome) (cells : NodeCells) : Type 0 where
  pub same : map domain_of_member row ≡ domains → (points : List (List ℤ)) → length points ≡ length names → (p : List ℤ)
      → cells row points p ≡ wanted (scope_over row names points) p

abbrev pub IsPrepared : List Member → List Box → List NameOf → Tree → NodeCells → Type 0
IsPrepared row domains names t = AreCellsOf row domains names (λ scope p. cell_at scope t p)

-- the value of the first arm whose condition holds, else the other one
abbrev pub IsPreparedChoice : List Member → List Box → List NameOf → Pairs → Tree → NodeCells → Type 0
IsPreparedChoice row domains names arms t = AreCellsOf row domains names (λ scope p. chosen_cell scope arms p (cell_at scope t p))

-- the value of a condense at a point, where its condition holds
pub record IsPreparedTest (row : List Member) (domains : List Box) (names : List NameOf) (condition : Condition) (t : Tree) (cells : NodeCells) : Type 0 where
  pub same : map domain_of_member row ≡ domains → (points : List (List ℤ)) → length points ≡ length names
      → cells row points [] ≡ where_true (scope_over row names points) condition (cell_at (scope_over row names points) t [])

-- ---- lists of parts

abbrev pub ArePrepared : List Member → List Box → List NameOf → Trees → List NodeCells → Type 0
ArePrepared row domains names no_trees [] = Unit {0}
ArePrepared row domains names (trees t ts) (e ∷ es) = IsPrepared row domains names t e × ArePrepared row domains names ts es
ArePrepared row domains names no_trees (e ∷ es) = ⊥
ArePrepared row domains names (trees t ts) [] = ⊥

-- the positions of an index; a trim keeps its axis
abbrev pub ArePositions : List Member → List Box → List NameOf → Axes → List (Option NodeCells) → Type 0
ArePositions row domains names no_axes [] = Unit {0}
ArePositions row domains names (position t axes) (Some e ∷ es) = IsPrepared row domains names t e × ArePositions row domains names axes es
ArePositions row domains names (trim a b axes) (None ∷ es) = ArePositions row domains names axes es
ArePositions row domains names axes es = ⊥

-- ---- parts of a concat

-- the place of a part, by the first part's place and its predecessor's, if there are
abbrev pub place_next : ℕ → Option (Box × Box) → Box → Box
place_next n None own = own
place_next n (Some before) own = moved_after n before.0 before.1 own

-- the first part's place and that of the part that was placed last
abbrev pub placed_with : Option (Box × Box) → Box → Option (Box × Box)
placed_with None place = Some (place, place)
placed_with (Some before) place = Some (before.0, place)

abbrev pub ArePartsFrom : List Member → List Box → List NameOf → ℕ → Option (Box × Box) → Trees → List PartCells → Type 0
ArePartsFrom row domains names n before no_trees [] = Unit {0}
ArePartsFrom row domains names n before (trees t ts) (part ∷ parts) =
    IsPrepared row domains names t part.cells × (part.own ≡ box_in (shape_of domains t)) × (part.place ≡ place_next n before part.own)
    × ArePartsFrom row domains names n (placed_with before part.place) ts parts
ArePartsFrom row domains names n before no_trees (part ∷ parts) = ⊥
ArePartsFrom row domains names n before (trees t ts) [] = ⊥
