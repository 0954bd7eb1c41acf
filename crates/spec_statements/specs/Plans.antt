-- What a passing row will do: the shape of its body, and where it writes.
use Rattle.std.specs.Prelude.{ℕ, ◌*◌, nat_lt, ℤ, pos, Bool, not, ◌||◌, if◌then◌else◌, List, ◌∷◌, length, map, Option, Some, None, Result, Ok, Err, []}
use Rattle.std.specs.List.{list_any}
use Rattle.ras_cells.specs.Stored.{atoms_of}
use Rattle.ras_domain.specs.declared.region.Interval.{Interval}
use Rattle.ras_domain.specs.declared.TheConstants.{MAX_POINTS}
use Rattle.ras_domain.specs.Boxes.{hull_of, is_same_box, lies_in}
use Rattle.ras_grid.specs.Grid.{place_box}
use Rattle.ras_syntax.specs.declared.span.Span.{Span}
use Rattle.ras_syntax.specs.declared.types.SetType.{SetType}
use Rattle.ras_syntax.specs.declared.faults.ShapeFault.TheVariants.{Outside, DomainsDiffer, EmptyDomain, BoundOut, ArrayTooLarge, TooManyTiles}
use Rattle.spec_statements.specs.Statement.{Request, select, insert, delete, update, create, drop}
use Rattle.spec_expressions.specs.Tree.{Tree, Axes, node}
use Rattle.spec_expressions.specs.Shape.{Box, Shape, ShapeMisfit, Cut, scalar, array, fixed, moving, between, broken, box_of, shape_of, cuts_of, is_broken, is_empty_cut, is_small, kept_axes, of_size}
use Rattle.ras_domain.specs.Region.{volume_of}
use Rattle.spec_expressions.specs.Eval.{domains_in}
use Rattle.spec_statements.specs.Rows.{Row, environment_of}
use Rattle.spec_statements.specs.Reply.{Reply, misfit}
use Rattle.ras_syntax.specs.declared.limits.TheConstants.{MAX_TILES, MAX_STORED_NUMBERS}
use Rattle.ras_cells.specs.Outcomes.{◌>>=◌}

abbrev pub span_in : Tree → Span
span_in (node span kind form) = span

abbrev pub misfit_in : {X : Type 0} → ℕ → Result X ShapeMisfit → Result X Reply
misfit_in k (Ok x) = Ok x
misfit_in k (Err fault) = Err (misfit k fault.0 fault.1)

-- the box that an update's target names, and the same without its positions
abbrev pub target_interval : Cut → Interval
target_interval (fixed z) = record { lo = z; hi = z }
target_interval (between lo hi) = record { lo = lo; hi = hi }
target_interval moving = record { lo = pos 0; hi = pos 0 }
target_interval broken = record { lo = pos 0; hi = pos 0 }

-- a position counts as two bounds, so it must have 32 bits too
abbrev pub is_broken_target : Cut → Bool
is_broken_target (fixed z) = not (is_small z)
is_broken_target cut = is_broken cut

abbrev pub target_box : Span → ℕ → List Cut → Result Box ShapeMisfit
target_box span width cuts =
    if list_any is_broken_target cuts then Err (span, BoundOut) else
    if list_any is_empty_cut cuts then Err (span, EmptyDomain) else
    of_size span width (map target_interval cuts)

-- what is written in a row: the region, the array's new domain, and the body's domain, which is the region without
-- the axes of positions
pub record Writing : Type 0 where
  pub region : Box
  pub grown : Box
  pub body : Box

-- the point of the region for a point of the body: a position keeps its coordinate
abbrev pub target_point : List Cut → List ℤ → List ℤ
target_point [] p = p
target_point (fixed z ∷ cuts) p = z ∷ target_point cuts p
target_point (cut ∷ cuts) [] = []
target_point (cut ∷ cuts) (c ∷ p) = c ∷ target_point cuts p

-- how many tiles a box has
abbrev pub tile_count : List ℕ → Box → ℕ
tile_count extents axes = volume_of (place_box extents axes)

-- the rules on a written region, in this order, each with the body's span
abbrev pub allowed_writing : SetType → Span → Writing → Result Writing ShapeMisfit
allowed_writing of span writing =
    if not (lies_in writing.region of.bounds.items) then Err (span, Outside) else
    if nat_lt MAX_POINTS (volume_of writing.grown) || nat_lt MAX_STORED_NUMBERS (volume_of writing.grown * length (atoms_of of.cell)) then Err (span, ArrayTooLarge) else
    if nat_lt MAX_TILES (tile_count of.extents.items writing.grown) then Err (span, TooManyTiles) else
    Ok writing

-- a row with its number, the shape of its body, the cuts of an update's target, and what is written
pub record Plan : Type 0 where
  pub number : ℕ
  pub row : Row
  pub shape : Shape
  pub cuts : List Cut
  pub writing : Option Writing

abbrev pub plan_without_body : ℕ × Row → Plan
plan_without_body row = record { number = row.0; row = row.1; shape = scalar; cuts = []; writing = None }

abbrev pub read_plan : Tree → ℕ × Row → Result Plan ShapeMisfit
read_plan body row = do
  shape ← shape_of (domains_in (environment_of row.1)) body
  Ok (record { number = row.0; row = row.1; shape = shape; cuts = []; writing = None })

abbrev pub written_plan : SetType → Tree → List Cut → Shape → Writing → ℕ × Row → Result Plan ShapeMisfit
written_plan of body cuts shape writing row = do
  allowed ← allowed_writing of (span_in body) writing
  Ok (record { number = row.0; row = row.1; shape = shape; cuts = cuts; writing = Some allowed })

-- an insert writes the body's domain
abbrev pub insert_plan : SetType → Tree → ℕ × Row → Result Plan ShapeMisfit
insert_plan of body row = do
  shape ← shape_of (domains_in (environment_of row.1)) body
  written_plan of body [] shape (record { region = box_of shape; grown = box_of shape; body = box_of shape }) row

-- the domain of the one array of an update's row
abbrev pub updated_domain : Row → Box
updated_domain [] = []
updated_domain (member ∷ others) = member.array.domain

abbrev pub writing_over : Box → Box → Box → Writing
writing_over domain region body = record { region = region; grown = hull_of domain region; body = body }

abbrev pub equal_domains : Span → Box → Box → Result Box ShapeMisfit
equal_domains span a b = if is_same_box a b then Ok a else Err (span, DomainsDiffer)

-- the shape of the target's axes, then the body's, then that their domains are equal, then the rules on what is written
abbrev pub update_plan : SetType → Span → Tree → Option Axes → ℕ × Row → Result Plan ShapeMisfit
update_plan of target body None row = do
  shape ← shape_of (domains_in (environment_of row.1)) body
  written_plan of body [] shape (writing_over (updated_domain row.1) (box_of shape) (box_of shape)) row
update_plan of target body (Some axes) row = do
  cuts ← cuts_of (domains_in (environment_of row.1)) axes (updated_domain row.1)
  region ← target_box target (length (atoms_of of.cell)) cuts
  shape ← shape_of (domains_in (environment_of row.1)) body
  same ← equal_domains (span_in body) (box_of shape) (kept_axes cuts)
  written_plan of body cuts shape (writing_over (updated_domain row.1) region (box_of shape)) row

abbrev pub row_plan : Request → ℕ × Row → Result Plan ShapeMisfit
row_plan (select body sources condition) row = read_plan body row
row_plan (insert into of body) row = insert_plan of body row
row_plan (delete source condition) row = Ok (plan_without_body row)
row_plan (update source axes target body condition) row = update_plan source.of target body axes row
row_plan (create name of) row = Ok (plan_without_body row)
row_plan (drop name) row = Ok (plan_without_body row)

abbrev pub plans_of : Request → List (ℕ × Row) → Result (List Plan) Reply
plans_of form [] = Ok []
plans_of form (row ∷ rows) = do
  plan ← misfit_in row.0 (row_plan form row)
  plans ← plans_of form rows
  Ok (plan ∷ plans)
