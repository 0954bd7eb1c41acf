-- What is kept of what a type line tells: the parts of a type that may be declared.
use Rattle.std.specs.Prelude.{◌≡◌, ℕ, nat_le, nat_lt, ◌==◌, ◌*◌, ℤ, int_le, int_lt, Bool as Truth, true, false, not, ◌&&◌, List, length, Option, Some, None}
use Rattle.std.specs.List.{fold, list_all, list_any}
use Rattle.ras_cells.specs.Atoms.{is_in_range}
use Rattle.ras_cells.specs.Stored.{atoms_of}
use Rattle.ras_cells.specs.declared.TheConstants.{MAX_NULLS}
use Rattle.ras_cells.specs.declared.atom.Atom.{Atom}
use Rattle.ras_cells.specs.declared.cell.CellType.{CellType}
use Rattle.ras_domain.specs.declared.TheConstants.{MAX_AXES, MAX_TILE_CELLS}
use Rattle.ras_domain.specs.declared.region.Interval.{Interval}
use Rattle.ras_syntax.specs.declared.limits.TheConstants.{MAX_TYPES}
use Rattle.ras_syntax.specs.declared.types.SetType.{SetType}
use Rattle.spec_grammar.specs.Tokens.{Text, is_same}
use Rattle.spec_workloads.specs.TypeLines.{are_all_apart, has_components, is_bounded_axis, is_null_set, is_one_to, is_wide}

-- it is given exactly where it passes a test
abbrev pub IfPasses : {A : Type 0} → Truth → A → Option A → Type 0
IfPasses test x None = test ≡ false
IfPasses test x (Some y) = (test ≡ true) × (y ≡ x)

-- ---- the tests of a type, part by part

-- there is room for one more type, of this name
abbrev pub is_free_type : List SetType → Text → Truth
is_free_type earlier name = nat_lt (length earlier) MAX_TYPES && not (list_any (λ other. is_same other.name name) earlier)

abbrev pub are_bounds : List Interval → Truth
are_bounds bounds = is_one_to MAX_AXES (length bounds) && list_all is_bounded_axis bounds

abbrev pub are_extents : ℕ → List ℕ → Truth
are_extents axes extents = (length extents == axes) && list_all (λ extent. nat_le 1 extent) extents && nat_le (fold ◌*◌ 1 extents) MAX_TILE_CELLS

abbrev pub are_cells : CellType → List Text → Truth
are_cells cell names = list_all (λ atom. not (is_wide atom)) (atoms_of cell) && has_components cell names

abbrev pub is_null_of : Atom → ℤ × ℤ → Truth
is_null_of atom ends = is_in_range atom ends.0 && is_in_range atom ends.1 && int_le ends.0 ends.1

abbrev pub are_nulls : CellType → List (ℤ × ℤ) → Truth
are_nulls cell nulls = is_null_set cell nulls && nat_le (length nulls) MAX_NULLS && are_all_apart (λ a b. int_lt a.1 b.0) nulls
