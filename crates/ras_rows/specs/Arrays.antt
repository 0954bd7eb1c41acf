-- An array of a row, as the code keeps it.
use Rattle.std.specs.Prelude.{◌≡◌, ℕ, ℤ, List, length}
use Rattle.std.specs.Cmp.Lexicographic.{slice_cmp}
use Rattle.std.specs.List.{zip}
use Rattle.std.specs.Map.{lookup}
use Rattle.std.specs.Ordering.{int_cmp, is_eq}
use Rattle.ras_domain.specs.declared.lock.LockName.TheVariants.{Domain}
use Rattle.ras_domain.specs.Region.{points_of}
use Rattle.ras_grid.specs.Grid.{IsGrid}
use Rattle.ras_store.specs.Databases.{holdings_of}
use Rattle.ras_store.specs.View.{view_kept}
use Rattle.ras_store.specs.declared.view.View.{View}
use Rattle.ras_syntax.specs.declared.types.SetType.{SetType}
use Rattle.ras_syntax.specs.declared.typed.CheckedSource.{CheckedSource}
use Rattle.ras_tile.specs.Tile.{TileValue}
use Rattle.spec_expressions.specs.Shape.{Box}
use Rattle.spec_shown.specs.Shown.{domain_shown, numbers_or_zeros}
use Rattle.spec_views.specs.Holdings.{Holdings}

-- what is held by a view
abbrev pub holdings_in : View → Holdings
holdings_in view = holdings_of (view_kept view)

-- the domain that is kept is the one that the view shows, and the type cuts it into tiles
pub record IsArrayKept (view : View) (source : CheckedSource) (id : ℕ) (domain : Box) : Type 0 where
  pub shown : domain ≡ domain_shown source.of (holdings_in view (Domain source.collection id))
  pub grid : IsGrid source.of.extents.items
  pub axes : length domain ≡ length source.of.extents.items

-- the numbers at a point by a tile, zeros where it hasn't the point
abbrev pub numbers_in_tile : SetType → TileValue → List ℤ → List ℤ
numbers_in_tile of tile p = numbers_or_zeros of (lookup (λ q. is_eq (slice_cmp int_cmp p q)) (zip (points_of tile.region) tile.cells))
