-- A tile that is filled, point by point.
use Rattle.std.proofs.Common.{◌≡◌, ◌+◌, ◌<◌, ◌≤◌, ℕ, ℤ, List, [], ◌∷◌, ◌++◌, length, set, take, map, All, IsTrue, Option, Some, refl, sym, ap, ◌∙◌, subst, arith}
use Rattle.std.specs.List.{slice_get}
use Rattle.std.proofs.lemmas.List.{map_more, take_all, take_more_set, length-set}
use Rattle.std.proofs.lemmas.List.Elements.{All-from_recursion, All-nil, recursion_from_All}
use Rattle.std.proofs.lemmas.Option.{get_or_from_slice_get, slice_get_within}
use Rattle.ras_cells.specs.Atoms.{AreInRange}
use Rattle.ras_cells.specs.Stored.{atoms_of}
use Rattle.ras_domain.specs.Region.{IsIn, place_in_rows, points_of}
use Rattle.ras_domain.proofs.Points.{Contains-IsIn}
use Rattle.ras_domain.proofs.RowOrder.{place_in_rows-at}
use Rattle.ras_store.specs.declared.write.Write.{Write}
use Rattle.ras_syntax.specs.declared.types.SetType.{SetType}
use Rattle.ras_tile.specs.Tile.{IsTile, TileValue}
use Rattle.law_lists.proofs.Each.{append_all}
use Rattle.spec_expressions.specs.Shape.{Box}
use Rattle.spec_views.specs.Holdings.{Holding}
use Rattle.ras_work.specs.declared.cells.NullRule.{NullRule}
use Rattle.ras_work.specs.Filled.{IsFilledUpTo}
use Rattle.ras_work.specs.Stores.{number_written}

-- the point at a place is one of the box
pub point_inside : (box : Box) (n : ℕ) (p : List ℤ) → slice_get (points_of box) n ≡ Some p → IsIn p box
point_inside box n p at = (Contains-IsIn box p).0 (n, slice_get_within (points_of box) n p at, get_or_from_slice_get (points_of box) n p p at)

module _ (of : SetType) (rule : NullRule) (write : Write) (before : Option Holding) where
  abbrev Range : List ℤ → Type 0
  Range = AreInRange (atoms_of of.cell)

  abbrev number : List ℤ → List ℤ
  number = number_written of rule write before

  pub filled-none : (tile : TileValue) → IsTrue tile.writable → IsFilledUpTo of rule write before 0 tile tile
  filled-none tile writable = record { region = refl; width = refl; writable = writable; long = refl; cells = refl; range = All-nil Range }

  pub filled-more : (old tile new : TileValue) (n : ℕ) (p numbers : List ℤ) → IsTile tile → IsFilledUpTo of rule write before n old tile
      → slice_get (points_of tile.region) n ≡ Some p → new ≡ record tile { cells = set tile.cells (place_in_rows tile.region p) numbers } → numbers ≡ number_written of rule write before p
      → AreInRange (atoms_of of.cell) numbers → IsFilledUpTo of rule write before (n + 1) old new
  filled-more old tile new n p numbers is_tile filled at is same fits =
      let place : place_in_rows tile.region p ≡ n = place_in_rows-at tile.region n p at in
      let within : n < length (points_of tile.region) = slice_get_within (points_of tile.region) n p at in
      let here : n < length tile.cells = omega (arith, is_tile.each_point) in
      let at_old : slice_get (points_of old.region) n ≡ Some p = subst (λ b. slice_get (points_of b) n ≡ Some p) filled.region at in
      let front : take (n + 1) (set tile.cells (place_in_rows tile.region p) numbers) ≡ take n tile.cells ++ numbers ∷ [] =
      ap (λ m. take (n + 1) (set tile.cells m numbers)) place ∙ take_more_set tile.cells n numbers here in
      subst (λ t. IsFilledUpTo of rule write before (n + 1) old t) (sym is) (record {
        region = filled.region;
        width = filled.width;
        writable = filled.writable;
        long = length-set tile.cells (place_in_rows tile.region p) numbers ∙ filled.long;
        cells = front ∙ ap (λ l. l ++ numbers ∷ []) filled.cells ∙ ap (λ x. map number (take n (points_of old.region)) ++ x ∷ []) same
            ∙ sym (map_more number (points_of old.region) n p (slice_get_within (points_of old.region) n p at_old)
            ∙ ap (λ q. map number (take n (points_of old.region)) ++ number q ∷ []) (get_or_from_slice_get (points_of old.region) n p p at_old));
        range = subst (All Range) (sym front)
            (All-from_recursion Range _ (append_all Range (take n tile.cells) (numbers ∷ []) (recursion_from_All Range (take n tile.cells) filled.range) (fits, tt)));
      })

  -- all cells
  pub filled-whole : (old tile : TileValue) → IsTile old → IsFilledUpTo of rule write before (length (points_of old.region)) old tile
      → (tile.cells ≡ map (number_written of rule write before) (points_of old.region)) × All (AreInRange (atoms_of of.cell)) tile.cells
  filled-whole old tile is_tile filled =
      let long : length tile.cells ≤ length (points_of old.region) = omega (arith, filled.long, is_tile.each_point) in
      let whole : take (length (points_of old.region)) tile.cells ≡ tile.cells = take_all _ tile.cells long in
      (sym whole ∙ filled.cells ∙ ap (map number) (take_all _ (points_of old.region) (omega arith)), subst (All Range) whole filled.range)
