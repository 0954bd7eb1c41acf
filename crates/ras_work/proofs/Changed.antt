-- The tile that a write leaves, as a replacement.
use Rattle.std.proofs.Common.{◌≡◌, ◌≤◌, ℤ, List, [], ◌∷◌, ◌++◌, length, map, Option, Some, Result, Ok, Err, refl, ap, ◌∙◌, subst, arith}
use Rattle.std.specs.List.{zip}
use Rattle.std.specs.Result.{OnOk}
use Rattle.std.proofs.lemmas.List.{map-append}
use Rattle.ras_domain.specs.Region.{points_of}
use Rattle.ras_domain.proofs.Points.{one-le-length-points_of}
use Rattle.ras_store.specs.declared.change.Change.{Change}
use Rattle.ras_store.specs.declared.write.Write.{Write}
use Rattle.ras_syntax.specs.declared.types.SetType.{SetType}
use Rattle.ras_tile.specs.Tile.{TileValue}
use Rattle.spec_expressions.specs.Shape.{Box}
use Rattle.spec_views.specs.Holdings.{Holding, tile_held}
use Rattle.law_work.specs.ChangesFor.{tile_after, tile_holding}
use Rattle.law_work.specs.Replacements.{Replacement, replacement_of}
use Rattle.law_work.specs.Writes.{stores_of_write}
use Rattle.ras_work.specs.declared.cells.NullRule.{NullRule}
use Rattle.ras_work.specs.Stores.{IsWrittenTile, number_written, store_by}

pub on_ok : {A E : Type 0} (r : Result A E) (P Q : Type 0) → (P → Q) → OnOk r P → OnOk r Q
on_ok (Ok x) P Q gives holds = gives holds
on_ok (Err e) P Q gives holds = holds

zip-map : (f : List ℤ → List ℤ) (ps : List (List ℤ)) → zip ps (map f ps) ≡ map {B = List ℤ × List ℤ} (λ p. (p, f p)) ps
zip-map f [] = refl
zip-map f (p ∷ ps) = let head : List ℤ × List ℤ = (p, f p) in ap (λ l. head ∷ l) (zip-map f ps)

some_points : (f : List ℤ → List ℤ) (ps : List (List ℤ)) → 1 ≤ length ps → Some (tile_held (zip ps (map f ps))) ≡ tile_holding (map (λ p. (p, f p)) ps)
some_points f [] some = absurd (omega arith)
some_points f (p ∷ ps) some = let head : List ℤ × List ℤ = (p, f p) in ap (λ l. Some (tile_held (head ∷ l))) (zip-map f ps)

-- a tile with the numbers of a write is the one that it leaves
pub written-tile : (of : SetType) (rule : NullRule) (write : Write) (before : Option Holding) (box : Box) (tile : TileValue) → IsWrittenTile of rule write before box tile
    → Some (tile_held (zip (points_of tile.region) tile.cells)) ≡ tile_after of before (stores_of_write (store_by rule of) write) box
written-tile of rule write before box tile w =
    let f : List ℤ → List ℤ = number_written of rule write before in
    (λ i. Some (tile_held (zip (points_of (w.region i)) (w.cells i))))
    ∙ some_points f (points_of box) (subst (λ b. 1 ≤ length (points_of b)) w.region (one-le-length-points_of tile.region w.is_tile.box.ordered))

-- one change more is one replacement more
pub one_more : (old new : List Change) (change : Change) (replacement : Replacement) → replacement_of change ≡ replacement → new ≡ old ++ change ∷ []
    → map replacement_of new ≡ map replacement_of old ++ replacement ∷ []
one_more old new change replacement same is =
    ap (map replacement_of) is ∙ map-append replacement_of old (change ∷ []) ∙ ap (λ r. map replacement_of old ++ r ∷ []) same
