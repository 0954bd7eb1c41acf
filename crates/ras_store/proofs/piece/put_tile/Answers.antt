use Rattle.std.proofs.Common.{◌≡◌, ℕ, ℤ, List, Some, cond, sym, ap, ◌∙◌}
use Rattle.arrayvec.specs.ArrayVec.{ArrayVec}
use Rattle.ras_domain.specs.declared.lock.LockName.TheVariants.{Tile}
use Rattle.ras_store.specs.declared.change.Change.TheVariants.{Tile as TileChange}
use Rattle.ras_store.specs.Kept.{changed_by, kept_in}
use Rattle.ras_store.specs.Piece.{placed_by, tile_entry}
use Rattle.ras_store.proofs.Pieces.{placed-tile}
use Rattle.ras_store.proofs.piece.put_tile.Goals as goal

pub returns-in-Tile-clause-put : goal.returns-in-Tile-clause-put
returns-in-Tile-clause-put g c = λ other.
    let entry = c.args.entry in
    let before = kept_in c.args.contents.now other in
    let name : c.in-Tile.name ≡ entry.0 = let e : Tile entry.0 entry.1 entry.2 ≡ Tile c.in-Tile.name c.in-Tile.oid c.in-Tile.place = c.in-Tile.is in cc in
    let oid : c.in-Tile.oid ≡ entry.1 = let e : Tile entry.0 entry.1 entry.2 ≡ Tile c.in-Tile.name c.in-Tile.oid c.in-Tile.place = c.in-Tile.is in cc in
    let place : c.in-Tile.place ≡ entry.2 = let e : Tile entry.0 entry.1 entry.2 ≡ Tile c.in-Tile.name c.in-Tile.oid c.in-Tile.place = c.in-Tile.is in cc in
    c.apply.ensures.changed other
    ∙ ap (λ (n : List ℕ). changed_by (TileChange n c.in-Tile.oid c.in-Tile.place (Some entry.3)) other before) name
    ∙ ap (λ (o : ℕ). changed_by (TileChange entry.0 o c.in-Tile.place (Some entry.3)) other before) oid
    ∙ ap (λ (p : ArrayVec ℤ). changed_by (TileChange entry.0 entry.1 p (Some entry.3)) other before) place
    ∙ placed-tile entry.0 entry.1 entry.2 (Some entry.3) other before
    ∙ ap (λ b. cond b before (placed_by (tile_entry entry) other before)) (sym c.if-contains.false ∙ c.contains.ensures)
