use Rattle.std.proofs.Common.{[], ◌∷◌, ◌++◌, Some, refl, ap, ◌∙◌}
use Rattle.ras_domain.specs.declared.lock.LockName.TheVariants.{Tile}
use Rattle.ras_store.specs.declared.piece.Piece.{Piece}
use Rattle.ras_store.specs.Kept.{kept_in, tile_kept}
use Rattle.ras_store.proofs.Pieces.{taken-tile}
use Rattle.ras_store.proofs.piece.take_tile.Goals as goal

pub returns-in_ok-push-in-Some : goal.returns-in_ok-push-in-Some
returns-in_ok-push-in-Some c =
    let after : Piece = record c.args.piece.now { tiles = c.push.new.list } in
    taken-tile c.args.piece.now after c.args.name.now c.args.oid c.args.place.now c.in_ok-tile-in-Some.tile
    (kept_in c.args.contents.now (Tile c.args.name.now c.args.oid c.args.place.now))
    (c.in_ok-push-in-Some.ensures
    ∙ ap (λ n. c.args.piece.now.tiles ++ (n, c.args.oid, c.in_ok-place-in-Some.place, c.in_ok-tile-in-Some.tile) ∷ []) c.in_ok-name-in-Some.ensures
    ∙ ap (λ p. c.args.piece.now.tiles ++ (c.args.name.now, c.args.oid, p, c.in_ok-tile-in-Some.tile) ∷ []) c.in_ok-place-in-Some.ensures)
    refl refl (ap (λ t. Some (tile_kept t)) c.in_ok-tile-in-Some.ensures ∙ c.in-Some.ensures)
