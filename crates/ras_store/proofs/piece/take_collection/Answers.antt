use Rattle.std.proofs.Common.{◌≡◌, [], ◌∷◌, ◌++◌, Some, refl, ap, ◌∙◌}
use Rattle.std.specs.Option.{option_map}
use Rattle.ras_domain.specs.declared.lock.LockName.TheVariants.{Collection}
use Rattle.ras_store.specs.declared.piece.Piece.{Piece}
use Rattle.ras_store.specs.Kept.{collection_kept, kept_in}
use Rattle.ras_store.proofs.Pieces.{taken-collection}
use Rattle.ras_store.proofs.piece.take_collection.Goals as goal
use Rattle.ras_store.proofs.piece.take_collection.Goals.{in-Some+in_ok-try_clone-in-Some, in-None}

pub returns : goal.returns
returns c =
    let after : Piece = record c.args.piece.now { collections = c.push.new.list } in
    let info : option_map collection_kept c.match-info.info ≡ kept_in c.args.contents.now (Collection c.args.name.now) =
    elim c.match-info.branch [
      | in-Some+in_ok-try_clone-in-Some w ↦ ap (option_map collection_kept) w.info-is ∙ ap (λ i. Some (collection_kept i)) w.in_ok-try_clone-in-Some.ensures ∙ w.in-Some.ensures
      | in-None w ↦ ap (option_map collection_kept) w.info-is ∙ w.in-None.ensures
    ] in
    taken-collection c.args.piece.now after c.args.name.now c.match-info.info (kept_in c.args.contents.now (Collection c.args.name.now))
    (c.in_ok-push.ensures ∙ ap (λ n. c.args.piece.now.collections ++ (n, c.match-info.info) ∷ []) c.in_ok-name.ensures)
    refl refl info
