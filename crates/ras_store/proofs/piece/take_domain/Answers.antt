use Rattle.std.proofs.Common.{[], ◌∷◌, ◌++◌, refl, ap, ◌∙◌}
use Rattle.ras_domain.specs.declared.lock.LockName.TheVariants.{Domain}
use Rattle.ras_store.specs.declared.piece.Piece.{Piece}
use Rattle.ras_store.specs.Kept.{kept_in}
use Rattle.ras_store.proofs.Pieces.{taken-domain}
use Rattle.ras_store.proofs.piece.take_domain.Goals as goal

pub returns-in_ok-push-in-Some : goal.returns-in_ok-push-in-Some
returns-in_ok-push-in-Some c =
    let after : Piece = record c.args.piece.now { domains = c.push.new.list } in
    taken-domain c.args.piece.now after c.args.name.now c.args.oid c.in-Some.domain.now (kept_in c.args.contents.now (Domain c.args.name.now c.args.oid))
    (c.in_ok-push-in-Some.ensures
    ∙ ap (λ n. c.args.piece.now.domains ++ (n, c.args.oid, c.copy_of-domain.result) ∷ []) c.in_ok-name-in-Some.ensures
    ∙ ap (λ d. c.args.piece.now.domains ++ (c.args.name.now, c.args.oid, d) ∷ []) c.copy_of-domain.ensures)
    refl refl c.in-Some.ensures
