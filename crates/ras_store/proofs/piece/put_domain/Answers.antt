use Rattle.std.proofs.Common.{◌≡◌, ℕ, List, Some, cond, sym, ap, ◌∙◌}
use Rattle.ras_domain.specs.declared.lock.LockName.TheVariants.{Domain}
use Rattle.ras_store.specs.declared.change.Change.TheVariants.{Domain as DomainChange}
use Rattle.ras_store.specs.Kept.{changed_by, kept_in}
use Rattle.ras_store.specs.Piece.{domain_entry, placed_by}
use Rattle.ras_store.proofs.Pieces.{placed-domain}
use Rattle.ras_store.proofs.piece.put_domain.Goals as goal

pub returns-in-Domain-clause-put : goal.returns-in-Domain-clause-put
returns-in-Domain-clause-put g c = λ other.
    let entry = c.args.entry in
    let before = kept_in c.args.contents.now other in
    let name : c.in-Domain.name ≡ entry.0 = let e : Domain entry.0 entry.1 ≡ Domain c.in-Domain.name c.in-Domain.oid = c.in-Domain.is in cc in
    let oid : c.in-Domain.oid ≡ entry.1 = let e : Domain entry.0 entry.1 ≡ Domain c.in-Domain.name c.in-Domain.oid = c.in-Domain.is in cc in
    c.apply.ensures.changed other
    ∙ ap (λ (n : List ℕ). changed_by (DomainChange n c.in-Domain.oid (Some entry.2)) other before) name
    ∙ ap (λ (o : ℕ). changed_by (DomainChange entry.0 o (Some entry.2)) other before) oid
    ∙ placed-domain entry.0 entry.1 (Some entry.2) other before
    ∙ ap (λ b. cond b before (placed_by (domain_entry entry) other before)) (sym c.if-contains.false ∙ c.contains.ensures)
