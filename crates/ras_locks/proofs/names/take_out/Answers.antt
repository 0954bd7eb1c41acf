use Rattle.std.proofs.Common.{◌≡◌, ◌∙◌, ap, sym, refl, is_some}
use Rattle.std.specs.Prelude.{Some}
use Rattle.ras_locks.specs.Holders.{without_owner}
use Rattle.ras_locks.specs.Tables.{holders_in, items_or_none}
use Rattle.ras_locks.proofs.Entries.{absent-same, updated-holders}
use Rattle.ras_locks.proofs.names.take_out.Goals as goal

pub returns-in-Some : goal.returns-in-Some
returns-in-Some c =
    let there = c.in-Some.ensures.value in
    let updates = (c.get_mut.follows.holds c.let_go.new.holders).3 (sym (ap is_some there)) in
    updated-holders _ _ c.args.name.now (Some c.let_go.new.holders) updates.0 (without_owner c.args.owner)
    (c.let_go.ensures ∙ ap (λ o. without_owner c.args.owner (items_or_none o)) there)

pub returns-in-None : goal.returns-in-None
returns-in-None c = λ other.
    ap (λ m. holders_in m.entries other) c.get_mut.follows.holds-at-none
    ∙ absent-same c.args.names.now.entries c.args.name.now (without_owner c.args.owner) refl c.in-None.ensures.value other
