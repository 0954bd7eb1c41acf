use Rattle.std.proofs.Common.{◌≡◌, ◌∙◌, ap, sym, subst, true, arith}
use Rattle.std.proofs.lemmas.Bool.Decides.{nat_tests}
use Rattle.indexmap.proofs.MapLemmas.{OnOk-map}
use Rattle.ras_locks.specs.Holders.{is_among}
use Rattle.ras_locks.specs.Tables.{lists_name, names_in, IsReadyAt, IsReserved, HeldLocks}
use Rattle.ras_locks.proofs.table.LockTable.reserve_one.Goals as goal
use Rattle.ras_locks.proofs.table.LockTable.reserve_one.Goals.{then-not-holds+in_ok-list_name, else-not-holds}

pub returns-clause-reserved : goal.returns-clause-reserved
returns-clause-reserved c =
    let listed : lists_name c.args.name.now (names_in c.if-not-holds.self-inside.owners.entries c.args.owner) ≡ true = elim c.if-not-holds.branch [
      | then-not-holds+in_ok-list_name w ↦ ap (λ i. lists_name c.args.name.now (names_in i.owners.entries c.args.owner)) w.self-inside-is ∙ w.in_ok-list_name.ensures.listed
      | else-not-holds w ↦
          let held : c.holds.result ≡ true = grind (arith, nat_tests) in
          ap (λ i. lists_name c.args.name.now (names_in i.owners.entries c.args.owner)) w.self-inside-is
          ∙ c.self.invariant.listed c.args.name.now c.args.owner (ap (is_among c.args.owner) (sym c.holders_at.ensures) ∙ sym c.holds.ensures ∙ held)
    ] in
    let after : HeldLocks = record { names = c.make_room.new.names.entries; owners = c.if-not-holds.self-inside.owners.entries } in
    let made : IsReadyAt after.names c.args.name.now c.args.owner → IsReserved after c.args.name.now c.args.owner = λ ready. record { ready = ready; listed = listed } in
    OnOk-map _ _ _ made (c.make_room.ensures.room c.args.owner)
