use Rattle.std.proofs.Common.{◌≡◌, true, [], ◌∷◌, arith, length-append, subst, sym}
use Rattle.ras_core.specs.Journal.{is_key, is_reserved}
use Rattle.ras_core.proofs.Shorter.{length-filter-lt}
use Rattle.ras_core.proofs.journal.Journal.close_statement.Goals as goal

pub invariant_of-self : goal.invariant_of-self
invariant_of-self c =
    let reserved : is_reserved c.args.t c.args.statement c.self.inside.reserved.items ≡ true =
    subst (λ j. is_reserved c.args.t c.args.statement j.reserved ≡ true) (sym c.self.view_is) c.requires in
    rw (c.push_reserved.ensures.items, c.push_reserved.ensures.capacity, c.remove_statement.ensures)
    (omega (
      arith,
      length-filter-lt (is_key c.args.t c.args.statement) c.self.inside.reserved.items reserved,
      length-append c.self.inside.events.items (c.args.event ∷ []),
      c.self.invariant,
    ))
