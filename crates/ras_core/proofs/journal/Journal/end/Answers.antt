use Rattle.std.proofs.Common.{◌≡◌, ◌==◌, not, true, [], ◌∷◌, arith, length-append, subst, sym}
use Rattle.ras_core.specs.Journal.{is_listed_live}
use Rattle.ras_core.proofs.Shorter.{length-filter-le, length-filter-lt}
use Rattle.ras_core.proofs.journal.Journal.end.Goals as goal

pub invariant_of-self : goal.invariant_of-self
invariant_of-self c =
    let listed : is_listed_live c.args.t c.self.inside.live.items ≡ true =
    subst (λ j. is_listed_live c.args.t j.live ≡ true) (sym c.self.view_is) c.requires in
    rw (c.push_reserved.ensures.items, c.push_reserved.ensures.capacity, c.remove_transaction.ensures, c.remove_statements_of.ensures)
    (omega (
      arith,
      length-filter-lt (λ u. u == c.args.t) c.self.inside.live.items listed,
      length-filter-le (λ one. not (one.0 == c.args.t)) c.self.inside.reserved.items,
      length-append c.self.inside.events.items (c.args.event ∷ []),
      c.self.invariant,
    ))
