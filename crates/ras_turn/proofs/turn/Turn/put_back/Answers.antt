use Rattle.std.proofs.Common.{rules, List, ℕ, ◌∷◌, ap, ◌∙◌, Option, Some}
use Rattle.atomic_table.specs.Table.{rest}
use Rattle.ras_turn.proofs.Steps.{adds_as}
use Rattle.ras_turn.proofs.turn.Turn.put_back.Goals as goal

pub store-requires : goal.store-requires
store-requires g c =
    let at = c.exchange-empty.ensures.3 ∙ ap (λ (xs : List (ℕ × Option g.row.S.Denot)). (c.args.seat.me.0, (0, Some c.args.state) ∷ rest xs)) c.requires.slot in (
      search rules,
      search rules,
      adds_as g.S.Chronicle.entries g.S.Chronicle.charter _ _ _ _ _ _ c.exchange-empty.new.seat.me c.args.seat.me.0 c.args.state at
          c.requires.view c.requires.list c.len-entries.ensures,
    )
