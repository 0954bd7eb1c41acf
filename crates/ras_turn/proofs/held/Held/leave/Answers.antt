use Rattle.std.proofs.Common.{ap, sym, ◌∙◌, ◌++◌, length, drop}
use Rattle.ras_turn.specs.Entries.{made_by}
use Rattle.ras_turn.proofs.Lists.{made_by-extended}
use Rattle.ras_turn.proofs.held.Held.leave.Goals as goal

pub returns-clause-extended : goal.returns-clause-extended
returns-clause-extended g c =
    let self = c.args.self in
    let later = g.S.Chronicle.entries c.args.state in
    let view = ap (λ v. v.own) c.let_go-seat.ensures.view ∙ ap (λ v. v.own) c.put_back-seat.ensures.view in
    view ∙ ap (λ k. made_by k later) (ap (λ v. v.number) self.holding) ∙ made_by-extended self.number self.seat.me.0.seen later c.requires.list
    ∙ ap (λ own. own ++ drop (length self.seat.me.0.seen) later) (sym self.own_is)
