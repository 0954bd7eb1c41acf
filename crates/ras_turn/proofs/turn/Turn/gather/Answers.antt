use Rattle.std.proofs.Common.{rules, ◌≡◌, ap, sym, ◌∙◌, subst}
use Rattle.std.specs.List.{All}
use Rattle.ras_turn.specs.Rule.{idle}
use Rattle.ras_turn.specs.Words.{pass_turn, known_of}
use Rattle.ras_turn.proofs.Lists.{all_front, all_last}
use Rattle.ras_turn.proofs.Ends.{collects, gathers_as, gathered, gathered_one, known_as}
use Rattle.ras_turn.proofs.turn.Turn.gather.Goals as goal

pub load_new_seat-seat-requires : goal.load_new_seat-seat-requires
load_new_seat-seat-requires g c = (search rules, collects g.S.Chronicle.entries g.S.Chronicle.charter _ _ _)

pub join_seat-requires : goal.join_seat-requires
join_seat-requires g c =
    let pass = c.in-Some.pass in
    let table = c.args.self.now.table.shared.table_id in
    let seat = c.into_parts-other.ensures.1 in
    let all = subst (All (λ p. pass_turn p ≡ table)) c.in-Some.ensures.items c.loop-pass.invariant.passes in (
      search rules,
      ap (λ s. s.table_id) seat ∙ all_last (λ p. pass_turn p ≡ table) c.pop.new.self.items pass all,
      ap (λ s. s.me.1) seat ∙ pass.carries_nothing,
      search rules,
      gathers_as g.S.Chronicle.entries g.S.Chronicle.charter _ _ _ _ pass.number c.loop-pass.seat.me.0 c.into_parts-other.result.1.me.0 c.loop-pass.invariant.view
          (subst (λ s. s.me.0 ≡ idle pass.number s.me.0.seen s.me.0.own s.me.0.charter) (sym seat) pass.idle),
    )

pub loop-pass-preserved : goal.loop-pass-preserved
loop-pass-preserved g c =
    let pass = c.in-Some.pass in
    let table = c.args.self.now.table.shared.table_id in
    let seat = c.into_parts-other.ensures.1 in
    let kept = c.loop-pass.invariant in
    let view = ap (λ m. m.0) c.join_seat.ensures.2 in
    let popped = c.in-Some.ensures.items in
    record {
      turn = c.join_seat.ensures.0 ∙ kept.turn;
      passes = all_front (λ p. pass_turn p ≡ table) c.pop.new.self.items pass (subst (All (λ p. pass_turn p ≡ table)) popped kept.passes);
      view = gathered _ _ view;
      taken = gathered_one known_of c.args.passes.items c.loop-pass.passes.items c.pop.new.self.items pass c.loop-pass.seat.me.0.joined _ c.join_seat.new.seat.me.0 kept.taken popped view
          (known_as c.into_parts-other.result.1.me.0 pass.seat.me.0 pass.number (ap (λ s. s.me.0) seat) (ap (λ v. v.number) pass.idle));
    }
