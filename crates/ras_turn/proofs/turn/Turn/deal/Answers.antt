use Rattle.std.proofs.Common.{rules, ℕ, ◌+◌, ap, sym, ◌∙◌, subst, length, length-append}
use Rattle.ras_turn.specs.Words.{AreNew, IsNew}
use Rattle.ras_turn.proofs.Lists.{each_place}
use Rattle.ras_turn.proofs.Ends.{deals_as, dealt_view}
use Rattle.ras_turn.proofs.turn.Turn.deal.Goals as goal

pub split_seat-dealt-requires : goal.split_seat-dealt-requires
split_seat-dealt-requires g c =
    (search rules, search rules, deals_as g.S.Chronicle.entries g.S.Chronicle.charter _ _ _ c.loop-number.number c.loop-number.seat.me.0 c.loop-number.invariant.view (search rules))

pub loop-number-preserved : goal.loop-number-preserved
loop-number-preserved g c =
    let kept = c.loop-number.invariant in
    let cut = c.split_seat-dealt.ensures in
    let view = ap (λ m. m.0) cut.2 in
    let made = c.of.ensures in
    let table = c.args.self.now.table.shared.table_id in
    record {
      turn = cut.0 ∙ kept.turn;
      view = dealt_view c.loop-number.seat.me.0 c.split_seat-dealt.new.seat.me.0 c.loop-number.number view (ap (λ v. v.number) kept.view);
      charter = ap (λ v. v.charter) view ∙ kept.charter;
      room = c.push_reserved.ensures.capacity ∙ kept.room;
      count = c.push_reserved.ensures.len ∙ ap (λ (k : ℕ). k + 1) kept.count;
      places = ap length c.push_reserved.ensures.items ∙ length-append c.loop-number.passes.items _ ∙ ap (λ (k : ℕ). k + 1) kept.places;
      each = λ charter is. subst (AreNew table charter) (sym c.push_reserved.ensures.items)
          (each_place (IsNew table charter) c.loop-number.passes.items c.of.result (kept.each charter is) record {
            turn = ap (λ s. s.table_id) made.1 ∙ cut.3 ∙ kept.turn;
            number = made.0 ∙ sym kept.places;
            charter = ap (λ s. s.me.0.charter) made.1 ∙ ap (λ m. m.0.charter) cut.4 ∙ kept.charter ∙ is;
            seen = ap (λ s. s.me.0.seen) made.1 ∙ ap (λ m. m.0.seen) cut.4;
            own = ap (λ s. s.me.0.own) made.1 ∙ ap (λ m. m.0.own) cut.4;
          });
    }
