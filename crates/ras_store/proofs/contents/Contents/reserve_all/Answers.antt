use Rattle.std.proofs.Common.{◌<◌, length, take, arith, subst, ◌∙◌}
use Rattle.std.proofs.lemmas.List.Elements.{All-more, All-weaker}
use Rattle.ras_store.specs.Kept.{HasRoomFor, name_changed}
use Rattle.ras_store.proofs.contents.Contents.reserve_all.Goals as goal

pub returns-in_err-reserve-clause-kept : goal.returns-in_err-reserve-clause-kept
returns-in_err-reserve-clause-kept c = λ name. c.reserve.ensures.kept name ∙ c.loop-change.invariant.kept name

pub loop-change-preserved : goal.loop-change-preserved
loop-change-preserved c =
    let within : c.loop-change.change-index < length c.args.changes.now = omega arith in
    record {
      kept = λ name. c.reserve.ensures.kept name ∙ c.loop-change.invariant.kept name;
      made = All-more (HasRoomFor c.reserve.new.self) c.args.changes.now c.loop-change.change-index c.change-item.result within
          (All-weaker (HasRoomFor c.loop-change.self) (HasRoomFor c.reserve.new.self) (λ change room. c.reserve.ensures.room (name_changed change) room)
          (take c.loop-change.change-index c.args.changes.now) c.loop-change.invariant.made)
          (subst (HasRoomFor c.reserve.new.self) c.change-item.is c.in_ok-reserve.ensures.made);
      room = λ other room. c.reserve.ensures.room other (c.loop-change.invariant.room other room);
    }
