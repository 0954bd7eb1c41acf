use Rattle.std.proofs.Common.{◌≡◌, ◌<◌, ◌≤◌, All, length, take, arith, subst, ◌∙◌}
use Rattle.std.proofs.lemmas.List.{take_all}
use Rattle.std.proofs.lemmas.List.Elements.{All-more, All-weaker}
use Rattle.ras_store.specs.Kept.{HasRoomFor, name_changed}
use Rattle.ras_store.specs.Piece.{tile_entry}
use Rattle.ras_store.proofs.piece.reserve_tiles.Goals as goal

pub returns-in_err-reserve_tile-clause-kept : goal.returns-in_err-reserve_tile-clause-kept
returns-in_err-reserve_tile-clause-kept c = λ name. c.reserve_tile.ensures.kept name ∙ c.loop-entry.invariant.kept name

pub loop-entry-preserved : goal.loop-entry-preserved
loop-entry-preserved c =
    let within : c.loop-entry.entry-index < length c.args.entries.now = omega arith in
    record {
      kept = λ name. c.reserve_tile.ensures.kept name ∙ c.loop-entry.invariant.kept name;
      made = All-more (λ entry. HasRoomFor c.reserve_tile.new.self (tile_entry entry)) c.args.entries.now c.loop-entry.entry-index c.entry-item.result within
          (All-weaker (λ entry. HasRoomFor c.loop-entry.contents (tile_entry entry)) (λ entry. HasRoomFor c.reserve_tile.new.self (tile_entry entry))
          (λ entry. c.reserve_tile.ensures.room (name_changed (tile_entry entry)))
          (take c.loop-entry.entry-index c.args.entries.now) c.loop-entry.invariant.made)
          (subst (λ entry. HasRoomFor c.reserve_tile.new.self (tile_entry entry)) c.entry-item.is c.in_ok-reserve_tile.ensures.made);
      room = λ other room. c.reserve_tile.ensures.room other (c.loop-entry.invariant.room other room);
    }

pub returns-clause-made : goal.returns-clause-made
returns-clause-made c =
    let upto : length c.args.entries.now ≤ c.loop-entry.entry-index = omega arith in
    subst (All (λ entry. HasRoomFor c.loop-entry.contents (tile_entry entry))) (take_all c.loop-entry.entry-index c.args.entries.now upto) c.loop-entry.invariant.made
