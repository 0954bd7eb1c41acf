use Rattle.std.proofs.Common.{◌∙◌}
use Rattle.ras_store.specs.Kept.{KeepsRoom}
use Rattle.ras_store.proofs.Arrays.{kept-made, kept-roomier, room-made, room-written}
use Rattle.ras_store.proofs.collection.KeptCollection.reserve_tile.Goals as goal

pub returns-clause-kept : goal.returns-clause-kept
returns-clause-kept c = λ name.
    kept-roomier c.reserve_array.new.self c.reserve_place.new.self c.args.oid c.reserve_place.ensures.info c.reserve_place.ensures.arrays
    c.in_ok-reserve_array.ensures.made name
    ∙ kept-made c.args.self.now c.reserve_array.new.self c.in_ok-reserve_array.ensures.info c.in_ok-reserve_array.ensures.arrays name

pub returns-clause-room : goal.returns-clause-room
returns-clause-room c = λ other room.
    room-written KeepsRoom (λ a w way. way.ready) c.reserve_array.new.self c.reserve_place.new.self c.args.oid c.reserve_place.ensures.arrays
    c.in_ok-reserve_array.ensures.made other
    (room-made c.args.self.now c.reserve_array.new.self c.in_ok-reserve_array.ensures.arrays other room)

pub returns-in_err-reserve_array-clause-kept : goal.returns-in_err-reserve_array-clause-kept
returns-in_err-reserve_array-clause-kept c =
    kept-made c.args.self.now c.reserve_array.new.self c.in_err-reserve_array.ensures.info c.in_err-reserve_array.ensures.arrays

pub returns-in_err-reserve_array-clause-room : goal.returns-in_err-reserve_array-clause-room
returns-in_err-reserve_array-clause-room c =
    room-made c.args.self.now c.reserve_array.new.self c.in_err-reserve_array.ensures.arrays
