use Rattle.std.proofs.Common.{Some, sym, ap, ◌∙◌}
use Rattle.std.specs.Option.{option_copied_mut}
use Rattle.ras_store.specs.declared.contents.Contents.{Contents}
use Rattle.ras_store.proofs.Arrays.{kept-made as array-made-kept, room-made as array-made-room}
use Rattle.ras_store.proofs.Collections.{kept-made, kept-same, room-made, room-same}
use Rattle.ras_store.proofs.contents.Contents.reserve_array.Goals as goal

pub returns-in_err-make_collection-clause-kept : goal.returns-in_err-make_collection-clause-kept
returns-in_err-make_collection-clause-kept c = kept-made c.args.self.now c.make_collection.new.self c.in_err-make_collection.ensures.collections

pub returns-clause-kept : goal.returns-clause-kept
returns-clause-kept c = λ name.
    let after : Contents = record { collections = c.get_mut.follows.lender c.reserve_array.new.self } in
    kept-same c.make_collection.new.self after c.args.name.now c.unwrap-collection.result.now c.reserve_array.new.self
    (sym c.get_mut.ensures.value ∙ ap option_copied_mut c.unwrap-collection.ensures)
    ((c.get_mut.follows.holds c.reserve_array.new.self).3 c.in_ok-make_collection.ensures.made) (array-made-kept c.unwrap-collection.result.now c.reserve_array.new.self c.reserve_array.ensures.info c.reserve_array.ensures.arrays) name
    ∙ kept-made c.args.self.now c.make_collection.new.self c.in_ok-make_collection.ensures.collections name

pub returns-clause-room : goal.returns-clause-room
returns-clause-room c = λ other room.
    let after : Contents = record { collections = c.get_mut.follows.lender c.reserve_array.new.self } in
    room-same c.make_collection.new.self after c.args.name.now c.unwrap-collection.result.now c.reserve_array.new.self
    (sym c.get_mut.ensures.value ∙ ap option_copied_mut c.unwrap-collection.ensures)
    ((c.get_mut.follows.holds c.reserve_array.new.self).3 c.in_ok-make_collection.ensures.made) (array-made-room c.unwrap-collection.result.now c.reserve_array.new.self c.reserve_array.ensures.arrays) other
    (room-made c.args.self.now c.make_collection.new.self c.in_ok-make_collection.ensures.collections other room)

pub returns-in_err-make_collection-clause-room : goal.returns-in_err-make_collection-clause-room
returns-in_err-make_collection-clause-room c = room-made c.args.self.now c.make_collection.new.self c.in_err-make_collection.ensures.collections
