use Rattle.ras_store.proofs.Collections.{kept-made, room-made}
use Rattle.ras_store.proofs.contents.Contents.reserve_collection.Goals as goal

pub returns-clause-kept : goal.returns-clause-kept
returns-clause-kept c = kept-made c.args.self.now c.make_collection.new.self c.make_collection.ensures.collections

pub returns-clause-room : goal.returns-clause-room
returns-clause-room c = room-made c.args.self.now c.make_collection.new.self c.make_collection.ensures.collections
