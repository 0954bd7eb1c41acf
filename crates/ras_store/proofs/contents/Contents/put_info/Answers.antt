use Rattle.std.proofs.Common.{◌≡◌, Some, refl, sym, ap, ◌∙◌}
use Rattle.std.specs.BTreeMap.{get}
use Rattle.std.specs.Cmp.Lexicographic.{slice_cmp}
use Rattle.std.specs.Option.{IsSome, option_copied_mut}
use Rattle.std.specs.Ordering.{nat_cmp}
use Rattle.ras_domain.specs.declared.lock.LockName.TheVariants.{Collection}
use Rattle.ras_store.specs.declared.collection.KeptCollection.{KeptCollection}
use Rattle.ras_store.specs.declared.contents.Contents.{Contents}
use Rattle.ras_store.proofs.Collections.{kept-put, room-info, room-same, room-some}
use Rattle.ras_store.proofs.contents.Contents.put_info.Goals as goal

pub returns-clause-put : goal.returns-clause-put
returns-clause-put c =
    let v = c.unwrap-collection.result.now in
    let w : KeptCollection = record { info = c.args.info; arrays = v.arrays } in
    let after : Contents = record { collections = c.get_mut.follows.lender w } in
    let key = c.args.name.now in
    let some : IsSome (get (slice_cmp nat_cmp) c.args.self.now.collections key) =
    room-some (get (slice_cmp nat_cmp) c.args.self.now.collections key) (Collection key) c.requires in
    kept-put c.args.self.now after key v w (sym c.get_mut.ensures.value ∙ ap option_copied_mut c.unwrap-collection.ensures)
    ((c.get_mut.follows.holds w).3 some) c.args.info refl refl

pub returns-clause-room : goal.returns-clause-room
returns-clause-room c =
    let v = c.unwrap-collection.result.now in
    let w : KeptCollection = record { info = c.args.info; arrays = v.arrays } in
    let after : Contents = record { collections = c.get_mut.follows.lender w } in
    let key = c.args.name.now in
    let some : IsSome (get (slice_cmp nat_cmp) c.args.self.now.collections key) =
    room-some (get (slice_cmp nat_cmp) c.args.self.now.collections key) (Collection key) c.requires in
    room-same c.args.self.now after key v w (sym c.get_mut.ensures.value ∙ ap option_copied_mut c.unwrap-collection.ensures)
    ((c.get_mut.follows.holds w).3 some) (room-info v w refl)
