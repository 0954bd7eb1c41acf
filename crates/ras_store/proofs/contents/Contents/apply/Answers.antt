use Rattle.std.proofs.Common.{◌≡◌, Some, sym, ap, subst, ◌∙◌}
use Rattle.std.specs.BTreeMap.{get}
use Rattle.std.specs.Cmp.Lexicographic.{slice_cmp}
use Rattle.std.specs.Option.{IsSome, option_copied_mut}
use Rattle.std.specs.Ordering.{nat_cmp}
use Rattle.ras_store.specs.Kept.{HasRoomIn, name_changed}
use Rattle.ras_store.specs.declared.contents.Contents.{Contents}
use Rattle.ras_store.proofs.Collections.{kept-changed, room-same, room-some}
use Rattle.ras_store.proofs.contents.Contents.apply.Goals as goal

pub returns-clause-changed : goal.returns-clause-changed
returns-clause-changed c =
    let after : Contents = record { collections = c.get_mut.follows.lender c.apply.new.self } in
    let key = c.collection.result.now in
    let some : IsSome (get (slice_cmp nat_cmp) c.args.self.now.collections key) =
    room-some (get (slice_cmp nat_cmp) c.args.self.now.collections key) (name_changed c.args.change)
    (subst (λ k. HasRoomIn (get (slice_cmp nat_cmp) c.args.self.now.collections k) (name_changed c.args.change)) (sym c.collection.ensures) c.requires) in
    kept-changed c.args.self.now after key c.unwrap-collection.result.now c.apply.new.self
    (sym c.get_mut.ensures.value ∙ ap option_copied_mut c.unwrap-collection.ensures) ((c.get_mut.follows.holds c.apply.new.self).3 some)
    c.args.change (sym c.collection.ensures) c.apply.ensures.changed

pub returns-clause-room : goal.returns-clause-room
returns-clause-room c =
    let after : Contents = record { collections = c.get_mut.follows.lender c.apply.new.self } in
    let key = c.collection.result.now in
    let some : IsSome (get (slice_cmp nat_cmp) c.args.self.now.collections key) =
    room-some (get (slice_cmp nat_cmp) c.args.self.now.collections key) (name_changed c.args.change)
    (subst (λ k. HasRoomIn (get (slice_cmp nat_cmp) c.args.self.now.collections k) (name_changed c.args.change)) (sym c.collection.ensures) c.requires) in
    room-same c.args.self.now after key c.unwrap-collection.result.now c.apply.new.self
    (sym c.get_mut.ensures.value ∙ ap option_copied_mut c.unwrap-collection.ensures) ((c.get_mut.follows.holds c.apply.new.self).3 some)
    c.apply.ensures.room
