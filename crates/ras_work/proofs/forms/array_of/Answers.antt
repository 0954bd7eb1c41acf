use Rattle.std.proofs.Common.{◌≡◌, ℤ, List, ◌∷◌, map, Some, ap, ◌∙◌}
use Rattle.ras_domain.specs.declared.lock.LockName.TheVariants.{Collection, Domain}
use Rattle.ras_grid.specs.Grid.{places_meeting}
use Rattle.ras_store.specs.declared.change.Change.{Change}
use Rattle.ras_store.specs.declared.change.Change.TheVariants.{Collection as CollectionChange, Domain as DomainChange}
use Rattle.ras_store.specs.Databases.{holdings_of}
use Rattle.ras_store.specs.View.{view_kept}
use Rattle.spec_statements.specs.Effects.{Stores, insert_store}
use Rattle.spec_views.specs.Holdings.{collection_held, domain_held}
use Rattle.law_work.specs.ChangesFor.{tile_replaced}
use Rattle.law_work.specs.Replacements.{Replacement}
use Rattle.law_work.specs.Writes.{stores_of_write}
use Rattle.ras_work.proofs.Making.{new-tiles, two_and_more}
use Rattle.ras_work.proofs.forms.array_of.Goals as goal

pub returns : goal.returns
returns c =
    let first : Change = CollectionChange c.in_ok-try_clone.field-0 (Some c.in_ok-info_after.info_after) in
    let second : Change = DomainChange c.in_ok-try_clone-2.field-0 c.args.info.now.next (Some c.copy_of_region-domain.result) in
    let stores : Stores = stores_of_write (insert_store c.args.of.now) c.args.write.now in
    let replaced : List ℤ → Replacement =
    tile_replaced c.args.of.now c.args.into.now c.args.info.now.next c.args.write.now.grown stores (holdings_of (view_kept c.new-nothing.result)) in
    let places : map (λ place. place.items) c.as_slice.result.now ≡ places_meeting c.args.of.now.extents.items c.args.write.now.grown =
    ap (map (λ place. place.items)) c.as_slice.ensures.value ∙ c.in_ok-places.ensures.places in
    let tiles = ap (map replaced) places
    ∙ new-tiles c.args.of.now c.args.into.now c.args.info.now.next c.args.write.now.grown stores (view_kept c.new-nothing.result)
    (places_meeting c.args.of.now.extents.items c.args.write.now.grown) c.new-nothing.ensures in
    two_and_more first second c.new-changes.result c.add.new.changes c.add-2.new.changes c.add_tiles.new.changes (map replaced (map (λ place. place.items) c.as_slice.result.now))
    c.new-changes.ensures c.in_ok-add.ensures c.in_ok-add-2.ensures c.in_ok-add_tiles.ensures
    ∙ (λ i.
    (Collection (c.in_ok-try_clone.ensures i), Some (collection_held (c.in_ok-info_after.ensures i).set_type (c.in_ok-info_after.ensures i).next (c.in_ok-info_after.ensures i).oids))
    ∷ (Domain (c.in_ok-try_clone-2.ensures i) c.args.info.now.next, Some (domain_held (c.copy_of_region-domain.ensures i))) ∷ tiles i)
