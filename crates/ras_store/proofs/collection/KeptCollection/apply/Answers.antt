use Rattle.std.proofs.Common.{Some, sym, ap, subst, ◌∙◌}
use Rattle.ras_store.specs.Kept.{HasRoomIn, PutsTile, kept_under, name_changed, replaced}
use Rattle.ras_store.proofs.Arrays.{domain-replaced, room-domain, room-left, room-written, some_from_and, tile-replaced}
use Rattle.ras_store.proofs.collection.KeptCollection.apply.Goals as goal

pub returns-in-Collection-clause-room : goal.returns-in-Collection-clause-room
returns-in-Collection-clause-room c = room-left c.args.self.now c.set_info.new.self c.in-Collection.info c.set_info.ensures.arrays

pub returns-in-Domain-clause-changed : goal.returns-in-Domain-clause-changed
returns-in-Domain-clause-changed c = λ name.
    domain-replaced c.args.self.now c.set_domain.new.self c.in-Domain.oid c.in-Domain.domain c.set_domain.ensures.info c.set_domain.ensures.arrays
    (subst (λ change. HasRoomIn (Some c.args.self.now) (name_changed change)) c.in-Domain.is c.requires) c.in-Domain._name name
    ∙ ap (λ change. replaced change name (kept_under (Some c.args.self.now) name)) (sym c.in-Domain.is)

pub returns-in-Domain-clause-room : goal.returns-in-Domain-clause-room
returns-in-Domain-clause-room c =
    room-domain c.args.self.now c.set_domain.new.self c.in-Domain.oid c.in-Domain.domain c.set_domain.ensures.arrays
    (subst (λ change. HasRoomIn (Some c.args.self.now) (name_changed change)) c.in-Domain.is c.requires)

pub returns-in-Tile-clause-changed : goal.returns-in-Tile-clause-changed
returns-in-Tile-clause-changed c = λ name.
    tile-replaced c.args.self.now c.set_tile.new.self c.in-Tile.oid c.in-Tile.place c.in-Tile.tile c.set_tile.ensures.info c.set_tile.ensures.arrays
    (some_from_and _ _ (subst (λ change. HasRoomIn (Some c.args.self.now) (name_changed change)) c.in-Tile.is c.requires)) c.in-Tile._name name
    ∙ ap (λ change. replaced change name (kept_under (Some c.args.self.now) name)) (sym c.in-Tile.is)

pub returns-in-Tile-clause-room : goal.returns-in-Tile-clause-room
returns-in-Tile-clause-room c =
    room-written (PutsTile c.in-Tile.place.items c.in-Tile.tile) (λ a w way. way.ready) c.args.self.now c.set_tile.new.self c.in-Tile.oid c.set_tile.ensures.arrays
    (some_from_and _ _ (subst (λ change. HasRoomIn (Some c.args.self.now) (name_changed change)) c.in-Tile.is c.requires))
