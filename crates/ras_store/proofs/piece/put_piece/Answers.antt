use Rattle.std.proofs.Common.{All, cond, map, sym, ap, subst, ◌∙◌}
use Rattle.std.proofs.lemmas.List.Elements.{All-weaker}
use Rattle.ras_store.specs.Kept.{HasRoomFor, kept_in, name_changed}
use Rattle.ras_store.specs.Piece.{collection_entry, domain_entry, placed_by_all, tile_entry}
use Rattle.ras_store.proofs.Pieces.{piece-put}
use Rattle.ras_store.proofs.piece.put_piece.Goals as goal

pub put_collections-requires : goal.put_collections-requires
put_collections-requires g c =
    subst (All (λ entry. HasRoomFor c.args.contents.now (collection_entry entry))) (sym c.into_vec.ensures) c.requires.collections

pub put_domains-requires : goal.put_domains-requires
put_domains-requires g c =
    subst (All (λ entry. HasRoomFor c.put_collections.new.contents (domain_entry entry))) (sym c.into_vec-2.ensures)
    (All-weaker (λ entry. HasRoomFor c.args.contents.now (domain_entry entry)) (λ entry. HasRoomFor c.put_collections.new.contents (domain_entry entry))
    (λ entry. c.put_collections.ensures.room (name_changed (domain_entry entry))) c.args.piece.domains c.requires.domains)

pub put_tiles-requires : goal.put_tiles-requires
put_tiles-requires g c =
    subst (All (λ entry. HasRoomFor c.put_domains.new.contents (tile_entry entry))) (sym c.into_vec-3.ensures)
    (All-weaker (λ entry. HasRoomFor c.args.contents.now (tile_entry entry)) (λ entry. HasRoomFor c.put_domains.new.contents (tile_entry entry))
    (λ entry room. c.put_domains.ensures.room (name_changed (tile_entry entry)) (c.put_collections.ensures.room (name_changed (tile_entry entry)) room))
    c.args.piece.tiles c.requires.tiles)

pub returns-clause-put : goal.returns-clause-put
returns-clause-put g c = λ name.
    let written = g.W.WrittenNames.is_written c.args.written.now in
    let one = kept_in c.put_collections.new.contents name in
    let two = kept_in c.put_domains.new.contents name in
    piece-put c.args.piece written name (kept_in c.args.contents.now name) one two (kept_in c.put_tiles.new.contents name)
    (c.put_collections.ensures.put name
    ∙ ap (λ es. cond (written name) (kept_in c.args.contents.now name) (placed_by_all (map collection_entry es) name (kept_in c.args.contents.now name))) c.into_vec.ensures)
    (c.put_domains.ensures.put name ∙ ap (λ es. cond (written name) one (placed_by_all (map domain_entry es) name one)) c.into_vec-2.ensures)
    (c.put_tiles.ensures.put name ∙ ap (λ es. cond (written name) two (placed_by_all (map tile_entry es) name two)) c.into_vec-3.ensures)
