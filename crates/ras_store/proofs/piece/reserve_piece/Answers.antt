use Rattle.std.proofs.Common.{All, subst, ◌∙◌}
use Rattle.std.proofs.lemmas.List.Elements.{All-weaker}
use Rattle.std.proofs.lemmas.Result.{on_ok_weaker}
use Rattle.ras_store.specs.Kept.{HasRoomFor, name_changed}
use Rattle.ras_store.specs.Piece.{collection_entry, domain_entry, tile_entry}
use Rattle.ras_store.proofs.piece.reserve_piece.Goals as goal

pub returns-in_err-reserve_domains-clause-kept : goal.returns-in_err-reserve_domains-clause-kept
returns-in_err-reserve_domains-clause-kept c = λ name. c.reserve_domains.ensures.kept name ∙ c.reserve_collections.ensures.kept name

pub returns-clause-kept : goal.returns-clause-kept
returns-clause-kept c = λ name. c.reserve_tiles.ensures.kept name ∙ c.reserve_domains.ensures.kept name ∙ c.reserve_collections.ensures.kept name

pub returns-clause-collections : goal.returns-clause-collections
returns-clause-collections c =
    on_ok_weaker c.reserve_tiles.result
    (λ made. All-weaker (λ entry. HasRoomFor c.reserve_collections.new.contents (collection_entry entry)) (λ entry. HasRoomFor c.reserve_tiles.new.contents (collection_entry entry))
    (λ entry room. c.reserve_tiles.ensures.room (name_changed (collection_entry entry)) (c.reserve_domains.ensures.room (name_changed (collection_entry entry)) room))
    c.args.piece.now.collections
    (subst (All (λ entry. HasRoomFor c.reserve_collections.new.contents (collection_entry entry))) c.as_slice.ensures c.in_ok-reserve_collections.ensures.made))
    c.reserve_tiles.ensures.made

pub returns-clause-domains : goal.returns-clause-domains
returns-clause-domains c =
    on_ok_weaker c.reserve_tiles.result
    (λ made. All-weaker (λ entry. HasRoomFor c.reserve_domains.new.contents (domain_entry entry)) (λ entry. HasRoomFor c.reserve_tiles.new.contents (domain_entry entry))
    (λ entry room. c.reserve_tiles.ensures.room (name_changed (domain_entry entry)) room)
    c.args.piece.now.domains
    (subst (All (λ entry. HasRoomFor c.reserve_domains.new.contents (domain_entry entry))) c.as_slice-2.ensures c.in_ok-reserve_domains.ensures.made))
    c.reserve_tiles.ensures.made

pub returns-clause-tiles : goal.returns-clause-tiles
returns-clause-tiles c =
    on_ok_weaker c.reserve_tiles.result
    (λ made. subst (All (λ entry. HasRoomFor c.reserve_tiles.new.contents (tile_entry entry))) c.as_slice-3.ensures made)
    c.reserve_tiles.ensures.made

pub returns-clause-room : goal.returns-clause-room
returns-clause-room c = λ other room.
    c.reserve_tiles.ensures.room other (c.reserve_domains.ensures.room other (c.reserve_collections.ensures.room other room))
