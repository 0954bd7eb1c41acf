use Rattle.std.proofs.Common.{◌≡◌, All, sym, subst, rules}
use Rattle.std.specs.Vec.Iter.{into_iter_items}
use Rattle.std.proofs.lemmas.List.Elements.{All-weaker}
use Rattle.ras_store.specs.Kept.{HasRoomFor, kept_in, name_changed}
use Rattle.ras_store.specs.Piece.{domain_entry}
use Rattle.ras_store.proofs.Pieces.{first_of_all, none-put, one-more-put, rest_of_all}
use Rattle.ras_store.proofs.piece.put_domains.Goals as goal

pub put_domain-requires : goal.put_domain-requires
put_domain-requires g c =
    first_of_all (λ entry. HasRoomFor c.loop-entry.contents (domain_entry entry)) (into_iter_items c.loop-entry.entry-iterator) c.in-Some.entry
    (into_iter_items c.next.new.self) c.in-Some.ensures.steps.0 c.loop-entry.invariant.rest

pub loop-entry-preserved : goal.loop-entry-preserved
loop-entry-preserved g c =
    record {
      put = one-more-put domain_entry (g.W.WrittenNames.is_written c.args.written.now) (kept_in c.args.contents.now) (kept_in c.loop-entry.contents)
          (kept_in c.put_domain.new.contents) c.loop-entry.yielded c.in-Some.entry c.loop-entry.invariant.put c.put_domain.ensures.put;
      room = λ other room. c.put_domain.ensures.room other (c.loop-entry.invariant.room other room);
      rest = All-weaker (λ entry. HasRoomFor c.loop-entry.contents (domain_entry entry)) (λ entry. HasRoomFor c.put_domain.new.contents (domain_entry entry))
          (λ entry. c.put_domain.ensures.room (name_changed (domain_entry entry))) (into_iter_items c.next.new.self)
          (rest_of_all (λ entry. HasRoomFor c.loop-entry.contents (domain_entry entry)) (into_iter_items c.loop-entry.entry-iterator) c.in-Some.entry
          (into_iter_items c.next.new.self) c.in-Some.ensures.steps.0 c.loop-entry.invariant.rest);
    }

pub loop-entry-init : goal.loop-entry-init
loop-entry-init g c =
    let items : into_iter_items c.into_iter-entry-iterator.result ≡ c.args.entries.items = search rules in
    record {
      put = λ name. none-put (g.W.WrittenNames.is_written c.args.written.now name) (kept_in c.args.contents.now name);
      room = λ other room. room;
      rest = subst (All (λ entry. HasRoomFor c.args.contents.now (domain_entry entry))) (sym items) c.requires;
    }
