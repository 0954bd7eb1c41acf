use Rattle.std.proofs.Common.{◌≡◌, ◌∷◌, [], ◌++◌, Some, map, rules, sym, ap, subst, ◌∙◌}
use Rattle.std.specs.BTreeMap.{UpdatesBy, get, is_at}
use Rattle.std.specs.List.Sorted.{IsStrictlySortedBy}
use Rattle.std.specs.Map.{keys_of, lookup}
use Rattle.std.specs.Map.Iter.{deref_pair}
use Rattle.std.proofs.lemmas.List.{map-append}
use Rattle.std.proofs.lemmas.Map.Iter.{iter_end, rest_more, rest_so_far}
use Rattle.std.proofs.lemmas.Map.Lookups.{exact_bytes}
use Rattle.ras_store.specs.Kept.{IsSameCollection}
use Rattle.ras_store.proofs.Copies.{AreCopies, copied-push}
use Rattle.ras_store.proofs.Listed.{by_name, by_name_total}
use Rattle.ras_store.proofs.SameKept.{same-kept}
use Rattle.spec_statements.specs.Locks.{collection_in}
use Rattle.ras_store.proofs.contents.Contents.try_clone.Goals as goal

pub loop-name-preserved-in_ok-insert : goal.loop-name-preserved-in_ok-insert
loop-name-preserved-in_ok-insert c = λ q.
    let so_far = map deref_pair c.loop-name.yielded in
    let whole = sym c.into_iter-name-iterator.ensures.into_iter_gives.0 ∙ rest_so_far deref_pair c.loop-name.yielded _ _ c.loop-name.yielded_by
    ∙ ap (λ rest. so_far ++ rest) (rest_more deref_pair c.loop-name.name-iterator c.next.new.self c.next.result (c.in-Some.name, c.in-Some.collection) c.in-Some.is c.next.ensures.steps) in
    let sorted = subst (λ es. IsStrictlySortedBy by_name (keys_of es)) whole c.into_iter-name-iterator.ensures.into_iter_gives.5 in
    let updates = subst (λ k. UpdatesBy by_name (by_name k) c.loop-name.collections c.insert.new.self (Some c.in_ok-copy.copy)) c.in_ok-try_clone.ensures c.in_ok-insert.ensures.updates in
    subst (λ es. AreCopies by_name by_name_total exact_bytes IsSameCollection (lookup (is_at (by_name q)) es) (get by_name c.insert.new.self q))
    (sym (map-append deref_pair c.loop-name.yielded ((c.in-Some.name, c.in-Some.collection) ∷ [])))
    (copied-push by_name by_name_total exact_bytes IsSameCollection so_far c.in-Some.name.now c.in-Some.collection.now c.in_ok-copy.copy c.next.new.self
    c.loop-name.collections c.insert.new.self sorted updates c.in_ok-copy.ensures c.loop-name.invariant q)

pub loop-name-preserved : goal.loop-name-preserved
loop-name-preserved c = λ q.
    let so_far = map deref_pair c.loop-name.yielded in
    let whole = sym c.into_iter-name-iterator.ensures.into_iter_gives.0 ∙ rest_so_far deref_pair c.loop-name.yielded _ _ c.loop-name.yielded_by
    ∙ ap (λ rest. so_far ++ rest) (rest_more deref_pair c.loop-name.name-iterator c.next.new.self c.next.result (c.in-Some.name, c.in-Some.collection) c.in-Some.is c.next.ensures.steps) in
    let sorted = subst (λ es. IsStrictlySortedBy by_name (keys_of es)) whole c.into_iter-name-iterator.ensures.into_iter_gives.5 in
    let updates = subst (λ k. UpdatesBy by_name (by_name k) c.loop-name.collections c.insert.new.self (Some c.in_ok-copy.copy)) c.in_ok-try_clone.ensures c.in_ok-insert.ensures.updates in
    subst (λ es. AreCopies by_name by_name_total exact_bytes IsSameCollection (lookup (is_at (by_name q)) es) (get by_name c.insert.new.self q))
    (sym (map-append deref_pair c.loop-name.yielded ((c.in-Some.name, c.in-Some.collection) ∷ [])))
    (copied-push by_name by_name_total exact_bytes IsSameCollection so_far c.in-Some.name.now c.in-Some.collection.now c.in_ok-copy.copy c.next.new.self
    c.loop-name.collections c.insert.new.self sorted updates c.in_ok-copy.ensures c.loop-name.invariant q)

pub returns : goal.returns
returns c = λ name.
    let whole : map deref_pair c.loop-name.yielded ≡ c.args.self.now.collections.entries = search (rules, iter_end) in
    let q = collection_in name in
    same-kept (get by_name c.args.self.now.collections q) (get by_name c.loop-name.collections q)
    (subst (λ es. AreCopies by_name by_name_total exact_bytes IsSameCollection (lookup (is_at (by_name q)) es) (get by_name c.loop-name.collections q)) whole
    (c.loop-name.invariant q)) name
