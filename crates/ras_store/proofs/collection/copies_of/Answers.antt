use Rattle.std.proofs.Common.{◌≡◌, ◌∷◌, [], ◌++◌, ℕ, map, sym, ap, subst, ◌∙◌}
use Rattle.std.specs.BTreeMap.{get, is_at}
use Rattle.std.specs.Cmp.{nat_cmp_total}
use Rattle.std.specs.List.Sorted.{IsStrictlySortedBy}
use Rattle.std.specs.Map.{keys_of, lookup}
use Rattle.std.specs.Map.Iter.{deref_pair}
use Rattle.std.specs.Ordering.{nat_cmp}
use Rattle.std.proofs.lemmas.List.{map-append}
use Rattle.std.proofs.lemmas.Map.Iter.{rest_more, rest_so_far}
use Rattle.std.proofs.lemmas.Map.Lookups.{exact_unsigned}
use Rattle.ras_store.specs.Kept.{IsSameArray}
use Rattle.ras_store.proofs.Copies.{AreCopies, copied-push}
use Rattle.ras_store.proofs.collection.copies_of.Goals as goal

pub loop-oid-preserved-in_ok-insert : goal.loop-oid-preserved-in_ok-insert
loop-oid-preserved-in_ok-insert c = λ q.
    let so_far = map deref_pair c.loop-oid.yielded in
    let whole = sym c.into_iter-oid-iterator.ensures.into_iter_gives.0 ∙ rest_so_far deref_pair c.loop-oid.yielded _ _ c.loop-oid.yielded_by
    ∙ ap (λ rest. so_far ++ rest) (rest_more deref_pair c.loop-oid.oid-iterator c.next.new.self c.next.result (c.in-Some.oid, c.in-Some.array) c.in-Some.is c.next.ensures.steps) in
    let sorted = subst (λ es. IsStrictlySortedBy nat_cmp (keys_of es)) whole c.into_iter-oid-iterator.ensures.into_iter_gives.5 in
    subst (λ es. AreCopies nat_cmp nat_cmp_total exact_unsigned IsSameArray (lookup (is_at (nat_cmp q)) es) (get nat_cmp c.insert.new.self q))
    (sym (map-append deref_pair c.loop-oid.yielded ((c.in-Some.oid, c.in-Some.array) ∷ [])))
    (copied-push nat_cmp nat_cmp_total exact_unsigned IsSameArray so_far c.in-Some.oid.now c.in-Some.array.now c.in_ok-try_clone.field-0 c.next.new.self
    c.loop-oid.copies c.insert.new.self sorted c.in_ok-insert.ensures.updates c.in_ok-try_clone.ensures c.loop-oid.invariant q)

pub loop-oid-preserved : goal.loop-oid-preserved
loop-oid-preserved c = λ q.
    let so_far = map deref_pair c.loop-oid.yielded in
    let whole = sym c.into_iter-oid-iterator.ensures.into_iter_gives.0 ∙ rest_so_far deref_pair c.loop-oid.yielded _ _ c.loop-oid.yielded_by
    ∙ ap (λ rest. so_far ++ rest) (rest_more deref_pair c.loop-oid.oid-iterator c.next.new.self c.next.result (c.in-Some.oid, c.in-Some.array) c.in-Some.is c.next.ensures.steps) in
    let sorted = subst (λ es. IsStrictlySortedBy nat_cmp (keys_of es)) whole c.into_iter-oid-iterator.ensures.into_iter_gives.5 in
    subst (λ es. AreCopies nat_cmp nat_cmp_total exact_unsigned IsSameArray (lookup (is_at (nat_cmp q)) es) (get nat_cmp c.insert.new.self q))
    (sym (map-append deref_pair c.loop-oid.yielded ((c.in-Some.oid, c.in-Some.array) ∷ [])))
    (copied-push nat_cmp nat_cmp_total exact_unsigned IsSameArray so_far c.in-Some.oid.now c.in-Some.array.now c.in_ok-try_clone.field-0 c.next.new.self
    c.loop-oid.copies c.insert.new.self sorted c.in_ok-insert.ensures.updates c.in_ok-try_clone.ensures c.loop-oid.invariant q)
