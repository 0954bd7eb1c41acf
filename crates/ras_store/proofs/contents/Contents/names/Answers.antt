use Rattle.std.proofs.Common.{◌≡◌, [], ◌∷◌, ◌++◌, Contains, cond, map, rules, sym, ap, subst, ◌∙◌}
use Rattle.std.specs.List.Sorted.{IsStrictlySortedBy}
use Rattle.std.specs.Map.Iter.{deref_pair}
use Rattle.std.specs.Option.{is_some}
use Rattle.std.proofs.lemmas.List.{append-nil, map-append}
use Rattle.std.proofs.lemmas.Map.Iter.{iter_end}
use Rattle.ras_store.proofs.Listed.{by_name, named, named-kept, named-push, sorted-named}
use Rattle.ras_store.proofs.contents.Contents.names.Goals as goal

pub loop-name-preserved-in_ok-push : goal.loop-name-preserved-in_ok-push
loop-name-preserved-in_ok-push c =
    let more = ap named (map-append deref_pair c.loop-name.yielded ((c.in-Some.name, c.in-Some.collection) ∷ []))
    ∙ named-push (map deref_pair c.loop-name.yielded) (c.in-Some.name.now, c.in-Some.collection.now) in
    let here = ap (λ b. cond b (c.in-Some.name.now ∷ []) []) (sym c.is_some.ensures ∙ c.if-is_some.true) in
    c.in_ok-push.ensures.items
    ∙ ap (λ n. c.loop-name.names.items ++ n ∷ []) c.in_ok-try_clone.ensures
    ∙ ap (λ ns. ns ++ c.in-Some.name.now ∷ []) c.loop-name.invariant
    ∙ ap (λ ns. named (map deref_pair c.loop-name.yielded) ++ ns) (sym here)
    ∙ sym more

pub loop-name-preserved : goal.loop-name-preserved
loop-name-preserved c =
    let more = ap named (map-append deref_pair c.loop-name.yielded ((c.in-Some.name, c.in-Some.collection) ∷ []))
    ∙ named-push (map deref_pair c.loop-name.yielded) (c.in-Some.name.now, c.in-Some.collection.now) in
    let here = ap (λ b. cond b (c.in-Some.name.now ∷ []) []) (sym c.is_some.ensures ∙ c.if-is_some.false) in
    c.loop-name.invariant
    ∙ sym (append-nil (named (map deref_pair c.loop-name.yielded)))
    ∙ ap (λ ns. named (map deref_pair c.loop-name.yielded) ++ ns) (sym here)
    ∙ sym more

pub returns-clause-ascending : goal.returns-clause-ascending
returns-clause-ascending c =
    let whole : map deref_pair c.loop-name.yielded ≡ c.args.self.now.collections.entries = search (rules, iter_end) in
    subst (IsStrictlySortedBy by_name) (sym (c.loop-name.invariant ∙ ap named whole)) (sorted-named c.args.self.now.collections.entries c.into_iter-name-iterator.ensures.into_iter_gives.5)

pub returns-clause-listed : goal.returns-clause-listed
returns-clause-listed c = λ name.
    let whole : map deref_pair c.loop-name.yielded ≡ c.args.self.now.collections.entries = search (rules, iter_end) in
    let names = c.loop-name.invariant ∙ ap named whole in
    let both = named-kept c.args.self.now name c.into_iter-name-iterator.ensures.into_iter_gives.5 in
    (λ has. both.0 (subst (λ ns. Contains ns name) names has), λ some. subst (λ ns. Contains ns name) (sym names) (both.1 some))
