use Rattle.std.proofs.Common.{rules, ◌≡◌, ◌++◌, reverse, Contains, All, sym, subst}
use Rattle.std.proofs.lemmas.List.Sorted.{All-permutation, IsPermutation-sym}
use Rattle.ras_index.specs.Slots.{places_of}
use Rattle.ras_index.proofs.room.make_ready.Goals as goal

pub returns-clause-kept : goal.returns-clause-kept
returns-clause-kept g c = λ q has.
    let joined : c.append.new.self.items ≡ c.insert_all.new.slots.items ++ reverse c.insert_all.new.above.items = search rules in
    subst (λ slots. Contains (places_of slots) q) (sym joined)
    (c.insert_all.ensures.kept q (subst (λ slots. Contains (places_of slots) q) (sym c.in_ok-reserve.ensures.items) has))

pub returns-clause-made : goal.returns-clause-made
returns-clause-made g c =
    let joined : c.append.new.self.items ≡ c.insert_all.new.slots.items ++ reverse c.insert_all.new.above.items = search rules in
    let made = All-permutation (λ place. Contains (places_of (c.insert_all.new.slots.items ++ reverse c.insert_all.new.above.items)) place.items)
    c.sort_unstable.new.self.items c.args.missing.items
    (IsPermutation-sym c.args.missing.items c.sort_unstable.new.self.items c.sort_unstable.ensures.permutation) c.insert_all.ensures.made in
    let all = subst (λ slots. All (λ place. Contains (places_of slots) place.items) c.args.missing.items) (sym joined) made in
    search rules
