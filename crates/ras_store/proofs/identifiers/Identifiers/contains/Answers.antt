use Rattle.std.proofs.Common.{◌≡◌, ap, subst, sym, ◌∙◌, eqb}
use Rattle.std.specs.List.{list_any}
use Rattle.std.specs.List.Sorted.{IsStrictlySortedBy, IsBinarySearchResult}
use Rattle.std.specs.Ordering.{nat_cmp}
use Rattle.ras_store.proofs.Ascending.{search_finds}
use Rattle.ras_store.proofs.identifiers.Identifiers.contains.Goals as goal

pub returns : goal.returns
returns c =
    let sorted = subst (IsStrictlySortedBy nat_cmp) (sym c.deref.ensures.value) c.self.invariant in
    c.is_ok.ensures.value ∙ search_finds c.deref.result.now c.args.oid c.binary_search.result sorted c.binary_search.ensures.position
    ∙ ap (list_any (eqb c.args.oid)) (c.deref.ensures.value ∙ c.self.view_is)
