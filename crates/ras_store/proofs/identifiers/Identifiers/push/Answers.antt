use Rattle.std.proofs.Common.{◌<◌, All, sym, subst}
use Rattle.std.specs.List.Sorted.{IsStrictlySortedBy}
use Rattle.std.specs.Ordering.{nat_cmp}
use Rattle.ras_store.proofs.Ascending.{sorted-push}
use Rattle.ras_store.proofs.identifiers.Identifiers.push.Goals as goal

pub invariant_of-self-2 : goal.invariant_of-self-2
invariant_of-self-2 c =
    subst (IsStrictlySortedBy nat_cmp) (sym c.in_ok-push.ensures.items)
    (sorted-push c.self.inside.oids.items c.args.oid c.self.invariant (subst (All (λ other. other < c.args.oid)) (sym c.self.view_is) c.requires))
