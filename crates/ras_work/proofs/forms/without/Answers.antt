use Rattle.std.proofs.Common.{arith, sym, subst}
use Rattle.std.specs.List.Sorted.{IsStrictlySortedBy}
use Rattle.std.specs.Ordering.{nat_cmp}
use Rattle.ras_work.proofs.Listing.{sorted-without}
use Rattle.ras_work.proofs.forms.without.Goals as goal

pub of-requires : goal.of-requires
of-requires c =
    subst (IsStrictlySortedBy nat_cmp) (sym c.loop-oid.invariant)
    (sorted-without c.args.gone.now c.as_slice-oid-items.result.now c.loop-oid.oid-index (omega (arith, c.loop-oid-test.false))
    (subst (IsStrictlySortedBy nat_cmp) (sym c.as_slice-oid-items.ensures.items) c.as_slice-oid-items.ensures.ascending))
