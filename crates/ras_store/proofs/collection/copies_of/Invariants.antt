use Rattle.std.proofs.Common.{ℕ, map}
use Rattle.std.specs.BTreeMap.{get, is_at}
use Rattle.std.specs.Map.{lookup}
use Rattle.std.specs.Map.Iter.{deref_pair}
use Rattle.std.specs.Ordering.{nat_cmp}
use Rattle.std.specs.Cmp.{nat_cmp_total}
use Rattle.std.proofs.lemmas.Map.Lookups.{exact_unsigned}
use Rattle.ras_store.specs.Kept.{IsSameArray}
use Rattle.ras_store.proofs.Copies.{AreCopies}
use Rattle.ras_store.proofs.collection.copies_of.Given as goal

abbrev pub invariant-loop-oid : goal.invariant-loop-oid
invariant-loop-oid l =
    (q : ℕ) → AreCopies nat_cmp nat_cmp_total exact_unsigned IsSameArray (lookup (is_at (nat_cmp q)) (map deref_pair l.yielded)) (get nat_cmp l.copies q)
