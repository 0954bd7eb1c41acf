use Rattle.std.proofs.Common.{ℕ, List, map}
use Rattle.std.specs.BTreeMap.{get, is_at}
use Rattle.std.specs.Map.{lookup}
use Rattle.std.specs.Map.Iter.{deref_pair}
use Rattle.std.proofs.lemmas.Map.Lookups.{exact_bytes}
use Rattle.ras_store.specs.Kept.{IsSameCollection}
use Rattle.ras_store.proofs.Copies.{AreCopies}
use Rattle.ras_store.proofs.Listed.{by_name, by_name_total}
use Rattle.ras_store.proofs.contents.Contents.try_clone.Given as goal

abbrev pub invariant-loop-name : goal.invariant-loop-name
invariant-loop-name l =
    (q : List ℕ) → AreCopies by_name by_name_total exact_bytes IsSameCollection (lookup (is_at (by_name q)) (map deref_pair l.yielded)) (get by_name l.collections q)
