-- The first array of a row, before those after it.
use Rattle.std.proofs.Common.{◌≡◌, ℕ, ◌-◌, ◌≤◌, List, [], ◌∷◌, length, take, drop, get_or, sym, ap, ap₂, ◌∙◌, arith}
use Rattle.std.proofs.lemmas.List.{take_all}
use Rattle.ras_domain.specs.declared.lock.LockName.{LockName}
use Rattle.ras_domain.specs.declared.lock.LockName.TheVariants.{Domain}
use Rattle.ras_domain.specs.declared.lock.Mode.TheVariants.{Shared}
use Rattle.ras_syntax.specs.declared.typed.CheckedSource.{CheckedSource}
use Rattle.spec_expressions.specs.Database.{Member}
use Rattle.spec_statements.specs.Locks.{Lock, with_lock}
use Rattle.spec_statements.specs.Phases.{domain_locks}
use Rattle.ras_reach.specs.Keys.{put_before}

-- a list that isn't empty, by its first item
pub split_first : {X : Type 0} (xs : List X) (first : X) → 1 ≤ length xs → first ≡ get_or xs 0 first → xs ≡ first ∷ take (length xs - 1) (drop 1 xs)
split_first [] first some is = absurd (omega (arith, some))
split_first (x ∷ xs) first some is = ap₂ (λ y ys. y ∷ ys) (sym is) (sym (take_all (length (x ∷ xs) - 1) xs (omega arith)))

pub domain_first : (sources rest : List CheckedSource) (row others : List Member) (source : CheckedSource) (array : Member) (number : ℕ) (name : LockName) (old mid new : List Lock)
    → sources ≡ source ∷ rest → row ≡ array ∷ others → name ≡ Domain source.collection array.oid → mid ≡ put_before (domain_locks rest (number, others)) old
    → new ≡ with_lock (name, Shared) mid → new ≡ put_before (domain_locks sources (number, row)) old
domain_first sources rest row others source array number name old mid new s r named first put =
    put ∙ ap (λ (one : LockName). with_lock (one, Shared) mid) named ∙ ap (with_lock (Domain source.collection array.oid, Shared)) first
    ∙ ap (λ (members : List Member). put_before (domain_locks (source ∷ rest) (number, members)) old) (sym r)
    ∙ ap (λ (all : List CheckedSource). put_before (domain_locks all (number, row)) old) (sym s)
