-- The first holder that stands against a lock, and what it says of conflicts.
use Rattle.std.proofs.Common.{◌≡◌, ◌≢◌, ◌<◌, ◌≤◌, ◌⊎◌, inl, inr, ℕ, Bool, true, false, not, cond, ◌&&◌, ◌||◌, List, [], ◌∷◌, Contains, Ordering, Less, nat_cmp, refl, sym, ap, ◌∙◌, subst, arith, eqb, eqb-true, ne_eqb, eq-eqb}
use Rattle.std.specs.Prelude.{Option, None, Some, if◌then◌else◌, slice_get}
use Rattle.std.specs.List.{AllByRecursion}
use Rattle.std.specs.List.Sorted.{IsStrictlySortedBy}
use Rattle.std.proofs.lemmas.Bool.{and_parts, or_cases, and_from, not-true, or_left, or_right}
use Rattle.law_lists.proofs.Each.{each_contained}
use Rattle.law_lists.proofs.Elements.{Contains-here, Contains-there, first_or_later}
use Rattle.ras_domain.specs.declared.lock.LockName.{LockName}
use Rattle.ras_domain.specs.declared.lock.Mode.{Mode}
use Rattle.ras_domain.specs.declared.lock.Mode.TheVariants.{Exclusive, Shared}
use Rattle.ras_locks.specs.declared.holders.Holder.{Holder}
use Rattle.ras_locks.specs.Holders.{blocker, by_owner, is_exclusive, stands_against}
use Rattle.ras_locks.specs.Tables.{IsContestedBy, IsFirstConflict, IsUncontested, HeldLocks, holders_of}
use Rattle.ras_locks.proofs.Keeping.{below}

exclusive-true : (mode : Mode) → is_exclusive mode ≡ true → mode ≡ Exclusive
exclusive-true Exclusive is = refl
exclusive-true Shared is = absurd cc

-- the test says what it means
stands-from : (owner : ℕ) (mode : Mode) (holder : Holder) → owner ≢ holder.owner → (mode ≡ Exclusive) ⊎ (holder.mode ≡ Exclusive) → stands_against owner mode holder ≡ true
stands-from owner mode holder others alone =
    and_from (not (eqb holder.owner owner)) (is_exclusive mode || is_exclusive holder.mode) (ap not (ne_eqb holder.owner owner (λ e. others (sym e))))
    (elim alone [ inl e ↦ or_left (is_exclusive mode) (is_exclusive holder.mode) (ap is_exclusive e) | inr e ↦ or_right (is_exclusive mode) (is_exclusive holder.mode) (ap is_exclusive e) ])

record Stands (owner : ℕ) (mode : Mode) (holder : Holder) : Type 0 where
  pub others : owner ≢ holder.owner
  pub alone : (mode ≡ Exclusive) ⊎ (holder.mode ≡ Exclusive)

stands-true : (owner : ℕ) (mode : Mode) (holder : Holder) → stands_against owner mode holder ≡ true → Stands owner mode holder
stands-true owner mode holder is =
    let both = and_parts (not (eqb holder.owner owner)) (is_exclusive mode || is_exclusive holder.mode) is in
    record {
      others = λ e. absurd (let clash : eqb holder.owner owner ≡ false = not-true (eqb holder.owner owner) both.0 in let yes : eqb holder.owner owner ≡ true = eq-eqb holder.owner owner (sym e) in cc);
      alone = elim (or_cases (is_exclusive mode) (is_exclusive holder.mode) both.1) [ inl e ↦ inl (exclusive-true mode e) | inr e ↦ inr (exclusive-true holder.mode e) ];
    }

blocker-none : (owner : ℕ) (mode : Mode) (holders : List Holder) → blocker owner mode holders ≡ None → (one : Holder) → Contains holders one → stands_against owner mode one ≡ true → ⊥
blocker-none owner mode [] none one has stands = absurd (omega (arith, has.1))
blocker-none owner mode (holder ∷ holders) none one has stands =
    by (stands_against owner mode holder) refl (λ is later. blocker-none owner mode holders is one later stands) none
  where
    by : (b : Bool) → stands_against owner mode holder ≡ b → (blocker owner mode holders ≡ None → Contains holders one → ⊥)
        → (if b then Some holder.owner else blocker owner mode holders) ≡ None → ⊥
    by true e deeper is = absurd cc
    by false e deeper is = elim (first_or_later one holder holders has) [
      | inl same ↦ absurd (let clash : stands_against owner mode one ≡ false = ap (stands_against owner mode) (sym same) ∙ e in cc)
      | inr later ↦ deeper is later
    ]

record IsBlocker (owner : ℕ) (mode : Mode) (holders : List Holder) (other : ℕ) : Type 0 where
  pub one : Holder
  pub is : one.owner ≡ other
  pub has : Contains holders one
  pub stands : stands_against owner mode one ≡ true
  pub least : (third : Holder) → Contains holders third → stands_against owner mode third ≡ true → other ≤ third.owner

blocker-some : (owner : ℕ) (mode : Mode) (holders : List Holder) (other : ℕ) → IsStrictlySortedBy by_owner holders → blocker owner mode holders ≡ Some other → IsBlocker owner mode holders other
unfolding IsStrictlySortedBy
blocker-some owner mode [] other sorted some = absurd cc
blocker-some owner mode (holder ∷ holders) other sorted some =
    by (stands_against owner mode holder) refl (λ is. blocker-some owner mode holders other sorted.1 is) some
  where
    by : (b : Bool) → stands_against owner mode holder ≡ b → (blocker owner mode holders ≡ Some other → IsBlocker owner mode holders other)
        → (if b then Some holder.owner else blocker owner mode holders) ≡ Some other → IsBlocker owner mode (holder ∷ holders) other
    by true e deeper is =
        let same : holder.owner ≡ other = cc in
        record {
          one = holder;
          is = same;
          has = Contains-here holder holders;
          stands = e;
          least = λ third has stands. elim (first_or_later third holder holders has) [
            | inl equal ↦ omega (arith, same, ap (λ (one : Holder). one.owner) equal)
            | inr later ↦ omega (arith, same, below holder.owner third.owner (each_contained (λ (one : Holder). nat_cmp holder.owner one.owner ≡ Less) holders third sorted.0 later))
          ];
        }
    by false e deeper is =
        let rest = deeper is in
        record {
          one = rest.one;
          is = rest.is;
          has = Contains-there rest.one holder holders rest.has;
          stands = rest.stands;
          least = λ third has stands. elim (first_or_later third holder holders has) [
            | inl equal ↦ absurd (let clash : stands_against owner mode third ≡ false = ap (stands_against owner mode) (sym equal) ∙ e in cc)
            | inr later ↦ rest.least third later stands
          ];
        }

-- a lock against which no holder stands isn't contested
pub uncontested : (table : HeldLocks) (owner : ℕ) (lock : LockName × Mode) → blocker owner lock.1 (holders_of table lock.0) ≡ None → (other : ℕ) → IsContestedBy table owner lock other → ⊥
uncontested table owner lock none other contested =
    blocker-none owner lock.1 (holders_of table lock.0) none (record { owner = other; mode = contested.mode }) contested.held
    (stands-from owner lock.1 (record { owner = other; mode = contested.mode }) contested.others contested.not_shared)

-- and the first that stands against the first lock is the conflict
pub first_conflict-is : (table : HeldLocks) (list : List (LockName × Mode)) (owner place : ℕ) (lock : LockName × Mode) (other : ℕ)
    → IsStrictlySortedBy by_owner (holders_of table lock.0) → slice_get list place ≡ Some lock → blocker owner lock.1 (holders_of table lock.0) ≡ Some other
    → ((before : ℕ) (one : LockName × Mode) → before < place → slice_get list before ≡ Some one → blocker owner one.1 (holders_of table one.0) ≡ None)
    → IsFirstConflict table list owner place other
first_conflict-is table list owner place lock other sorted found some free =
    let b = blocker-some owner lock.1 (holders_of table lock.0) other sorted some in
    let s = stands-true owner lock.1 b.one b.stands in
    record {
      lock = lock;
      found = found;
      contested = record {
        mode = b.one.mode;
        held = subst (λ n. Contains (holders_of table lock.0) (record { owner = n; mode = b.one.mode })) b.is b.has;
        others = λ e. s.others (e ∙ sym b.is);
        not_shared = s.alone;
      };
      least = λ third contested. b.least (record { owner = third; mode = contested.mode }) contested.held
          (stands-from owner lock.1 (record { owner = third; mode = contested.mode }) contested.others contested.not_shared);
      first = λ before one earlier at third contested. uncontested table owner one (free before one earlier at) third contested;
    }
