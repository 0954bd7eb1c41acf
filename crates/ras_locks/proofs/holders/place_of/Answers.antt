use Rattle.std.proofs.Common.{sym, arith, length}
use Rattle.std.specs.Prelude.{nat_le}
use Rattle.std.proofs.lemmas.List.Sums.{position_or_len_is}
use Rattle.ras_domain.specs.declared.lock.Mode.TheVariants.{Shared}
use Rattle.ras_locks.specs.declared.holders.Holder.{Holder}
use Rattle.ras_locks.proofs.Places.{le_at}
use Rattle.ras_locks.proofs.holders.place_of.Goals as goal

blank : Holder
blank = record { owner = 0; mode = Shared }

pub returns-then-owner-holder-clause-place : goal.returns-then-owner-holder-clause-place
returns-then-owner-holder-clause-place c =
    sym (position_or_len_is (λ (holder : Holder). nat_le c.args.owner holder.owner) c.args.holders.now c.loop-place.place blank (omega (arith, c.loop-place-test.true))
    (λ k below. c.loop-place.invariant k blank below) (λ within. le_at c.args.owner c.args.holders.now c.loop-place.place blank _ within c.if-owner-holder.true))

pub returns-clause-place : goal.returns-clause-place
returns-clause-place c =
    sym (position_or_len_is (λ (holder : Holder). nat_le c.args.owner holder.owner) c.args.holders.now (length c.args.holders.now) blank (omega arith)
    (λ k below. c.loop-place.invariant k blank (omega (arith, below, c.loop-place-test.false))) (λ within. absurd (omega (arith, within))))
