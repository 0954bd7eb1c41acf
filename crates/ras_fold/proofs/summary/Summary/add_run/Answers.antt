use Rattle.std.proofs.Common.{◌+◌, sym, ap, ◌∙◌, arith}
use Rattle.ras_fold.specs.Kept.{joined}
use Rattle.ras_fold.proofs.Folded.{IsKeptOf-within, IsKeptOf-joined}
use Rattle.ras_fold.proofs.Summaries.{value_with_numbers}
use Rattle.ras_fold.proofs.summary.Summary.add_run.Goals as goal

pub join-self-inside-requires-clause-a : goal.join-self-inside-requires-clause-a
join-self-inside-requires-clause-a c =
    let s = c.self.inside in
    IsKeptOf-within s.op s.count s.kept c.self.invariant.0 c.self.invariant.1

pub join-self-inside-requires-clause-b : goal.join-self-inside-requires-clause-b
join-self-inside-requires-clause-b c = IsKeptOf-within c.self.inside.op c.args.times _ (omega (arith, c.requires.count)) c.kept_of_run.ensures.bounds

pub invariant_of-self : goal.invariant_of-self
invariant_of-self c =
    let s = c.self.inside in (
      omega (arith, c.requires.count, ap (λ v. v.count) c.self.view_is),
      rw c.join-self-inside.ensures (IsKeptOf-joined s.op s.count c.args.times s.kept _ c.self.invariant.1 c.kept_of_run.ensures.bounds),
    )

pub returns-clause-adds : goal.returns-clause-adds
returns-clause-adds c = λ numbers run_of times op zs faults e.
    let s = c.self.inside in
    value_with_numbers s.op s.count _ s.kept _ s.fault op zs numbers faults (c.self.view_is ∙ e)
    (ap (λ n. s.count + n) (sym times))
    (c.join-self-inside.ensures ∙ ap (joined s.op s.kept) (c.kept_of_run.ensures.kept numbers run_of times))
