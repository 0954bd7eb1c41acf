use Rattle.std.proofs.Common.{◌≡◌, sym, ap, ◌∙◌, arith}
use Rattle.ras_fold.proofs.Folded.{IsKeptOf-within, IsKeptOf-joined}
use Rattle.ras_fold.proofs.Summaries.{value_joined}
use Rattle.ras_fold.proofs.summary.Summary.merge.Goals as goal

pub join-requires-clause-a : goal.join-requires-clause-a
join-requires-clause-a c =
    let s = c.self.inside in
    IsKeptOf-within s.op s.count s.kept c.self.invariant.0 c.self.invariant.1

pub join-requires-clause-b : goal.join-requires-clause-b
join-requires-clause-b c =
    let t = c.other.inside in
    IsKeptOf-within t.op t.count t.kept c.other.invariant.0 c.other.invariant.1

pub invariant_of-result : goal.invariant_of-result
invariant_of-result c =
    let s = c.self.inside in
    let t = c.other.inside in
    let same_op : s.op ≡ t.op = ap (λ v. v.op) c.self.view_is ∙ c.requires.op ∙ sym (ap (λ v. v.op) c.other.view_is) in (
      omega (arith, c.requires.count, ap (λ v. v.count) c.self.view_is, ap (λ v. v.count) c.other.view_is),
      rw c.join.ensures
          (IsKeptOf-joined s.op s.count t.count s.kept t.kept c.self.invariant.1 (rw same_op c.other.invariant.1)),
    )

pub returns-clause-merged : goal.returns-clause-merged
returns-clause-merged c = λ op zs ys faults others e h.
    let s = c.self.inside in
    let t = c.other.inside in
    value_joined s.op t.op s.count t.count s.kept t.kept _ s.fault t.fault _ op zs ys faults others
    (c.self.view_is ∙ e) (c.other.view_is ∙ h) c.join.ensures c.earlier.ensures
