use Rattle.std.proofs.Common.{◌≡◌, ◌∷◌, [], w64, refl, ap, ◌∙◌, arith, rules}
use Rattle.std.specs.Prelude.{FitsSigned}
use Rattle.std.proofs.lemmas.Int.{ints, to_z-of_z}
use Rattle.ras_cells.specs.declared.atom.Atom.TheVariants.{Wide}
use Rattle.ras_cells.specs.Atoms.{IsInRange}
use Rattle.ras_fold.specs.Kept.{joined, number_kept}
use Rattle.ras_fold.proofs.Folded.{IsKeptOf-within, IsKeptOf-joined, IsKeptOf-one}
use Rattle.ras_fold.proofs.Summaries.{value_with_numbers}
use Rattle.ras_fold.proofs.summary.Summary.add_number.Goals as goal

pub join-self-inside-requires-clause-a : goal.join-self-inside-requires-clause-a
join-self-inside-requires-clause-a c =
    let s = c.self.inside in
    IsKeptOf-within s.op s.count s.kept c.self.invariant.0 c.self.invariant.1

-- what is kept in the end
kept : (c : goal.After-self-in-Some-1) → c.join-self-inside.result ≡ joined c.self.inside.op c.self.inside.kept (number_kept c.self.inside.op (c.in-Some.number ∷ []))
kept c =
    let fits : FitsSigned w64 c.in-Some.number = search rules in
    let one = rw (to_z-of_z w64 _ fits) at c.kept_of_one.ensures in
    c.join-self-inside.ensures ∙ ap (joined c.self.inside.op c.self.inside.kept) one

pub invariant_of-self : goal.invariant_of-self
invariant_of-self c =
    let s = c.self.inside in
    let fits : FitsSigned w64 c.in-Some.number = search rules in
    let ranged : IsInRange Wide c.in-Some.number = (omega (arith, ints, fits), omega (arith, ints, fits)) in
    let room = rw c.in-Some.is at c.requires in (
      omega (arith, room, ap (λ v. v.count) c.self.view_is),
      rw (kept c) (IsKeptOf-joined s.op s.count 1 s.kept _ c.self.invariant.1 (IsKeptOf-one s.op c.in-Some.number ranged)),
    )

pub returns-in-Some-clause-adds : goal.returns-in-Some-clause-adds
returns-in-Some-clause-adds c = λ op zs faults e.
    let s = c.self.inside in
    rw c.in-Some.is
    (value_with_numbers s.op s.count _ s.kept _ s.fault op zs (c.in-Some.number ∷ []) faults (c.self.view_is ∙ e) refl (kept c))
