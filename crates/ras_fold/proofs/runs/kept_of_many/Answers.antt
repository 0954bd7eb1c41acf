use Rattle.std.proofs.Common.{◌≡◌, ◌*ℤ◌, pos, [], ◌∷◌, replicate, sym, ap, ◌∙◌, Some, w64, to_z, of_z, arith, rules}
use Rattle.std.specs.Int.{w128}
use Rattle.std.specs.Prelude.{FitsSigned}
use Rattle.std.proofs.lemmas.Int.{ints, to_z-of_z}
use Rattle.ras_cells.specs.declared.atom.Atom.TheVariants.{Wide}
use Rattle.ras_cells.specs.Atoms.{IsInRange}
use Rattle.ras_fold.specs.Kept.{number_kept}
use Rattle.ras_fold.proofs.Folded.{product-within-all, IsKeptOf-one}
use Rattle.ras_fold.proofs.Same.{number_kept-multiple, number_kept-power, number_kept-once, multiple-within, again}
use Rattle.ras_fold.proofs.runs.kept_of_many.Goals as goal

-- the sum, as it is returned
sum : (c : goal.After-multiple) → to_z w128 (of_z w128 c.multiple.result) ≡ c.args.number *ℤ pos c.args.times
sum c =
    let fits : FitsSigned w128 c.multiple.result = search rules in
    to_z-of_z w128 c.multiple.result fits ∙ (rw (to_z-of_z w64 _ c.ranges.number) at c.multiple.ensures)

pub returns-in-Plus-clause-kept : goal.returns-in-Plus-clause-kept
returns-in-Plus-clause-kept c = λ numbers same count.
    rw c.in-Plus.is (ap Some (sum c) ∙ sym (number_kept-multiple c.args.number numbers c.args.times same count))

pub returns-in-Plus-clause-bounds : goal.returns-in-Plus-clause-bounds
returns-in-Plus-clause-bounds c = λ z e.
    rw c.in-Plus.is (multiple-within c.args.number c.args.times z c.ranges.number (ap Some (sym (sum c)) ∙ e))

pub returns-in-Times-clause-kept : goal.returns-in-Times-clause-kept
returns-in-Times-clause-kept c = λ numbers same count.
    let product = rw (to_z-of_z w64 _ c.ranges.number) at c.power.ensures in
    rw c.in-Times.is (product ∙ sym (number_kept-power c.args.number numbers c.args.times same count))

pub returns-in-Times-clause-bounds : goal.returns-in-Times-clause-bounds
returns-in-Times-clause-bounds c = λ z e.
    let product = rw (to_z-of_z w64 _ c.ranges.number) at c.power.ensures in
    rw c.in-Times.is (product-within-all (replicate c.args.times c.args.number) z (sym product ∙ e))

pub returns-in_default : goal.returns-in_default
returns-in_default c =
    let one = rw (to_z-of_z w64 _ c.ranges.number) at c.kept_of_one.ensures in
    let ranged : IsInRange Wide c.args.number = (omega (arith, ints, c.ranges.number), omega (arith, ints, c.ranges.number)) in
    record {
      kept = λ numbers same count. one ∙ sym (number_kept-once c.args.op c.args.number numbers c.args.times c.in_default.not-Plus c.in_default.not-Times (omega arith) same count);
      bounds = rw one (again c.args.op c.args.times (number_kept c.args.op (c.args.number ∷ [])) c.in_default.not-Plus (IsKeptOf-one c.args.op c.args.number ranged));
    }
