use Rattle.std.proofs.Common.{◌<◌, ◌≢◌, ◌∙◌, pos, length, get_or, w64, rules, arith, below_more, get_or-set_other, get_or-set_same}
use Rattle.std.specs.Prelude.{FitsSigned}
use Rattle.std.proofs.lemmas.Int.{to_z-of_z}
use Rattle.ras_kernel.proofs.overlays.choose_by_cells.Goals as goal

pub loop-i-preserved : goal.loop-i-preserved
loop-i-preserved c =
    let fits_a : FitsSigned w64 (get_or c.args.a.now c.loop-i.i (pos 0)) = search rules in
    let fits_b : FitsSigned w64 (get_or c.args.b.now c.loop-i.i (pos 0)) = search rules in
    let fits : FitsSigned w64 c.choose.result = search rules in
    let chosen = rw (to_z-of_z w64 _ fits_a, to_z-of_z w64 _ fits_b) at c.choose.ensures in
    below_more _ _
    (λ k h. let other : k ≢ c.loop-i.i = omega arith in rw get_or-set_other (c.loop-i.invariant k h))
    (let inside : c.loop-i.i < length c.loop-i.out = omega arith in rw get_or-set_same (to_z-of_z w64 _ fits ∙ chosen))
