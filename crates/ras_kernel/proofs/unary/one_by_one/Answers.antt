use Rattle.std.proofs.Common.{pos, get_or, w64, rules, arith}
use Rattle.std.specs.Prelude.{FitsSigned}
use Rattle.std.proofs.lemmas.Int.{to_z-of_z}
use Rattle.ras_kernel.proofs.Joined.{unless_null-fault}
use Rattle.ras_kernel.proofs.unary.one_by_one.Goals as goal

pub returns-in-Err : goal.returns-in-Err
returns-in-Err g c =
    let fits : FitsSigned w64 (get_or c.args.a.now c.loop-i.i (pos 0)) = search rules in
    let exact = rw (to_z-of_z w64 _ fits) at c.exact.ensures in
    record {
      within = omega arith;
      fault = unless_null-fault _ _ _ (cc) (cc);
      before = c.loop-i.invariant;
    }
