use Rattle.std.proofs.Common.{◌≡◌, suc, [], Some, length, subst, sym, ◌∙◌, arith, ap, length-append}
use Rattle.ras_session.specs.Tied.{IsTied, script_in}
use Rattle.spec_histories.specs.History.{nth}
use Rattle.ras_server.specs.Running.{AreNew}
use Rattle.ras_server.proofs.Follows.{new_more}
use Rattle.ras_server.proofs.running.new_sessions.Goals as goal

pub loop-place-preserved : goal.loop-place-preserved
loop-place-preserved c =
    let one : c.in-Ok.number ≡ suc (length c.loop-place.sessions.items) = omega (arith, c.in-Ok.ensures, c.loop-place.invariant.count) in
    record {
      count = omega (arith, simp length-append at (ap length c.in_ok-push.ensures.items), c.loop-place.invariant.count);
      new = subst AreNew (sym c.in_ok-push.ensures.items) (
          new_more c.loop-place.sessions.items c.new.result c.loop-place.invariant.new (c.new.ensures.number ∙ one) (λ programs workload script are at.
          subst (λ n. IsTied programs (script_in workload n) [] [] c.new.result) one
          (c.new.ensures.tied programs workload script are (subst (λ n. nth n workload.scripts ≡ Some script) (sym one) at)))
          );
    }
