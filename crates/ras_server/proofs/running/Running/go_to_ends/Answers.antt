use Rattle.std.proofs.Common.{add-one, sym, subst}
use Rattle.ras_server.specs.Running.{IsDraining}
use Rattle.ras_server.proofs.Follows.{has_still, same_then}
use Rattle.ras_server.proofs.running.Running.go_to_ends.Goals as goal

pub go_to_end-requires-clause-witness : goal.go_to_end-requires-clause-witness
go_to_end-requires-clause-witness g c = λ κs within. has_still c.args.self.now c.loop-place.self c.loop-place.invariant.same c.requires.witness

pub go_to_end-requires-clause-draining : goal.go_to_end-requires-clause-draining
go_to_end-requires-clause-draining g c = λ κs within. (
  c.requires.draining.0,
  c.loop-place.invariant.drains c.requires.draining.0 c.requires.draining.1,
)

pub loop-place-preserved : goal.loop-place-preserved
loop-place-preserved g c = record {
  same = same_then c.args.self.now c.loop-place.self c.go_to_end.new.self c.loop-place.invariant.same c.in_ok-go_to_end.ensures.same;
  drains = λ turns drains.
      subst (λ n. IsDraining turns n c.go_to_end.new.self) (sym (add-one c.loop-place.place))
      (c.in_ok-go_to_end.ensures.drains turns (c.loop-place.invariant.drains turns drains));
}
