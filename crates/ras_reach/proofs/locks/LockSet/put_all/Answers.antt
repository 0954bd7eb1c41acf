use Rattle.std.proofs.Common.{◌≡◌, ◌++◌, ◌∷◌, []}
use Rattle.ras_reach.specs.Keys.{put_before}
use Rattle.ras_reach.proofs.KeyOrder.{put_turn}
use Rattle.ras_reach.proofs.locks.LockSet.put_all.Goals as goal

pub loop-name-preserved : goal.loop-name-preserved
loop-name-preserved c =
    let is : c.loop-name.left.items ≡ c.pop.new.self.items ++ (c.in-Some.name, c.in-Some.mode) ∷ [] = c.in-Some.ensures.items in
    put_turn c.loop-name.left.items c.pop.new.self.items c.loop-name.self c.put.new.self (put_before c.args.locks.items c.args.self.now) (c.in-Some.name, c.in-Some.mode) is c.in_ok-put.ensures
    c.loop-name.invariant
