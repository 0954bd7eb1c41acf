use Rattle.ras_store.specs.Store.{store_kept}
use Rattle.ras_setup.proofs.Bases.{IsSetUpSoFar}
use Rattle.ras_setup.proofs.base.base_of.Given as goal

-- the statements before the place were run
abbrev pub invariant-loop-place : goal.invariant-loop-place
invariant-loop-place g l = IsSetUpSoFar l.types l.texts l.place (store_kept l.base)
