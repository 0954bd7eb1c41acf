use Rattle.std.proofs.Common.{◌≡◌, map, take}
use Rattle.ras_work.proofs.forms.oids_of.Given as goal

abbrev pub invariant-loop-write : goal.invariant-loop-write
invariant-loop-write l = l.oids.items ≡ map (λ write. write.oid) (take l.write-index l.writes)
