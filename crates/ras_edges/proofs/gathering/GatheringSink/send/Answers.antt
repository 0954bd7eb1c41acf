use Rattle.std.proofs.Common.{◌≡◌, ◌+◌, ◌-◌, ◌++◌, length, take, drop}
use Rattle.std.proofs.KnownBytes.{Keeps-trans, append_known-moved}
use Rattle.ras_edges.proofs.Writing.{drop-parts}
use Rattle.ras_edges.proofs.gathering.GatheringSink.send.Goals as goal

pub returns-then-self-len-clause-bytes : goal.returns-then-self-len-clause-bytes
returns-then-self-len-clause-bytes g c =
    let s = c.args.self.now in
    let n = c.write_out.result in
    let items = c.deref.ensures.0 in
    let parts : drop s.written s.gathered.items ≡ take n (take (length c.deref.result.now - s.written) (drop s.written c.deref.result.now)) ++ drop (s.written + n) s.gathered.items =
    rw items (drop-parts s.gathered.items s.written n) in
    Keeps-trans _ _ _ (append_known-moved _ _ _ _ _ c.write_out.ensures.bytes parts) c.fail.ensures.bytes
