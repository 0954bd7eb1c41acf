use Rattle.std.proofs.Common.{◌∙◌}
use Rattle.ras_reach.proofs.KeyOrder.{put_entry}
use Rattle.ras_reach.proofs.locks.put_key.Goals as goal

pub returns-clause-put : goal.returns-clause-put
returns-clause-put c base is =
    put_entry c.args.kept.now.entries c.insert.new.self.entries base c.args.name c.args.mode c.joint_mode-mode.result c.key_of-key.result c.copied.result
    is c.key_of-key.ensures c.joint_mode-mode.ensures (c.copied.ensures ∙ c.get.ensures.value) c.in-Ok.ensures.was_ordered c.in-Ok.ensures.entries
