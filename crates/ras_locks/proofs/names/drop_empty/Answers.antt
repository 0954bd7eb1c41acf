use Rattle.std.proofs.Common.{◌≡◌, ◌∙◌, sym}
use Rattle.std.specs.Prelude.{None}
use Rattle.ras_locks.proofs.Entries.{updated-same}
use Rattle.ras_locks.proofs.Places.{empty-from}
use Rattle.ras_locks.proofs.names.drop_empty.Goals as goal

pub returns-then-is_empty : goal.returns-then-is_empty
returns-then-is_empty c =
    updated-same c.args.names.now.entries c.swap_remove.new.self.entries c.args.name.now None c.swap_remove.ensures.updates.0
    (empty-from c.holders_at.result.now (sym c.is_empty.ensures ∙ c.if-is_empty.true) ∙ c.holders_at.ensures)
