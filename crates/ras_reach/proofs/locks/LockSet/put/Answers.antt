use Rattle.std.proofs.Common.{◌≡◌, ap, ◌∙◌}
use Rattle.spec_statements.specs.Locks.{with_lock}
use Rattle.ras_reach.specs.Keys.{keyed, names_kept}
use Rattle.ras_reach.proofs.KeyOrder.{keyed_again}
use Rattle.ras_reach.proofs.WalkForms.{on_ok}
use Rattle.ras_reach.proofs.locks.LockSet.put.Goals as goal

pub returns : goal.returns
returns c =
    let before : names_kept c.self.inside.kept.entries ≡ c.args.self.now = cc in
    let step : c.put_key.new.kept.entries ≡ keyed (with_lock (c.args.name, c.args.mode) (names_kept c.self.inside.kept.entries))
    → names_kept c.put_key.new.kept.entries ≡ with_lock (c.args.name, c.args.mode) c.args.self.now =
    λ is. (keyed_again c.put_key.new.kept.entries (with_lock (c.args.name, c.args.mode) (names_kept c.self.inside.kept.entries)) is).1 ∙ ap (with_lock (c.args.name, c.args.mode)) before in
    on_ok c.put_key.result step (c.put_key.ensures.put (names_kept c.self.inside.kept.entries) c.self.invariant.kept)
