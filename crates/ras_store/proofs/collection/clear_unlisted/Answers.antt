use Rattle.std.proofs.Common.{rules}
use Rattle.ras_store.specs.Kept.{is_listed}
use Rattle.ras_store.proofs.Retained.{all_left, found_left}
use Rattle.ras_store.proofs.collection.clear_unlisted.Goals as goal

pub returns : goal.returns
returns c = λ q.
    found_left (is_listed c.args.info.now) c.args.arrays.now.entries c.retain.new.self.entries q
    (all_left (is_listed c.args.info.now) _ _ (λ k v b w g called. search rules) c.args.arrays.now.entries c.retain.new.self.entries c.retain.ensures.filtered)
