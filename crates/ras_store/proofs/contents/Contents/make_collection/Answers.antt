use Rattle.std.proofs.Common.{◌≡◌, ◌∙◌, None, sym, ap, subst}
use Rattle.ras_store.proofs.Collections.{made-inserted}
use Rattle.ras_store.proofs.contents.Contents.make_collection.Goals as goal

pub returns-in_ok-insert-clause-collections : goal.returns-in_ok-insert-clause-collections
returns-in_ok-insert-clause-collections c =
    made-inserted c.args.self.now.collections c.insert.new.self c.args.name.now c.in_ok-try_clone.field-0 c.new-collection.result
    c.in_ok-try_clone.ensures c.if-not-contains_key.ensures c.new-collection.ensures c.in_ok-insert.ensures.updates
