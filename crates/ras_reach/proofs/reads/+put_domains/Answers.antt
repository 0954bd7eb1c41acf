use Rattle.std.proofs.Common.{◌≡◌, ◌-◌, length, take, drop, ap, ◌∙◌}
use Rattle.ras_domain.specs.declared.lock.LockName.TheVariants.{Domain}
use Rattle.ras_domain.specs.declared.lock.Mode.TheVariants.{Shared}
use Rattle.spec_statements.specs.Locks.{with_lock}
use Rattle.spec_statements.specs.Phases.{domain_locks}
use Rattle.ras_reach.specs.Keys.{put_before}
use Rattle.ras_reach.proofs.RowFirst.{domain_first, split_first}
use Rattle.ras_reach.proofs.WalkForms.{on_ok}
use Rattle.ras_reach.proofs.reads.+put_domains.Goals as goal

pub returns : goal.returns
returns t c number =
    let step : c.put.new.self ≡ with_lock (c.in_ok-name.name, Shared) c.put_domains.new.set → c.put.new.self ≡ put_before (domain_locks c.args.sources.now (number, c.args.row.now)) c.args.set.now =
    domain_first c.args.sources.now (take (length c.args.sources.now - 1) (drop 1 c.args.sources.now)) c.args.row.now (take (length c.args.row.now - 1) (drop 1 c.args.row.now))
    c.source-item.result c.array-item.result number c.in_ok-name.name c.args.set.now c.put_domains.new.set c.put.new.self
    (split_first c.args.sources.now c.source-item.result c.in-len1-up.len_at_least c.source-item.is)
    (split_first c.args.row.now c.array-item.result c.in-len1-up-row.len_at_least c.array-item.is)
    (c.in_ok-name.ensures ∙ ap (Domain c.source-item.result.collection) c.oid.ensures) (c.in_ok-put_domains.ensures number) in
    on_ok c.put.result step c.put.ensures
