use Rattle.std.specs.BTreeMap.{get}
use Rattle.std.specs.Cmp.Lexicographic.{slice_cmp}
use Rattle.std.specs.Ordering.{nat_cmp}
use Rattle.ras_domain.specs.declared.lock.LockName.TheVariants.{Collection, Domain}
use Rattle.ras_store.specs.Kept.{array_in, domain_in, info_in}
use Rattle.spec_expressions.specs.Database.{collection_of}
use Rattle.ras_store.proofs.KeptDatabases.{same_domain, same_info}
use Rattle.ras_store.proofs.laws.look_ups_are_those_of_the_database.Goals as goal

pub returns-clause-collections : goal.returns-clause-collections
returns-clause-collections c = λ types store database name keeps.
    same_info (info_in (get (slice_cmp nat_cmp) store.contents.collections name)) (collection_of database name) (keeps (Collection name))

pub returns-clause-domains : goal.returns-clause-domains
returns-clause-domains c = λ types store database name oid keeps.
    same_domain (domain_in (array_in (get (slice_cmp nat_cmp) store.contents.collections name) oid)) (collection_of database name) oid (keeps (Domain name oid))
