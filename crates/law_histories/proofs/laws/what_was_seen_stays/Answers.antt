use Rattle.law_histories.proofs.Stays.{base-stays, live-stays, own-stays}
use Rattle.law_histories.proofs.laws.what_was_seen_stays.Goals as goal

pub returns-clause-live : goal.returns-clause-live
returns-clause-live c = λ more past t live none. live-stays t more past none live

pub returns-clause-committed : goal.returns-clause-committed
returns-clause-committed c = base-stays

pub returns-clause-own : goal.returns-clause-own
returns-clause-own c = own-stays
