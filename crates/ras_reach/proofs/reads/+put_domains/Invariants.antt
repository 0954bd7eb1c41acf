use Rattle.std.proofs.Common.{length}
use Rattle.ras_reach.proofs.reads.+put_domains.Given as goal

abbrev pub decreases-put_domains : goal.decreases-put_domains
decreases-put_domains l = length l.sources.now
