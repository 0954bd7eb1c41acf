use Rattle.law_views.proofs.Writings.{seen_writes}
use Rattle.law_views.proofs.laws.views_fix_what_is_written.Goals as goal

pub returns : goal.returns
returns c = seen_writes
