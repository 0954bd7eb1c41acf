use Rattle.ras_walk.proofs.Told.{event-told}
use Rattle.ras_walk.proofs.laws.walks_ask_what_events_tell.Goals as goal

pub returns : goal.returns
returns c = event-told
