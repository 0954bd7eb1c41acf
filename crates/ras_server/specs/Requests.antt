-- Requests, and the events that serve them.
use Rattle.std.specs.Prelude.{Bool as Truth, true, false}
use Rattle.ras_session.specs.declared.request.Request.{Request}
use Rattle.ras_session.specs.declared.request.Request.TheVariants.{Ended}

-- nothing more is requested
abbrev pub is_ended : Request → Truth
is_ended Ended = true
is_ended request = false
