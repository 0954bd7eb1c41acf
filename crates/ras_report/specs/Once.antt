-- What makes the event of a line the one that is found first, wherever looking begins.
use Rattle.std.specs.Prelude.{ℕ, ◌≤◌, List, length, filter}
use Rattle.ras_syntax.specs.declared.event.Event.{Event}
use Rattle.spec_sessions.specs.Report.{answers_statement}

-- no statement of a transaction is answered or refused by two events
abbrev pub AreAnsweredOnce : List Event → Type 0
AreAnsweredOnce history = (t k : ℕ) → length (filter (answers_statement t k) history) ≤ 1
