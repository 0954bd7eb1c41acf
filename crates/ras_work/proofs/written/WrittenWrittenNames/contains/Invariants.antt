use Rattle.std.proofs.Common.{◌≡◌, false, take}
use Rattle.std.specs.List.{list_any}
use Rattle.law_work.specs.Written.{is_written_by}
use Rattle.ras_work.proofs.written.WrittenWrittenNames.contains.Given as goal

abbrev pub invariant-loop-change : goal.invariant-loop-change
invariant-loop-change l = list_any (λ change. is_written_by change l.name) (take l.change-index l.self.changes) ≡ false
