use Rattle.std.proofs.Common.{◌≡◌, Some, take}
use Rattle.ras_settings.specs.Reading.{read_from, reading_of, start}
use Rattle.ras_settings.proofs.schedule.read_schedule.Given as goal

-- what has been read is the text up to the place
abbrev pub invariant-loop-place : goal.invariant-loop-place
invariant-loop-place l = record {
  same : l.byte-items ≡ l.text;
  read : read_from start (take l.place l.byte-items) ≡ Some (reading_of l.reader);
}
