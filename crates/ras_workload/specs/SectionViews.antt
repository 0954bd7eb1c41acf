-- The sections of the code, as those of the definitions.
use Rattle.std.specs.Prelude.{◌≡◌, ◌+◌, ◌<◌, ◌≤◌, ◌^◌, List, length, slice_index}
use Rattle.spec_workloads.specs.Sections as spec
use Rattle.ras_workload.specs.declared.section.Section.{Section}
use Rattle.ras_workload.specs.declared.sections.Sections.TheInside.{Inside}
use Rattle.ras_workload.specs.Headed.{headed_at}

abbrev pub section_seen : Section → spec.Section
section_seen s = record { line = s.line; heading = s.heading.now; behind = s.behind; body = s.body.now }

abbrev pub sections_in : Inside → List spec.Section
sections_in s = (headed_at s.line s.at s.text.now).sections

-- a heading stands at the place, or the text ends there
pub record AreSections (s : Inside) : Type 0 where
  pub within : s.at ≤ length s.text.now
  pub heading : s.at < length s.text.now → slice_index s.text.now s.at ≡ 35
  pub few : s.line ≤ s.at + 1
  pub short : length s.text.now < 2 ^ 32
