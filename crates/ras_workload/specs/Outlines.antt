-- The outlines of the code, as those of the definitions, and how they grow by a section.
use Rattle.std.specs.Prelude.{◌≡◌, ℕ, Option, Some, None, List, Result, Ok, Err}
use Rattle.spec_workloads.specs.Outline as spec
use Rattle.spec_workloads.specs.Outline.{OutlineFault, with_section}
use Rattle.spec_workloads.specs.Sections as sections
use Rattle.ras_workload.specs.declared.fault.WorkloadFault.{WorkloadFault}
use Rattle.ras_workload.specs.declared.headings.Heading.{Heading}
use Rattle.ras_workload.specs.declared.outline.Outline.{Outline}
use Rattle.ras_workload.specs.declared.outline.Due.{Due}
use Rattle.ras_workload.specs.declared.outline.Due.TheVariants.{All, SetupOn, SessionsOn}
use Rattle.ras_workload.specs.declared.section.Section.{Section}
use Rattle.ras_workload.specs.SectionViews.{section_seen}
use Rattle.ras_workload.specs.Told.{IsFound, ToldFault}

abbrev pub outline_seen : Outline → spec.Outline
outline_seen o = record { types = o.types; setup = o.setup; scripts = o.scripts }

abbrev pub outline_placed : Outline × ℕ → spec.Outline × ℕ
outline_placed found = (outline_seen found.0, found.1)

-- what is answered is what is told of a text: its outline with the place behind its last heading, or its first fault; only
-- memory may be wanting
pub record FindsOutline (told : Result (spec.Outline × ℕ) OutlineFault) (result : Result (Outline × ℕ) WorkloadFault) : Type 0 where
  pub is : IsFound outline_placed told result

abbrev pub due_seen : Due → spec.Due
due_seen All = spec.all
due_seen SetupOn = spec.setup_on
due_seen SessionsOn = spec.sessions_on

abbrev pub IsTitled : Result (spec.Outline × ℕ) OutlineFault → Result (spec.Outline × ℕ) OutlineFault → Result (Unit {0}) WorkloadFault → Type 0
IsTitled told rest (Ok u) = told ≡ rest
IsTitled told rest (Err found) = ToldFault told found

abbrev pub GoesOnBy : Result (spec.Outline × ℕ) OutlineFault → (spec.Due → spec.Outline → Result (spec.Outline × ℕ) OutlineFault) → (behind : ℕ) → Result (Option Due) WorkloadFault → Outline → Type 0
GoesOnBy told goes_on behind (Ok (Some next)) new = told ≡ goes_on (due_seen next) (outline_seen new)
GoesOnBy told goes_on behind (Ok None) new = told ≡ Ok (outline_seen new, behind)
GoesOnBy told goes_on behind (Err found) new = ToldFault told found

-- what was read so far goes on with a section, before these later ones
pub record Grows (due : Due) (old : Outline) (section : Section) (later : List sections.Section) (heading : spec.Heading) (result : Result (Option Due) WorkloadFault) (new : Outline) : Type 0 where
  pub is : (goes_on : spec.Due → spec.Outline → Result (spec.Outline × ℕ) OutlineFault)
      → GoesOnBy (with_section (due_seen due) (outline_seen old) (section_seen section) later heading goes_on) goes_on section.behind result new

-- a first section is the title, before these later ones
pub record IsTitle (section : sections.Section) (later : List sections.Section) (result : Result (Unit {0}) WorkloadFault) : Type 0 where
  pub is : IsTitled (spec.titled section later) (spec.outline_after spec.all spec.no_outline later) result
