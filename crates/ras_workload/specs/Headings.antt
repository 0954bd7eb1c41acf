-- The headings of the code, as those of the definitions.
use Rattle.spec_workloads.specs.Outline as spec
use Rattle.ras_workload.specs.declared.headings.Heading.{Heading}
use Rattle.ras_workload.specs.declared.headings.Heading.TheVariants.{Types, Setup, Session, End, Unknown}

abbrev pub heading_seen : Heading → spec.Heading
heading_seen Types = spec.types
heading_seen Setup = spec.setup
heading_seen (Session name) = spec.session name.now
heading_seen End = spec.end
heading_seen Unknown = spec.unknown
