use Rattle.std.proofs.Common.{◌∙◌}
use Rattle.ras_workload.specs.SectionViews.{section_seen}
use Rattle.ras_workload.proofs.Parts.{pieces_behind}
use Rattle.ras_workload.proofs.section.Section.pieces.Goals as goal

pub returns : goal.returns
returns c = c.new.ensures ∙ pieces_behind (section_seen c.args.self.now)
