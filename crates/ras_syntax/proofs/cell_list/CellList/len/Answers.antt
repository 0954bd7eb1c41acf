use Rattle.std.proofs.Common.{◌∙◌}
use Rattle.ras_syntax.proofs.CellsFrom.{length-cells_of}
use Rattle.ras_syntax.proofs.cell_list.CellList.len.Goals as goal

pub returns : goal.returns
returns c =
    c.len.ensures ∙ c.self.inside.nulls.ok.0 ∙ length-cells_of _ _ _ _ _ c.self.view_is
