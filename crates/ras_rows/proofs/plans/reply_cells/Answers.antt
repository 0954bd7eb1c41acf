use Rattle.std.proofs.Common.{ap, sym, ◌∙◌}
use Rattle.ras_domain.proofs.BoxTests.{volume_of-points}
use Rattle.ras_shape.specs.declared.form.Form.{Form}
use Rattle.ras_shape.specs.Gives.{shape_of_form}
use Rattle.spec_statements.specs.Limits.{reply_cells}
use Rattle.ras_rows.proofs.plans.reply_cells.Goals as goal

pub returns-in-Array-clause-cells : goal.returns-in-Array-clause-cells
returns-in-Array-clause-cells c =
    c.volume.ensures ∙ sym (ap (λ (form : Form). reply_cells (shape_of_form form)) c.in-Array.is ∙ volume_of-points c.in-Array.region)
