use Rattle.std.proofs.Common.{Some, sym, ap, ◌∙◌}
use Rattle.spec_statements.specs.Effects.{written_numbers}
use Rattle.ras_eval.proofs.purpose.check_store.Goals as goal

pub returns-in-Ok : goal.returns-in-Ok
returns-in-Ok c = (Some c.in-Ok.field-0.items, ap written_numbers (sym c.to_stored.ensures ∙ c.in-Ok.is))

pub returns-in-Err : goal.returns-in-Err
returns-in-Err c = ap written_numbers (sym c.to_stored.ensures ∙ c.in-Err.is)
