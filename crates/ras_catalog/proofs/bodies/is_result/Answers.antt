use Rattle.std.proofs.Common.{sym, ap, ◌∙◌}
use Rattle.std.specs.Prelude.{◌||◌}
use Rattle.spec_expressions.specs.Tree.{tree_of}
use Rattle.ras_kinds.specs.Seen.{is_sdom_tree}
use Rattle.ras_catalog.proofs.Passing.{result_is}
use Rattle.ras_catalog.proofs.bodies.is_result.Goals as goal

pub returns-then-has_cells : goal.returns-then-has_cells
returns-then-has_cells c = sym (result_is c.args.body.now ∙ ap (λ b. b || is_sdom_tree (tree_of c.args.body.now)) (sym c.has_cells.ensures ∙ c.if-has_cells.true))

pub returns : goal.returns
returns c = c.is_sdom.ensures ∙ sym (result_is c.args.body.now ∙ ap (λ b. b || is_sdom_tree (tree_of c.args.body.now)) (sym c.has_cells.ensures ∙ c.if-has_cells.false))
