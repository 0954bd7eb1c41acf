use Rattle.std.proofs.Common.{ap, ◌∙◌}
use Rattle.ras_syntax.specs.declared.typed.TypedExpr.{TypedExpr}
use Rattle.spec_expressions.specs.Tree.{tree_of}
use Rattle.ras_kinds.specs.Seen.{is_sdom_tree}
use Rattle.ras_kinds.proofs.TreeForms.{no_interval}
use Rattle.ras_kinds.proofs.trees.is_interval.Goals as goal

pub returns-else-is_sdom : goal.returns-else-is_sdom
returns-else-is_sdom c =
    no_interval c.args.e.now c.in-Index.e c.in-Index.axes c.is_sdom.result c.in-Index.is
    (c.is_sdom.ensures ∙ ap (λ (e : TypedExpr). is_sdom_tree (tree_of e)) c.get.ensures) c.if-is_sdom.false
