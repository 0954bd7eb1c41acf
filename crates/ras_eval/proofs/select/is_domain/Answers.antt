use Rattle.spec_expressions.specs.Tree.{tree_of}
use Rattle.ras_shape.proofs.TreesSeen.{node_Sdom}
use Rattle.ras_eval.proofs.select.is_domain.Goals as goal

pub returns-in-Sdom : goal.returns-in-Sdom
returns-in-Sdom c = λ _. record { span = _; kind = _; of = tree_of c.in-Sdom.field-0; same = node_Sdom c.args.e.now c.in-Sdom.field-0 c.in-Sdom.is }
