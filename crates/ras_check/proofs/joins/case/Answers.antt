use Rattle.ras_check.proofs.Forms.{case_joined}
use Rattle.ras_check.proofs.joins.case.Goals as goal

pub returns : goal.returns
returns c =
    case_joined c.args.span c.args.arms c.args.other c.in_ok-arms.arms c.in_ok-other.other c.as_slice.result.now c.get.result.now c.choice_kind-rule.result c.typed.result
    c.in_ok-arms.was c.in_ok-other.was c.as_slice.ensures c.get.ensures c.choice_kind-rule.ensures c.typed.ensures
