use Rattle.std.proofs.Common.{sym, ◌∙◌}
use Rattle.spec_workloads.specs.TypeLines.{zero_digit}
use Rattle.ras_parse.proofs.Took.{takes-end, takes-not}
use Rattle.ras_workload.proofs.TypeTokens.{choice_not, choice_is, not_taken, is_taken}
use Rattle.ras_workload.proofs.type_tokens.zero_digit.Goals as goal

pub returns-in_default : goal.returns-in_default
returns-in_default c = not_taken zero_digit _ (takes-end _ _ c.in_default.ensures.token)

pub returns-then-not-is_zero_digit : goal.returns-then-not-is_zero_digit
returns-then-not-is_zero_digit c =
    not_taken zero_digit _ (takes-not _ _ _ c.in-Some.ensures.token (choice_not _ _ _ (c.is_zero_digit.ensures _) c.if-not-is_zero_digit.true))

pub returns : goal.returns
returns c = is_taken zero_digit _ _ _ c.in-Some.ensures.token (choice_is _ _ _ (c.is_zero_digit.ensures _) c.if-not-is_zero_digit.false) c.advance.ensures
