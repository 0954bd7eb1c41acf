use Rattle.ras_check.proofs.parts.body_over.Goals as goal

pub returns : goal.returns
returns c = rw c.in_ok-scope.ensures at c.walked.ensures.checked
