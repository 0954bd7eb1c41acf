use Rattle.std.proofs.Common.{◌∙◌, ap, subst}
use Rattle.ras_report.specs.Once.{AreAnsweredOnce}
use Rattle.spec_sessions.specs.Outcomes.{OutcomeValue}
use Rattle.test_report.proofs.once.may_be_reported.Goals as goal

pub returns : goal.returns
returns c = λ yes. subst AreAnsweredOnce (c.as_slice.ensures ∙ ap (λ (o : OutcomeValue). o.history) c.outcome.view_is) (c.are_answered_once.ensures yes)
