use Rattle.std.proofs.Common.{◌≡◌, sym, ◌∙◌, ap, subst}
use Rattle.ras_edges.specs.Sink.{Writes}
use Rattle.ras_report.specs.Once.{AreAnsweredOnce}
use Rattle.ras_report.proofs.Sessions.{outcome_from, outcome-same}
use Rattle.spec_sessions.specs.Outcomes.{OutcomeValue}
use Rattle.spec_sessions.specs.Report.{report_text}
use Rattle.ras_report.proofs.report.write_report.Goals as goal

pub write_parts-requires : goal.write_parts-requires
write_parts-requires g c =
    let same : c.outcome.inside.history ≡ c.args.outcome.now.history = ap (λ (o : OutcomeValue). o.history) c.outcome.view_is in
    record { once = subst AreAnsweredOnce (sym (c.as_slice-history.ensures ∙ same)) c.requires.once }

pub returns : goal.returns
returns g c =
    let same : outcome_from c.as_slice.result.now c.as_slice-history.result.now ≡ c.args.outcome.now =
    outcome-same c.as_slice.result.now c.outcome.inside.answers c.as_slice-history.result.now c.outcome.inside.history c.args.outcome.now
    c.as_slice.ensures c.as_slice-history.ensures c.outcome.view_is in
    subst (λ (o : OutcomeValue). Writes g.K.Sink.taken g.K.Sink.faults c.args.sink.now c.write_parts.new.sink c.write_parts.result (report_text c.args.scripts.now o))
    same c.write_parts.ensures
