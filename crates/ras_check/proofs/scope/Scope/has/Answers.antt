use Rattle.std.proofs.Common.{sym, ◌∙◌}
use Rattle.ras_check.proofs.Steps.{in_scope_by_source}
use Rattle.ras_check.proofs.scope.Scope.has.Goals as goal

pub returns-else-is_some : goal.returns-else-is_some
returns-else-is_some c =
    c.is_some-else-is_some.ensures
    ∙ in_scope_by_source c.args.self.now c.args.name.now c.variable.result c.source.result c.variable.ensures (sym c.is_some.ensures ∙ c.if-is_some.false) c.source.ensures
