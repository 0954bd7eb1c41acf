use Rattle.std.proofs.Common.{◌≡◌, length, sym, ap, ◌∙◌}
use Rattle.std.specs.Prelude.{nat_lt}
use Rattle.ras_syntax.specs.declared.limits.TheConstants.{MAX_LOCKS}
use Rattle.ras_reach.specs.Keys.{names_kept}
use Rattle.ras_reach.proofs.KeyOrder.{as_many_names}
use Rattle.ras_reach.proofs.locks.LockSet.is_too_long.Goals as goal

pub returns : goal.returns
returns c =
    let seen : names_kept c.self.inside.kept.entries ≡ c.args.self.now = cc in
    ap (λ n. nat_lt MAX_LOCKS n) (c.len.ensures.len ∙ sym (as_many_names c.self.inside.kept.entries) ∙ ap length seen)
