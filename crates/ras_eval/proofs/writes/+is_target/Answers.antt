use Rattle.std.proofs.Common.{sym, ◌∙◌, pos}
use Rattle.ras_domain.proofs.BoxTests.{same-is_same_box}
use Rattle.ras_shape.specs.declared.cuts.Cut.TheVariants.{Fixed}
use Rattle.ras_eval.proofs.Targets.{target_none, target_position, target_trim}
use Rattle.ras_eval.proofs.writes.+is_target.Goals as goal

pub returns-in_default : goal.returns-in_default
returns-in_default t c = λ is.
    target_none c.args.cuts.now c.args.region.now c.args.body.now c.in_default.len_below (same-is_same_box c.args.region.now c.args.body.now (sym c.is_same.ensures ∙ is))

pub returns-else-not-is_point : goal.returns-else-not-is_point
returns-else-not-is_point t c = λ is.
    target_position c.args.cuts.now c.args.region.now c.args.body.now c.in-Fixed.z (Fixed (pos 0)) (record { lo = pos 0; hi = pos 0 }) c.in-len1-up.len_at_least c.in-len1-up-region.len_at_least
    c.in-Fixed.is (c.is_point.ensures c.if-not-is_point.false) (c.is_target.ensures is)

pub returns-else-not-is_equal : goal.returns-else-not-is_equal
returns-else-not-is_equal t c = λ is.
    target_trim c.args.cuts.now c.args.region.now c.args.body.now c.in-Between.field-0 c.in-Between.field-1 (Fixed (pos 0)) (record { lo = pos 0; hi = pos 0 }) (record { lo = pos 0; hi = pos 0 })
    c.in-len1-up.len_at_least c.in-len1-up-region.len_at_least c.in-len1-up-body.len_at_least c.in-Between.is (c.is_equal.ensures c.if-not-is_equal.false) (c.is_target-in-Between.ensures is)
