use Rattle.std.proofs.Common.{◌≡◌, true, false, sym, subst, ◌∙◌}
use Rattle.ras_domain.specs.Region.{IsIn}
use Rattle.ras_rows.proofs.Lookups.{tile-here, tile-out}
use Rattle.ras_rows.proofs.array.numbers_in.Goals as goal

pub returns-then-contains : goal.returns-then-contains
returns-then-contains c =
    sym (tile-here c.args.of.now c.args.tile.now c.args.p.now.items c.get.result.items c.region.ensures.tile.each_point
    (subst (IsIn c.args.p.now.items) c.region.ensures.region (c.contains.ensures.0 c.if-contains.true)) c.get.ensures)

pub returns-else-contains : goal.returns-else-contains
returns-else-contains c =
    c.zeros.ensures
    ∙ sym (tile-out c.args.of.now c.args.tile.now c.args.p.now.items c.region.ensures.tile.each_point
    (λ within. let is_true : c.contains.result ≡ true = c.contains.ensures.1 (subst (IsIn c.args.p.now.items) (sym c.region.ensures.region) within) in
    let clash : true ≡ false = sym is_true ∙ c.if-contains.false in cc))
