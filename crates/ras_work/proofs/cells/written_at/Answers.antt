use Rattle.std.proofs.Common.{◌≡◌, true, false, IfSome, option_map, sym, subst, ◌∙◌}
use Rattle.ras_work.specs.Stores.{store_by}
use Rattle.ras_work.proofs.Stored.{store-inside, store-outside}
use Rattle.ras_work.proofs.cells.written_at.Goals as goal

pub returns-then-not-contains : goal.returns-then-not-contains
returns-then-not-contains c =
    store-outside (store_by c.args.rule c.args.of.now) c.args.write.now c.args.p.now.items
    (λ inside. let clash : true ≡ false = sym (c.contains.ensures.1 inside) ∙ c.if-not-contains.true in cc)

pub returns : goal.returns
returns c =
    subst (λ x. IfSome c.stored_of.result (λ stored. option_map (λ n. n.items) stored ≡ x))
    (sym (store-inside (store_by c.args.rule c.args.of.now) c.args.write.now c.args.p.now.items c.row_place-place.result c.get.result c.row_place-place.ensures.place c.get.ensures.cell))
    c.stored_of.ensures
