use Rattle.std.proofs.Common.{cond, refl, sym, ap, ◌∙◌}
use Rattle.std.specs.BTreeMap.{is_at}
use Rattle.ras_index.specs.Index.{row_major, value_at}
use Rattle.ras_store.proofs.Tiles.{value-put, value-removed}
use Rattle.ras_store.proofs.array.KeptArray.set_tile.Goals as goal

pub returns-in-Some : goal.returns-in-Some
returns-in-Some c =
    let es = c.args.self.now.tiles.entries in
    let p = c.args.place.items in
    record {
      domain = refl;
      tiles = λ q. ap (λ entries. value_at entries q) c.put.ensures.entries ∙ value-put es p c.in-Some.tile q
          ∙ ap (λ tile. cond (is_at (row_major p) q) tile (value_at es q)) (sym c.in-Some.is);
      ready = c.put.ensures.ready;
    }

pub returns-in-None : goal.returns-in-None
returns-in-None c =
    let es = c.args.self.now.tiles.entries in
    let p = c.args.place.items in
    record {
      domain = refl;
      tiles = λ q. ap (λ entries. value_at entries q) c.remove.ensures.entries ∙ value-removed es p q c.remove.ensures.was_ordered
          ∙ ap (λ tile. cond (is_at (row_major p) q) tile (value_at es q)) (sym c.in-None.is);
      ready = c.remove.ensures.ready;
    }
