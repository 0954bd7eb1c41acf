use Rattle.std.proofs.Common.{◌-◌, length, take, drop}
use Rattle.std.specs.Prelude.{flat_map}
use Rattle.spec_statements.specs.Phases.{reached_tiles}
use Rattle.ras_reach.specs.Reached.{box_reached, boxes_reached}
use Rattle.ras_reach.proofs.KeyOrder.{put_pair}
use Rattle.ras_reach.proofs.RowFirst.{split_first}
use Rattle.ras_reach.proofs.reads.+put_reached.Goals as goal

pub returns : goal.returns
returns t c =
    let others = take (length c.args.reached.now - 1) (drop 1 c.args.reached.now) in
    rw (split_first c.args.reached.now c.one-item.result c.in-len1-up.len_at_least c.one-item.is)
    (put_pair (reached_tiles c.args.sources.now c.args.row.now (box_reached c.one-item.result)) (flat_map (reached_tiles c.args.sources.now c.args.row.now) (boxes_reached others))
    c.args.set.now c.put_reached.new.set c.put_box.new.set c.put_box.result c.in_ok-put_reached.ensures c.put_box.ensures)
