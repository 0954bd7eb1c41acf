use Rattle.ras_rows.specs.Arrays.{holdings_in}
use Rattle.ras_rows.proofs.RowAt.{row_bound, row_ends, row_goes}
use Rattle.ras_rows.proofs.rows.row_at.Goals as goal

pub bounds-of_source-rest : goal.bounds-of_source-rest
bounds-of_source-rest c =
    row_bound (holdings_in c.args.view.now) c.args.sources.now c.args.oids.now c.args.place c.loop-i.i c.loop-i.others c.loop-i.rest c.loop-i.row.items c.index-sources-i.result c.index-oids-i.result
    c.loop-i-test.true c.index-sources-i.is c.index-oids-i.is c.loop-i.invariant c.as_slice-of_source.result.now c.as_slice-of_source.ensures.value

pub loop-i-preserved : goal.loop-i-preserved
loop-i-preserved c =
    row_goes (holdings_in c.args.view.now) c.args.sources.now c.args.oids.now c.args.place c.loop-i.i c.loop-i.others c.loop-i.rest c.loop-i.row.items c.index-sources-i.result c.index-oids-i.result
    c.loop-i-test.true c.index-sources-i.is c.index-oids-i.is c.loop-i.invariant c.as_slice-of_source.result.now c.in_ok-of.field-0 c.push.new.self.items c.as_slice-of_source.ensures.value
    c.in_ok-of.ensures c.in_ok-push.ensures.items

pub returns : goal.returns
returns c =
    row_ends (holdings_in c.args.view.now) c.args.sources.now c.args.oids.now c.args.place c.loop-i.i c.loop-i.others c.loop-i.rest c.loop-i.row.items c.loop-i-test.false c.loop-i.invariant
