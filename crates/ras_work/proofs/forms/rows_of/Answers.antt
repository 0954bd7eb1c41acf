use Rattle.std.proofs.Common.{◌++◌, List, sym, ap, ◌∙◌, subst}
use Rattle.std.proofs.lemmas.List.Elements.{All-more}
use Rattle.ras_store.specs.Databases.{holdings_of}
use Rattle.ras_store.specs.declared.write.Write.{Write}
use Rattle.ras_store.specs.View.{view_kept}
use Rattle.spec_views.specs.Holdings.{Holdings}
use Rattle.law_work.specs.ChangesFor.{row_replaced}
use Rattle.law_work.specs.Replacements.{Replacement}
use Rattle.law_work.specs.Sound.{IsSoundWrite}
use Rattle.ras_work.proofs.Listing.{flat_map-more}
use Rattle.ras_work.proofs.Making.{fitting-sound}
use Rattle.ras_work.proofs.forms.rows_of.Goals as goal

pub loop-write-preserved : goal.loop-write-preserved
loop-write-preserved c =
    let holdings : Holdings = holdings_of (view_kept c.args.view.now) in
    let f : Write → List Replacement = row_replaced c.args.source.now.of c.args.source.now.collection holdings in
    let P : Write → Type 0 = IsSoundWrite c.args.source.now.of c.args.source.now.collection holdings in (
      c.in_ok-add_row.ensures.changes ∙ ap (λ l. l ++ f c.write-item.result) c.loop-write.invariant.0
          ∙ sym (flat_map-more f c.args.writes.now c.loop-write.write-index c.write-item.result c.loop-write-test.true c.write-item.is),
      All-more P c.args.writes.now c.loop-write.write-index c.write-item.result c.loop-write-test.true c.loop-write.invariant.1
          (subst P c.write-item.is (fitting-sound c.args.source.now.of c.args.source.now.collection holdings c.write-item.result c.in_ok-add_row.ensures.sound)),
    )
