use Rattle.std.proofs.Common.{length, ap, [], ◌∷◌, ◌++◌, ◌∙◌}
use Rattle.std.proofs.lemmas.List.{length_push}
use Rattle.std.proofs.lemmas.Slice.Zip.{zip_turn, zip_end}
use Rattle.law_lists.proofs.Zips.{pairs_more, pairs_all}
use Rattle.spec_expressions.specs.Database.{Member}
use Rattle.spec_shown.specs.Shown.{member_shown}
use Rattle.ras_rows.specs.Arrays.{holdings_in}
use Rattle.ras_rows.proofs.rows.row_of.Goals as goal

pub loop-source-preserved : goal.loop-source-preserved
loop-source-preserved c =
    let turn = zip_turn c.args.sources.now c.args.oids.now c.loop-source.yielded _ c.loop-source.source-iterator c.next.new.self c.next.result (cc) (cc)
    c.loop-source.yielded_by (c.in-Some.source, c.in-Some.oid) c.in-Some.is c.next.ensures.steps in
    rw (length_push c.loop-source.yielded (c.in-Some.source, c.in-Some.oid))
    (pairs_more (λ both. member_shown (holdings_in c.args.view.now) both.0 both.1) c.args.sources.now c.args.oids.now (length c.loop-source.yielded) c.in-Some.source.now c.in-Some.oid.now
    c.loop-source.row.items c.push.new.self.items
    turn.0 turn.1 (turn.2 c.in-Some.source.now) (turn.3 c.in-Some.oid.now) c.loop-source.invariant
    (c.in_ok-push.ensures.items ∙ ap (λ (m : Member). c.loop-source.row.items ++ m ∷ []) c.in_ok-of.ensures))

pub returns : goal.returns
returns c =
    let end = zip_end c.args.sources.now c.args.oids.now c.loop-source.yielded _ c.loop-source.source-iterator c.next.new.self c.next.result (cc) (cc)
    c.loop-source.yielded_by c.in-None.is c.next.ensures.steps in
    pairs_all (λ both. member_shown (holdings_in c.args.view.now) both.0 both.1) c.args.sources.now c.args.oids.now (length c.loop-source.yielded) c.loop-source.row.items end c.loop-source.invariant
