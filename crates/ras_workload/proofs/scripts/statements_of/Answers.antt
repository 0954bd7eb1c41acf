use Rattle.std.proofs.Common.{List, Result, sym, subst, ap, ◌∙◌}
use Rattle.std.proofs.lemmas.Result.{err_from_is_err_and}
use Rattle.ras_cells.specs.Outcomes.{◌>>=◌}
use Rattle.spec_grammar.specs.Tokens.{Text}
use Rattle.spec_workloads.specs.Outline.{OutlineFault}
use Rattle.spec_workloads.specs.Sections.{Piece}
use Rattle.ras_workload.specs.SectionViews.{section_seen}
use Rattle.ras_workload.specs.Texts.{ended, texts_after}
use Rattle.ras_workload.specs.Told.{FindsIn}
use Rattle.ras_workload.proofs.Texts.{statements_are}
use Rattle.ras_workload.proofs.scripts.statements_of.Goals as goal

pub loop-piece-init : goal.loop-piece-init
loop-piece-init c = λ later. rw (c.new-texts.ensures, c.pieces-pieces.ensures) (statements_are (section_seen c.args.section.now) later)

pub loop-piece-preserved : goal.loop-piece-preserved
loop-piece-preserved c = λ later.
    c.loop-piece.invariant later
    ∙ ap (λ (ps : List Piece). texts_after c.loop-piece.texts ps c.loop-piece.pieces.rest later) c.in-Some.ensures.closed
    ∙ ap (λ (r : Result (List Text) OutlineFault). r >>= λ more. texts_after more c.next.new.self.closed c.loop-piece.pieces.rest later) c.in_ok-add.ensures.is
    ∙ ap (λ (p : Piece). texts_after c.add.new.texts c.next.new.self.closed p later) (sym c.next.ensures.rest)

pub returns-in_err-add : goal.returns-in_err-add
returns-in_err-add c =
    let p = err_from_is_err_and c.from_residual.result c.from_residual.ensures.1 in
    rw (p.1, p.2) (λ later cutting. record {
      is = λ fault seen.
          c.loop-piece.invariant later
          ∙ ap (λ (ps : List Piece). texts_after c.loop-piece.texts ps c.loop-piece.pieces.rest later) c.in-Some.ensures.closed
          ∙ ap (λ (r : Result (List Text) OutlineFault). r >>= λ more. texts_after more c.next.new.self.closed c.loop-piece.pieces.rest later) (c.in_err-add.ensures.is fault seen);
    })

pub returns : goal.returns
returns c = λ later cutting.
    let told =
    c.loop-piece.invariant later
    ∙ ap (λ (ps : List Piece). texts_after c.loop-piece.texts ps c.loop-piece.pieces.rest later) c.in_default.ensures.closed.0
    ∙ ap (λ (p : Piece). ended c.loop-piece.texts p.line p.text later) (sym (c.last.ensures ∙ c.in_default.ensures.rest)) in
    subst (λ (t : Result (List Text) OutlineFault). FindsIn t c.end.result) (sym told) (c.end.ensures later cutting)
