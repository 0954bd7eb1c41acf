use Rattle.std.proofs.Common.{◌<◌, ◌≤◌, cond, length, take, None, arith, ap, ◌∙◌}
use Rattle.std.proofs.lemmas.List.{take_all}
use Rattle.ras_store.specs.Kept.{kept_in}
use Rattle.ras_store.specs.Piece.{piece_kept, piece_over}
use Rattle.ras_store.proofs.Pieces.{is_named, named_not, named_there, one-more-apart, one-more-taken}
use Rattle.ras_store.proofs.piece.piece_of.Goals as goal

pub loop-place-init : goal.loop-place-init
loop-place-init c =
    record {
      held = λ name. c.new-piece.ensures name None;
      others = λ name before apart. c.new-piece.ensures name before;
    }

pub loop-place-preserved : goal.loop-place-preserved
loop-place-preserved c =
    let within : c.loop-place.place < length c.args.list.now = omega arith in
    record {
      held = one-more-taken c.args.list.now c.loop-place.place c.get-mode.result.0.now c.get-mode.result.1 (kept_in c.args.contents.now)
          (piece_kept c.loop-place.piece) (piece_kept c.take.new.piece) within c.get-mode.ensures c.loop-place.invariant.held
          (λ name. c.in_ok-take.ensures name None);
      others = one-more-apart c.args.list.now c.loop-place.place c.get-mode.result.0.now c.get-mode.result.1
          (kept_in c.args.contents.now c.get-mode.result.0.now) (piece_over c.loop-place.piece) (piece_over c.take.new.piece) within c.get-mode.ensures
          c.loop-place.invariant.others c.in_ok-take.ensures;
    }

pub returns-clause-held : goal.returns-clause-held
returns-clause-held c = λ name names.
    let upto : length c.args.list.now ≤ c.loop-place.place = omega arith in
    c.loop-place.invariant.held name
    ∙ ap (λ list. cond (is_named list name) (kept_in c.args.contents.now name) None) (take_all c.loop-place.place c.args.list.now upto)
    ∙ ap (λ b. cond b (kept_in c.args.contents.now name) None) (named_there c.args.list.now name names)

pub returns-clause-others : goal.returns-clause-others
returns-clause-others c = λ name before none.
    let upto : length c.args.list.now ≤ c.loop-place.place = omega arith in
    c.loop-place.invariant.others name before
    (ap (λ list. is_named list name) (take_all c.loop-place.place c.args.list.now upto) ∙ named_not c.args.list.now name none)
