use Rattle.std.proofs.Common.{length, refl, subst, sym}
use Rattle.ras_domain.specs.Region.{points_of}
use Rattle.ras_shape.specs.declared.form.ShapeError.{ShapeError}
use Rattle.ras_shape.specs.Gives.{StopsAs}
use Rattle.spec_statements.specs.Plans.{Writing, allowed_writing}
use Rattle.ras_rows.proofs.Allowed.{allowed, many-numbers, many-tiles}
use Rattle.ras_rows.proofs.writing.check_growth.Goals as goal

pub returns-then-has_many_numbers : goal.returns-then-has_many_numbers
returns-then-has_many_numbers c = λ region body inside.
    let writing : Writing = record { region = region; grown = c.args.grown.now; body = body } in
    subst (λ (e : ShapeError). StopsAs (allowed_writing c.args.of.now c.args.span writing) e) (sym c.fault_at.ensures)
    (many-numbers c.args.of.now c.args.span writing inside (length (points_of c.args.grown.now)) c.width_of.result refl c.width_of.ensures.width
    (c.has_many_numbers.ensures.many c.if-has_many_numbers.true))

pub returns-then-count_meeting-gt-MAX_TILES : goal.returns-then-count_meeting-gt-MAX_TILES
returns-then-count_meeting-gt-MAX_TILES c = λ region body inside.
    let writing : Writing = record { region = region; grown = c.args.grown.now; body = body } in
    subst (λ (e : ShapeError). StopsAs (allowed_writing c.args.of.now c.args.span writing) e) (sym c.fault_at-then-count_meeting-gt-MAX_TILES.ensures)
    (many-tiles c.args.of.now c.args.span writing inside (length (points_of c.args.grown.now)) c.width_of.result refl c.width_of.ensures.width
    c.has_many_numbers.ensures.region (c.has_many_numbers.ensures.few c.if-has_many_numbers.false) c.count_meeting.result c.count_meeting.ensures c.if-count_meeting-gt-MAX_TILES.true)

pub returns : goal.returns
returns c = λ region body inside.
    let writing : Writing = record { region = region; grown = c.args.grown.now; body = body } in
    allowed c.args.of.now c.args.span writing inside (length (points_of c.args.grown.now)) c.width_of.result refl c.width_of.ensures.width
    c.has_many_numbers.ensures.region (c.has_many_numbers.ensures.few c.if-has_many_numbers.false) c.count_meeting.result c.count_meeting.ensures c.if-count_meeting-gt-MAX_TILES.false
