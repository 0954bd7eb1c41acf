use Rattle.std.proofs.Common.{◌≡◌, ◌+◌, ◌<◌, ◌≤◌, length, drop, false, sym, ap, ap₂, ◌∷◌, ◌∙◌, rules, arith, ℕ}
use Rattle.std.specs.Prelude.{slice_range}
use Rattle.std.proofs.lemmas.Grind.{common_steps}
use Rattle.spec_workloads.specs.Sections.{Piece, Pieces, line_feeds, piece_of}
use Rattle.ras_workload.specs.Lines.{part_length}
use Rattle.ras_workload.specs.Pieces.{pieces_on}
use Rattle.ras_workload.specs.PieceViews.{piece_seen}
use Rattle.ras_workload.proofs.Parts.{next_at, last_at}
use Rattle.ras_workload.proofs.pieces.Pieces.next.Goals as goal

pub returns-then-end-self-clause-closed : goal.returns-then-end-self-clause-closed
returns-then-end-self-clause-closed c =
    let body = c.self.inside.body.now in
    let at = c.self.inside.at in
    let len : c.part_len.result ≡ part_length false (drop c.self.inside.at c.self.inside.body.now) = first_of (search rules, grind (arith, common_steps)) in
    let last = ap (λ (p : Pieces). p.closed) (last_at c.self.inside.line body at (at + c.part_len.result) (ap (λ n. at + n) len) c.if-end-self.true) in
    let none = sym (ap (λ (p : Pieces). p.closed) c.self.view_is) ∙ last in
    (none, none)

pub returns-clause-closed : goal.returns-clause-closed
returns-clause-closed c =
    let body = c.self.inside.body.now in
    let at = c.self.inside.at in
    let end = at + c.part_len.result in
    let len : c.part_len.result ≡ part_length false (drop c.self.inside.at c.self.inside.body.now) = first_of (search rules, grind (arith, common_steps)) in
    sym (ap (λ (p : Pieces). p.closed) c.self.view_is)
    ∙ ap (λ (p : Pieces). p.closed) (next_at c.self.inside.line body at end (ap (λ n. at + n) len) c.if-end-self.false)
    ∙ ap₂ (λ (p : Piece) (n : ℕ). p ∷ (pieces_on (c.self.inside.line + n) (drop (end + 1) body)).closed) (sym c.piece_of-piece.ensures) (sym c.line_feeds.ensures.value)

pub returns-clause-rest : goal.returns-clause-rest
returns-clause-rest c =
    let body = c.self.inside.body.now in
    let at = c.self.inside.at in
    let end = at + c.part_len.result in
    let len : c.part_len.result ≡ part_length false (drop c.self.inside.at c.self.inside.body.now) = first_of (search rules, grind (arith, common_steps)) in
    ap (λ (n : ℕ). (pieces_on (c.self.inside.line + n) (drop (end + 1) body)).rest) c.line_feeds.ensures.value
    ∙ sym (ap (λ (p : Pieces). p.rest) (next_at c.self.inside.line body at end (ap (λ n. at + n) len) c.if-end-self.false))
    ∙ ap (λ (p : Pieces). p.rest) c.self.view_is
