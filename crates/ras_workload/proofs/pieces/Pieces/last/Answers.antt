use Rattle.std.proofs.Common.{◌≡◌, drop, sym, ap, ◌∙◌, rules, arith}
use Rattle.std.proofs.lemmas.Grind.{common_steps}
use Rattle.spec_workloads.specs.Sections.{Pieces, piece_of}
use Rattle.ras_workload.specs.PieceViews.{piece_seen}
use Rattle.ras_workload.proofs.Parts.{last_of}
use Rattle.ras_workload.proofs.pieces.Pieces.last.Goals as goal

pub returns : goal.returns
returns c =
    let rest = drop c.self.inside.at c.self.inside.body.now in
    let seen : piece_seen c.piece_of.result ≡ piece_of c.self.inside.line (drop c.self.inside.at c.self.inside.body.now) = first_of (search rules, grind (arith, common_steps)) in
    let none = ap (λ (p : Pieces). p.closed) c.self.view_is ∙ c.requires in
    seen ∙ sym (last_of c.self.inside.line rest none) ∙ ap (λ (p : Pieces). p.rest) c.self.view_is
