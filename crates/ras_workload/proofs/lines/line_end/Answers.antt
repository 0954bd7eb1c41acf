use Rattle.std.proofs.Common.{◌≡◌, ◌+◌, drop, ap, rules, arith}
use Rattle.std.proofs.lemmas.Grind.{common_steps}
use Rattle.ras_workload.specs.Lines.{line_length}
use Rattle.ras_workload.proofs.ByLine.{line_at}
use Rattle.ras_workload.proofs.lines.line_end.Goals as goal

pub returns-clause-line : goal.returns-clause-line
returns-clause-line c =
    let len : c.line_len.result ≡ line_length (drop c.args.at c.args.text.now) = first_of (search rules, grind (arith, common_steps)) in
    line_at c.args.text.now c.args.at _ c.requires (ap (λ n. c.args.at + n) len)
