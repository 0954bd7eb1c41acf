use Rattle.std.proofs.Common.{◌≡◌, sym, ◌∙◌, rules}
use Rattle.std.specs.Prelude.{count_by}
use Rattle.spec_grammar.specs.Tokens.{is_line_feed}
use Rattle.ras_workload.proofs.ByLine.{feeds_counted}
use Rattle.ras_setup.proofs.ended.line_feeds.Goals as goal

pub returns-clause-value : goal.returns-clause-value
returns-clause-value c =
    let counted : c.count.result ≡ count_by is_line_feed c.args.text.now = search rules in
    counted ∙ sym (feeds_counted c.args.text.now)
