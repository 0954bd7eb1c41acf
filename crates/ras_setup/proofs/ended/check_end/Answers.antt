use Rattle.std.proofs.Common.{◌≡◌, ◌-◌, length, length-drop, drop, take, ap, ◌∙◌, arith}
use Rattle.std.proofs.lemmas.List.{take_all}
use Rattle.std.specs.List.{prefix_len}
use Rattle.spec_grammar.specs.Tokens.{is_blank}
use Rattle.ras_workload.specs.declared.fault.WorkloadFault.TheVariants.{BadHeading}
use Rattle.ras_setup.proofs.Behind.{all-blank, line-is, not-blank}
use Rattle.ras_setup.proofs.ended.check_end.Goals as goal

pub returns-then-blanks-rest : goal.returns-then-blanks-rest
returns-then-blanks-rest c =
    let few = length-drop c.args.behind c.args.text.now in
    let whole : take (length c.args.text.now - c.args.behind) (drop c.args.behind c.args.text.now) ≡ drop c.args.behind c.args.text.now = take_all _ _ (omega (arith, few)) in
    let blanks : c.blanks_len-blanks.result ≡ prefix_len is_blank (drop c.args.behind c.args.text.now) = c.blanks_len-blanks.ensures.value ∙ ap (prefix_len is_blank) whole in
    all-blank (drop c.args.behind c.args.text.now) c.blanks_len-blanks.result blanks (omega (arith, c.if-blanks-rest.true, few))

pub returns : goal.returns
returns c =
    let few = length-drop c.args.behind c.args.text.now in
    let whole : take (length c.args.text.now - c.args.behind) (drop c.args.behind c.args.text.now) ≡ drop c.args.behind c.args.text.now = take_all _ _ (omega (arith, few)) in
    let blanks : c.blanks_len-blanks.result ≡ prefix_len is_blank (drop c.args.behind c.args.text.now) = c.blanks_len-blanks.ensures.value ∙ ap (prefix_len is_blank) whole in (
      not-blank (drop c.args.behind c.args.text.now) c.blanks_len-blanks.result blanks
          (omega (arith, c.if-blanks-rest.false, c.blanks_len-blanks.ensures.within, few, ap length whole)),
      ap BadHeading (line-is c.args.text.now c.args.behind c.blanks_len-blanks.result c.line_feeds-line.result blanks c.line_feeds-line.ensures.value),
    )
