use Rattle.std.proofs.Common.{◌≡◌, ◌<◌, [], length, rules, arith}
use Rattle.std.proofs.lemmas.Grind.{common_steps}
use Rattle.ras_workload.proofs.Headed.{headed_first, no_heading, no_text}
use Rattle.ras_workload.proofs.sections.Sections.of.Goals as goal

pub returns-then-is_empty-clause-none : goal.returns-then-is_empty-clause-none
returns-then-is_empty-clause-none c =
    let none : c.args.text.now ≡ [] = first_of (search rules, grind (arith, common_steps)) in
    no_text c.args.text.now none

pub returns-then-text-ne35-clause-none : goal.returns-then-text-ne35-clause-none
returns-then-text-ne35-clause-none c =
    let some : 0 < length c.args.text.now = first_of (search rules, grind (arith, common_steps)) in
    no_heading c.args.text.now some c.if-text-ne35.true

pub returns-clause-some : goal.returns-clause-some
returns-clause-some c =
    let some : 0 < length c.args.text.now = first_of (search rules, grind (arith, common_steps)) in
    headed_first c.args.text.now some c.if-text-ne35.false
