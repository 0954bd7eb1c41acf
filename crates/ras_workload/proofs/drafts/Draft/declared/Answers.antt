use Rattle.std.proofs.Common.{◌≡◌, false, rules, arith}
use Rattle.std.proofs.lemmas.Grind.{common_steps}
use Rattle.ras_workload.specs.Kept.{are_nulls}
use Rattle.ras_workload.proofs.Declaring.{no_nulls}
use Rattle.ras_workload.proofs.drafts.Draft.declared.Goals as goal

pub returns-in_default-nulls_of : goal.returns-in_default-nulls_of
returns-in_default-nulls_of c =
    let fails : are_nulls c.args.self.cell c.args.self.nulls.items ≡ false = first_of (search rules, grind (arith, common_steps)) in
    no_nulls c.args.earlier.now c.args.self fails
