use Rattle.ras_values.proofs.Tallied.{closed_by}
use Rattle.ras_values.proofs.tally.Tally.close.Goals as goal

pub returns : goal.returns
returns c = λ zs added. closed_by c.args.self.now.rule c.args.self.now.summary c.close.result zs c.close.ensures added
