use Rattle.std.proofs.Common.{arith}
use Rattle.spec_grammar.specs.Weight.{weight_of}
use Rattle.spec_grammar.proofs.Depth.{shallow}
use Rattle.spec_grammar.proofs.laws.weight_bounds_depth.Goals as goal

pub returns : goal.returns
returns c = λ level ts x h. shallow (weight_of ts) level ts x (omega arith) h
