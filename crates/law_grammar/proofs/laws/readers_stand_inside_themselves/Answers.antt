use Rattle.law_grammar.proofs.StatementsRead.{read_at-is}
use Rattle.law_grammar.proofs.laws.readers_stand_inside_themselves.Goals as goal

pub returns : goal.returns
returns c = read_at-is
