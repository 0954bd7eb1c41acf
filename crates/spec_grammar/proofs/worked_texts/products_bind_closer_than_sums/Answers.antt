use Rattle.spec_grammar.proofs.Readings.{one_and_product}
use Rattle.spec_grammar.proofs.worked_texts.products_bind_closer_than_sums.Goals as goal

pub returns : goal.returns
returns c = one_and_product
