use Rattle.spec_grammar.proofs.Order.{tokens-order, own_fault-order}
use Rattle.spec_grammar.proofs.laws.tokens_stand_in_order.Goals as goal

pub returns-clause-tokens : goal.returns-clause-tokens
returns-clause-tokens c = tokens-order

pub returns-clause-fault : goal.returns-clause-fault
returns-clause-fault c = own_fault-order
