use Rattle.law_grammar.proofs.Ends.{one_expr, one_tree}
use Rattle.law_grammar.proofs.EachVerdict.{one_form, one_verdict}
use Rattle.law_grammar.proofs.laws.one_tree_alone.Goals as goal

pub returns-clause-expr : goal.returns-clause-expr
returns-clause-expr c = one_expr

pub returns-clause-form : goal.returns-clause-form
returns-clause-form c = one_tree

pub returns-clause-tree : goal.returns-clause-tree
returns-clause-tree c = one_form

pub returns-clause-verdict : goal.returns-clause-verdict
returns-clause-verdict c = one_verdict
