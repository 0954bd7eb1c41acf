use Rattle.ras_parse.proofs.whole.+expression.Given as goal

abbrev pub decreases-expression : goal.decreases-expression
decreases-expression l = l.depth
