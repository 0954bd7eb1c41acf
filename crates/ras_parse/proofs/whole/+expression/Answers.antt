use Rattle.std.proofs.Common.{◌≡◌, suc, ◌-◌, subst, ap, arith}
use Rattle.law_grammar.specs.Reading.{reads}
use Rattle.ras_parse.specs.Inputs.{left, Reads}
use Rattle.ras_parse.specs.Nests.{level_of}
use Rattle.ras_parse.proofs.whole.+expression.Goals as goal

pub returns-then-depth-eq0 : goal.returns-then-depth-eq0
unfolding reads
returns-then-depth-eq0 t c = let none : c.args.depth ≡ 0 = omega arith in
    record { gives = λ u. ap (λ n. reads n (level_of c.args.level) (left c.args.cursor.now)) none }

pub returns : goal.returns
unfolding reads
returns t c =
    let some : suc (c.args.depth - 1) ≡ c.args.depth = omega arith in
    subst (λ n. Reads (reads n (level_of c.args.level)) c.args.cursor.now c.level.result c.level.new.cursor) some c.level.ensures
