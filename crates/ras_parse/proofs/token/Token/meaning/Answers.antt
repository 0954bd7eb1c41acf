use Rattle.std.proofs.Common.{sym, arith}
use Rattle.ras_parse.proofs.Meanings.{meaning-of_sign, meaning-of_word, meaning-of_other}
use Rattle.ras_parse.proofs.token.Token.meaning.Goals as goal

pub returns-in-Sign : goal.returns-in-Sign
returns-in-Sign g c = grind (arith, meaning-of_sign)

pub returns-in-Reserved : goal.returns-in-Reserved
returns-in-Reserved g c = grind (arith, meaning-of_word)

pub returns-in_default : goal.returns-in_default
returns-in_default g c =
    sym (meaning-of_other c.args.table.now.signs.now c.args.table.now.words.now _ c.args.self.now.kind c.in_default.not-Sign c.in_default.not-Reserved)
