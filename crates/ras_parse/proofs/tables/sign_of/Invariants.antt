use Rattle.std.proofs.Common.{◌≡◌, length}
use Rattle.std.specs.Prelude.{find}
use Rattle.spec_grammar.specs.Tokens.{begins_with}
use Rattle.ras_parse.specs.Tables.{words_in}
use Rattle.ras_parse.proofs.tables.sign_of.Given as goal

abbrev pub invariant-loop-signs : goal.invariant-loop-signs
invariant-loop-signs l = find (λ s. begins_with s l.text) (words_in l.signs) ≡ find (λ s. begins_with s l.text) (words_in l.initial.signs)

abbrev pub decreases-loop-signs : goal.decreases-loop-signs
decreases-loop-signs l = length l.signs
