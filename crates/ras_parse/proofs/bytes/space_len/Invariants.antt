use Rattle.std.proofs.Common.{◌≡◌, ◌+◌, drop, false}
use Rattle.spec_grammar.specs.Tokens.{space_length}
use Rattle.ras_parse.proofs.bytes.space_len.Given as goal

-- what was passed and what is left to pass
abbrev pub invariant-loop-at : goal.invariant-loop-at
invariant-loop-at l = l.at + space_length l.in_comment (drop l.at l.text) ≡ space_length false l.text
