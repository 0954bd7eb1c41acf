use Rattle.std.proofs.Common.{◌≡◌, drop}
use Rattle.spec_grammar.specs.Tokens.{value_of}
use Rattle.ras_parse.proofs.Values.{value_from}
use Rattle.ras_parse.proofs.bytes.value_of.Given as goal

-- the value so far, and that of the digits behind it
abbrev pub invariant-loop-digit : goal.invariant-loop-digit
invariant-loop-digit l = value_from l.value (drop l.digit-index l.digits) ≡ value_of l.digits
