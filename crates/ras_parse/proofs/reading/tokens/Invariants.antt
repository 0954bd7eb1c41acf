use Rattle.std.proofs.Common.{◌≡◌}
use Rattle.std.specs.List.{All}
use Rattle.spec_grammar.specs.Tokens.{lexed}
use Rattle.ras_parse.specs.Seen.{found_in, tokens_in, StandsIn, NextLiesIn}
use Rattle.ras_parse.specs.Walk.{lexed_with}
use Rattle.ras_parse.proofs.Walked.{before, left_of}
use Rattle.ras_parse.proofs.reading.tokens.Given as goal

abbrev pub invariant-loop-next : goal.invariant-loop-next
invariant-loop-next l = record {
  read : lexed l.text ≡ before (tokens_in l.text l.tokens.items) (lexed_with l.text (found_in l.text l.next));
  within : NextLiesIn l.text 0 l.next;
  stand : All (StandsIn l.text) l.tokens.items;
}

abbrev pub decreases-loop-next : goal.decreases-loop-next
decreases-loop-next l = left_of l.text l.next
