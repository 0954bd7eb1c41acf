use Rattle.std.proofs.Common.{◌≡◌, length}
use Rattle.std.specs.Prelude.{find}
use Rattle.spec_grammar.specs.Tokens.{begins_with}
use Rattle.ras_parse.specs.Tables.{suffix_entries}
use Rattle.ras_parse.proofs.tables.suffix_in.Given as goal

abbrev pub invariant-loop-suffixes : goal.invariant-loop-suffixes
invariant-loop-suffixes l =
    find (λ s. begins_with s.0 l.text) (suffix_entries l.suffixes) ≡ find (λ s. begins_with s.0 l.text) (suffix_entries l.initial.suffixes)

abbrev pub decreases-loop-suffixes : goal.decreases-loop-suffixes
decreases-loop-suffixes l = length l.suffixes
