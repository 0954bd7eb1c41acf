use Rattle.std.proofs.Common.{◌≡◌, map, take}
use Rattle.std.specs.Option.{option_copied, option_map}
use Rattle.spec_expressions.specs.Tree.{condition_of, tree_of}
use Rattle.spec_shown.specs.Shown.{identifiers_shown}
use Rattle.spec_statements.specs.Rows.{asked_of}
use Rattle.ras_rows.specs.Arrays.{holdings_in}
use Rattle.ras_rows.proofs.rows.identifiers.Given as goal

abbrev pub invariant-loop-source : goal.invariant-loop-source
invariant-loop-source l =
    map (λ o. o.items) l.oids.items
    ≡ map (identifiers_shown (holdings_in l.view) (asked_of (condition_of (option_map tree_of (option_copied l.condition))))) (take l.source-index l.sources)
