use Rattle.std.proofs.Common.{◌≡◌, filter, take}
use Rattle.std.specs.Option.{option_copied, option_map}
use Rattle.spec_expressions.specs.Tree.{condition_of, tree_of}
use Rattle.spec_statements.specs.Rows.{asked_of, is_asked}
use Rattle.ras_rows.proofs.rows.allowed.Given as goal

abbrev pub invariant-loop-oid : goal.invariant-loop-oid
invariant-loop-oid l =
    l.some.items ≡ filter (is_asked (asked_of (condition_of (option_map tree_of (option_copied l.condition)))) l.source.iterator) (take l.oid-index l.oids)
