use Rattle.std.proofs.Common.{◌+◌, ap, min, ◌∙◌, List}
use Rattle.std.specs.Option.{option_copied}
use Rattle.spec_statements.specs.Limits.{limited_rows}
use Rattle.spec_statements.specs.Rows.{Row}
use Rattle.spec_statements.specs.Statement.{statement_tree_of}
use Rattle.ras_syntax.specs.declared.limits.TheConstants.{MAX_ROWS}
use Rattle.ras_rows.specs.Arrays.{holdings_in}
use Rattle.ras_rows.specs.RowsKept.{Oids, row_count}
use Rattle.ras_rows.proofs.Limited.{rows-few, rows-many}
use Rattle.ras_rows.proofs.rows.Rows.of.Goals as goal

pub returns-then-count-gt-MAX_ROWS-clause-shown : goal.returns-then-count-gt-MAX_ROWS-clause-shown
returns-then-count-gt-MAX_ROWS-clause-shown c =
    rows-many (statement_tree_of c.args.checked.now) (holdings_in c.args.view.now) (option_copied c.condition-condition.result) c.sources-sources.result.now c.in_ok-oids.oids.items
    c.count_of-count.result c.sources-sources.ensures c.condition-condition.ensures c.in_ok-oids.ensures
    (c.count_of-count.ensures ∙ ap (λ (os : List Oids). min (row_count os) (MAX_ROWS + 1)) c.as_slice.ensures.value)
    c.whole_text.result c.whole_text.ensures c.if-count-gt-MAX_ROWS.true

pub returns-then-count-gt-MAX_ROWS-clause-databases : goal.returns-then-count-gt-MAX_ROWS-clause-databases
returns-then-count-gt-MAX_ROWS-clause-databases c = λ database is.
    ap (λ (rows : List Row). limited_rows (statement_tree_of c.args.checked.now) rows) is ∙ returns-then-count-gt-MAX_ROWS-clause-shown c

pub returns-clause-shown : goal.returns-clause-shown
returns-clause-shown c =
    rows-few (statement_tree_of c.args.checked.now) (holdings_in c.args.view.now) (option_copied c.condition-condition.result) c.sources-sources.result.now c.in_ok-oids.oids.items
    c.count_of-count.result c.sources-sources.ensures c.condition-condition.ensures c.in_ok-oids.ensures
    (c.count_of-count.ensures ∙ ap (λ (os : List Oids). min (row_count os) (MAX_ROWS + 1)) c.as_slice.ensures.value)
    c.if-count-gt-MAX_ROWS.false

pub returns-clause-databases : goal.returns-clause-databases
returns-clause-databases c = λ database is. ap (λ (rows : List Row). limited_rows (statement_tree_of c.args.checked.now) rows) is ∙ returns-clause-shown c
