use Rattle.std.proofs.Common.{◌≡◌, ℕ, List, Some, length, ap, subst, sym, ◌∙◌, arith}
use Rattle.std.specs.List.{slice_get}
use Rattle.std.proofs.lemmas.Result.{IfOk-weaker}
use Rattle.spec_statements.specs.Rows.{Row, combinations}
use Rattle.ras_rows.specs.Arrays.{holdings_in}
use Rattle.ras_rows.specs.RowsKept.{Oids, members_named}
use Rattle.ras_rows.proofs.Counts.{count-is, numbered-at}
use Rattle.ras_rows.proofs.rows.Rows.row.Goals as goal

pub row_at-requires-clause-within : goal.row_at-requires-clause-within
row_at-requires-clause-within c =
    omega (arith, c.requires, count-is (holdings_in c.self.inside.view.now) c.self.inside.sources.now c.self.inside.oids.items c.self.inside.count c.self.invariant ∙ ap length c.self.view_is)

pub returns : goal.returns
returns c =
    IfOk-weaker c.row_at.result _ _
    (λ row h.
    ap (λ (rows : List (ℕ × Row)). slice_get rows c.args.place) (sym c.self.view_is)
    ∙ numbered-at 1 (combinations (members_named (holdings_in c.self.inside.view.now) c.self.inside.sources.now c.self.inside.oids.items)) c.args.place row.items
    (subst (λ (os : List Oids). slice_get (combinations (members_named (holdings_in c.self.inside.view.now) c.self.inside.sources.now os)) c.args.place ≡ Some row.items) c.as_slice.ensures.value h)
    ∙ ap (λ (n : ℕ). Some (n, row.items)) (omega arith))
    c.row_at.ensures
