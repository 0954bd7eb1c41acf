use Rattle.std.proofs.Common.{◌≡◌, ◌*◌, ◌<◌, true, false, Some, All, length, slice_get, take, drop, refl, sym, ap, subst, ◌∙◌, arith}
use Rattle.std.proofs.lemmas.Option.{slice_get_read}
use Rattle.ras_cells.specs.declared.cell.Cell.TheVariants.{Value}
use Rattle.ras_syntax.specs.CellList.{HasWidth, stride_of}
use Rattle.ras_syntax.proofs.CellsFrom.{length-cells_of, numbers_within, seen_at, width_at}
use Rattle.ras_syntax.proofs.cell_list.CellList.get.Goals as goal

pub index-requires : goal.index-requires
index-requires c =
    omega (arith, c.requires, length-cells_of _ _ _ _ _ c.self.view_is, c.self.inside.nulls.ok.0)

pub returns-then-index-clause-cell : goal.returns-then-index-clause-cell
returns-then-index-clause-cell c =
    let within : c.args.place < length c.self.inside.nulls.items = omega (arith, c.requires, length-cells_of _ _ _ _ _ c.self.view_is) in
    let flag : slice_get c.self.inside.nulls.items c.args.place ≡ Some true = slice_get_read _ _ _ _ refl within c.index.ensures ∙ ap (λ b. Some b) c.if-index.true in
    seen_at _ _ _ _ _ _ _ c.self.view_is flag

pub numbers_at-requires-clause-within : goal.numbers_at-requires-clause-within
numbers_at-requires-clause-within c =
    let within : c.args.place < length c.self.inside.nulls.items = omega (arith, c.requires, length-cells_of _ _ _ _ _ c.self.view_is) in
    rw (c.stride.ensures, c.as_slice.ensures.value) (numbers_within _ _ _ _ c.self.invariant.whole within)

pub returns-clause-cell : goal.returns-clause-cell
returns-clause-cell c =
    let within : c.args.place < length c.self.inside.nulls.items = omega (arith, c.requires, length-cells_of _ _ _ _ _ c.self.view_is) in
    let flag : slice_get c.self.inside.nulls.items c.args.place ≡ Some false = slice_get_read _ _ _ _ refl within c.index.ensures ∙ ap (λ b. Some b) c.if-index.false in
    let kept : c.numbers_at.result.items ≡ take (stride_of c.self.inside.width)
    (drop (stride_of c.self.inside.width * c.args.place) c.self.inside.numbers.items) = c.numbers_at.ensures ∙ rw (c.stride.ensures, c.as_slice.ensures.value) refl in
    seen_at _ _ _ _ _ _ _ c.self.view_is flag ∙ ap (λ ns. Some (Value (record { items = ns }))) (sym kept)

pub returns-clause-width : goal.returns-clause-width
returns-clause-width c =
    let widths : All (HasWidth c.args.self.now.width) c.args.self.now.cells = subst (λ v. All (HasWidth v.width) v.cells) c.self.view_is c.self.invariant.widths in
    width_at _ _ _ (Value c.numbers_at.result) widths (returns-clause-cell c)
