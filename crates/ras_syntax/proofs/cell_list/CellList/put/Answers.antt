use Rattle.std.proofs.Common.{◌≡◌, ◌<◌, length, min, sym, ap, subst, refl, ◌∙◌, arith}
use Rattle.std.proofs.lemmas.Slice.{pushed}
use Rattle.ras_syntax.specs.CellList.{HasWidth, stride_of, cell_from}
use Rattle.ras_syntax.proofs.CellsFrom.{length-cells_of, room_for_one, seen-append, IsKept-append}
use Rattle.ras_syntax.proofs.cell_list.CellList.put.Goals as goal

pub unwrap-requires : goal.unwrap-requires
unwrap-requires c =
    let left : length c.self.inside.nulls.items < c.self.inside.room = omega (arith, c.requires.room, length-cells_of _ _ _ _ _ c.self.view_is, ap (λ v. v.room) c.self.view_is) in
    let as_many : length c.args.numbers.now ≡ stride_of c.self.inside.width = c.requires.stride ∙ ap (λ v. min v.width 8) (sym c.self.view_is) in
    c.extend_from_slice.ensures.succeeds (omega (arith, c.self.inside.numbers.ok.0, as_many, room_for_one _ _ _ _ _ c.self.invariant.whole left c.self.invariant.numbers_fit))

pub push_reserved-requires : goal.push_reserved-requires
push_reserved-requires c =
    omega (arith, c.requires.room, length-cells_of _ _ _ _ _ c.self.view_is, ap (λ v. v.room) c.self.view_is, c.self.inside.nulls.ok.0, c.self.invariant.nulls_fit)

pub invariant_of-self : goal.invariant_of-self
invariant_of-self c =
    let left : length c.self.inside.nulls.items < c.self.inside.room = omega (arith, c.requires.room, length-cells_of _ _ _ _ _ c.self.view_is, ap (λ v. v.room) c.self.view_is) in
    let as_many : length c.args.numbers.now ≡ stride_of c.self.inside.width = c.requires.stride ∙ ap (λ v. min v.width 8) (sym c.self.view_is) in
    let fits : HasWidth c.self.inside.width (cell_from c.args.is_null c.args.numbers.now) = subst (λ v. HasWidth v.width (cell_from c.args.is_null c.args.numbers.now))
    (sym c.self.view_is) c.requires.width in
    rw (pushed c.args.numbers.now refl c.unwrap.ensures c.extend_from_slice.ensures.items, c.push_reserved.ensures.items)
    (IsKept-append _ _ _ _ _ _ _ _ _ _ c.self.invariant left as_many fits c.extend_from_slice.ensures.capacity (omega (arith, c.push_reserved.ensures.capacity)))

pub returns : goal.returns
returns c =
    let as_many : length c.args.numbers.now ≡ stride_of c.self.inside.width = c.requires.stride ∙ ap (λ v. min v.width 8) (sym c.self.view_is) in
    rw (pushed c.args.numbers.now refl c.unwrap.ensures c.extend_from_slice.ensures.items, c.push_reserved.ensures.items)
    (seen-append _ _ _ _ _ _ _ c.self.view_is c.self.invariant.whole as_many)
