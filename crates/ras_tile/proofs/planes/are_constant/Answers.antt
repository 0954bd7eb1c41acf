use Rattle.std.proofs.Common.{◌≡◌, ◌<◌, ℕ, ap, sym, ◌∙◌, take, arith, rules}
use Rattle.std.proofs.lemmas.List.{take_all}
use Rattle.ras_tile.specs.Planes.{listed_number, plane_number, cell_of_planes, HasNumbers}
use Rattle.ras_tile.proofs.Cells.{plane_number-at, All-at, equal_more}
use Rattle.ras_tile.proofs.planes.are_constant.Goals as goal

pub returns-then-not-is_constant : goal.returns-then-not-is_constant
returns-then-not-is_constant c =
    λ n whole. (
      λ no. absurd cc,
      λ same.
          let plane = c.plane-item.result in
          let here : HasNumbers n plane = All-at (HasNumbers n) c.args.planes.now c.loop-plane.plane-index plane c.loop-plane-test.true c.plane-item.is whole in
          let equal : (k : ℕ) → k < n → plane_number plane k ≡ plane_number plane 0 =
          λ k below.
          plane_number-at c.args.planes.now c.loop-plane.plane-index plane k c.loop-plane-test.true c.plane-item.is
          ∙ ap (λ cell. listed_number cell c.loop-plane.plane-index) (same k below)
          ∙ sym (plane_number-at c.args.planes.now c.loop-plane.plane-index plane 0 c.loop-plane-test.true c.plane-item.is) in
          let yes = (c.is_constant.ensures n here).1 equal in
          absurd cc,
    )

pub loop-plane-preserved : goal.loop-plane-preserved
loop-plane-preserved c =
    λ n whole k below.
    let plane = c.plane-item.result in
    let here : HasNumbers n plane = All-at (HasNumbers n) c.args.planes.now c.loop-plane.plane-index plane c.loop-plane-test.true c.plane-item.is whole in
    equal_more c.args.planes.now c.loop-plane.plane-index plane k c.loop-plane-test.true c.plane-item.is
    (c.loop-plane.invariant n whole k below) ((c.is_constant.ensures n here).0 (search rules) k below)

pub returns : goal.returns
returns c =
    λ n whole. (
      λ yes k below.
          let all : take c.loop-plane.plane-index c.args.planes.now ≡ c.args.planes.now = take_all c.loop-plane.plane-index c.args.planes.now (omega arith) in
          ap (λ planes. cell_of_planes planes k) (sym all) ∙ c.loop-plane.invariant n whole k below ∙ ap (λ planes. cell_of_planes planes 0) all,
      λ same. search rules,
    )
