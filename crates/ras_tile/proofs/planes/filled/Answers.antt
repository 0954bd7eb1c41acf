use Rattle.std.proofs.Common.{◌≡◌, ◌+◌, sym, subst, ap, ◌∙◌, length, get_or, pos, replicate, arith, take}
use Rattle.std.proofs.lemmas.Int.{ints}
use Rattle.std.proofs.lemmas.List.{length_push, length-replicate, get_or-replicate}
use Rattle.ras_tile.specs.declared.plane.Plane.TheVariants.{Plain}
use Rattle.ras_tile.specs.Planes.{listed_number, IsPlainPlane, ArePlanes}
use Rattle.ras_tile.proofs.Cells.{ArePlanes-more}
use Rattle.ras_tile.proofs.planes.filled.Goals as goal

pub loop-number-preserved : goal.loop-number-preserved
loop-number-preserved c =
    let number = get_or c.args.numbers.now c.loop-number.number-index (pos 0) in
    let items : c.in_ok-kept.kept.items ≡ replicate c.args.cells number =
    c.in_ok-kept.ensures.items_if_clones_equal (λ y same. same) ∙ ap (replicate c.args.cells) (omega (arith, ints)) in
    record {
      made = subst (ArePlanes c.args.cells (λ _ plane. IsPlainPlane plane) (λ k. take (c.loop-number.number-index + 1) c.args.numbers.now)) (sym c.in_ok-push.ensures.items)
          (ArePlanes-more c.args.cells c.loop-number.number-index (λ _ plane. IsPlainPlane plane) (λ k. c.args.numbers.now) c.loop-number.planes.items (Plain c.in_ok-kept.kept)
          c.loop-number.invariant.made c.loop-number.invariant.long (λ k below. c.loop-number-test.true) (ap length items ∙ length-replicate c.args.cells number) tt
          (λ k below. ap (λ zs. listed_number zs k) items ∙ get_or-replicate c.args.cells k number (pos 0) below));
      long = omega (arith, ap length c.in_ok-push.ensures.items, length_push c.loop-number.planes.items (Plain c.in_ok-kept.kept), c.loop-number.invariant.long);
    }
