-- A product of numbers of two intervals lies between the least and the greatest product of their ends.
use Rattle.std.proofs.Common.{ℕ, zero, suc, ℤ, pos, negsuc, ◌≤ℤ◌, ◌*ℤ◌, arith}
use Rattle.std.specs.Int.{int_min, int_max}
use Rattle.std.proofs.Math.IntN.{*ℤ_comm, zero-*ℤ, suc_ℤ-*ℤ, pred_ℤ-*ℤ}
use Rattle.std.proofs.lemmas.Int.{ints, clamps}
use Rattle.ras_domain.specs.declared.region.Interval.{Interval}
use Rattle.spec_expressions.specs.Reach.{product_interval}

-- a factor keeps the order of numbers, or turns it round
kept_order : (n : ℕ) (a b : ℤ) → a ≤ℤ b → (pos n *ℤ a) ≤ℤ (pos n *ℤ b)
kept_order zero a b h = omega (arith, ints, zero-*ℤ a, zero-*ℤ b)
kept_order (suc n) a b h = omega (arith, ints, suc_ℤ-*ℤ (pos n) a, suc_ℤ-*ℤ (pos n) b, kept_order n a b h)

turned_order : (n : ℕ) (a b : ℤ) → a ≤ℤ b → (negsuc n *ℤ b) ≤ℤ (negsuc n *ℤ a)
turned_order zero a b h = omega (arith, ints, zero-*ℤ a, zero-*ℤ b, pred_ℤ-*ℤ (pos zero) a, pred_ℤ-*ℤ (pos zero) b)
turned_order (suc n) a b h = omega (arith, ints, pred_ℤ-*ℤ (negsuc n) a, pred_ℤ-*ℤ (negsuc n) b, turned_order n a b h)

either_way : (a x b : ℤ) → a ≤ℤ x → x ≤ℤ b → (int_min a b ≤ℤ x) × (x ≤ℤ int_max a b)
either_way a x b low high = (omega (arith, ints, clamps), omega (arith, ints, clamps))

turned_way : (a x b : ℤ) → b ≤ℤ x → x ≤ℤ a → (int_min a b ≤ℤ x) × (x ≤ℤ int_max a b)
turned_way a x b low high = (omega (arith, ints, clamps), omega (arith, ints, clamps))

-- so the multiple of a number lies between those of the ends
multiple : (k a x b : ℤ) → a ≤ℤ x → x ≤ℤ b → (int_min (k *ℤ a) (k *ℤ b) ≤ℤ (k *ℤ x)) × ((k *ℤ x) ≤ℤ int_max (k *ℤ a) (k *ℤ b))
multiple (pos n) a x b low high = either_way (pos n *ℤ a) (pos n *ℤ x) (pos n *ℤ b) (kept_order n a x low) (kept_order n x b high)
multiple (negsuc n) a x b low high = turned_way (negsuc n *ℤ a) (negsuc n *ℤ x) (negsuc n *ℤ b) (turned_order n x b high) (turned_order n a x low)

-- the same with the factor on the right
multiple_right : (k a x b : ℤ) → a ≤ℤ x → x ≤ℤ b → (int_min (a *ℤ k) (b *ℤ k) ≤ℤ (x *ℤ k)) × ((x *ℤ k) ≤ℤ int_max (a *ℤ k) (b *ℤ k))
multiple_right k a x b low high = rw (*ℤ_comm a k, *ℤ_comm b k, *ℤ_comm x k) (multiple k a x b low high)

least_of_four : (ac ad bc bd xc xd xy : ℤ) → int_min ac bc ≤ℤ xc → int_min ad bd ≤ℤ xd → int_min xc xd ≤ℤ xy → int_min (int_min ac ad) (int_min bc bd) ≤ℤ xy
least_of_four ac ad bc bd xc xd xy c d y = omega (arith, ints, clamps)

greatest_of_four : (ac ad bc bd xc xd xy : ℤ) → xc ≤ℤ int_max ac bc → xd ≤ℤ int_max ad bd → xy ≤ℤ int_max xc xd → xy ≤ℤ int_max (int_max ac ad) (int_max bc bd)
greatest_of_four ac ad bc bd xc xd xy c d y = omega (arith, ints, clamps)

pub product-bounded : (a b : Interval) (x y : ℤ) → a.lo ≤ℤ x → x ≤ℤ a.hi → b.lo ≤ℤ y → y ≤ℤ b.hi → ((product_interval a b).lo ≤ℤ (x *ℤ y)) × ((x *ℤ y) ≤ℤ (product_interval a b).hi)
product-bounded a b x y low high least greatest =
    let lows = multiple_right b.lo a.lo x a.hi low high in
    let highs = multiple_right b.hi a.lo x a.hi low high in
    let here = multiple x b.lo y b.hi least greatest in (
      least_of_four (a.lo *ℤ b.lo) (a.lo *ℤ b.hi) (a.hi *ℤ b.lo) (a.hi *ℤ b.hi) (x *ℤ b.lo) (x *ℤ b.hi) (x *ℤ y) lows.0 highs.0 here.0,
      greatest_of_four (a.lo *ℤ b.lo) (a.lo *ℤ b.hi) (a.hi *ℤ b.lo) (a.hi *ℤ b.hi) (x *ℤ b.lo) (x *ℤ b.hi) (x *ℤ y) lows.1 highs.1 here.1,
    )
