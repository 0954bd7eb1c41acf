-- Quotient and remainder are the only ones.
use Rattle.std.proofs.Common.{◌≡◌, ℕ, zero, suc, ◌+◌, ◌*◌, ◌<◌, ℤ, pos, negsuc, ◌+ℤ◌, ◌-ℤ◌, ◌*ℤ◌, ◌≤ℤ◌, neg_ℤ, refl, sym, ap, ◌∙◌, arith}
use Rattle.std.specs.Prelude.{unsigned_abs, int_div, int_rem}
use Rattle.std.proofs.lemmas.Int.{ints, unsigned_abs-mul, quot-rem, rem_below}
use Rattle.std.proofs.Math.IntN.{*ℤ_comm}
use Rattle.ras_cells.specs.Laws.{IsDivision}
use borrow.Author.Differences.{up, down, sum_is_lem, product_is, neg_is, same_in}

-- a multiple that is smaller than what is multiplied is none
none_below : (n k : ℕ) → n * k < n → k ≡ 0
none_below n zero h = refl
none_below n (suc k) h = absurd (omega arith)

mul-sub : (y q p : ℤ) → y *ℤ (q -ℤ p) ≡ (y *ℤ q) -ℤ (y *ℤ p)
mul-sub y q p =
    let e : up (q -ℤ p) + down q + up p ≡ down (q -ℤ p) + up q + down p = omega (arith, sum_is_lem q (neg_ℤ p), neg_is p) in
    same_in (y *ℤ (q -ℤ p)) ((y *ℤ q) -ℤ (y *ℤ p)) (omega (
      arith,
      product_is y (q -ℤ p),
      product_is y q,
      product_is y p,
      neg_is (y *ℤ p),
      sum_is_lem (y *ℤ q)
          (neg_ℤ (y *ℤ p)),
      ap (λ n. up y * n) e,
      ap (λ n. down y * n) e,
    ))

-- two remainders are closer to each other than the divisor is large
close : (x r s : ℤ) (n : ℕ) → (pos 0 ≤ℤ x → pos 0 ≤ℤ r) → (x ≤ℤ pos 0 → r ≤ℤ pos 0) → (pos 0 ≤ℤ x → pos 0 ≤ℤ s) → (x ≤ℤ pos 0 → s ≤ℤ pos 0) → unsigned_abs r < n
    → unsigned_abs s < n → unsigned_abs (s -ℤ r) < n
close (pos x) r s n a b c d e f =
    let h : pos 0 ≤ℤ pos x = omega (arith, ints) in
    omega (arith, ints, a h, c h)
close (negsuc x) r s n a b c d e f =
    let h : negsuc x ≤ℤ pos 0 = omega (arith, ints) in
    omega (arith, ints, b h, d h)

unique : (x y q r p s : ℤ) → IsDivision x y q r → IsDivision x y p s → (q ≡ p) × (r ≡ s)
unique x y q r p s a b =
    let apart : y *ℤ (q -ℤ p) ≡ s -ℤ r = mul-sub y q p ∙ omega (arith, ints, a.whole, b.whole) in
    let near : unsigned_abs (s -ℤ r) < unsigned_abs y = close x r s (unsigned_abs y) a.not_negative a.not_positive b.not_negative b.not_positive a.smaller b.smaller in
    let size : unsigned_abs y * unsigned_abs (q -ℤ p) ≡ unsigned_abs (s -ℤ r) = sym (unsigned_abs-mul y (q -ℤ p)) ∙ ap unsigned_abs apart in
    let none : unsigned_abs (q -ℤ p) ≡ 0 = none_below (unsigned_abs y) (unsigned_abs (q -ℤ p)) (omega arith) in
    let same : q ≡ p = omega (arith, ints, none) in
    (same, omega (arith, ints, a.whole, b.whole, ap (λ z. y *ℤ z) same))

not_negative : (x y : ℤ) → pos 0 ≤ℤ x → pos 0 ≤ℤ int_rem x y
not_negative (pos a) y h = omega (arith, ints)
not_negative (negsuc a) y h = absurd (omega (arith, ints))

not_positive : (x y : ℤ) → x ≤ℤ pos 0 → int_rem x y ≤ℤ pos 0
not_positive (pos a) y h =
    let none : a ≡ 0 = omega (arith, ints) in
    rw none (omega (arith, ints))
not_positive (negsuc a) y h = omega (arith, ints)

-- the quotient and the remainder divide
IsDivision-of : (x y : ℤ) → 0 < unsigned_abs y → IsDivision x y (int_div x y) (int_rem x y)
IsDivision-of x y some = record {
  whole = ap (λ z. z +ℤ int_rem x y) (*ℤ_comm y (int_div x y)) ∙ quot-rem x y;
  smaller = rem_below x y some;
  not_negative = not_negative x y;
  not_positive = not_positive x y;
}

pub IsDivision-alone : (x y q r : ℤ) → IsDivision x y q r → (q ≡ int_div x y) × (r ≡ int_rem x y)
IsDivision-alone x y q r a =
    let some : 0 < unsigned_abs y = omega (arith, a.smaller) in
    unique x y q r (int_div x y) (int_rem x y) a (IsDivision-of x y some)
