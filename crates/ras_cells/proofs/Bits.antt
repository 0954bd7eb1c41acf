-- Two's complement.
use Rattle.std.proofs.Common.{◌≡◌, ℕ, zero, suc, ◌+◌, ◌-◌, ◌*◌, ◌/◌, ◌%◌, ◌^◌, ◌<◌, ℤ, pos, negsuc, ◌-ℤ◌, ◌*ℤ◌, ◌⊎◌, inl, inr, refl, sym, ap, ◌∙◌, add_comm, pow_pos, arith}
use Rattle.std.proofs.lemmas.Int.{ints}
use Rattle.std.proofs.lemmas.Nat.{mod-pow-add, mod_below}
use Rattle.std.proofs.Math.Numerals.{one-add}
use Rattle.std.proofs.Math.Nat.{pow-succ'}
use Rattle.ras_cells.specs.declared.atom.Atom.TheVariants.{Wide}
use Rattle.ras_cells.specs.Atoms.{IsInRange}
use Rattle.ras_cells.specs.Numbers.{bit_of}
use Rattle.ras_cells.specs.Laws.{made_of_bits}

made-pos : (n k : ℕ) → made_of_bits (pos n) k ≡ pos (n % 2 ^ k)
unfolding made_of_bits
made-pos n zero = ap pos (omega arith)
made-pos n (suc k) = rw (made-pos n k) (ap pos (add_comm (n % 2 ^ k) _ ∙ sym (mod-pow-add n 1 k) ∙ ap (λ j. n % 2 ^ j) (one-add k)))

below_two : (n : ℕ) → n < 2 → (n ≡ 0) ⊎ (n ≡ 1)
below_two zero h = inl refl
below_two (suc zero) h = inr refl
below_two (suc (suc n)) h = absurd (omega arith)

parity : (d : ℕ) → (d % 2 ≡ 0) ⊎ (d % 2 ≡ 1)
parity d = below_two (d % 2) (omega arith)

-- one more bit of a number that counts down
flipped : (p d m n q : ℕ) → m < p → n ≡ d % 2 * p + m → q ≡ 2 * p → p - 1 - m + (1 - d % 2) * p ≡ q - 1 - n
flipped p d m n q small is double =
    elim (parity d) [ inl even ↦ rw (is, double, even) (omega arith) | inr odd ↦ rw (is, double, odd) (omega arith) ]

made-negsuc : (n k : ℕ) → made_of_bits (negsuc n) k ≡ pos (2 ^ k - 1 - n % 2 ^ k)
unfolding made_of_bits
made-negsuc n zero = ap pos (omega arith)
made-negsuc n (suc k) =
    rw (made-negsuc n k) (ap pos (flipped (2 ^ k) (n / 2 ^ k) (n % 2 ^ k) (n % 2 ^ suc k) (2 ^ suc k) (mod_below n (2 ^ k) (pow_pos k))
    (sym (ap (λ j. n % 2 ^ j) (one-add k)) ∙ mod-pow-add n 1 k) (pow-succ' 2 k)))

pub made_of_bits-whole : (x : ℤ) → IsInRange Wide x → made_of_bits x 63 -ℤ (bit_of x 63 *ℤ pos (2 ^ 63)) ≡ x
made_of_bits-whole (pos n) h =
    let small : n < 2 ^ 63 = omega (arith, ints, h.1) in
    rw (made-pos n 63) (omega (arith, ints))
made_of_bits-whole (negsuc n) h =
    let small : n < 2 ^ 63 = omega (arith, ints, h.0) in
    rw (made-negsuc n 63) (omega (arith, ints))
