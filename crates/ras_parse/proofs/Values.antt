-- The value of digits, from the first one on.
use Rattle.std.proofs.Common.{ℕ, suc, ◌+◌, ◌-◌, ◌*◌, ◌^◌, ◌<◌, ◌≤◌, [], ◌∷◌, length, drop, get_or, arith}
use Rattle.std.proofs.Math.Seq.{drop-cons}
use Rattle.std.specs.List.{fold}
use Rattle.spec_grammar.specs.Tokens.{Text}

-- the value of digits behind others
abbrev pub value_from : ℕ → Text → ℕ
value_from = fold (λ value digit. 10 * value + (digit - 48))

pub value_from-grows : (value : ℕ) (digits : Text) → value ≤ value_from value digits
value_from-grows value [] = omega arith
value_from-grows value (d ∷ ds) = let h : 10 * value + (d - 48) ≤ value_from (10 * value + (d - 48)) ds = value_from-grows (10 * value + (d - 48)) ds in omega arith

-- what is too much for 64 bits stays too much
pub too_wide : (value : ℕ) (digits : Text) (i : ℕ) → i < length digits → ¬ (10 * value + (get_or digits i 0 - 48) < 2 ^ 64)
    → 2 ^ 63 ≤ value_from value (drop i digits)
too_wide value digits i h wide =
    let grows = value_from-grows (10 * value + (get_or digits i 0 - 48)) (drop (suc i) digits) in
    rw (drop-cons digits i 0) (omega arith)
