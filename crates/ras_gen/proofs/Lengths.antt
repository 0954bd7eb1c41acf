-- How long a text is.
use Rattle.std.proofs.Common.{ℕ, zero, suc, List, ◌++◌, ◌+◌, ◌-◌, ◌*◌, ◌<◌, ◌≤◌, length, arith, lit<, lit≤, length-append}
use Rattle.std.specs.Prelude.{codes, flat_map}
use Rattle.std.specs.List.{range_with_len}
use Rattle.std.proofs.lemmas.Fmt.{length-decimal-le}
use Rattle.ras_gen.specs.Draws.{draw}
use Rattle.ras_gen.specs.Text.{box_text, opening, session_of, generated_text, transaction_of}

-- pieces that are no longer than a bound, side by side
pub length-flat_map-range-le : (f : ℕ → List ℕ) (bound from count : ℕ) → ((k : ℕ) → k < from + count → length (f k) ≤ bound) → length (flat_map f (range_with_len from count)) ≤ bound * count
length-flat_map-range-le f bound from zero short = omega arith
length-flat_map-range-le f bound from (suc count) short =
    let rest = length-flat_map-range-le f bound (from + 1) count (λ k within. short k (omega arith)) in
    let here = short from (omega arith) in
    omega (arith, length-append (f from) (flat_map f (range_with_len (from + 1) count)))

pub length-box_text-le : (row column : ℕ) → row < 15 → column < 15 → length (box_text row column) ≤ 13
unfolding box_text
length-box_text-le row column rows columns =
    let a = length-decimal-le 2 row (lit< tt) (omega arith) (omega arith) in
    let b = length-decimal-le 2 (row + 1) (lit< tt) (omega arith) (omega arith) in
    let c = length-decimal-le 2 column (lit< tt) (omega arith) (omega arith) in
    let d = length-decimal-le 2 (column + 1) (lit< tt) (omega arith) (omega arith) in
    simp (length-append, length-append) (omega arith)

pub length-transaction_of-le : (seed place : ℕ) → length (transaction_of seed place) ≤ 147
length-transaction_of-le seed place =
    let row : draw seed (3 * place + 1) 15 < 15 = omega arith in
    let column : draw seed (3 * place + 2) 15 < 15 = omega arith in
    let value : draw seed (3 * place + 3) 256 < 256 = omega arith in
    let box = length-box_text-le (draw seed (3 * place + 1) 15) (draw seed (3 * place + 2) 15) row column in
    let number = length-decimal-le 3 (draw seed (3 * place + 3) 256) (lit< tt) (omega arith) (omega arith) in
    simp length-append (omega arith)

pub length-session_of-le : (seed size number : ℕ) → number < 9 → length (session_of seed size number) ≤ 12 + 147 * size
length-session_of-le seed size number small =
    let digits = length-decimal-le 1 number (lit< tt) (omega arith) (omega arith) in
    let transactions = length-flat_map-range-le (transaction_of seed) 147 (size * (number - 1)) size (λ k _. length-transaction_of-le seed k) in
    simp length-append (omega arith)

length-text_of-from : (first sessions : List ℕ) (size : ℕ) → length first ≤ 182 → length sessions ≤ (12 + 147 * size) * 8 → length (first ++ sessions ++ codes "#end\n") ≤ 283 + 1176 * size
length-text_of-from first sessions size firsts short = simp length-append (omega arith)

pub length-text_of-le : (seed size : ℕ) → length (generated_text seed size) ≤ 283 + 1176 * size
unfolding opening
length-text_of-le seed size =
    let sessions = length-flat_map-range-le (session_of seed size) (12 + 147 * size) 1 8 (λ k within. length-session_of-le seed size k (omega arith)) in
    length-text_of-from opening (flat_map (session_of seed size) (range_with_len 1 8)) size (lit≤ tt) sessions
