-- The transactions that are written one after another.
use Rattle.std.proofs.Common.{◌≡◌, ℕ, zero, suc, List, ◌++◌, ◌+◌, ◌*◌, refl, sym, ◌∙◌, ap, arith, add-zero, add-one, append-nil, append_assoc}
use Rattle.std.specs.Prelude.{codes, decimal, flat_map, ◌-◌}
use Rattle.std.specs.List.{range_with_len}
use Rattle.ras_gen.specs.Draws.{state_after, draw, number_drawn}
use Rattle.ras_gen.specs.Text.{session_of, transaction_of, transaction_text}
use Rattle.ras_gen.proofs.States.{state_after-add}

-- one more number
pub flat_map-range-more : (f : ℕ → List ℕ) (from count : ℕ) → flat_map f (range_with_len from (suc count)) ≡ flat_map f (range_with_len from count) ++ f (from + count)
flat_map-range-more f from zero = rw (add-zero from) (append-nil (f from))
flat_map-range-more f from (suc count) =
    let later = flat_map-range-more f (from + 1) count in
    let place : (from + 1) + count ≡ from + suc count = omega arith in
    ap (λ text. f from ++ text) (rw place at later) ∙ sym (append_assoc (f from) (flat_map f (range_with_len (from + 1) count)) (f (from + suc count)))

-- as many numbers, from another one on
pub flat_map-range-moved : (f g : ℕ → List ℕ) (a b count : ℕ) → ((k : ℕ) → f (a + k) ≡ g (b + k)) → flat_map f (range_with_len a count) ≡ flat_map g (range_with_len b count)
flat_map-range-moved f g a b zero same = refl
flat_map-range-moved f g a b (suc count) same =
    let here = same 0 in
    let later : (k : ℕ) → f ((a + 1) + k) ≡ g ((b + 1) + k) = λ k.
    let left : (a + 1) + k ≡ a + (k + 1) = omega arith in
    let right : (b + 1) + k ≡ b + (k + 1) = omega arith in
    rw (left, right) (same (k + 1)) in
    let rest = flat_map-range-moved f g (a + 1) (b + 1) count later in
    let first : f a ≡ g b = rw (add-zero a, add-zero b) at here in
    ap (λ text. text ++ flat_map f (range_with_len (a + 1) count)) first ∙ ap (λ text. g b ++ text) rest

-- a draw from a later state on
pub draw-later : (seed before place bound at_place : ℕ) → before + place ≡ at_place → draw (state_after before seed) place bound ≡ draw seed at_place bound
draw-later seed before place bound at_place same = ap (λ state. number_drawn state bound) (state_after-add before place seed ∙ ap (λ draws. state_after draws seed) same)

-- a transaction, by its three numbers
pub transaction_of-by : (row column value row' column' value' : ℕ) → row ≡ row' → column ≡ column' → value ≡ value' → transaction_text row column value ≡ transaction_text row' column' value'
transaction_of-by row column value row' column' value' rows columns values =
    ap (λ r. transaction_text r column value) rows ∙ ap (λ k. transaction_text row' k value) columns ∙ ap (λ v. transaction_text row' column' v) values

-- the transactions from a place on are the first ones from the state there
pub transaction_of-later : (seed before place : ℕ) → transaction_of (state_after (3 * before) seed) place ≡ transaction_of seed (before + place)
transaction_of-later seed before place =
    transaction_of-by _ _ _ _ _ _
    (draw-later seed (3 * before) (3 * place + 1) 15 (3 * (before + place) + 1) (omega arith))
    (draw-later seed (3 * before) (3 * place + 2) 15 (3 * (before + place) + 2) (omega arith))
    (draw-later seed (3 * before) (3 * place + 3) 256 (3 * (before + place) + 3) (omega arith))

-- the transaction that the next three draws give
pub transaction_of-next : (seed count state row column value : ℕ) → state ≡ state_after (3 * count) seed
    → row ≡ draw state 1 15 → column ≡ draw state 2 15 → value ≡ draw state 3 256 → transaction_text row column value ≡ transaction_of seed count
transaction_of-next seed count state row column value at_state row_is column_is value_is =
    let same : count + 0 ≡ count = add-zero count in
    transaction_of-by row column value _ _ _ row_is column_is value_is
    ∙ ap (λ from. transaction_of from 0) at_state ∙ transaction_of-later seed count 0 ∙ ap (transaction_of seed) same

-- the state after one more transaction
pub state-more : (seed count state after : ℕ) → state ≡ state_after (3 * count) seed → after ≡ state_after 3 state → after ≡ state_after (3 * (count + 1)) seed
state-more seed count state after at_state next =
    let place : 3 * count + 3 ≡ 3 * (count + 1) = omega arith in
    next ∙ ap (state_after 3) at_state ∙ state_after-add (3 * count) 3 seed ∙ ap (λ draws. state_after draws seed) place

-- the text after one more piece
pub flat_map-range-appended : (f : ℕ → List ℕ) (from count : ℕ) (start before after piece : List ℕ) → before ≡ start ++ flat_map f (range_with_len from count)
    → after ≡ before ++ piece → piece ≡ f (from + count) → after ≡ start ++ flat_map f (range_with_len from (count + 1))
flat_map-range-appended f from count start before after piece so_far next piece_is =
    rw (add-one count)
    (next ∙ ap (λ text. text ++ piece) so_far ∙ append_assoc start (flat_map f (range_with_len from count)) piece
    ∙ ap (λ last. start ++ (flat_map f (range_with_len from count) ++ last)) piece_is
    ∙ ap (λ text. start ++ text) (sym (flat_map-range-more f from count)))

-- a session is what the draws from the state at which it begins give
pub session_of-here : (seed size sessions number state : ℕ) → number ≡ 1 + sessions → state ≡ state_after (3 * (size * sessions)) seed
    → codes "#session s" ++ decimal number ++ codes "\n" ++ flat_map (transaction_of state) (range_with_len 0 size) ≡ session_of seed size (1 + sessions)
session_of-here seed size sessions number state number_is at_state =
    let before : sessions ≡ (1 + sessions) - 1 = omega arith in
    let transactions = flat_map-range-moved (transaction_of state) (transaction_of seed) 0 (size * sessions) size
    (λ k. let same : 0 + k ≡ k = omega arith in
    ap (transaction_of state) same ∙ ap (λ from. transaction_of from k) at_state ∙ transaction_of-later seed (size * sessions) k) in
    ap (λ text. codes "#session s" ++ decimal number ++ codes "\n" ++ text) transactions
    ∙ ap (λ n. codes "#session s" ++ decimal n ++ codes "\n" ++ flat_map (transaction_of seed) (range_with_len (size * sessions) size)) number_is
    ∙ ap (λ k. codes "#session s" ++ decimal (1 + sessions) ++ codes "\n" ++ flat_map (transaction_of seed) (range_with_len (size * k) size)) before

-- the state after one more session
pub state-later : (seed size sessions state after : ℕ) → state ≡ state_after (3 * (size * sessions)) seed → after ≡ state_after (3 * size) state
    → after ≡ state_after (3 * (size * (sessions + 1))) seed
state-later seed size sessions state after at_state next =
    let place : 3 * (size * sessions) + 3 * size ≡ 3 * (size * (sessions + 1)) = grind arith in
    next ∙ ap (state_after (3 * size)) at_state ∙ state_after-add (3 * (size * sessions)) (3 * size) seed ∙ ap (λ draws. state_after draws seed) place
