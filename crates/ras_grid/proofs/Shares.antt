-- Runs that share places out evenly: run k begins at k times the least number of places, and one more for each longer run.
use Rattle.std.proofs.Common.{◌≡◌, ℕ, ◌+◌, ◌*◌, ◌/◌, ◌%◌, ◌<◌, ◌≤◌, true, false, nat_lt, List, [], ◌∷◌, ◌++◌, length, get_or, take, drop, min, refl, ap, sym, ◌∙◌, arith}
use Rattle.std.specs.Int.{from_bool}
use Rattle.std.proofs.Math.Nat.{add-mul, one-mul, le-div_iff_mul-le}
use Rattle.std.proofs.lemmas.List.{get_or_push, length_push, drop_all, drop-drop, take-append-drop}
use Rattle.std.proofs.lemmas.Bool.{ltb-true, ltb-false}
use Rattle.std.proofs.Math.ListN.{get_or-append}
use Rattle.ras_grid.specs.Runs.{run_length, items_in, AreConsecutive}

-- where run k begins
abbrev pub start_of : ℕ → ℕ → ℕ → ℕ
start_of least longer k = k * least + min k longer

-- run k holds one place more where it is one of the longer ones
one-more : (k longer more : ℕ) → more ≡ from_bool (nat_lt k longer) → more + min k longer ≡ min (k + 1) longer
one-more k longer more is =
    elim (nat_lt k longer) as (λ t. nat_lt k longer ≡ t → more ≡ from_bool t → more + min k longer ≡ min (k + 1) longer) [
      | true ↦ λ yes one. omega (arith, ltb-true k longer yes, one)
      | false ↦ λ no none. omega (arith, ltb-false k longer no, none)
    ] refl is

-- so the next run begins where it ends
start-steps : (least longer k : ℕ) → start_of least longer (k + 1) + min k longer ≡ start_of least longer k + least + min (k + 1) longer
start-steps least longer k = let e : (k + 1) * least ≡ k * least + least = add-mul k 1 least ∙ ap (λ n. k * least + n) (one-mul least) in omega (arith, e)

start-more : (least longer k more : ℕ) → more ≡ from_bool (nat_lt k longer) → start_of least longer (k + 1) ≡ start_of least longer k + least + more
start-more least longer k more is =
    omega (arith, start-steps least longer k, one-more k longer more is)

-- run k
abbrev pub run_of : ℕ → ℕ → ℕ → ℕ × ℕ
run_of least longer k = (start_of least longer k, start_of least longer (k + 1))

run-is : (least longer k from to : ℕ) → from ≡ start_of least longer k → to ≡ start_of least longer (k + 1) → (from, to) ≡ run_of least longer k
run-is least longer k from to first last = rw (first, last)

-- the runs so far
pub record IsShared (len count k from : ℕ) (runs : List (ℕ × ℕ)) : Type 0 where
  pub made : length runs ≡ k
  pub begins : from ≡ start_of (len / count) (len % count) k
  pub row : AreConsecutive 0 runs from
  pub each : (i : ℕ) (d : ℕ × ℕ) → i < length runs → get_or runs i d ≡ run_of (len / count) (len % count) i

-- a row goes on with a run
IsRow-push : (from : ℕ) (runs : List (ℕ × ℕ)) (mid to : ℕ) → AreConsecutive from runs mid → mid < to → AreConsecutive from (runs ++ (mid, to) ∷ []) to
IsRow-push from [] mid to row longer = (sym row, omega (arith, row, longer), refl)
IsRow-push from (run ∷ runs) mid to row longer = (row.0, row.1, IsRow-push run.1 runs mid to row.2 longer)

-- what a list holds at each place, once one more item follows
get_or-more : {A : Type 0} (at : ℕ → A) (xs : List A) (y : A) (i : ℕ) (d : A) → ((k : ℕ) (e : A) → k < length xs → get_or xs k e ≡ at k)
    → y ≡ at (length xs) → i < length (xs ++ y ∷ []) → get_or (xs ++ y ∷ []) i d ≡ at i
get_or-more at xs y i d each last inside =
    elim (nat_lt i (length xs)) as (λ t. nat_lt i (length xs) ≡ t → get_or (xs ++ y ∷ []) i d ≡ at i) [
      | true ↦ λ yes. get_or-append xs (y ∷ []) d i (ltb-true i (length xs) yes) ∙ each i d (ltb-true i (length xs) yes)
      | false ↦ λ no. let here : length xs ≡ i = omega (arith, ltb-false i (length xs) no, inside, length_push xs y) in
          get_or_push xs y d i here ∙ last ∙ ap at here
    ] refl

-- one more run
pub IsShared-more : (len count k from more to : ℕ) (runs all : List (ℕ × ℕ)) → IsShared len count k from runs → k < count → count ≤ len
    → more ≡ from_bool (nat_lt k (len % count)) → to ≡ from + len / count + more → all ≡ runs ++ (from, to) ∷ [] → IsShared len count (k + 1) to all
IsShared-more len count k from more to runs all shared within enough longer ends is =
    let some : 1 ≤ len / count = (le-div_iff_mul-le {k = count} {x = 1} {y = len} (omega (arith, within))).1 (omega (arith, enough, one-mul count)) in
    let next : to ≡ start_of (len / count) (len % count) (k + 1) = omega (arith, ends, shared.begins, start-more (len / count) (len % count) k more longer) in
    let same : k ≡ length runs = omega (arith, shared.made) in
    let first : from ≡ start_of (len / count) (len % count) (length runs) = shared.begins ∙ ap (start_of (len / count) (len % count)) same in
    let last : to ≡ start_of (len / count) (len % count) (length runs + 1) = next ∙ ap (λ n. start_of (len / count) (len % count) (n + 1)) same in
    let here : (from, to) ≡ run_of (len / count) (len % count) (length runs) = run-is (len / count) (len % count) (length runs) from to first last in
    rw is record {
      made = omega (arith, length_push runs (from, to), shared.made);
      begins = next;
      row = IsRow-push 0 runs from to shared.row (omega (arith, some, ends));
      each = λ i d inside. get_or-more (run_of (len / count) (len % count)) runs (from, to) i d shared.each here inside;
    }

-- the items in a row of runs are those from its first place on
pub items_in-row : {A : Type 0} (xs : List A) (runs : List (ℕ × ℕ)) (from : ℕ) → AreConsecutive from runs (length xs) → items_in xs runs ≡ drop from xs
items_in-row xs [] from row = sym (drop_all from xs (omega (arith, row)))
items_in-row xs (run ∷ runs) from row =
    let n : ℕ = run_length run in
    let next : from + n ≡ run.1 = omega (arith, row.0, row.1) in
    let first : take n (drop run.0 xs) ≡ take n (drop from xs) = ap (λ k. take n (drop k xs)) row.0 in
    let rest : items_in xs runs ≡ drop n (drop from xs) = items_in-row xs runs run.1 row.2 ∙ ap (λ k. drop k xs) (sym next) ∙ sym (drop-drop n from xs) in
    rw (first, rest) (take-append-drop n (drop from xs))
