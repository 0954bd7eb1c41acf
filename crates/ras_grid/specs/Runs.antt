-- Runs of places: a run is a place and a later one, and holds the places from the first up to the second, without it.
use Rattle.std.specs.Prelude.{◌≡◌, ℕ, ◌+◌, ◌-◌, ◌≤◌, ◌<◌, List, [], ◌∷◌, ◌++◌, AllPairs, take, drop}

-- how many places a run holds
abbrev pub run_length : ℕ × ℕ → ℕ
run_length run = run.1 - run.0

-- the runs follow one another and none is empty: the first begins at one place, each other where the one before it
-- ends, and the last ends at the other place
abbrev pub AreConsecutive : ℕ → List (ℕ × ℕ) → ℕ → Type 0
AreConsecutive from [] to = from ≡ to
AreConsecutive from (run ∷ runs) to = (run.0 ≡ from) × (from < run.1) × AreConsecutive run.1 runs to

-- the runs' numbers of places differ by at most one, and the longer runs come first
abbrev pub IsEven : List (ℕ × ℕ) → Type 0
IsEven runs = AllPairs (λ run later. (run_length later ≤ run_length run) × (run_length run ≤ run_length later + 1)) runs

-- the items of a list in the runs, one run after another
abbrev pub items_in : {A : Type 0} → List A → List (ℕ × ℕ) → List A
items_in xs [] = []
items_in xs (run ∷ runs) = take (run_length run) (drop run.0 xs) ++ items_in xs runs
