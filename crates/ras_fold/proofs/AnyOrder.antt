-- The fold of a list of outcomes, from what was added of it in any order.
use Rattle.std.proofs.Common.{◌≡◌, ℕ, zero, suc, ◌<◌, ◌≤◌, ℤ, pos, ◌+ℤ◌, ◌*ℤ◌, Bool, true, false, cond, ◌&&◌, ◌||◌, ◌⊎◌, inl}
use Rattle.std.proofs.Common.{inr, ⊎_elim, List, [], ◌∷◌, length, fold, Option, Some, None, Result, Ok, Err, refl, sym, ap, ◌∙◌, arith}
use Rattle.std.specs.Prelude.{All, Contains, IsPermutation, slice_index_or, count_by}
use Rattle.std.specs.Int.{from_bool, int_min, int_max}
use Rattle.std.specs.List.{list_all, list_any}
use Rattle.std.proofs.lemmas.Int.{ints, clamps}
use Rattle.std.proofs.lemmas.List.Elements.{All-head, All-tail, All-cons, All-nil}
use Rattle.std.proofs.lemmas.List.Sorted.{All-permutation, Contains-permutation, length_permutation}
use Rattle.std.proofs.lemmas.List.Sums.{sum_by-cons}
use Rattle.ras_cells.specs.declared.cell.Cell.{Cell}
use Rattle.ras_cells.specs.declared.cell.Cell.TheVariants.{Null}
use Rattle.ras_cells.specs.declared.cell.CellFault.{CellFault}
use Rattle.ras_cells.specs.Cells.{single}
use Rattle.ras_cells.specs.Numbers.{is_true}
use Rattle.ras_cells.specs.Outcomes.{◌>>=◌}
use Rattle.ras_syntax.specs.declared.expr.FoldOp.{FoldOp}
use Rattle.ras_syntax.specs.declared.expr.FoldOp.TheVariants.{Plus, Times, Min, Max, And, Or}
use Rattle.spec_expressions.specs.Fold.{folded_of, fold_of, numbers_in, number_before, wide_cell}
use Rattle.ras_fold.specs.Kept.{number_kept, least_of_both, greatest_of_both}
use Rattle.ras_fold.specs.Outcomes.{numbers_among, faults_among}
use Rattle.ras_fold.specs.Sums.{sum_of_all}
use Rattle.ras_fold.specs.Summary.{Placed, closed_of, earlier_of, least_fault, fault_or_fold}
use Rattle.ras_fold.proofs.Faults.{first_of, second_of, earlier_of-assoc}
use Rattle.ras_fold.proofs.Joining.{sum_from, times_exchange}
use Rattle.ras_fold.proofs.Orders.{fold-IsPermutation}

-- ---- numbers

least_exchange : (s : Option ℤ) (x y : ℤ) → least_of_both (least_of_both s (Some x)) (Some y) ≡ least_of_both (least_of_both s (Some y)) (Some x)
least_exchange None x y = ap Some (omega (arith, ints, clamps))
least_exchange (Some a) x y = ap Some (omega (arith, ints, clamps))

greatest_exchange : (s : Option ℤ) (x y : ℤ) → greatest_of_both (greatest_of_both s (Some x)) (Some y) ≡ greatest_of_both (greatest_of_both s (Some y)) (Some x)
greatest_exchange None x y = ap Some (omega (arith, ints, clamps))
greatest_exchange (Some a) x y = ap Some (omega (arith, ints, clamps))

least_from : (a : ℤ) (zs : List ℤ) → fold (λ s z. least_of_both s (Some z)) (Some a) zs ≡ Some (fold int_min a zs)
least_from a [] = refl
least_from a (z ∷ zs) = least_from (int_min a z) zs

greatest_from : (a : ℤ) (zs : List ℤ) → fold (λ s z. greatest_of_both s (Some z)) (Some a) zs ≡ Some (fold int_max a zs)
greatest_from a [] = refl
greatest_from a (z ∷ zs) = greatest_from (int_max a z) zs

least-fold : (zs : List ℤ) → fold (λ s z. least_of_both s (Some z)) None zs ≡ number_kept Min zs
least-fold [] = refl
least-fold (z ∷ zs) = least_from z zs

greatest-fold : (zs : List ℤ) → fold (λ s z. greatest_of_both s (Some z)) None zs ≡ number_kept Max zs
greatest-fold [] = refl
greatest-fold (z ∷ zs) = greatest_from z zs

and_exchange : (s x y : Bool) → ((s && x) && y) ≡ ((s && y) && x)
and_exchange true true true = refl
and_exchange true true false = refl
and_exchange true false true = refl
and_exchange true false false = refl
and_exchange false x y = refl

or_exchange : (s x y : Bool) → ((s || x) || y) ≡ ((s || y) || x)
or_exchange false true true = refl
or_exchange false true false = refl
or_exchange false false true = refl
or_exchange false false false = refl
or_exchange true x y = refl

all_from : (s : Bool) (zs : List ℤ) → fold (λ b z. b && is_true z) s zs ≡ (s && list_all is_true zs)
all_from true [] = refl
all_from false [] = refl
all_from true (z ∷ zs) = all_from (is_true z) zs
all_from false (z ∷ zs) = all_from false zs

any_from : (s : Bool) (zs : List ℤ) → fold (λ b z. b || is_true z) s zs ≡ (s || list_any is_true zs)
any_from true [] = refl
any_from false [] = refl
any_from true (z ∷ zs) = any_from true zs
any_from false (z ∷ zs) = any_from (is_true z) zs

-- the cell of the least or the greatest number, if there is one
cell_of : Option ℤ → Result Cell CellFault
cell_of None = Ok Null
cell_of (Some z) = Ok (single z)

least_cell : (zs : List ℤ) → folded_of Min zs ≡ cell_of (number_kept Min zs)
unfolding cell_of
least_cell [] = refl
least_cell (z ∷ zs) = refl

greatest_cell : (zs : List ℤ) → folded_of Max zs ≡ cell_of (number_kept Max zs)
unfolding cell_of
greatest_cell [] = refl
greatest_cell (z ∷ zs) = refl

pub folded_of-IsPermutation : (op : FoldOp) (zs ys : List ℤ) → IsPermutation zs ys → folded_of op ys ≡ folded_of op zs
folded_of-IsPermutation Plus zs ys moved =
    ap wide_cell (fold-IsPermutation (λ x y. x +ℤ y) (λ s x y. omega (arith, ints)) (pos 0) zs ys moved)
folded_of-IsPermutation Times zs ys moved =
    ap wide_cell (fold-IsPermutation (λ x y. x *ℤ y) times_exchange (pos 1) zs ys moved)
folded_of-IsPermutation Min zs ys moved =
    least_cell ys
    ∙ ap cell_of (sym (least-fold ys) ∙ fold-IsPermutation (λ s z. least_of_both s (Some z)) least_exchange None zs ys moved ∙ least-fold zs)
    ∙ sym (least_cell zs)
folded_of-IsPermutation Max zs ys moved =
    greatest_cell ys
    ∙ ap cell_of (sym (greatest-fold ys) ∙ fold-IsPermutation (λ s z. greatest_of_both s (Some z)) greatest_exchange None zs ys moved ∙ greatest-fold zs)
    ∙ sym (greatest_cell zs)
folded_of-IsPermutation And zs ys moved =
    let same : list_all is_true ys ≡ list_all is_true zs =
    sym (all_from true ys) ∙ fold-IsPermutation (λ b z. b && is_true z) (λ s x y. and_exchange s (is_true x) (is_true y)) true zs ys moved ∙ all_from true zs in
    ap (λ b. Ok (single (pos (from_bool b)))) same
folded_of-IsPermutation Or zs ys moved =
    let same : list_any is_true ys ≡ list_any is_true zs =
    sym (any_from false ys) ∙ fold-IsPermutation (λ b z. b || is_true z) (λ s x y. or_exchange s (is_true x) (is_true y)) false zs ys moved ∙ any_from false zs in
    ap (λ b. Ok (single (pos (from_bool b)))) same

-- ---- faults

-- no other fault has a place as low
abbrev IsAbove : Placed → Placed → Type 0
IsAbove f g = (f.0 < g.0) ⊎ (g ≡ f)

later : (g f : Placed) (gs : List Placed) (k : ℕ) → f.0 < g.0 → k < length (g ∷ gs) → slice_index_or (g ∷ gs) k f ≡ f → Contains gs f
later g f gs zero above below e = absurd (omega (arith, above, ap (λ p. p.0) e))
later g f gs (suc k) above below e = (k, omega arith, e)

first_stays : (f : Placed) (gs : List Placed) → All (λ g. f.0 ≤ g.0) gs → earlier_of (Some f) (least_fault gs) ≡ Some f
first_stays f [] h = refl
first_stays f (g ∷ gs) h =
    sym (earlier_of-assoc (Some f) (Some g) (least_fault gs))
    ∙ ap (λ s. earlier_of s (least_fault gs)) (first_of f g (All-head (λ g. f.0 ≤ g.0) g gs h))
    ∙ first_stays f gs (All-tail (λ g. f.0 ≤ g.0) g gs h)

at_least : (f : Placed) (gs : List Placed) → All (IsAbove f) gs → All (λ g. f.0 ≤ g.0) gs
at_least f [] h = All-nil (λ g. f.0 ≤ g.0)
at_least f (g ∷ gs) h =
    All-cons (λ g. f.0 ≤ g.0) g gs
    (⊎_elim (λ above. omega arith) (λ e. omega (arith, ap (λ p. p.0) e)) (All-head (IsAbove f) g gs h))
    (at_least f gs (All-tail (IsAbove f) g gs h))

least_is : (f : Placed) (fs : List Placed) → All (IsAbove f) fs → Contains fs f → least_fault fs ≡ Some f
least_is f [] h c = absurd (omega (arith, c.1))
least_is f (g ∷ gs) h c =
    let rest = All-tail (IsAbove f) g gs h in
    ⊎_elim
    (λ above. ap (earlier_of (Some g)) (least_is f gs rest (later g f gs c.0 above c.1 c.2)) ∙ second_of g f above)
    (λ e. rw e (first_stays f gs (at_least f gs rest)))
    (All-head (IsAbove f) g gs h)

-- the first is the least
abbrev IsHeaded : List Placed → Type 0
IsHeaded [] = Unit {0}
IsHeaded (f ∷ gs) = All (IsAbove f) gs

above : (f : Placed) (place : ℕ) (outcomes : List (Result Cell CellFault)) → f.0 < place → All (IsAbove f) (faults_among place outcomes)
above f place [] h = All-nil (IsAbove f)
above f place (Ok cell ∷ outcomes) h = let more : f.0 < suc place = omega arith in above f (suc place) outcomes more
above f place (Err fault ∷ outcomes) h =
    let more : f.0 < suc place = omega arith in
    All-cons (IsAbove f) (place, fault) _ (inl h) (above f (suc place) outcomes more)

headed : (place : ℕ) (outcomes : List (Result Cell CellFault)) → IsHeaded (faults_among place outcomes)
headed place [] = tt
headed place (Ok cell ∷ outcomes) = headed (suc place) outcomes
headed place (Err fault ∷ outcomes) =
    let more : place < suc place = omega arith in
    above (place, fault) (suc place) outcomes more

-- ---- both

-- the first fault, or the numbers
abbrev fault_or_numbers : List Placed → List ℤ → Result (List ℤ) CellFault
fault_or_numbers [] zs = Ok zs
fault_or_numbers (f ∷ fs) zs = Err f.1

with_number : (fs : List Placed) (zs : List ℤ) (cell : Cell)
    → (fault_or_numbers fs zs >>= λ zs. Ok (number_before cell zs)) ≡ fault_or_numbers fs (number_before cell zs)
with_number [] zs cell = refl
with_number (f ∷ fs) zs cell = refl

numbers_in-is : (place : ℕ) (outcomes : List (Result Cell CellFault)) → numbers_in outcomes ≡ fault_or_numbers (faults_among place outcomes) (numbers_among outcomes)
numbers_in-is place [] = refl
numbers_in-is place (Ok cell ∷ outcomes) =
    ap (λ r. r >>= λ zs. Ok (number_before cell zs)) (numbers_in-is (suc place) outcomes)
    ∙ with_number (faults_among (suc place) outcomes) (numbers_among outcomes) cell
numbers_in-is place (Err fault ∷ outcomes) = refl

none_left : (faults : List Placed) → IsPermutation [] faults → faults ≡ []
none_left [] moved = refl
none_left (f ∷ fs) moved = absurd (omega (arith, length_permutation [] (f ∷ fs) moved))

closed : (op : FoldOp) (fs faults : List Placed) (ns zs : List ℤ) → IsHeaded fs → IsPermutation ns zs → IsPermutation fs faults
    → closed_of op zs faults ≡ (fault_or_numbers fs ns >>= λ zs. folded_of op zs)
closed op [] faults ns zs head numbers moved =
    ap (λ fs. closed_of op zs fs) (none_left faults moved) ∙ folded_of-IsPermutation op ns zs numbers
closed op (f ∷ fs) faults ns zs head numbers moved =
    let all = All-cons (IsAbove f) f fs (inr refl) head in
    let here : Contains (f ∷ fs) f = (0, omega arith, refl) in
    let least = least_is f faults (All-permutation (IsAbove f) (f ∷ fs) faults moved all) (Contains-permutation (f ∷ fs) faults f moved here) in
    ap (λ g. fault_or_fold g op zs) least

pub closed_of-any_order : (op : FoldOp) (outcomes : List (Result Cell CellFault)) (place : ℕ) (zs : List ℤ) (faults : List Placed)
    → IsPermutation (numbers_among outcomes) zs → IsPermutation (faults_among place outcomes) faults
    → closed_of op zs faults ≡ fold_of op outcomes
closed_of-any_order op outcomes place zs faults numbers moved =
    closed op (faults_among place outcomes) faults (numbers_among outcomes) zs (headed place outcomes) numbers moved
    ∙ ap (λ r. r >>= λ zs. folded_of op zs) (sym (numbers_in-is place outcomes))

-- ---- counts

abbrev IsTruth : ℤ → Type 0
IsTruth z = (z ≡ pos 0) ⊎ (z ≡ pos 1)

one_more : (z : ℤ) → IsTruth z → pos (cond (is_true z) 1 0) ≡ z
one_more z h = ⊎_elim (λ e. rw e refl) (λ e. rw e refl) h

pub count-sum : (zs : List ℤ) → All IsTruth zs → pos (count_by is_true zs) ≡ sum_of_all zs
count-sum [] h = refl
count-sum (z ∷ zs) h =
    let first = one_more z (All-head IsTruth z zs h) in
    omega (
      arith,
      ints,
      first,
      sum_by-cons (λ y. cond (is_true y) 1 0) z zs,
      count-sum zs (All-tail IsTruth z zs h),
      sum_from (pos 0 +ℤ z) zs,
    )
