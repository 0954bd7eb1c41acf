-- A fold over the points of a box, a point after another.
use Rattle.std.proofs.Common.{◌≡◌, ℕ, zero, suc, ◌+◌, ◌<◌, ◌≤◌, ℤ, List, [], ◌∷◌, ◌++◌, length, map, drop, Some, Result, Ok, Err, refl, sym, ap, ◌∙◌, subst, arith}
use Rattle.std.specs.Prelude.{IfSome, option_to_list}
use Rattle.std.specs.List.{slice_get}
use Rattle.std.proofs.lemmas.List.{append-nil, append_assoc, drop_all}
use Rattle.std.proofs.lemmas.Option.{slice_get_within, get_or_from_slice_get}
use Rattle.std.proofs.Math.Seq.{drop-cons}
use Rattle.ras_cells.specs.declared.cell.Cell.{Cell}
use Rattle.ras_cells.specs.declared.cell.Cell.TheVariants.{Null, Value}
use Rattle.ras_cells.specs.declared.cell.CellFault.{CellFault}
use Rattle.ras_cells.specs.Outcomes.{◌>>=◌}
use Rattle.ras_domain.specs.Region.{points_of}
use Rattle.spec_expressions.specs.Eval.{CellOutcome, position_in}
use Rattle.ras_syntax.specs.declared.expr.FoldOp.{FoldOp}
use Rattle.ras_syntax.specs.declared.expr.CellsFold.{CellsFold}
use Rattle.ras_syntax.specs.declared.expr.CellsFold.TheVariants.{Add, Count, AnyTrue, AllTrue, Min as MinCells, Max as MaxCells}
use Rattle.spec_expressions.specs.Fold.{numbers_in, number_before, fold_of, folded_of, cells_fold_of, cells_folded_of}
use Rattle.spec_expressions.specs.Shape.{Box}
use Rattle.ras_values.specs.declared.error.CellError.{CellError}
use Rattle.ras_values.specs.declared.error.CellError.TheVariants.{Fault, Memory}
use Rattle.ras_values.specs.declared.tally.Tally.{Tally}
use Rattle.ras_values.specs.Given.{GivesCell, StopsWith}
use Rattle.ras_values.specs.Tallies.{HasAdded, rule_fold, rule_of_cells}
use Rattle.ras_values.specs.declared.tally.Rule.TheVariants.{Fold}
use Rattle.ras_values.specs.Folding.{IsFolding}

-- the numbers of outcomes
abbrev Numbers : Type 0
Numbers = Result (List ℤ) CellFault

nothing-before : (r : Numbers) → r ≡ (r >>= λ zs. Ok ([] ++ zs))
nothing-before (Ok zs) = refl
nothing-before (Err f) = refl

-- the number of one more cell
one-before : (c : Cell) (r : Numbers) (numbers : List ℤ)
    → ((r >>= λ zs. Ok (number_before c zs)) >>= λ zs. Ok (numbers ++ zs)) ≡ (r >>= λ zs. Ok ((numbers ++ option_to_list (position_in c)) ++ zs))
one-before Null (Ok zs) numbers = ap (λ ys. Ok (ys ++ zs)) (sym (append-nil numbers))
one-before (Value v) (Ok zs) numbers = ap Ok (sym (append_assoc numbers _ zs))
one-before Null (Err f) numbers = refl
one-before (Value v) (Err f) numbers = refl

-- the points from a place on
from-place : (ps : List (List ℤ)) (place : ℕ) (q : List ℤ) → slice_get ps place ≡ Some q → drop place ps ≡ q ∷ drop (place + 1) ps
from-place ps place q at =
    let next : suc place ≡ place + 1 = omega arith in
    drop-cons ps place q (slice_get_within ps place q at) ∙ ap (λ x. x ∷ drop (suc place) ps) (get_or_from_slice_get ps place q q at) ∙ ap (λ n. q ∷ drop n ps) next

rule-folds : (f : CellsFold) (zs : List ℤ) → rule_fold (rule_of_cells f) zs ≡ cells_folded_of f zs
rule-folds Add zs = refl
rule-folds Count zs = refl
rule-folds AnyTrue zs = refl
rule-folds AllTrue zs = refl
rule-folds MinCells zs = refl
rule-folds MaxCells zs = refl

module _ (cells : List ℤ → CellOutcome) (axes : Box) where
  pub folding_first : (tally : Tally) → HasAdded tally [] → tally.summary.count ≡ 0 → IsFolding cells axes 0 tally
  folding_first tally added none =
      record { numbers = []; rest = nothing-before (numbers_in (map cells (points_of axes))); added = added; few = omega (arith, none) }

  pub folding_more : (place : ℕ) (q : List ℤ) (old new : Tally) (c : Cell) → IsFolding cells axes place old → slice_get (points_of axes) place ≡ Some q → cells q ≡ Ok c
      → ((zs : List ℤ) → HasAdded old zs → HasAdded new (zs ++ option_to_list (position_in c))) → new.summary.count ≤ old.summary.count + 1 → IsFolding cells axes (place + 1) new
  folding_more place q old new c h at is adds count =
      let rest : List CellOutcome = map cells (drop (place + 1) (points_of axes)) in
      let first : numbers_in (map cells (drop place (points_of axes))) ≡ (numbers_in rest >>= λ zs. Ok (number_before c zs)) =
      ap (λ ps. numbers_in (map cells ps)) (from-place (points_of axes) place q at) ∙ ap (λ (o : CellOutcome). numbers_in (o ∷ rest)) is in
      record {
        numbers = h.numbers ++ option_to_list (position_in c);
        rest = h.rest ∙ ap (λ (r : Numbers). r >>= λ zs. Ok (h.numbers ++ zs)) first ∙ one-before c (numbers_in rest) h.numbers;
        added = adds h.numbers h.added;
        few = omega (arith, h.few, count);
      }

  pub folding_fault : (place : ℕ) (q : List ℤ) (tally : Tally) (f : CellFault) → IsFolding cells axes place tally → slice_get (points_of axes) place ≡ Some q → cells q ≡ Err f
      → numbers_in (map cells (points_of axes)) ≡ Err f
  folding_fault place q tally f h at is =
      h.rest ∙ ap (λ ps. numbers_in (map cells ps) >>= λ zs. Ok (h.numbers ++ zs)) (from-place (points_of axes) place q at)
      ∙ ap (λ (o : CellOutcome). numbers_in (o ∷ map cells (drop (place + 1) (points_of axes))) >>= λ zs. Ok (h.numbers ++ zs)) is

  folding-stops : (step : List ℤ → CellOutcome) (place : ℕ) (q : List ℤ) (tally : Tally) → IsFolding cells axes place tally → slice_get (points_of axes) place ≡ Some q → (o : CellOutcome)
      → cells q ≡ o → (e : CellError) → StopsWith (cells q) e → StopsWith (numbers_in (map cells (points_of axes)) >>= step) e
  folding-stops step place q tally h at o is Memory stops = tt
  folding-stops step place q tally h at o is (Fault f) stops = ap (λ (r : Numbers). r >>= step) (folding_fault place q tally f h at stops)

  -- an error of a point is one of the whole fold
  pub folding_stop : (step : List ℤ → CellOutcome) (place : ℕ) (q : List ℤ) (tally : Tally) (e : CellError) → IsFolding cells axes place tally → slice_get (points_of axes) place ≡ Some q
      → StopsWith (cells q) e → StopsWith (numbers_in (map cells (points_of axes)) >>= step) e
  folding_stop step place q tally e h at stops = folding-stops step place q tally h at (cells q) refl e stops

  pub folding_end : (place : ℕ) (tally : Tally) → IsFolding cells axes place tally → length (points_of axes) ≤ place
      → (numbers : List ℤ) × HasAdded tally numbers × (numbers_in (map cells (points_of axes)) ≡ Ok numbers)
  folding_end place tally h past =
      (h.numbers, h.added, h.rest ∙ ap (λ ps. numbers_in (map cells ps) >>= λ zs. Ok (h.numbers ++ zs)) (drop_all place (points_of axes) past) ∙ ap Ok (append-nil h.numbers))

  pub fold_ends : (op : FoldOp) (place : ℕ) (tally : Tally) (closed : CellOutcome) (told : Result Cell CellError) → IsFolding cells axes place tally → length (points_of axes) ≤ place
      → tally.rule ≡ Fold op → ((zs : List ℤ) → HasAdded tally zs → closed ≡ rule_fold tally.rule zs) → GivesCell closed told → GivesCell (fold_of op (map cells (points_of axes))) told
  fold_ends op place tally closed told h past rule closes gives =
      let over = folding_end place tally h past in
      let is : closed ≡ fold_of op (map cells (points_of axes)) =
      closes over.0 over.1 ∙ ap (λ r. rule_fold r over.0) rule ∙ sym (ap (λ (r : Numbers). r >>= λ zs. folded_of op zs) over.2) in
      subst (λ r. GivesCell r told) is gives

  pub cells_fold_ends : (f : CellsFold) (place : ℕ) (tally : Tally) (closed : CellOutcome) (told : Result Cell CellError) → IsFolding cells axes place tally → length (points_of axes) ≤ place
      → tally.rule ≡ rule_of_cells f → ((zs : List ℤ) → HasAdded tally zs → closed ≡ rule_fold tally.rule zs) → GivesCell closed told
      → GivesCell (cells_fold_of f (map cells (points_of axes))) told
  cells_fold_ends f place tally closed told h past rule closes gives =
      let over = folding_end place tally h past in
      let is : closed ≡ cells_fold_of f (map cells (points_of axes)) =
      closes over.0 over.1 ∙ ap (λ r. rule_fold r over.0) rule ∙ rule-folds f over.0 ∙ sym (ap (λ (r : Numbers). r >>= λ zs. cells_folded_of f zs) over.2) in
      subst (λ r. GivesCell r told) is gives

-- ---- places

-- the point after another one
pub at_next : (ps : List (List ℤ)) (k : ℕ) (q : List ℤ) → k < length ps → IfSome (slice_get ps k) (λ next. next ≡ q) → slice_get ps k ≡ Some q
at_next [] k q within h = absurd (omega (arith, within))
at_next (p ∷ ps) zero q within h = ap Some h
at_next (p ∷ ps) (suc k) q within h = at_next ps k q (omega (arith, within)) h
