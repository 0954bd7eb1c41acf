-- What a tally comes to.
use Rattle.std.proofs.Common.{◌≡◌, ℕ, ◌+◌, ℤ, pos, ◌+ℤ◌, List, [], ◌∷◌, ◌++◌, map, Option, Some, None, Bool, true, false, cond, refl, sym, ap, ◌∙◌, arith}
use Rattle.std.specs.Prelude.{option_to_list, count_by}
use Rattle.std.specs.Int.{from_bool}
use Rattle.std.specs.List.{fold}
use Rattle.std.proofs.lemmas.Int.{ints}
use Rattle.std.proofs.lemmas.List.{map-append}
use Rattle.std.proofs.lemmas.List.Sums.{sum_by-cons}
use Rattle.ras_cells.specs.Numbers.{is_true}
use Rattle.ras_fold.specs.Summary.{SummaryValue, AddsNumbers, IsClosed, summary_of}
use Rattle.ras_syntax.specs.declared.expr.FoldOp.TheVariants.{Plus}
use Rattle.spec_expressions.specs.Eval.{CellOutcome}
use Rattle.spec_expressions.specs.Fold.{wide_cell}
use Rattle.ras_values.specs.declared.tally.Rule.{Rule}
use Rattle.ras_values.specs.declared.tally.Rule.TheVariants.{Fold, Count}
use Rattle.ras_values.specs.Tallies.{rule_fold, summed_by, counted_by, counted_number, truth_counted}

-- the sum of truth values counts those that are true
one-more : (a : ℕ) (b : Bool) → pos a +ℤ pos (from_bool b) ≡ pos (a + from_bool b)
one-more a true = omega (arith, ints)
one-more a false = omega (arith, ints)

counts-one : (b : Bool) → cond b 1 0 ≡ from_bool b
counts-one true = refl
counts-one false = refl

sum-counts : (a : ℕ) (zs : List ℤ) → fold (λ x y. x +ℤ y) (pos a) (map truth_counted zs) ≡ pos (a + count_by is_true zs)
sum-counts a [] = ap pos (omega arith)
sum-counts a (z ∷ zs) =
    ap (λ s. fold (λ x y. x +ℤ y) s (map truth_counted zs)) (one-more a (is_true z)) ∙ sum-counts (a + from_bool (is_true z)) zs
    ∙ ap pos (omega (arith, sum_by-cons (λ y. cond (is_true y) 1 0) z zs, counts-one (is_true z)))

pub closed_by : (rule : Rule) (summary : SummaryValue) (result : CellOutcome) (zs : List ℤ) → IsClosed summary result → summary ≡ summary_of (summed_by rule) (counted_by rule zs) []
    → result ≡ rule_fold rule zs
closed_by (Fold op) summary result zs h e = h op zs [] e
closed_by Count summary result zs h e = h Plus (map truth_counted zs) [] e ∙ ap wide_cell (sum-counts 0 zs ∙ ap pos (omega arith))

pub added_by : (rule : Rule) (old new : SummaryValue) (number : Option ℤ) (zs : List ℤ) → AddsNumbers old new (option_to_list (counted_number rule number))
    → old ≡ summary_of (summed_by rule) (counted_by rule zs) [] → new ≡ summary_of (summed_by rule) (counted_by rule (zs ++ option_to_list number)) []
added_by (Fold op) old new number zs h e = h op zs [] e
added_by Count old new None zs h e = h Plus (map truth_counted zs) [] e ∙ ap (λ ys. summary_of Plus ys []) (sym (map-append truth_counted zs []))
added_by Count old new (Some z) zs h e = h Plus (map truth_counted zs) [] e ∙ ap (λ ys. summary_of Plus ys []) (sym (map-append truth_counted zs (z ∷ [])))
