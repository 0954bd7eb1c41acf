-- How the points of a shifted or joined array lead back into its parts.
use Rattle.std.proofs.Common.{◌≡◌, ℕ, zero, suc, ℤ, ◌-ℤ◌, List, [], ◌∷◌, length, map, refl, sym, ◌∙◌, arith}
use Rattle.std.specs.Prelude.{neg_ℤ}
use Rattle.std.specs.List.{zip, AllZip, AllByRecursion}
use Rattle.std.proofs.lemmas.Int.{ints}
use Rattle.std.proofs.lemmas.List.Elements.{length_all_zip}
use Rattle.ras_domain.specs.declared.region.Interval.{Interval}
use Rattle.ras_domain.specs.Boxes.{moved_by, shifted_by}
use Rattle.ras_domain.specs.Region.{IsIn}
use Rattle.spec_expressions.specs.Shape.{Box, interval_from, interval_after, moved_after, placed_after, placed_parts}
use Rattle.spec_expressions.specs.Eval.{moved_between}

-- a point of a shifted box, moved back, is a point of the box
pub IsIn-unshifted : (by : List ℤ) (axes : Box) (p : List ℤ) → IsIn p (shifted_by by axes) → IsIn (moved_by (map neg_ℤ by) p) axes
IsIn-unshifted [] axes p within = within
IsIn-unshifted (d ∷ ds) [] [] within = tt
IsIn-unshifted (d ∷ ds) [] (c ∷ p) within = absurd within
IsIn-unshifted (d ∷ ds) (axis ∷ axes) [] within = absurd within
IsIn-unshifted (d ∷ ds) (axis ∷ axes) (c ∷ p) within =
    (omega (arith, ints, within.0), omega (arith, ints, within.1), IsIn-unshifted ds axes p within.2)

-- a point of the place, moved to the part's own box, lies in that
abbrev pub LeadsTo : Box → Box → Type 0
LeadsTo own place = (p : List ℤ) → IsIn p place → IsIn (moved_between place own p) own

-- each place leads to its part's own box
abbrev pub LeadTo : List Box → List Box → Type 0
LeadTo = AllZip LeadsTo

-- a box, with its intervals moved somewhere
abbrev HasExtentOf : Interval → Interval → Type 0
HasExtentOf x y = y.hi -ℤ y.lo ≡ x.hi -ℤ x.lo

abbrev IsMoved : Box → Box → Type 0
IsMoved = AllZip HasExtentOf

-- a place that has the extents of the part leads to the part's own box
LeadsTo-moved : (own place : Box) → IsMoved own place → LeadsTo own place
LeadsTo-moved [] [] moved [] within = tt
LeadsTo-moved [] [] moved (c ∷ p) within = absurd within
LeadsTo-moved [] (y ∷ place) moved p within = absurd moved
LeadsTo-moved (x ∷ own) [] moved p within = absurd moved
LeadsTo-moved (x ∷ own) (y ∷ place) moved [] within = absurd within
LeadsTo-moved (x ∷ own) (y ∷ place) moved (c ∷ p) within =
    let same : y.hi -ℤ y.lo ≡ x.hi -ℤ x.lo = moved.0 in
    (omega (arith, ints, within.0), omega (arith, ints, within.1, same), LeadsTo-moved own place moved.1 p within.2)

IsMoved-itself : (axes : Box) → IsMoved axes axes
IsMoved-itself [] = tt
IsMoved-itself (axis ∷ axes) = (refl, IsMoved-itself axes)

-- where a part is placed, its intervals keep their extents
begun : (first b : Interval) → HasExtentOf b (interval_from first b)
begun first b = omega (arith, ints)

followed : (before b : Interval) → HasExtentOf b (interval_after before b)
followed before b = omega (arith, ints)

IsMoved-begun : (firsts bs : Box) → length firsts ≡ length bs → IsMoved bs (map (λ x. interval_from x.0 x.1) (zip firsts bs))
IsMoved-begun [] [] same = tt
IsMoved-begun [] (b ∷ bs) same = absurd (omega arith)
IsMoved-begun (first ∷ firsts) [] same = absurd (omega arith)
IsMoved-begun (first ∷ firsts) (b ∷ bs) same = (begun first b, IsMoved-begun firsts bs (omega arith))

IsMoved-moved_after : (n : ℕ) (first before b : Box) → length first ≡ length b → length before ≡ length b → IsMoved b (moved_after n first before b)
IsMoved-moved_after n [] before [] same there = tt
IsMoved-moved_after n [] before (b ∷ bs) same there = absurd (omega arith)
IsMoved-moved_after n (first ∷ firsts) before [] same there = absurd (omega arith)
IsMoved-moved_after n (first ∷ firsts) [] (b ∷ bs) same there = absurd (omega arith)
IsMoved-moved_after zero (first ∷ firsts) (before ∷ befores) (b ∷ bs) same there = (followed before b, IsMoved-begun firsts bs (omega arith))
IsMoved-moved_after (suc n) (first ∷ firsts) (before ∷ befores) (b ∷ bs) same there =
    (begun first b, IsMoved-moved_after n firsts befores bs (omega arith) (omega arith))

pub length-moved_after : (n : ℕ) (first before b : Box) → length first ≡ length b → length before ≡ length b → length (moved_after n first before b) ≡ length b
length-moved_after n first before b same there = sym (length_all_zip HasExtentOf b (moved_after n first before b) (IsMoved-moved_after n first before b same there))

-- the places after the first part
LeadTo-placed_after : (n m : ℕ) (first before : Box) (others : List Box) → length first ≡ m → length before ≡ m → AllByRecursion (λ b. length b ≡ m) others
    → LeadTo others (placed_after n first before others)
LeadTo-placed_after n m first before [] same there all = tt
LeadTo-placed_after n m first before (b ∷ bs) same there all =
    let next : Box = moved_after n first before b in
    let long : length first ≡ length b = same ∙ sym all.0 in
    let after : length before ≡ length b = there ∙ sym all.0 in
    (LeadsTo-moved b next (IsMoved-moved_after n first before b long after), LeadTo-placed_after n m first next bs same (length-moved_after n first before b long after ∙ all.0) all.1)

-- each part's place leads to the part's own box, where the parts have equally many axes
pub LeadTo-placed_parts : (n m : ℕ) (owns : List Box) → AllByRecursion (λ b. length b ≡ m) owns → LeadTo owns (placed_parts n owns)
LeadTo-placed_parts n m [] all = tt
LeadTo-placed_parts n m (first ∷ others) all =
    (LeadsTo-moved first first (IsMoved-itself first), LeadTo-placed_after n m first first others all.0 all.0 all.1)
