-- Points of meetings and of boxes that are moved.
use Rattle.std.proofs.Common.{◌≡◌, ℕ, ℤ, neg_ℤ, ◌+ℤ◌, ◌-ℤ◌, ◌↔◌, List, [], ◌∷◌, map, length, refl, sym, ap, subst, ◌∙◌, arith}
use Rattle.std.specs.List.{AllByRecursion, zip}
use Rattle.ras_domain.specs.declared.region.Interval.{Interval}
use Rattle.ras_domain.specs.Region.{IsIn}
use Rattle.ras_domain.specs.Boxes.{Covers, meet_of, meet_of_axis, moved_by, shifted_by}
use Rattle.ras_domain.proofs.Points.{length-from_IsIn}
use Rattle.ras_domain.proofs.PointSets.{IsMeeting-meet_of, IsShifted-shifted_by, point_before_shift}
use Rattle.spec_expressions.specs.Eval.{moved_between}
use Rattle.spec_expressions.specs.Reach.{moved_back}
use Rattle.spec_expressions.specs.Shape.{Box}
use Rattle.law_shapes.proofs.Moves.{IsIn-unshifted, LeadsTo}

-- ---- meetings

same_axes : (p : List ℤ) (a b : Box) → IsIn p a → IsIn p b → length a ≡ length b
same_axes p a b first second = sym (length-from_IsIn p a first) ∙ length-from_IsIn p b second

-- a point of two boxes is in their meeting
pub IsIn-meet : (p : List ℤ) (a b : Box) → IsIn p a → IsIn p b → IsIn p (meet_of a b)
IsIn-meet p a b first second = (IsMeeting-meet_of a b (same_axes p a b first second) p).1 (first, second)

-- and the second box has all points of it
pub Covers-meet : (p : List ℤ) (a b : Box) → IsIn p a → IsIn p b → Covers b (meet_of a b)
Covers-meet p a b first second q within = ((IsMeeting-meet_of a b (same_axes p a b first second) q).0 within).1

-- a number of two intervals is in their meeting, and back
pub within_meet : (a b : Interval) (c : ℤ) → IsIn (c ∷ []) (meet_of_axis a b ∷ []) ↔ (IsIn (c ∷ []) (a ∷ []) × IsIn (c ∷ []) (b ∷ []))
within_meet a b c = IsMeeting-meet_of (a ∷ []) (b ∷ []) refl (c ∷ [])

-- ---- shifts

pub IsIn-shifted_by : (d : List ℤ) (axes : Box) (p : List ℤ) → IsIn p axes → IsIn (moved_by d p) (shifted_by d axes)
IsIn-shifted_by d axes p within = (IsShifted-shifted_by d axes p).0 within

-- what lies in a box that was moved lies in the box, where it is moved back
pub Covers-shifted_back : (d : List ℤ) (axes around : Box) → Covers (shifted_by d axes) around → Covers axes (shifted_by (map neg_ℤ d) around)
Covers-shifted_back d axes around covers q within =
    let before = point_before_shift (map neg_ℤ d) around q within in
    subst (λ z. IsIn z axes) (sym before.2) (IsIn-unshifted d axes before.0 (covers before.0 before.1))

-- ---- parts that are moved to their places

-- the offsets from one box to another
abbrev offsets : Box → Box → List ℤ
offsets from to = map (λ x. x.1.lo -ℤ x.0.lo) (zip from to)

moved_between-offsets : (from to : Box) (p : List ℤ) → length from ≡ length to → IsIn p from → moved_between from to p ≡ moved_by (offsets from to) p
moved_between-offsets [] [] [] same within = refl
moved_between-offsets [] [] (c ∷ p) same within = absurd within
moved_between-offsets [] (b ∷ bs) p same within = absurd (omega arith)
moved_between-offsets (a ∷ as_) [] p same within = absurd (omega arith)
moved_between-offsets (a ∷ as_) (b ∷ bs) [] same within = absurd within
moved_between-offsets (a ∷ as_) (b ∷ bs) (c ∷ p) same within =
    ap (λ q. (c +ℤ (b.lo -ℤ a.lo)) ∷ q) (moved_between-offsets as_ bs p (omega arith) within.2)

-- a point of a box within a part's place, moved back with it
pub IsIn-moved_back : (place part axes : Box) (p : List ℤ) → length place ≡ length part → IsIn p place → IsIn p axes → IsIn (moved_between place part p) (moved_back place part axes)
IsIn-moved_back place part axes p same inside within =
    subst (λ q. IsIn q (moved_back place part axes)) (sym (moved_between-offsets place part p same inside))
    (IsIn-shifted_by (offsets place part) axes p within)

-- what lies within a part's place lies in the part, where it is moved back
pub Covers-moved_back : (place part axes : Box) → length place ≡ length part → LeadsTo part place → Covers place axes → Covers part (moved_back place part axes)
Covers-moved_back place part axes same leads covers q within =
    let before = point_before_shift (offsets place part) axes q within in
    let inside = covers before.0 before.1 in
    subst (λ z. IsIn z part) (moved_between-offsets place part before.0 same inside ∙ sym before.2) (leads before.0 inside)

-- all boxes have so many axes
abbrev pub HaveAxes : ℕ → List Box → Type 0
HaveAxes n = AllByRecursion (λ b. length b ≡ n)
