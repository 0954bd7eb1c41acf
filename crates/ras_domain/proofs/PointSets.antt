-- Boxes as sets of points: covering, meeting, hull, shift, and leaving out an axis.
use Rattle.std.proofs.Common.{◌≡◌, ℕ, zero, suc, ◌+◌, ◌*◌, ◌≤◌, ◌<◌, ℤ, pos, ◌+ℤ◌, ◌-ℤ◌, ◌≤ℤ◌, ◌↔◌, FitsSigned, Bool, true, false, cond, IsTrue, MatchBool, int_lt, to_z, of_z, List, [], ◌∷◌, ◌++◌, map, length, get_or, take, drop, All, refl, sym, ap, subst, ◌∙◌, arith}
use Rattle.std.specs.Int.{w32, w64, int_min, int_max}
use Rattle.std.specs.List.{zip, remove, AllWithin, HoldsAt}
use Rattle.std.proofs.lemmas.Bool.{false≢true}
use Rattle.std.proofs.lemmas.Int.{ints, int_max_is, int_min_is}
use Rattle.std.proofs.lemmas.List.{length-map, get_or-map, take_more}
use Rattle.std.proofs.lemmas.List.Edits.{length-remove}
use Rattle.std.proofs.lemmas.List.Elements.{All-nil, All-cons, All-head, All-tail, All-append, All-take, All-drop, All-from_all_within}
use Rattle.std.proofs.lemmas.Slice.Zip.{length-zip, get_or-zip}
use Rattle.std.proofs.Math.Nat.{mul-le-mul_left, mul-le-mul_right}
use Rattle.ras_domain.specs.declared.TheConstants.{MAX_POINTS}
use Rattle.ras_domain.specs.declared.region.Interval.{Interval}
use Rattle.ras_domain.specs.Region.{HasSmallBounds, IsOrdered, IsIn, IsRegion, extent_of, points_of}
use Rattle.ras_domain.specs.Boxes.{Covers, AreDisjoint, IsMeeting, IsHull, IsShifted, IsCut, moved_by, meet_of_axis, meet_of, hull_of_axis, hull_of, shifted_axis, shifted_by}
use Rattle.ras_domain.proofs.Points.{length-points_of, length-from_IsIn, int_gap_is, one-le-extent_of}

-- ---- numbers

le_itself : (x : ℤ) → x ≤ℤ x
le_itself x = omega (arith, ints)

le_trans : (x y z : ℤ) → x ≤ℤ y → y ≤ℤ z → x ≤ℤ z
le_trans x y z p q = omega (arith, ints)

-- the greater of two is at most what both are at most
int_max-le : (x y c : ℤ) → int_max x y ≤ℤ c → (x ≤ℤ c) × (y ≤ℤ c)
int_max-le x y c h = (omega (arith, ints, int_max_is x y), omega (arith, ints, int_max_is x y))

le-int_max : (x y c : ℤ) → x ≤ℤ c → y ≤ℤ c → int_max x y ≤ℤ c
le-int_max x y c p q = omega (arith, ints, int_max_is x y)

-- the lesser of two is at least what both are at least
int_min-ge : (x y c : ℤ) → c ≤ℤ int_min x y → (c ≤ℤ x) × (c ≤ℤ y)
int_min-ge x y c h = (omega (arith, ints, int_min_is x y), omega (arith, ints, int_min_is x y))

ge-int_min : (x y c : ℤ) → c ≤ℤ x → c ≤ℤ y → c ≤ℤ int_min x y
ge-int_min x y c p q = omega (arith, ints, int_min_is x y)

-- the lesser of two is one of them, and so is the greater
either : (P : ℤ → Type 0) (b : Bool) (x y : ℤ) → P x → P y → P (cond b x y)
either P true x y p q = p
either P false x y p q = q

-- what the code's arithmetic gives, at numbers of 32 bits
as_read : (x : ℤ) → FitsSigned w32 x → to_z w64 (of_z w64 x) ≡ x
as_read x fits = omega (arith, ints)

int_max-as_read : (x y r : ℤ) → FitsSigned w32 x → FitsSigned w32 y → r ≡ int_max (to_z w64 (of_z w64 x)) (to_z w64 (of_z w64 y)) → to_z w64 (of_z w64 r) ≡ int_max x y
int_max-as_read x y r p q e =
    let fits : FitsSigned w32 (int_max x y) = either (FitsSigned w32) (int_lt y x) x y p q in
    ap (λ z. to_z w64 (of_z w64 z)) (e ∙ ap (λ z. int_max z (to_z w64 (of_z w64 y))) (as_read x p) ∙ ap (λ z. int_max x z) (as_read y q)) ∙ as_read (int_max x y) fits

int_min-as_read : (x y r : ℤ) → FitsSigned w32 x → FitsSigned w32 y → r ≡ int_min (to_z w64 (of_z w64 x)) (to_z w64 (of_z w64 y)) → to_z w64 (of_z w64 r) ≡ int_min x y
int_min-as_read x y r p q e =
    let fits : FitsSigned w32 (int_min x y) = either (FitsSigned w32) (int_lt y x) y x q p in
    ap (λ z. to_z w64 (of_z w64 z)) (e ∙ ap (λ z. int_min z (to_z w64 (of_z w64 y))) (as_read x p) ∙ ap (λ z. int_min x z) (as_read y q)) ∙ as_read (int_min x y) fits

-- an interval is its two bounds
abbrev interval : ℤ → ℤ → Interval
interval lo hi = record { lo = lo; hi = hi }

same_bounds : (x y : Interval) → x.lo ≡ y.lo → x.hi ≡ y.hi → x ≡ y
same_bounds x y low high = ap (λ l. interval l x.hi) low ∙ ap (λ h. interval y.lo h) high

-- ---- a loop over two lists at once

-- what is made of the pair at a place
get_or-zip_map : {A B C : Type 0} (f : A × B → C) (xs : List A) (ys : List B) (n : ℕ) (x : A) (y : B) (d : C) → n < length xs → n < length ys → x ≡ get_or xs n x → y ≡ get_or ys n y
    → get_or (map f (zip xs ys)) n d ≡ f (x, y)
get_or-zip_map f xs ys n x y d h k at by =
    get_or-map f (zip xs ys) n (x, y) d (omega (arith, length-zip xs ys))
    ∙ ap f (get_or-zip xs ys n (x, y) h k ∙ ap (λ z. (z, get_or ys n y)) (sym at) ∙ ap (λ z. (x, z)) (sym by))

-- what has been pushed so far, and one more
pub take-zip_turn : {A B C : Type 0} (f : A × B → C) (xs : List A) (ys : List B) (n m : ℕ) (x : A) (y : B) (z : C) (pushed : List C) → n < length xs → n < length ys
    → m ≡ n + 1 → x ≡ get_or xs n x → y ≡ get_or ys n y
    → z ≡ f (x, y) → pushed ≡ take n (map f (zip xs ys)) → pushed ++ z ∷ [] ≡ take m (map f (zip xs ys))
take-zip_turn f xs ys n m x y z pushed h k next at by is so_far =
    let more : take (n + 1) (map f (zip xs ys)) ≡ take n (map f (zip xs ys)) ++ get_or (map f (zip xs ys)) n z ∷ [] =
    take_more (map f (zip xs ys)) n z (omega (arith, length-map (zip xs ys) f, length-zip xs ys)) in
    let here : get_or (map f (zip xs ys)) n z ≡ f (x, y) = get_or-zip_map f xs ys n x y z h k at by in
    rw (next, so_far, is, more, here) refl

-- the interval at a place in a region
pub small_at : (axes : List Interval) (n : ℕ) (axis : Interval) → IsRegion axes → n < length axes → axis ≡ get_or axes n axis → HasSmallBounds axis
small_at axes n axis region below at = rw (← at) at (region.small_bounds n axis below)

-- what holds of each pair
All-zip : {A B C : Type 0} (P : A → Type 0) (Q : B → Type 0) (R : C → Type 0) (f : A × B → C) → ((x : A) (y : B) → P x → Q y → R (f (x, y)))
    → (xs : List A) (ys : List B) → All P xs → All Q ys → All R (map f (zip xs ys))
All-zip P Q R f gives [] ys p q = All-nil R
All-zip P Q R f gives (x ∷ xs) [] p q = All-nil R
All-zip P Q R f gives (x ∷ xs) (y ∷ ys) p q =
    All-cons R (f (x, y)) (map f (zip xs ys)) (gives x y (All-head P x xs p) (All-head Q y ys q)) (All-zip P Q R f gives xs ys (All-tail P x xs p) (All-tail Q y ys q))

-- ---- boxes with a point

-- the lower bounds of ordered intervals are a point
pub IsIn-lows : (axes : List Interval) → All IsOrdered axes → IsIn (map (λ axis. axis.lo) axes) axes
IsIn-lows [] ordered = tt
IsIn-lows (axis ∷ axes) ordered =
    (le_itself axis.lo, All-head IsOrdered axis axes ordered, IsIn-lows axes (All-tail IsOrdered axis axes ordered))

-- a box with a point has ordered intervals
pub IsOrdered-from_IsIn : (axes : List Interval) (p : List ℤ) → IsIn p axes → All IsOrdered axes
IsOrdered-from_IsIn [] p within = All-nil IsOrdered
IsOrdered-from_IsIn (axis ∷ axes) [] within = absurd within
IsOrdered-from_IsIn (axis ∷ axes) (c ∷ p) within =
    All-cons IsOrdered axis axes (le_trans axis.lo c axis.hi within.0 within.1) (IsOrdered-from_IsIn axes p within.2)

-- ---- covering

-- the second interval lies in the first
abbrev pub IsWithin : Interval × Interval → Type 0
IsWithin x = (x.0.lo ≤ℤ x.1.lo) × (x.1.hi ≤ℤ x.0.hi)

Covers-head : (x y : Interval) (xs ys : List Interval) → IsOrdered y → All IsOrdered ys → Covers (x ∷ xs) (y ∷ ys) → IsWithin (x, y)
Covers-head x y xs ys here rest covers =
    let lows : List ℤ = map (λ axis. axis.lo) ys in
    let within : IsIn lows ys = IsIn-lows ys rest in
    ((covers (y.lo ∷ lows) (le_itself y.lo, here, within)).0, (covers (y.hi ∷ lows) (here, le_itself y.hi, within)).1)

Covers-tail : (x y : Interval) (xs ys : List Interval) → IsOrdered y → Covers (x ∷ xs) (y ∷ ys) → Covers xs ys
Covers-tail x y xs ys here covers p within = (covers (y.lo ∷ p) (le_itself y.lo, here, within)).2

-- x box that covers an ordered one has xs many axes
pub length-from_Covers : (big small : List Interval) → All IsOrdered small → Covers big small → length big ≡ length small
length-from_Covers big small ordered covers =
    let lows : List ℤ = map (λ axis. axis.lo) small in
    sym (length-from_IsIn lows big (covers lows (IsIn-lows small ordered))) ∙ length-map small (λ axis. axis.lo)

-- it covers it axis by axis
pub zip-from_Covers : (big small : List Interval) → All IsOrdered small → Covers big small → All IsWithin (zip big small)
zip-from_Covers [] small ordered covers = All-nil IsWithin
zip-from_Covers (x ∷ xs) [] ordered covers = All-nil IsWithin
zip-from_Covers (x ∷ xs) (y ∷ ys) ordered covers =
    let here = All-head IsOrdered y ys ordered in
    let rest = All-tail IsOrdered y ys ordered in
    All-cons IsWithin (x, y) (zip xs ys) (Covers-head x y xs ys here rest covers) (zip-from_Covers xs ys rest (Covers-tail x y xs ys here covers))

-- and the way back
pub Covers-from_zip : (big small : List Interval) → length big ≡ length small → All IsWithin (zip big small) → Covers big small
Covers-from_zip [] [] same all p within = within
Covers-from_zip [] (y ∷ ys) same all p within = absurd (omega arith)
Covers-from_zip (x ∷ xs) [] same all p within = absurd (omega arith)
Covers-from_zip (x ∷ xs) (y ∷ ys) same all [] within = absurd within
Covers-from_zip (x ∷ xs) (y ∷ ys) same all (c ∷ p) within =
    let here = All-head IsWithin (x, y) (zip xs ys) all in
    (le_trans x.lo y.lo c here.0 within.0, le_trans c y.hi x.hi within.1 here.1, Covers-from_zip xs ys (omega arith) (All-tail IsWithin (x, y) (zip xs ys) all) p within.2)

-- what a test of each pair of intervals says of the boxes
pub Covers-from_cases : (big small : List Interval) (r : Bool) → All IsOrdered small → length big ≡ length small
    → MatchBool r (AllWithin IsWithin (zip big small) 0 (length (zip big small))) ((k : ℕ) × (k < length (zip big small))
    × HoldsAt (λ x. ¬ IsWithin x) (zip big small) k) → IsTrue r ↔ Covers big small
Covers-from_cases big small true ordered same all =
    (λ _. Covers-from_zip big small same (All-from_all_within IsWithin (zip big small) all), λ _. refl)
Covers-from_cases big small false ordered same some = (
  λ no. absurd (false≢true no),
  λ covers. let d : Interval
      × Interval = (record { lo = pos 0; hi = pos 0 }, record { lo = pos 0; hi = pos 0 }) in absurd (some.2 d (zip-from_Covers big small ordered covers some.0 d some.1)),
)

-- ordered boxes with the same points are the same
pub Covers-antisym : (a b : List Interval) → All IsOrdered a → All IsOrdered b → Covers a b → Covers b a → a ≡ b
Covers-antisym [] [] p q h k = refl
Covers-antisym [] (y ∷ ys) p q h k = absurd (omega (arith, length-from_Covers [] (y ∷ ys) q h))
Covers-antisym (x ∷ xs) [] p q h k = absurd (omega (arith, length-from_Covers (x ∷ xs) [] q h))
Covers-antisym (x ∷ xs) (y ∷ ys) p q h k =
    let here = All-head IsOrdered x xs p in
    let there = All-head IsOrdered y ys q in
    let fore = All-tail IsOrdered x xs p in
    let aft = All-tail IsOrdered y ys q in
    let out : IsWithin (x, y) = Covers-head x y xs ys there aft h in
    let back : IsWithin (y, x) = Covers-head y x ys xs here fore k in
    let lo : x.lo ≡ y.lo = omega (arith, ints, out.0, back.0) in
    let hi : x.hi ≡ y.hi = omega (arith, ints, out.1, back.1) in
    let first : x ≡ y = same_bounds x y lo hi in
    let rest : xs ≡ ys = Covers-antisym xs ys fore aft (Covers-tail x y xs ys there h) (Covers-tail y x ys xs here k) in
    cc (first, rest)

-- ---- the meeting

-- its points are those in both
pub IsMeeting-meet_of : (a b : List Interval) → length a ≡ length b → IsMeeting (meet_of a b) a b
IsMeeting-meet_of [] [] same [] = (λ _. (tt, tt), λ _. tt)
IsMeeting-meet_of [] [] same (c ∷ p) = (λ within. absurd within, λ within. absurd within.0)
IsMeeting-meet_of [] (y ∷ ys) same p = absurd (omega arith)
IsMeeting-meet_of (x ∷ xs) [] same p = absurd (omega arith)
IsMeeting-meet_of (x ∷ xs) (y ∷ ys) same [] = (λ within. absurd within, λ within. absurd within.0)
IsMeeting-meet_of (x ∷ xs) (y ∷ ys) same (c ∷ p) =
    let more = IsMeeting-meet_of xs ys (omega arith) p in (
      λ within.
          let low = int_max-le x.lo y.lo c within.0 in
          let high = int_min-ge x.hi y.hi c within.1 in
          let rest = more.0 within.2 in
          ((low.0, high.0, rest.0), (low.1, high.1, rest.1)),
      λ within. (le-int_max x.lo y.lo c within.0.0 within.1.0, ge-int_min x.hi y.hi c within.0.1 within.1.1, more.1 (within.0.2, within.1.2)),
    )

-- two intervals met as the code does it
pub meet_of_axis-as_read : (x y : Interval) (low high : ℤ) → HasSmallBounds x → HasSmallBounds y → low ≡ int_max (to_z w64 (of_z w64 x.lo)) (to_z w64 (of_z w64 y.lo))
    → high ≡ int_min (to_z w64 (of_z w64 x.hi)) (to_z w64 (of_z w64 y.hi))
    → interval (to_z w64 (of_z w64 low)) (to_z w64 (of_z w64 high)) ≡ meet_of_axis x y
meet_of_axis-as_read x y low high p q lo hi =
    same_bounds _ (meet_of_axis x y) (int_max-as_read x.lo y.lo low p.0 q.0 lo) (int_min-as_read x.hi y.hi high p.1 q.1 hi)

-- where it is not ordered, there is none
pub AreDisjoint-from_meet_of : (a b : List Interval) → length a ≡ length b → ¬ All IsOrdered (meet_of a b) → AreDisjoint a b
AreDisjoint-from_meet_of a b same none p here there =
    none (IsOrdered-from_IsIn (meet_of a b) p ((IsMeeting-meet_of a b same p).1 (here, there)))

-- and where it is ordered, there is one
pub IsOrdered-not_disjoint : (a b : List Interval) → length a ≡ length b → All IsOrdered (meet_of a b) → ¬ AreDisjoint a b
IsOrdered-not_disjoint a b same ordered disjoint =
    let lows : List ℤ = map (λ axis. axis.lo) (meet_of a b) in
    let both = (IsMeeting-meet_of a b same lows).0 (IsIn-lows (meet_of a b) ordered) in
    disjoint lows both.0 both.1

extent_of-meet_of_axis : (a b : Interval) → extent_of (meet_of_axis a b) ≤ extent_of a
extent_of-meet_of_axis a b =
    omega (arith, ints, int_gap_is a.lo (a.hi +ℤ pos 1), int_gap_is (int_max a.lo b.lo) (int_min a.hi b.hi +ℤ pos 1), int_max_is a.lo b.lo, int_min_is a.hi b.hi)

-- it has at most the points of the first
length-points_of-meet_of : (a b : List Interval) → length a ≡ length b → length (points_of (meet_of a b)) ≤ length (points_of a)
length-points_of-meet_of [] [] same = omega arith
length-points_of-meet_of [] (y ∷ ys) same = absurd (omega arith)
length-points_of-meet_of (x ∷ xs) [] same = absurd (omega arith)
length-points_of-meet_of (x ∷ xs) (y ∷ ys) same =
    let rest : length (points_of (meet_of xs ys)) ≤ length (points_of xs) = length-points_of-meet_of xs ys (omega arith) in
    omega (
      arith,
      length-points_of x xs,
      length-points_of (meet_of_axis x y) (meet_of xs ys),
      mul-le-mul_left (extent_of (meet_of_axis x y)) rest,
      mul-le-mul_right
          (length (points_of xs)) (extent_of-meet_of_axis x y),
    )

HasSmallBounds-meet_of : (a b : List Interval) → All HasSmallBounds a → All HasSmallBounds b → All HasSmallBounds (meet_of a b)
HasSmallBounds-meet_of =
    All-zip HasSmallBounds HasSmallBounds HasSmallBounds (λ x. meet_of_axis x.0 x.1) (λ x y p q. (either (FitsSigned w32) _ x.lo y.lo p.0 q.0, either (FitsSigned w32) _ y.hi x.hi q.1 p.1))

-- the meeting of two regions is a region where it is ordered
pub IsRegion-meet_of : (a b : List Interval) → length a ≡ length b → IsRegion a → IsRegion b → All IsOrdered (meet_of a b) → IsRegion (meet_of a b)
IsRegion-meet_of a b same p q ordered =
    let long : length (meet_of a b) ≡ length a = omega (arith, length-map (zip a b) (λ x. meet_of_axis x.0 x.1), length-zip a b) in
    record {
      some_axes = omega (arith, p.some_axes);
      few_axes = omega (arith, p.few_axes);
      small_bounds = HasSmallBounds-meet_of a b p.small_bounds q.small_bounds;
      ordered = ordered;
      few_points = omega (arith, p.few_points, length-points_of-meet_of a b same);
    }

-- ---- the hull

-- two intervals joined as the code does it
pub hull_of_axis-as_read : (x y : Interval) (low high : ℤ) → HasSmallBounds x → HasSmallBounds y → low ≡ int_min (to_z w64 (of_z w64 x.lo)) (to_z w64 (of_z w64 y.lo))
    → high ≡ int_max (to_z w64 (of_z w64 x.hi)) (to_z w64 (of_z w64 y.hi))
    → interval (to_z w64 (of_z w64 low)) (to_z w64 (of_z w64 high)) ≡ hull_of_axis x y
hull_of_axis-as_read x y low high p q lo hi =
    same_bounds _ (hull_of_axis x y) (int_min-as_read x.lo y.lo low p.0 q.0 lo) (int_max-as_read x.hi y.hi high p.1 q.1 hi)

Covers-hull_of_first : (a b : List Interval) → length a ≡ length b → Covers (hull_of a b) a
Covers-hull_of_first [] [] same p within = within
Covers-hull_of_first [] (y ∷ ys) same p within = absurd (omega arith)
Covers-hull_of_first (x ∷ xs) [] same p within = absurd (omega arith)
Covers-hull_of_first (x ∷ xs) (y ∷ ys) same [] within = absurd within
Covers-hull_of_first (x ∷ xs) (y ∷ ys) same (c ∷ p) within =
    (omega (arith, ints, within.0, int_min_is x.lo y.lo), omega (arith, ints, within.1, int_max_is x.hi y.hi), Covers-hull_of_first xs ys (omega arith) p within.2)

Covers-hull_of_second : (a b : List Interval) → length a ≡ length b → Covers (hull_of a b) b
Covers-hull_of_second [] [] same p within = within
Covers-hull_of_second [] (y ∷ ys) same p within = absurd (omega arith)
Covers-hull_of_second (x ∷ xs) [] same p within = absurd (omega arith)
Covers-hull_of_second (x ∷ xs) (y ∷ ys) same [] within = absurd within
Covers-hull_of_second (x ∷ xs) (y ∷ ys) same (c ∷ p) within =
    (omega (arith, ints, within.0, int_min_is x.lo y.lo), omega (arith, ints, within.1, int_max_is x.hi y.hi), Covers-hull_of_second xs ys (omega arith) p within.2)

-- what covers both axis by axis covers the hull
IsWithin-hull_of : (box a b : List Interval) → length a ≡ length b → All IsWithin (zip box a) → All IsWithin (zip box b) → All IsWithin (zip box (hull_of a b))
IsWithin-hull_of [] a b same p q = All-nil IsWithin
IsWithin-hull_of (z ∷ zs) [] [] same p q = All-nil IsWithin
IsWithin-hull_of (z ∷ zs) [] (y ∷ ys) same p q = absurd (omega arith)
IsWithin-hull_of (z ∷ zs) (x ∷ xs) [] same p q = absurd (omega arith)
IsWithin-hull_of (z ∷ zs) (x ∷ xs) (y ∷ ys) same p q =
    let first = All-head IsWithin (z, x) (zip zs xs) p in
    let second = All-head IsWithin (z, y) (zip zs ys) q in
    All-cons IsWithin (z, hull_of_axis x y) (zip zs (hull_of xs ys)) (ge-int_min x.lo y.lo z.lo first.0 second.0, le-int_max x.hi y.hi z.hi first.1 second.1)
    (IsWithin-hull_of zs xs ys (omega arith) (All-tail IsWithin (z, x) (zip zs xs) p) (All-tail IsWithin (z, y) (zip zs ys) q))

length-hull_of : (a b : List Interval) → length a ≡ length b → length (hull_of a b) ≡ length a
length-hull_of a b same = omega (arith, length-map (zip a b) (λ x. hull_of_axis x.0 x.1), length-zip a b)

pub IsHull-hull_of : (a b : List Interval) → length a ≡ length b → All IsOrdered a → All IsOrdered b → IsHull (hull_of a b) a b
IsHull-hull_of a b same p q = record {
  first = Covers-hull_of_first a b same;
  second = Covers-hull_of_second a b same;
  least = λ box h k.
      Covers-from_zip box (hull_of a b) (length-from_Covers box a p h ∙ sym (length-hull_of a b same))
      (IsWithin-hull_of box a b same (zip-from_Covers box a p h) (zip-from_Covers box b q k));
}

pub HasSmallBounds-hull_of : (a b : List Interval) → All HasSmallBounds a → All HasSmallBounds b → All HasSmallBounds (hull_of a b)
HasSmallBounds-hull_of =
    All-zip HasSmallBounds HasSmallBounds HasSmallBounds (λ x. hull_of_axis x.0 x.1) (λ x y p q. (either (FitsSigned w32) _ y.lo x.lo q.0 p.0, either (FitsSigned w32) _ x.hi y.hi p.1 q.1))

pub IsOrdered-hull_of : (a b : List Interval) → All IsOrdered a → All IsOrdered b → All IsOrdered (hull_of a b)
IsOrdered-hull_of =
    All-zip IsOrdered IsOrdered IsOrdered (λ x. hull_of_axis x.0 x.1) (λ x y p q. omega (arith, ints, p, q, int_min_is x.lo y.lo, int_max_is x.hi y.hi))

-- the hull of two regions is a region where it has few points
pub IsRegion-hull_of : (a b : List Interval) → length a ≡ length b → IsRegion a → IsRegion b → length (points_of (hull_of a b)) ≤ MAX_POINTS → IsRegion (hull_of a b)
IsRegion-hull_of a b same p q few = record {
  some_axes = omega (arith, p.some_axes, length-hull_of a b same);
  few_axes = omega (arith, p.few_axes, length-hull_of a b same);
  small_bounds = HasSmallBounds-hull_of a b p.small_bounds q.small_bounds;
  ordered = IsOrdered-hull_of a b p.ordered q.ordered;
  few_points = few;
}

-- ---- the shift

-- the points move along
pub IsShifted-shifted_by : (d : List ℤ) (axes : List Interval) → IsShifted d axes (shifted_by d axes)
IsShifted-shifted_by [] axes p = (λ within. within, λ within. within)
IsShifted-shifted_by (d ∷ ds) [] [] = (λ _. tt, λ _. tt)
IsShifted-shifted_by (d ∷ ds) [] (c ∷ p) = (λ within. absurd within, λ within. absurd within)
IsShifted-shifted_by (d ∷ ds) (axis ∷ axes) [] = (λ within. absurd within, λ within. absurd within)
IsShifted-shifted_by (d ∷ ds) (axis ∷ axes) (c ∷ p) =
    let more = IsShifted-shifted_by ds axes p in (
      λ within. (omega (arith, ints, within.0), omega (arith, ints, within.1), more.0 within.2),
      λ within. (omega (arith, ints, within.0), omega (arith, ints, within.1), more.1 within.2),
    )

-- and no other point comes in
pub point_before_shift : (d : List ℤ) (axes : List Interval) (q : List ℤ) → IsIn q (shifted_by d axes) → (p : List ℤ) × IsIn p axes × (q ≡ moved_by d p)
point_before_shift [] axes q within = (q, within, refl)
point_before_shift (d ∷ ds) [] [] within = ([], tt, refl)
point_before_shift (d ∷ ds) [] (c ∷ q) within = absurd within
point_before_shift (d ∷ ds) (axis ∷ axes) [] within = absurd within
point_before_shift (d ∷ ds) (axis ∷ axes) (c ∷ q) within =
    let more = point_before_shift ds axes q within.2 in
    let here : c -ℤ d +ℤ d ≡ c = omega (arith, ints) in
    ((c -ℤ d) ∷ more.0, (omega (arith, ints, within.0), omega (arith, ints, within.1), more.1), cc (here, more.2))

-- with an offset for each axis it is the list of the moved intervals
pub shifted_by-zip : (d : List ℤ) (axes : List Interval) → length d ≡ length axes → shifted_by d axes ≡ map (λ x. shifted_axis x.1 x.0) (zip axes d)
shifted_by-zip [] [] same = refl
shifted_by-zip [] (axis ∷ axes) same = absurd (omega arith)
shifted_by-zip (d ∷ ds) [] same = absurd (omega arith)
shifted_by-zip (d ∷ ds) (axis ∷ axes) same = ap (λ l. shifted_axis d axis ∷ l) (shifted_by-zip ds axes (omega arith))

-- one more moved interval, in a loop over both lists
pub shifted_by-turn : (d : List ℤ) (axes : List Interval) (n m : ℕ) (by : ℤ) (axis moved : Interval) (pushed : List Interval) → length d ≡ length axes → n < length axes
    → n < length d → m ≡ n + 1 → axis ≡ get_or axes n axis → by ≡ get_or d n by
    → moved ≡ shifted_axis by axis → pushed ≡ take n (shifted_by d axes) → pushed ++ moved ∷ [] ≡ take m (shifted_by d axes)
shifted_by-turn d axes n m by axis moved pushed same h k next at there is so_far =
    let whole = shifted_by-zip d axes same in
    take-zip_turn (λ x. shifted_axis x.1 x.0) axes d n m axis by moved pushed h k next at there is (so_far ∙ ap (take n) whole) ∙ ap (take m) (sym whole)

-- the moved interval at a place
pub get_or-shifted_by : (d : List ℤ) (axes : List Interval) (n : ℕ) (by : ℤ) (axis e : Interval) → length d ≡ length axes → n < length axes → n < length d
    → axis ≡ get_or axes n axis → by ≡ get_or d n by
    → get_or (shifted_by d axes) n e ≡ shifted_axis by axis
get_or-shifted_by d axes n by axis e same h k at there =
    ap (λ l. get_or l n e) (shifted_by-zip d axes same) ∙ get_or-zip_map (λ x. shifted_axis x.1 x.0) axes d n axis by e h k at there

pub length-shifted_by : (d : List ℤ) (axes : List Interval) → length (shifted_by d axes) ≡ length axes
length-shifted_by [] axes = refl
length-shifted_by (d ∷ ds) [] = refl
length-shifted_by (d ∷ ds) (axis ∷ axes) = ap (λ n. suc n) (length-shifted_by ds axes)

IsOrdered-shifted_by : (d : List ℤ) (axes : List Interval) → All IsOrdered axes → All IsOrdered (shifted_by d axes)
IsOrdered-shifted_by [] axes ordered = ordered
IsOrdered-shifted_by (d ∷ ds) [] ordered = All-nil IsOrdered
IsOrdered-shifted_by (d ∷ ds) (axis ∷ axes) ordered =
    let here : IsOrdered axis = All-head IsOrdered axis axes ordered in
    All-cons IsOrdered (shifted_axis d axis) (shifted_by ds axes) (omega (arith, ints, here)) (IsOrdered-shifted_by ds axes (All-tail IsOrdered axis axes ordered))

extent_of-shifted_axis : (d : ℤ) (axis : Interval) → extent_of (shifted_axis d axis) ≡ extent_of axis
extent_of-shifted_axis d axis =
    omega (arith, ints, int_gap_is axis.lo (axis.hi +ℤ pos 1), int_gap_is (axis.lo +ℤ d) (axis.hi +ℤ d +ℤ pos 1))

-- it has as many points
pub length-points_of-shifted_by : (d : List ℤ) (axes : List Interval) → length (points_of (shifted_by d axes)) ≡ length (points_of axes)
length-points_of-shifted_by [] axes = refl
length-points_of-shifted_by (d ∷ ds) [] = refl
length-points_of-shifted_by (d ∷ ds) (axis ∷ axes) =
    length-points_of (shifted_axis d axis) (shifted_by ds axes)
    ∙ ap (λ n. n * length (points_of (shifted_by ds axes))) (extent_of-shifted_axis d axis)
    ∙ ap (λ n. extent_of axis * n) (length-points_of-shifted_by ds axes)
    ∙ sym (length-points_of axis axes)

-- a moved region is one where its bounds are small
pub IsRegion-shifted_by : (d : List ℤ) (axes : List Interval) → IsRegion axes → All HasSmallBounds (shifted_by d axes) → IsRegion (shifted_by d axes)
IsRegion-shifted_by d axes region small = record {
  some_axes = omega (arith, region.some_axes, length-shifted_by d axes);
  few_axes = omega (arith, region.few_axes, length-shifted_by d axes);
  small_bounds = small;
  ordered = IsOrdered-shifted_by d axes region.ordered;
  few_points = omega (arith, region.few_points, length-points_of-shifted_by d axes);
}

-- ---- an axis left out

-- a point of what is left comes from a point of the box
point_before_cut : (axis : ℕ) (axes : List Interval) (q : List ℤ) → All IsOrdered axes → axis < length axes → IsIn q (remove axes axis) → (p : List ℤ) × IsIn p axes × (q ≡ remove p axis)
point_before_cut axis [] q ordered among within = absurd (omega arith)
point_before_cut zero (x ∷ xs) q ordered among within =
    (x.lo ∷ q, (le_itself x.lo, All-head IsOrdered x xs ordered, within), refl)
point_before_cut (suc axis) (x ∷ xs) [] ordered among within = absurd within
point_before_cut (suc axis) (x ∷ xs) (c ∷ q) ordered among within =
    let more = point_before_cut axis xs q (All-tail IsOrdered x xs ordered) (omega arith) within.2 in
    (c ∷ more.0, (within.0, within.1, more.1), ap (λ l. c ∷ l) more.2)

-- and a point of the box, cut, is x point of what is left
IsIn-remove : (axis : ℕ) (axes : List Interval) (p : List ℤ) → IsIn p axes → IsIn (remove p axis) (remove axes axis)
IsIn-remove zero [] [] within = tt
IsIn-remove (suc axis) [] [] within = tt
IsIn-remove axis [] (c ∷ p) within = absurd within
IsIn-remove axis (x ∷ xs) [] within = absurd within
IsIn-remove zero (x ∷ xs) (c ∷ p) within = within.2
IsIn-remove (suc axis) (x ∷ xs) (c ∷ p) within = (within.0, within.1, IsIn-remove axis xs p within.2)

pub IsCut-remove : (axis : ℕ) (axes : List Interval) → All IsOrdered axes → axis < length axes → IsCut axis axes (remove axes axis)
IsCut-remove axis axes ordered among q =
    (point_before_cut axis axes q ordered among, λ from. subst (λ l. IsIn l (remove axes axis)) (sym from.2) (IsIn-remove axis axes from.0 from.1))

-- what is left has at most xs many points
length-points_of-remove : (axis : ℕ) (axes : List Interval) → All IsOrdered axes → axis < length axes → length (points_of (remove axes axis)) ≤ length (points_of axes)
length-points_of-remove axis [] ordered among = absurd (omega arith)
length-points_of-remove zero (x ∷ xs) ordered among =
    let one : 1 ≤ extent_of x = one-le-extent_of x (All-head IsOrdered x xs ordered) in
    omega (arith, length-points_of x xs, mul-le-mul_right (length (points_of xs)) one)
length-points_of-remove (suc axis) (x ∷ xs) ordered among =
    let rest : length (points_of (remove xs axis)) ≤ length (points_of xs) = length-points_of-remove axis xs (All-tail IsOrdered x xs ordered) (omega arith) in
    omega (arith, length-points_of x xs, length-points_of x (remove xs axis), mul-le-mul_left (extent_of x) rest)

All-remove : (P : Interval → Type 0) (axis : ℕ) (axes : List Interval) → All P axes → All P (remove axes axis)
All-remove P axis axes all = All-append P (take axis axes) (drop (suc axis) axes) (All-take P axis axes all) (All-drop P (suc axis) axes all)

-- a region without one of several axes is a region
pub IsRegion-remove : (axis : ℕ) (axes : List Interval) → IsRegion axes → axis < length axes → 1 < length axes → IsRegion (remove axes axis)
IsRegion-remove axis axes region among several = record {
  some_axes = omega (arith, length-remove axes axis among);
  few_axes = omega (arith, region.few_axes, length-remove axes axis among);
  small_bounds = All-remove HasSmallBounds axis axes region.small_bounds;
  ordered = All-remove IsOrdered axis axes region.ordered;
  few_points = omega (arith, region.few_points, length-points_of-remove axis axes region.ordered among);
}
