-- The joined box of a concat's parts, a part after another.
use Rattle.std.proofs.Common.{◌≡◌, ℕ, List, [], ◌∷◌, Result, Ok, Err, Bool, true, false, refl, ap, ap₂, sym, subst, arith, ◌≤◌, ◌-◌, length, get_or, take, drop}
use Rattle.std.specs.Prelude.{if◌then◌else◌, ◌||◌, ◌&&◌}
use Rattle.std.specs.List.{fold, list_all, list_any}
use Rattle.ras_cells.specs.Outcomes.{◌>>=◌}
use Rattle.ras_domain.specs.Boxes.{hull_of}
use Rattle.ras_syntax.specs.declared.span.Span.{Span}
use Rattle.ras_syntax.specs.declared.faults.ShapeFault.TheVariants.{BoundOut, ExtentsDiffer}
use Rattle.std.proofs.lemmas.List.{take_all}
use Rattle.spec_expressions.specs.Fits.{IsSound}
use Rattle.spec_expressions.specs.Shape.{Box, ShapeMisfit, array, concat_shape, extents_agree, box_of, has_extents_of, has_large_bound, joined_parts, moved_after, placed_after, placed_parts}
use Rattle.spec_expressions.specs.Shape.{sized_shape}
use Rattle.ras_shape.specs.declared.form.Form.{Form}
use Rattle.ras_shape.specs.Gives.{shape_of_form}
use Rattle.ras_shape.proofs.Bounds.{no_large}
use Rattle.ras_shape.specs.Moves.{agrees_with, boxes_of_forms, checked_box, placed_box, placed_shape}

-- the box of what was joined, whose last part is `before`, and of the other parts
abbrev pub placed_from : Span → ℕ → Box → Box → Box → List Box → Result Box ShapeMisfit
placed_from span n first before whole others =
    if list_any (list_any has_large_bound) (placed_after n first before others) then Err (span, BoundOut) else Ok (fold hull_of whole (placed_after n first before others))

-- one more part at its place, or one that has none
turn-cases : (span : Span) (large more : Bool) (moved next whole : Box) (others : List Box) → (if large then Err (span, BoundOut) else Ok moved) ≡ (let r : Result Box ShapeMisfit = Ok next in r)
    → (large ≡ false) × (moved ≡ next)
turn-cases span true more moved next whole others is = absurd cc
turn-cases span false more moved next whole others is = (refl, cc)

pub places_turn : (span : Span) (n : ℕ) (first before whole b next : Box) (bs : List Box) → checked_box span (moved_after n first before b) ≡ Ok next
    → placed_from span n first before whole (b ∷ bs) ≡ placed_from span n first next (hull_of whole next) bs
places_turn span n first before whole b next bs is =
    let one = turn-cases span (list_any has_large_bound (moved_after n first before b)) false (moved_after n first before b) next whole bs is in
    rw (one.0, one.1) refl

stop-cases : (span : Span) (large more : Bool) (moved : Box) (r : Result Box ShapeMisfit) (m : ShapeMisfit)
    → (let c : Result Box ShapeMisfit = if large then Err (span, BoundOut) else Ok moved in c) ≡ Err m
    → (if large || more then Err (span, BoundOut) else r) ≡ Err m
stop-cases span true more moved r m is = let same : (let p : ShapeMisfit = (span, BoundOut) in p) ≡ m = cc in ap (λ x. Err x) same
stop-cases span false more moved r m is = absurd cc

pub places_stop : (span : Span) (n : ℕ) (first before whole b : Box) (bs : List Box) (m : ShapeMisfit) → checked_box span (moved_after n first before b) ≡ Err m
    → placed_from span n first before whole (b ∷ bs) ≡ Err m
places_stop span n first before whole b bs m is =
    stop-cases span (list_any has_large_bound (moved_after n first before b)) (list_any (list_any has_large_bound) (placed_after n first (moved_after n first before b) bs))
    (moved_after n first before b)
    (Ok (fold hull_of whole (placed_after n first before (b ∷ bs)))) m is

-- the first part alone, and the other parts after it
pub places_begin : (span : Span) (n : ℕ) (first : Box) (others : List Box) → list_any has_large_bound first ≡ false → placed_from span n first first first others ≡ placed_box span n (first ∷ others)
places_begin span n first others small = rw small refl

-- the same, at the forms of the parts
pub places_start : (span : Span) (n : ℕ) (parts rest : List Form) (first : Form) (axes before whole : Box) → parts ≡ first ∷ rest → axes ≡ box_of (shape_of_form first) → IsSound axes
    → before ≡ box_of (shape_of_form first) → whole ≡ box_of (shape_of_form first)
    → placed_from span n (box_of (shape_of_form first)) before whole (boxes_of_forms rest) ≡ placed_box span n (boxes_of_forms parts)
places_start span n parts rest first axes before whole is same sound b w =
    let small : list_any has_large_bound (box_of (shape_of_form first)) ≡ false = subst (λ a. list_any has_large_bound a ≡ false) same (no_large axes sound.small_bounds) in
    rw (b, w, is) (places_begin span n (box_of (shape_of_form first)) (boxes_of_forms rest) small)

pub parts_split : (parts : List Form) (first : Form) → 1 ≤ length parts → first ≡ get_or parts 0 first → parts ≡ first ∷ take (length parts - 1) (drop 1 parts)
parts_split [] first some is = absurd (omega arith)
parts_split (p ∷ ps) first some is = ap₂ (λ x xs. x ∷ xs) (sym is) (sym (take_all (length (p ∷ ps) - 1) ps (omega arith)))

-- ---- a concat, from the box of its parts

placed-is : (span : Span) (width n : ℕ) (parts : List Box) (large : Bool) (whole : Box) → (if large then Err (span, BoundOut) else sized_shape span width (array whole))
    ≡ ((if large then Err (span, BoundOut) else Ok whole) >>= λ axes. sized_shape span width (array axes))
placed-is span width n parts true whole = refl
placed-is span width n parts false whole = refl

pub concat_differs : (span : Span) (width n : ℕ) (parts : List Box) → extents_agree n parts ≡ false → concat_shape span width n parts ≡ Err (span, ExtentsDiffer)
concat_differs span width n parts is = rw is refl

pub concat_placed : (span : Span) (width n : ℕ) (parts : List Box) → extents_agree n parts ≡ true → concat_shape span width n parts ≡ placed_shape span width n parts
concat_placed span width n parts is =
    rw is (placed-is span width n parts (list_any (list_any has_large_bound) (placed_parts n parts)) (joined_parts (placed_parts n parts)))

pub ruleset concats = (concat_differs, concat_placed)

all_forms : (p : Box → Bool) (forms : List Form) → list_all p (boxes_of_forms forms) ≡ list_all (λ form. p (box_of (shape_of_form form))) forms
all_forms p [] = refl
all_forms p (form ∷ forms) = ap (λ b. p (box_of (shape_of_form form)) && b) (all_forms p forms)

pub extents_each : (n : ℕ) (first : Form) (others : List Form) → extents_agree n (boxes_of_forms (first ∷ others)) ≡ list_all (agrees_with n first) others
extents_each n first others = all_forms (has_extents_of n (box_of (shape_of_form first))) others

pub ruleset places = (places_turn, places_stop, places_begin)
