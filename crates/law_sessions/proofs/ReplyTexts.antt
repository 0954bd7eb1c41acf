-- The text of a reply, and of what a line tells, can be read back.
use Rattle.std.proofs.Common.{◌≡◌, ◌≢◌, ◌⊎◌, inl, inr, ℕ, suc, ◌<◌, ◌≤◌, ℤ, pos, negsuc, ◌+◌, ◌%◌, ◌^◌, List, [], ◌∷◌, ◌++◌, flat_map, length, Option, Some, All, refl, sym, ap, ◌∙◌, subst, arith}
use Rattle.std.specs.Prelude.{codes, decimal, find}
use Rattle.std.specs.Fmt.{signed_decimal}
use Rattle.std.specs.List.{AllByRecursion, join_by}
use Rattle.std.proofs.lemmas.Fmt.{decimal_by_steps}
use Rattle.std.proofs.lemmas.List.{append_assoc}
use Rattle.std.proofs.lemmas.List.Elements.{recursion_from_All}
use Rattle.ras_cells.specs.declared.cell.Cell.{Cell}
use Rattle.ras_cells.specs.declared.cell.Cell.TheVariants.{Null, Value}
use Rattle.ras_cells.specs.declared.cell.CellFault.{CellFault}
use Rattle.ras_cells.specs.declared.cell.CellFault.TheVariants as cell
use Rattle.ras_domain.specs.declared.region.Interval.{Interval}
use Rattle.ras_syntax.specs.declared.faults.CheckFault.{CheckFault}
use Rattle.ras_syntax.specs.declared.faults.CheckFault.TheVariants as check
use Rattle.ras_syntax.specs.declared.faults.ShapeFault.{ShapeFault}
use Rattle.ras_syntax.specs.declared.faults.ShapeFault.TheVariants as shape
use Rattle.ras_syntax.specs.declared.span.Span.{Span}
use Rattle.spec_expressions.specs.Shape.{Box}
use Rattle.spec_grammar.specs.Tokens.{Text, is_same}
use Rattle.spec_statements.specs.Reply.{Reply, RowReply, all_cells, done, faulty, misfit, one_cell, one_domain, unchecked, values}
use Rattle.spec_workloads.specs.Answers.{cell_fault_word, check_fault_word, point_text_of, shape_fault_word, span_text}
use Rattle.spec_sessions.specs.Printable.{HasAnyNumber, ReplyHasText, RowHasText}
use Rattle.spec_sessions.specs.Report.{axis_text_of, box_text_of, cell_text_of, numbers_text_of, reply_text_of, row_text_of}
use Rattle.law_lists.proofs.Each.{append_all, each_both, each_passes}
use Rattle.law_sessions.specs.Numbers.{IsReportCell, IsReportInt, IsReportReply, IsReportRow, IsReportSpan}
use Rattle.law_sessions.proofs.Codes.{IsApart, IsCode, IsWordText, concat-then, head_same, in_word, join-code, number-code, pieces, point-code, same-front, short-mag, signed-code, signed-some, tail_same, then_all}
use Rattle.law_sessions.proofs.EventTexts.{words-code}

-- ---- words that tell faults apart

some_same : {A : Type 0} {x y : A} → Some x ≡ Some y → x ≡ y
some_same is = cc

abbrev cell_of : Text → Option CellFault
cell_of text = find (λ fault. is_same (cell_fault_word fault) text) (cell.Overflow ∷ cell.DivideByZero ∷ cell.CastRange ∷ cell.IndexOut ∷ cell.NullStore ∷ [])

cell-found : (fault : CellFault) → cell_of (cell_fault_word fault) ≡ Some fault
cell-found cell.Overflow = refl
cell-found cell.DivideByZero = refl
cell-found cell.CastRange = refl
cell-found cell.IndexOut = refl
cell-found cell.NullStore = refl

cell-same : (f g : CellFault) → cell_fault_word f ≡ cell_fault_word g → f ≡ g
cell-same f g is = some_same (sym (cell-found f) ∙ ap cell_of is ∙ cell-found g)

cell-word : (fault : CellFault) → IsWordText (cell_fault_word fault)
cell-word cell.Overflow = each_passes in_word (cell_fault_word cell.Overflow) refl
cell-word cell.DivideByZero = each_passes in_word (cell_fault_word cell.DivideByZero) refl
cell-word cell.CastRange = each_passes in_word (cell_fault_word cell.CastRange) refl
cell-word cell.IndexOut = each_passes in_word (cell_fault_word cell.IndexOut) refl
cell-word cell.NullStore = each_passes in_word (cell_fault_word cell.NullStore) refl

abbrev shape_of : Text → Option ShapeFault
shape_of text = find (λ fault. is_same (shape_fault_word fault) text) (shape.Outside ∷ shape.DomainsDiffer ∷ shape.ExtentsDiffer ∷ shape.EmptyDomain ∷
    shape.BoundOut ∷ shape.ArrayTooLarge ∷ shape.ReplyTooLarge ∷ shape.TooManyTiles ∷ shape.TooManyRows ∷ shape.TooManyLocks ∷ [])

shape-found : (fault : ShapeFault) → shape_of (shape_fault_word fault) ≡ Some fault
shape-found shape.Outside = refl
shape-found shape.DomainsDiffer = refl
shape-found shape.ExtentsDiffer = refl
shape-found shape.EmptyDomain = refl
shape-found shape.BoundOut = refl
shape-found shape.ArrayTooLarge = refl
shape-found shape.ReplyTooLarge = refl
shape-found shape.TooManyTiles = refl
shape-found shape.TooManyRows = refl
shape-found shape.TooManyLocks = refl

shape-same : (f g : ShapeFault) → shape_fault_word f ≡ shape_fault_word g → f ≡ g
shape-same f g is = some_same (sym (shape-found f) ∙ ap shape_of is ∙ shape-found g)

shape-word : (fault : ShapeFault) → IsWordText (shape_fault_word fault)
shape-word shape.Outside = each_passes in_word (shape_fault_word shape.Outside) refl
shape-word shape.DomainsDiffer = each_passes in_word (shape_fault_word shape.DomainsDiffer) refl
shape-word shape.ExtentsDiffer = each_passes in_word (shape_fault_word shape.ExtentsDiffer) refl
shape-word shape.EmptyDomain = each_passes in_word (shape_fault_word shape.EmptyDomain) refl
shape-word shape.BoundOut = each_passes in_word (shape_fault_word shape.BoundOut) refl
shape-word shape.ArrayTooLarge = each_passes in_word (shape_fault_word shape.ArrayTooLarge) refl
shape-word shape.ReplyTooLarge = each_passes in_word (shape_fault_word shape.ReplyTooLarge) refl
shape-word shape.TooManyTiles = each_passes in_word (shape_fault_word shape.TooManyTiles) refl
shape-word shape.TooManyRows = each_passes in_word (shape_fault_word shape.TooManyRows) refl
shape-word shape.TooManyLocks = each_passes in_word (shape_fault_word shape.TooManyLocks) refl

abbrev check_of : Text → Option CheckFault
check_of text = find (λ fault. is_same (check_fault_word fault) text) (check.NoCollection ∷ check.CollectionExists ∷ check.NoType ∷ check.NoIterator ∷
    check.DoubleName ∷ check.NoComponent ∷ check.TypeMismatch ∷ check.DimensionMismatch ∷ check.VariableDomain ∷ [])

check-found : (fault : CheckFault) → check_of (check_fault_word fault) ≡ Some fault
check-found check.NoCollection = refl
check-found check.CollectionExists = refl
check-found check.NoType = refl
check-found check.NoIterator = refl
check-found check.DoubleName = refl
check-found check.NoComponent = refl
check-found check.TypeMismatch = refl
check-found check.DimensionMismatch = refl
check-found check.VariableDomain = refl

check-same : (f g : CheckFault) → check_fault_word f ≡ check_fault_word g → f ≡ g
check-same f g is = some_same (sym (check-found f) ∙ ap check_of is ∙ check-found g)

check-word : (fault : CheckFault) → IsWordText (check_fault_word fault)
check-word check.NoCollection = each_passes in_word (check_fault_word check.NoCollection) refl
check-word check.CollectionExists = each_passes in_word (check_fault_word check.CollectionExists) refl
check-word check.NoType = each_passes in_word (check_fault_word check.NoType) refl
check-word check.NoIterator = each_passes in_word (check_fault_word check.NoIterator) refl
check-word check.DoubleName = each_passes in_word (check_fault_word check.DoubleName) refl
check-word check.NoComponent = each_passes in_word (check_fault_word check.NoComponent) refl
check-word check.TypeMismatch = each_passes in_word (check_fault_word check.TypeMismatch) refl
check-word check.DimensionMismatch = each_passes in_word (check_fault_word check.DimensionMismatch) refl
check-word check.VariableDomain = each_passes in_word (check_fault_word check.VariableDomain) refl

-- ---- spans

span-same : (s t : Span) → s.from ≡ t.from → s.to ≡ t.to → s ≡ t
span-same s t from to = λ i. record { from = from i; to = to i }

spans-code : (s t : Span) (rest more : Text) → span_text s ++ rest ≡ span_text t ++ more → IsReportSpan s → IsReportSpan t → IsApart rest → IsApart more → (s ≡ t) × (rest ≡ more)
spans-code s t rest more is short short_too apart apart_too =
    let parts = codes "span " ∷ decimal s.from ∷ codes ":" ∷ decimal s.to ∷ [] in
    let others = codes "span " ∷ decimal t.from ∷ codes ":" ∷ decimal t.to ∷ [] in
    let e : then_all parts rest ≡ then_all others more = sym (concat-then parts rest) ∙ is ∙ concat-then others more in
    let a = number-code s.from t.from (codes ":" ++ (decimal s.to ++ rest)) (codes ":" ++ (decimal t.to ++ more)) (same-front (codes "span ") _ _ e) short.0 short_too.0 refl refl in
    let b = number-code s.to t.to rest more (same-front (codes ":") _ _ a.1) short.1 short_too.1 apart apart_too in
    (span-same s t a.0 b.0, b.1)

-- ---- boxes

abbrev IsGoodAxis : Interval → Type 0
IsGoodAxis axis = IsReportInt axis.lo × IsReportInt axis.hi

axis-same : (x y : Interval) → x.lo ≡ y.lo → x.hi ≡ y.hi → x ≡ y
axis-same x y lo hi = λ i. record { lo = lo i; hi = hi i }

group : (z : Interval) (t : Text) → (((signed_decimal z.lo ++ codes ":") ++ signed_decimal z.hi) ++ t) ≡ (signed_decimal z.lo ++ (codes ":" ++ (signed_decimal z.hi ++ t)))
group z t = append_assoc (signed_decimal z.lo ++ codes ":") (signed_decimal z.hi) t ∙ append_assoc (signed_decimal z.lo) (codes ":") (signed_decimal z.hi ++ t)

axes-code : IsCode axis_text_of IsGoodAxis
axes-code x y rest more is good good_too apart apart_too =
    let e : (signed_decimal x.lo ++ (codes ":" ++ (signed_decimal x.hi ++ rest))) ≡ (signed_decimal y.lo ++ (codes ":" ++ (signed_decimal y.hi ++ more))) =
    sym (group x rest) ∙ is ∙ group y more in
    let a = signed-code x.lo y.lo (codes ":" ++ (signed_decimal x.hi ++ rest)) (codes ":" ++ (signed_decimal y.hi ++ more)) e good.0 good_too.0 refl refl in
    let b = signed-code x.hi y.hi rest more (same-front (codes ":") _ _ a.1) good.1 good_too.1 apart apart_too in
    (axis-same x y a.0 b.0, b.1)

-- low bytes begin a number
low-decimal : (n : ℕ) → n < 2 ^ 64 → AllByRecursion (λ b. b ≤ 57) (decimal n)
low-decimal n small =
    decimal_by_steps (λ n ds. AllByRecursion (λ b. b ≤ 57) ds) (λ n one. (omega (arith, one), tt))
    (λ n ds more all. append_all (λ b. b ≤ 57) ds ((48 + n % 10) ∷ []) all (omega arith, tt)) n small

low-signed : (z : ℤ) → IsReportInt z → AllByRecursion (λ b. b ≤ 57) (signed_decimal z)
low-signed (pos n) short = low-decimal n (let h = short-mag (pos n) short in omega (arith, h))
low-signed (negsuc n) short = (omega arith, low-decimal (suc n) (let h = short-mag (negsuc n) short in omega (arith, h)))

low-head : (xs rest : Text) (b : ℕ) (more : Text) → AllByRecursion (λ b. b ≤ 57) xs → ([] ≡ xs → ⊥) → xs ++ rest ≡ b ∷ more → b ≤ 57
low-head [] rest b more low some is = absurd (some refl)
low-head (x ∷ xs) rest b more low some is = subst (λ c. c ≤ 57) (head_same is) low.0

signed-head : (z : ℤ) (rest : Text) (b : ℕ) (more : Text) → IsReportInt z → signed_decimal z ++ rest ≡ b ∷ more → b ≤ 57
signed-head z rest b more short is = low-head (signed_decimal z) rest b more (low-signed z short) (signed-some z short) is

abbrev lead-tail : Interval → Box → Text → Text
lead-tail y ys rest = codes ":" ++ (signed_decimal y.hi ++ (pieces axis_text_of IsGoodAxis axes-code [] ys ++ rest))

lead : (y : Interval) (ys : Box) (rest : Text) → (join_by axis_text_of (codes ",") (y ∷ ys) ++ rest) ≡ (signed_decimal y.lo ++ lead-tail y ys rest)
lead y ys rest = append_assoc (axis_text_of y) (pieces axis_text_of IsGoodAxis axes-code [] ys) rest ∙ group y (pieces axis_text_of IsGoodAxis axes-code [] ys ++ rest)

-- a box has an axis or none
boxes-code : (xs ys : Box) (rest more : Text) → box_text_of xs ++ rest ≡ box_text_of ys ++ more → AllByRecursion IsGoodAxis xs → AllByRecursion IsGoodAxis ys
    → (xs ≡ ys) × (rest ≡ more)
boxes-code xs ys rest more is good good_too =
    let inner : (Box → Text) = join_by axis_text_of (codes ",") in
    let e : ((inner xs ++ 93 ∷ []) ++ rest) ≡ ((inner ys ++ 93 ∷ []) ++ more) = tail_same is in
    let f : (inner xs ++ (93 ∷ rest)) ≡ (inner ys ++ (93 ∷ more)) = sym (append_assoc (inner xs) (93 ∷ []) rest) ∙ e ∙ append_assoc (inner ys) (93 ∷ []) more in
    at xs ys f good good_too
  where
    at : (xs ys : Box) → join_by axis_text_of (codes ",") xs ++ (93 ∷ rest) ≡ join_by axis_text_of (codes ",") ys ++ (93 ∷ more) → AllByRecursion IsGoodAxis xs
        → AllByRecursion IsGoodAxis ys → (xs ≡ ys) × (rest ≡ more)
    at [] [] f good good_too = (refl, tail_same f)
    at [] (y ∷ ys) f good good_too = absurd (omega (arith, signed-head y.lo (lead-tail y ys (93 ∷ more)) 93 rest good_too.0.0 (sym (lead y ys (93 ∷ more)) ∙ sym f)))
    at (x ∷ xs) [] f good good_too = absurd (omega (arith, signed-head x.lo (lead-tail x xs (93 ∷ rest)) 93 more good.0.0 (sym (lead x xs (93 ∷ rest)) ∙ f)))
    at (x ∷ xs) (y ∷ ys) f good good_too =
        let both = join-code axis_text_of IsGoodAxis axes-code [] x y xs ys (93 ∷ rest) (93 ∷ more) f good.0 good_too.0 good.1 good_too.1 refl refl refl refl in
        (both.0, tail_same both.1)

-- ---- cells

numbers-same : (xs ys : List ℤ) (rest more : Text) → numbers_text_of xs ++ rest ≡ numbers_text_of ys ++ more → xs ≢ [] → ys ≢ [] → AllByRecursion IsReportInt xs
    → AllByRecursion IsReportInt ys → IsApart rest → IsApart more → (xs ≡ ys) × (rest ≡ more)
numbers-same [] ys rest more is some some_too short short_too apart apart_too = absurd (some refl)
numbers-same (x ∷ xs) [] rest more is some some_too short short_too apart apart_too = absurd (some_too refl)
numbers-same (x ∷ []) (y ∷ []) rest more is some some_too short short_too apart apart_too =
    let both = signed-code x y rest more is short.0 short_too.0 apart apart_too in ((λ i. both.0 i ∷ []), both.1)
numbers-same (x ∷ []) (y ∷ z ∷ ys) rest more is some some_too short short_too apart apart_too = absurd (omega (arith, signed-head x rest 123 _ short.0 is))
numbers-same (x ∷ z ∷ xs) (y ∷ []) rest more is some some_too short short_too apart apart_too = absurd (omega (arith, signed-head y more 123 _ short_too.0 (sym is)))
numbers-same (x ∷ w ∷ xs) (y ∷ z ∷ ys) rest more is some some_too short short_too apart apart_too =
    let inner : (List ℤ → Text) = join_by signed_decimal (codes ",") in
    let e : ((inner (x ∷ w ∷ xs) ++ 125 ∷ []) ++ rest) ≡ ((inner (y ∷ z ∷ ys) ++ 125 ∷ []) ++ more) = tail_same is in
    let f : (inner (x ∷ w ∷ xs) ++ (125 ∷ rest)) ≡ (inner (y ∷ z ∷ ys) ++ (125 ∷ more)) =
    sym (append_assoc (inner (x ∷ w ∷ xs)) (125 ∷ []) rest) ∙ e ∙ append_assoc (inner (y ∷ z ∷ ys)) (125 ∷ []) more in
    let both = join-code signed_decimal IsReportInt signed-code [] x y (w ∷ xs) (z ∷ ys) (125 ∷ rest) (125 ∷ more) f short.0 short_too.0 short.1 short_too.1 refl refl refl refl in
    (both.0, tail_same both.1)

numbers-head : (xs : List ℤ) (rest : Text) (b : ℕ) (more : Text) → numbers_text_of xs ++ rest ≡ b ∷ more → AllByRecursion IsReportInt xs → (b ≤ 57) ⊎ (b ≡ 123)
numbers-head [] rest b more is short = inr (sym (head_same is))
numbers-head (x ∷ []) rest b more is short = inl (signed-head x rest b more short.0 is)
numbers-head (x ∷ y ∷ xs) rest b more is short = inr (sym (head_same is))

pub record IsGoodCell (cell : Cell) : Type 0 where
  pub has : HasAnyNumber cell
  pub numbers : IsReportCell cell

low-or-brace : (b : ℕ) → 58 ≤ b → b ≢ 123 → ((b ≤ 57) ⊎ (b ≡ 123)) → ⊥
low-or-brace b high other (inl low) = omega (arith, high, low)
low-or-brace b high other (inr is) = other is

cells-code : IsCode cell_text_of IsGoodCell
cells-code Null Null rest more is good good_too apart apart_too = (refl, same-front (codes "null") rest more is)
cells-code Null (Value ys) rest more is good good_too apart apart_too =
    absurd (low-or-brace 110 (omega arith) (λ e. omega (arith, e)) (numbers-head ys.items more 110 _ (sym is) (recursion_from_All IsReportInt ys.items good_too.numbers)))
cells-code (Value xs) Null rest more is good good_too apart apart_too =
    absurd (low-or-brace 110 (omega arith) (λ e. omega (arith, e)) (numbers-head xs.items rest 110 _ is (recursion_from_All IsReportInt xs.items good.numbers)))
cells-code (Value xs) (Value ys) rest more is good good_too apart apart_too =
    let both = numbers-same xs.items ys.items rest more is good.has good_too.has (recursion_from_All IsReportInt xs.items good.numbers)
    (recursion_from_All IsReportInt ys.items good_too.numbers) apart apart_too in
    ((λ i. Value (record { items = both.0 i })), both.1)

cell-head : (x : Cell) (rest : Text) (b : ℕ) (more : Text) → cell_text_of x ++ rest ≡ b ∷ more → IsGoodCell x → b ≢ 110 → 58 ≤ b → b ≢ 123 → ⊥
cell-head Null rest b more is good other high no_brace = other (sym (head_same is))
cell-head (Value xs) rest b more is good other high no_brace =
    low-or-brace b high no_brace (numbers-head xs.items rest b more is (recursion_from_All IsReportInt xs.items good.numbers))

-- cells, each behind a blank, up to the line's end
abbrev spaced : List Cell → Text
spaced cells = flat_map (λ cell. codes " " ++ cell_text_of cell) cells

regroup : (a b c d : Text) → (((a ++ b) ++ c) ++ d) ≡ (a ++ (b ++ (c ++ d)))
regroup a b c d = append_assoc (a ++ b) c d ∙ append_assoc a b (c ++ d)

spaced-apart : (xs : List Cell) (rest : Text) → IsApart (spaced xs ++ (10 ∷ rest))
spaced-apart [] rest = refl
spaced-apart (x ∷ xs) rest = refl

spaced-code : (xs ys : List Cell) (rest more : Text) → spaced xs ++ (10 ∷ rest) ≡ spaced ys ++ (10 ∷ more) → AllByRecursion IsGoodCell xs → AllByRecursion IsGoodCell ys
    → (xs ≡ ys) × (rest ≡ more)
spaced-code [] [] rest more is good good_too = (refl, tail_same is)
spaced-code [] (y ∷ ys) rest more is good good_too = absurd (omega (arith, head_same is))
spaced-code (x ∷ xs) [] rest more is good good_too = absurd (omega (arith, head_same is))
spaced-code (x ∷ xs) (y ∷ ys) rest more is good good_too =
    let e : (codes " " ++ (cell_text_of x ++ (spaced xs ++ (10 ∷ rest)))) ≡ (codes " " ++ (cell_text_of y ++ (spaced ys ++ (10 ∷ more)))) =
    sym (regroup (codes " ") (cell_text_of x) (spaced xs) (10 ∷ rest)) ∙ is ∙ regroup (codes " ") (cell_text_of y) (spaced ys) (10 ∷ more) in
    let here = cells-code x y (spaced xs ++ (10 ∷ rest)) (spaced ys ++ (10 ∷ more)) (same-front (codes " ") _ _ e) good.0 good_too.0 (spaced-apart xs rest) (spaced-apart ys more) in
    let later = spaced-code xs ys rest more here.1 good.1 good_too.1 in
    ((λ i. here.0 i ∷ later.0 i), later.1)

good-cells : (cells : List Cell) → All HasAnyNumber cells → All IsReportCell cells → AllByRecursion IsGoodCell cells
good-cells cells has numbers =
    each_both HasAnyNumber IsReportCell IsGoodCell (λ cell h n. record { has = h; numbers = n }) cells (recursion_from_All HasAnyNumber cells has)
    (recursion_from_All IsReportCell cells numbers)

-- ---- rows

record IsGoodRow (row : RowReply) : Type 0 where
  has : RowHasText row
  numbers : IsReportRow row

rows-code : (x y : RowReply) (rest more : Text) → row_text_of x ++ (10 ∷ rest) ≡ row_text_of y ++ (10 ∷ more) → IsGoodRow x → IsGoodRow y → (x ≡ y) × (rest ≡ more)
rows-code (one_cell x) (one_cell y) rest more is good good_too =
    let both = cells-code x y (10 ∷ rest) (10 ∷ more) is (record { has = good.has; numbers = good.numbers }) (record { has = good_too.has; numbers = good_too.numbers }) refl refl in
    (ap one_cell both.0, tail_same both.1)
rows-code (one_domain x) (one_domain y) rest more is good good_too =
    let e = same-front (codes "sdom ") (box_text_of x ++ (10 ∷ rest)) (box_text_of y ++ (10 ∷ more))
    (sym (append_assoc (codes "sdom ") (box_text_of x) (10 ∷ rest)) ∙ is ∙ append_assoc (codes "sdom ") (box_text_of y) (10 ∷ more)) in
    let both = boxes-code x y (10 ∷ rest) (10 ∷ more) e (recursion_from_All IsGoodAxis x good.numbers) (recursion_from_All IsGoodAxis y good_too.numbers) in
    (ap one_domain both.0, tail_same both.1)
rows-code (all_cells x cs) (all_cells y ds) rest more is good good_too =
    let e : (box_text_of x ++ (spaced cs ++ (10 ∷ rest))) ≡ (box_text_of y ++ (spaced ds ++ (10 ∷ more))) =
    sym (append_assoc (box_text_of x) (spaced cs) (10 ∷ rest)) ∙ is ∙ append_assoc (box_text_of y) (spaced ds) (10 ∷ more) in
    let bounds = boxes-code x y (spaced cs ++ (10 ∷ rest)) (spaced ds ++ (10 ∷ more)) e (recursion_from_All IsGoodAxis x good.numbers.0)
    (recursion_from_All IsGoodAxis y good_too.numbers.0) in
    let all = spaced-code cs ds rest more bounds.1 (good-cells cs good.has good.numbers.1) (good-cells ds good_too.has good_too.numbers.1) in
    ((λ i. all_cells (bounds.0 i) (all.0 i)), all.1)
rows-code (one_cell x) (one_domain y) rest more is good good_too =
    absurd (cell-head x (10 ∷ rest) 115 _ is (record { has = good.has; numbers = good.numbers }) (λ e. omega (arith, e)) (omega arith) (λ e. omega (arith, e)))
rows-code (one_cell x) (all_cells y ds) rest more is good good_too =
    absurd (cell-head x (10 ∷ rest) 91 _ is (record { has = good.has; numbers = good.numbers }) (λ e. omega (arith, e)) (omega arith) (λ e. omega (arith, e)))
rows-code (one_domain x) (one_cell y) rest more is good good_too =
    absurd (cell-head y (10 ∷ more) 115 _ (sym is) (record { has = good_too.has; numbers = good_too.numbers }) (λ e. omega (arith, e)) (omega arith) (λ e. omega (arith, e)))
rows-code (all_cells x cs) (one_cell y) rest more is good good_too =
    absurd (cell-head y (10 ∷ more) 91 _ (sym is) (record { has = good_too.has; numbers = good_too.numbers }) (λ e. omega (arith, e)) (omega arith) (λ e. omega (arith, e)))
rows-code (one_domain x) (all_cells y ds) rest more is good good_too = absurd (omega (arith, head_same is))
rows-code (all_cells x cs) (one_domain y) rest more is good good_too = absurd (omega (arith, head_same is))

abbrev row_lines : List RowReply → Text
row_lines rows = flat_map (λ row. codes "\nrow " ++ row_text_of row) rows

row_lines-apart : (xs : List RowReply) (rest : Text) → IsApart (row_lines xs ++ (10 ∷ rest))
row_lines-apart [] rest = refl
row_lines-apart (x ∷ xs) rest = refl

-- what follows the first line feed
record IsLineFeed (text : Text) : Type 0 where
  behind : Text
  is : text ≡ 10 ∷ behind

line-feed : (xs : List RowReply) (rest : Text) → IsLineFeed (row_lines xs ++ (10 ∷ rest))
line-feed [] rest = record { behind = rest; is = refl }
line-feed (x ∷ xs) rest = record {
  behind = codes "row " ++ (row_text_of x ++ (row_lines xs ++ (10 ∷ rest)));
  is = regroup (codes "\nrow ") (row_text_of x) (row_lines xs) (10 ∷ rest);
}

row_lines-code : (xs ys : List RowReply) (rest more : Text) → length xs ≡ length ys → row_lines xs ++ (10 ∷ rest) ≡ row_lines ys ++ (10 ∷ more) → AllByRecursion IsGoodRow xs
    → AllByRecursion IsGoodRow ys → (xs ≡ ys) × (rest ≡ more)
row_lines-code [] [] rest more many is good good_too = (refl, tail_same is)
row_lines-code [] (y ∷ ys) rest more many is good good_too = absurd (omega (arith, many))
row_lines-code (x ∷ xs) [] rest more many is good good_too = absurd (omega (arith, many))
row_lines-code (x ∷ xs) (y ∷ ys) rest more many is good good_too =
    let e : (codes "\nrow " ++ (row_text_of x ++ (row_lines xs ++ (10 ∷ rest)))) ≡ (codes "\nrow " ++ (row_text_of y ++ (row_lines ys ++ (10 ∷ more)))) =
    sym (regroup (codes "\nrow ") (row_text_of x) (row_lines xs) (10 ∷ rest)) ∙ is ∙ regroup (codes "\nrow ") (row_text_of y) (row_lines ys) (10 ∷ more) in
    let p = line-feed xs rest in
    let q = line-feed ys more in
    let f : (row_text_of x ++ (10 ∷ p.behind)) ≡ (row_text_of y ++ (10 ∷ q.behind)) =
    ap (λ t. row_text_of x ++ t) (sym p.is) ∙ same-front (codes "\nrow ") _ _ e ∙ ap (λ t. row_text_of y ++ t) q.is in
    let here = rows-code x y p.behind q.behind f good.0 good_too.0 in
    let fewer : length xs ≡ length ys = omega (arith, many) in
    let later = row_lines-code xs ys rest more fewer (p.is ∙ ap (λ t. 10 ∷ t) here.1 ∙ sym q.is) good.1 good_too.1 in
    ((λ i. here.0 i ∷ later.0 i), later.1)

-- ---- replies

pub record IsGoodReply (reply : Reply) : Type 0 where
  pub has : ReplyHasText reply
  pub numbers : IsReportReply reply

good-rows : (rows : List RowReply) → All RowHasText rows → All IsReportRow rows → AllByRecursion IsGoodRow rows
good-rows rows has numbers =
    each_both RowHasText IsReportRow IsGoodRow (λ row h n. record { has = h; numbers = n }) rows (recursion_from_All RowHasText rows has) (recursion_from_All IsReportRow rows numbers)

pub replies-code : (x y : Reply) (rest more : Text) → reply_text_of x ++ (10 ∷ rest) ≡ reply_text_of y ++ (10 ∷ more) → IsGoodReply x → IsGoodReply y → (x ≡ y) × (rest ≡ more)
replies-code (values xs) (values ys) rest more is good good_too =
    let parts = codes "value " ∷ decimal (length xs) ∷ row_lines xs ∷ [] in
    let others = codes "value " ∷ decimal (length ys) ∷ row_lines ys ∷ [] in
    let e : then_all parts (10 ∷ rest) ≡ then_all others (10 ∷ more) = sym (concat-then parts (10 ∷ rest)) ∙ is ∙ concat-then others (10 ∷ more) in
    let n = number-code (length xs) (length ys) (row_lines xs ++ (10 ∷ rest)) (row_lines ys ++ (10 ∷ more)) (same-front (codes "value ") _ _ e) good.numbers.0 good_too.numbers.0
    (row_lines-apart xs rest) (row_lines-apart ys more) in
    let all = row_lines-code xs ys rest more n.0 n.1 (good-rows xs good.has good.numbers.1) (good-rows ys good_too.has good_too.numbers.1) in
    (ap values all.0, all.1)
replies-code (done m) (done n) rest more is good good_too =
    let e = same-front (codes "done ") (decimal m ++ (10 ∷ rest)) (decimal n ++ (10 ∷ more))
    (sym (append_assoc (codes "done ") (decimal m) (10 ∷ rest)) ∙ is ∙ append_assoc (codes "done ") (decimal n) (10 ∷ more)) in
    let both = number-code m n (10 ∷ rest) (10 ∷ more) e good.numbers good_too.numbers refl refl in
    (ap done both.0, tail_same both.1)
replies-code (faulty m p f) (faulty n q g) rest more is good good_too =
    let parts = codes "fault " ∷ cell_fault_word f ∷ codes " row " ∷ decimal m ∷ codes " at " ∷ point_text_of p ∷ [] in
    let others = codes "fault " ∷ cell_fault_word g ∷ codes " row " ∷ decimal n ∷ codes " at " ∷ point_text_of q ∷ [] in
    let e : then_all parts (10 ∷ rest) ≡ then_all others (10 ∷ more) = sym (concat-then parts (10 ∷ rest)) ∙ is ∙ concat-then others (10 ∷ more) in
    let w = words-code (cell_fault_word f) (cell_fault_word g) (codes " row " ++ (decimal m ++ (codes " at " ++ (point_text_of p ++ (10 ∷ rest)))))
    (codes " row " ++ (decimal n ++ (codes " at " ++ (point_text_of q ++ (10 ∷ more))))) (same-front (codes "fault ") _ _ e) (cell-word f) (cell-word g) refl refl in
    let r = number-code m n (codes " at " ++ (point_text_of p ++ (10 ∷ rest))) (codes " at " ++ (point_text_of q ++ (10 ∷ more))) (same-front (codes " row ") _ _ w.1) good.numbers.0
    good_too.numbers.0 refl refl in
    let z = point-code p q (10 ∷ rest) (10 ∷ more) (same-front (codes " at ") _ _ r.1) (recursion_from_All IsReportInt p good.numbers.1) (recursion_from_All IsReportInt q good_too.numbers.1) in
    let same = cell-same f g w.0 in
    ((λ i. faulty (r.0 i) (z.0 i) (same i)), tail_same z.1)
replies-code (misfit m s f) (misfit n t g) rest more is good good_too =
    let parts = codes "shape " ∷ shape_fault_word f ∷ codes " row " ∷ decimal m ∷ codes " " ∷ span_text s ∷ [] in
    let others = codes "shape " ∷ shape_fault_word g ∷ codes " row " ∷ decimal n ∷ codes " " ∷ span_text t ∷ [] in
    let e : then_all parts (10 ∷ rest) ≡ then_all others (10 ∷ more) = sym (concat-then parts (10 ∷ rest)) ∙ is ∙ concat-then others (10 ∷ more) in
    let w = words-code (shape_fault_word f) (shape_fault_word g) (codes " row " ++ (decimal m ++ (codes " " ++ (span_text s ++ (10 ∷ rest)))))
    (codes " row " ++ (decimal n ++ (codes " " ++ (span_text t ++ (10 ∷ more))))) (same-front (codes "shape ") _ _ e) (shape-word f) (shape-word g) refl refl in
    let r = number-code m n (codes " " ++ (span_text s ++ (10 ∷ rest))) (codes " " ++ (span_text t ++ (10 ∷ more))) (same-front (codes " row ") _ _ w.1) good.numbers.0 good_too.numbers.0
    refl refl in
    let z = spans-code s t (10 ∷ rest) (10 ∷ more) (same-front (codes " ") _ _ r.1) good.numbers.1 good_too.numbers.1 refl refl in
    let same = shape-same f g w.0 in
    ((λ i. misfit (r.0 i) (z.0 i) (same i)), tail_same z.1)
replies-code (unchecked s f) (unchecked t g) rest more is good good_too =
    let parts = codes "check " ∷ check_fault_word f ∷ codes " " ∷ span_text s ∷ [] in
    let others = codes "check " ∷ check_fault_word g ∷ codes " " ∷ span_text t ∷ [] in
    let e : then_all parts (10 ∷ rest) ≡ then_all others (10 ∷ more) = sym (concat-then parts (10 ∷ rest)) ∙ is ∙ concat-then others (10 ∷ more) in
    let w = words-code (check_fault_word f) (check_fault_word g) (codes " " ++ (span_text s ++ (10 ∷ rest))) (codes " " ++ (span_text t ++ (10 ∷ more))) (same-front (codes "check ") _ _ e)
    (check-word f) (check-word g) refl refl in
    let z = spans-code s t (10 ∷ rest) (10 ∷ more) (same-front (codes " ") _ _ w.1) good.numbers good_too.numbers refl refl in
    let same = check-same f g w.0 in
    ((λ i. unchecked (z.0 i) (same i)), tail_same z.1)
replies-code (values xs) (done n) rest more is good good_too = absurd (omega (arith, head_same is))
replies-code (values xs) (faulty n q g) rest more is good good_too = absurd (omega (arith, head_same is))
replies-code (values xs) (misfit n t g) rest more is good good_too = absurd (omega (arith, head_same is))
replies-code (values xs) (unchecked t g) rest more is good good_too = absurd (omega (arith, head_same is))
replies-code (done m) (values ys) rest more is good good_too = absurd (omega (arith, head_same is))
replies-code (done m) (faulty n q g) rest more is good good_too = absurd (omega (arith, head_same is))
replies-code (done m) (misfit n t g) rest more is good good_too = absurd (omega (arith, head_same is))
replies-code (done m) (unchecked t g) rest more is good good_too = absurd (omega (arith, head_same is))
replies-code (faulty m p f) (values ys) rest more is good good_too = absurd (omega (arith, head_same is))
replies-code (faulty m p f) (done n) rest more is good good_too = absurd (omega (arith, head_same is))
replies-code (faulty m p f) (misfit n t g) rest more is good good_too = absurd (omega (arith, head_same is))
replies-code (faulty m p f) (unchecked t g) rest more is good good_too = absurd (omega (arith, head_same is))
replies-code (misfit m s f) (values ys) rest more is good good_too = absurd (omega (arith, head_same is))
replies-code (misfit m s f) (done n) rest more is good good_too = absurd (omega (arith, head_same is))
replies-code (misfit m s f) (faulty n q g) rest more is good good_too = absurd (omega (arith, head_same is))
replies-code (misfit m s f) (unchecked t g) rest more is good good_too = absurd (omega (arith, head_same is))
replies-code (unchecked s f) (values ys) rest more is good good_too = absurd (omega (arith, head_same is))
replies-code (unchecked s f) (done n) rest more is good good_too = absurd (omega (arith, head_same is))
replies-code (unchecked s f) (faulty n q g) rest more is good good_too = absurd (omega (arith, head_same is))
replies-code (unchecked s f) (misfit n t g) rest more is good good_too = absurd (omega (arith, head_same is))
