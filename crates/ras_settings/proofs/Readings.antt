-- A text reads as a schedule byte by byte just where it is one, and reading stops at the first byte at which no
-- schedule goes on so.
use Rattle.ras_settings.proofs.Booleans.{both}
use Rattle.std.proofs.Common.{◌≡◌, ◌∙◌, ◌&&◌, ◌==◌, ◌<◌, ◌≤◌, ◌+◌, ◌-◌, ◌*◌, ◌/◌, ◌%◌, ◌^◌, ℕ, Bool, true, false, cond, refl, sym, ap, ap₂, subst, map, List, [], ◌∷◌, ◌++◌, length, take, drop, get_or, inl, inr, Option, Some, None, codes, true≢false, ne_eqb, append_assoc, append-nil, zero-add, arith, nat_le, nat_lt}
use Rattle.std.specs.Prelude.{is_some, option_map, option_and_then}
use Rattle.std.specs.List.{AllByRecursion, flat_map}
use Rattle.std.specs.Fmt.{decimal}
use Rattle.std.proofs.lemmas.Bool.{cases_lt, eqb-true, leb-true, le-leb, lt-ltb, ltb-true}
use Rattle.std.proofs.lemmas.List.{length-append, map-append, take_more, take-append-drop, take-take, take_all}
use Rattle.std.proofs.lemmas.List.Sums.{sum_by-append, sum_by-cons}
use Rattle.std.proofs.lemmas.Grind.{flat_map-append}
use Rattle.std.proofs.lemmas.Fmt.{length-decimal-le, decimal_digit, decimal_step, decimal_by_steps}
use Rattle.ras_settings.specs.declared.TheConstants.{MAX_SESSION, MAX_STEPS}
use Rattle.ras_settings.specs.declared.schedule.Progress.{Progress}
use Rattle.ras_settings.specs.declared.schedule.Progress.TheVariants.{Begun, Session, Marked, Steps}
use Rattle.ras_settings.specs.Schedule.{BreaksAt, GoesOn, IsSchedule, IsTurn, Item, ScheduleText, Turns, alone, item_text, repeated, schedule_text, steps_of, turn_of}
use Rattle.ras_settings.specs.Reading.{Reading, after_item, grown, longer, read_from, start, stepped, turn_at, turns_at}

none≢some : {X : Type 0} (x : X) → None ≡ Some x → ⊥
none≢some x e = true≢false (sym (ap is_some e))

-- ---- one digit more

pub record IsLonger (number byte most next : ℕ) : Type 0 where
  pub low : 48 ≤ byte
  pub high : byte ≤ 57
  pub is : next ≡ 10 * number + (byte - 48)
  pub some : 1 ≤ next
  pub within : next ≤ most

longer-from : (number byte most next : ℕ) → longer number byte most ≡ Some next → IsLonger number byte most next
longer-from number byte most next e =
    let value = 10 * number + (byte - 48) in
    let test = nat_le 48 byte && (nat_le byte 57 && (nat_le 1 value && nat_le value most)) in
    go test refl e
  where
    go : (b : Bool) → (nat_le 48 byte && (nat_le byte 57 && (nat_le 1 (10 * number + (byte - 48)) && nat_le (10 * number + (byte - 48)) most))) ≡ b
        → cond b (Some (10 * number + (byte - 48))) None ≡ Some next → IsLonger number byte most next
    go false t e = absurd (none≢some next e)
    go true t e =
        let first = both (nat_le 48 byte) _ t in
        let second = both (nat_le byte 57) _ first.1 in
        let third = both (nat_le 1 (10 * number + (byte - 48))) _ second.1 in
        let same : 10 * number + (byte - 48) ≡ next = cc in
        record {
          low = leb-true 48 byte first.0;
          high = leb-true byte 57 second.0;
          is = sym same;
          some = subst (λ n. 1 ≤ n) same (leb-true 1 _ third.0);
          within = subst (λ n. n ≤ most) same (leb-true _ most third.1);
        }

longer-to : (number byte most next : ℕ) → IsLonger number byte most next → longer number byte most ≡ Some next
longer-to number byte most next h =
    let low : nat_le 48 byte ≡ true = le-leb 48 byte h.low in
    let high : nat_le byte 57 ≡ true = le-leb byte 57 h.high in
    let some : nat_le 1 (10 * number + (byte - 48)) ≡ true = le-leb 1 _ (subst (λ n. 1 ≤ n) h.is h.some) in
    let within : nat_le (10 * number + (byte - 48)) most ≡ true = le-leb _ most (subst (λ n. n ≤ most) h.is h.within) in
    rw (low, high, some, within) (ap Some (sym h.is))

-- the number's text is as much longer
decimal_longer : (number byte most next : ℕ) → 1 ≤ number → most < 2 ^ 64 → IsLonger number byte most next → decimal next ≡ decimal number ++ byte ∷ []
decimal_longer number byte most next some small h =
    let low = h.low in
    let high = h.high in
    let is = h.is in
    let within = h.within in
    let ten : 10 ≤ next = omega arith in
    let quotient : next / 10 ≡ number = omega arith in
    let rest : 48 + next % 10 ≡ byte = omega arith in
    decimal_step next ten (omega arith) ∙ ap₂ (λ n b. decimal n ++ b ∷ []) quotient rest

decimal_first : (byte most next : ℕ) → IsLonger 0 byte most next → decimal next ≡ byte ∷ []
decimal_first byte most next h =
    let low = h.low in
    let high = h.high in
    let is = h.is in
    let rest : 48 + next ≡ byte = omega arith in
    decimal_digit next (omega arith) ∙ ap (λ b. b ∷ []) rest

-- ---- a beginning that is read

abbrev ended : Item → ScheduleText
ended item = item_text item ++ codes ","

abbrev part_text : Progress → ScheduleText
part_text Begun = []
part_text (Session session) = decimal session
part_text (Marked session) = decimal session ++ codes "x"
part_text (Steps session steps) = decimal session ++ codes "x" ++ decimal steps

abbrev PartFits : ℕ → Progress → Type 0
PartFits left Begun = Unit {0}
PartFits left (Session session) = (1 ≤ session) × (session ≤ MAX_SESSION)
PartFits left (Marked session) = (1 ≤ session) × (session ≤ MAX_SESSION)
PartFits left (Steps session steps) = (1 ≤ session) × (session ≤ MAX_SESSION) × (1 ≤ steps) × (steps ≤ left)

-- the text is items, each ended, and a part of one
pub record SoFar (text : ScheduleText) (r : Reading) : Type 0 where
  pub items : List Item
  pub written : text ≡ flat_map ended items ++ part_text r.progress
  pub meant : r.turns ≡ map turn_of items
  pub in_range : AllByRecursion IsTurn r.turns
  pub counted : steps_of r.turns + r.left ≡ MAX_STEPS
  pub room : 1 ≤ r.left
  pub fits : PartFits r.left r.progress

all-last : {X : Type 0} (P : X → Type 0) (xs : List X) (x : X) → AllByRecursion P xs → P x → AllByRecursion P (xs ++ x ∷ [])
all-last P [] x all last = (last, tt)
all-last P (y ∷ ys) x all last = (all.0, all-last P ys x all.1 last)

steps-last : (turns : Turns) (turn : ℕ × ℕ) → steps_of (turns ++ turn ∷ []) ≡ steps_of turns + turn.1
steps-last turns turn = sum_by-append (λ t. t.1) turns (turn ∷ []) ∙ ap (λ n. steps_of turns + n) (zero-add turn.1)

comma : (text : ScheduleText) (r next : Reading) (item : Item) → SoFar text r → part_text r.progress ≡ item_text item → IsTurn (turn_of item)
    → after_item r (Some (turn_of item)) ≡ Some next → SoFar (text ++ 44 ∷ []) next
comma text r next item so part turn e = go (nat_lt (turn_of item).1 r.left) refl e
  where
    after : Reading
    after = record { turns = r.turns ++ turn_of item ∷ []; left = r.left - (turn_of item).1; progress = Begun }

    written : text ++ 44 ∷ [] ≡ flat_map ended (so.items ++ item ∷ []) ++ []
    written = ap (λ t. t ++ 44 ∷ []) (so.written ∙ ap (λ p. flat_map ended so.items ++ p) part)
        ∙ append_assoc (flat_map ended so.items) (item_text item) (44 ∷ [])
        ∙ ap (λ t. flat_map ended so.items ++ t) (sym (append-nil (ended item)))
        ∙ sym (flat_map-append ended so.items (item ∷ [])) ∙ sym (append-nil _)

    go : (b : Bool) → nat_lt (turn_of item).1 r.left ≡ b
        → cond b (Some (record { turns = r.turns ++ turn_of item ∷ []; left = r.left - (turn_of item).1; progress = Begun })) None ≡ Some next
        → SoFar (text ++ 44 ∷ []) next
    go false t e = absurd (none≢some next e)
    go true t e =
        let less : (turn_of item).1 < r.left = ltb-true _ _ t in
        let counted = so.counted in
        let more = steps-last r.turns (turn_of item) in
        let same : after ≡ next = cc in
        subst (SoFar (text ++ 44 ∷ [])) same (record {
          items = so.items ++ item ∷ [];
          written = written;
          meant = ap (λ ts. ts ++ turn_of item ∷ []) so.meant ∙ sym (map-append turn_of so.items (item ∷ []));
          in_range = all-last IsTurn r.turns (turn_of item) so.in_range turn;
          counted = omega arith;
          room = omega arith;
          fits = tt;
        })

some-of : {X : Type 0} (f : ℕ → X) (o : Option ℕ) (x : X) → option_map f o ≡ Some x → (n : ℕ) × (o ≡ Some n) × (f n ≡ x)
some-of f None x e = absurd (none≢some x e)
some-of f (Some n) x e = (n, refl, cc)

grown-sound : (left : ℕ) (p next : Progress) (byte : ℕ) → left ≤ MAX_STEPS → PartFits left p → grown left p byte ≡ Some next
    → (part_text next ≡ part_text p ++ byte ∷ []) × PartFits left next
grown-sound left Begun next byte small fits e =
    let got = some-of Session (longer 0 byte MAX_SESSION) next e in
    let is = longer-from 0 byte MAX_SESSION got.0 got.1 in
    subst (λ p. (part_text p ≡ byte ∷ []) × PartFits left p) got.2 (decimal_first byte MAX_SESSION got.0 is, (is.some, is.within))
grown-sound left (Session session) next byte small fits e = go (byte == 120) refl e
  where
    go : (b : Bool) → (byte == 120) ≡ b → cond b (Some (Marked session)) (option_map Session (longer session byte MAX_SESSION)) ≡ Some next
        → (part_text next ≡ decimal session ++ byte ∷ []) × PartFits left next
    go true t e =
        let same : Marked session ≡ next = cc in
        subst (λ p. (part_text p ≡ decimal session ++ byte ∷ []) × PartFits left p) same (ap (λ b. decimal session ++ b ∷ []) (sym (eqb-true byte 120 t)), fits)
    go false t e =
        let got = some-of Session (longer session byte MAX_SESSION) next e in
        let is = longer-from session byte MAX_SESSION got.0 got.1 in
        subst (λ p. (part_text p ≡ decimal session ++ byte ∷ []) × PartFits left p) got.2
        (decimal_longer session byte MAX_SESSION got.0 fits.0 (omega arith) is, (is.some, is.within))
grown-sound left (Marked session) next byte small fits e =
    let got = some-of (Steps session) (longer 0 byte left) next e in
    let is = longer-from 0 byte left got.0 got.1 in
    subst (λ p. (part_text p ≡ (decimal session ++ codes "x") ++ byte ∷ []) × PartFits left p) got.2
    (ap (λ t. decimal session ++ codes "x" ++ t) (decimal_first byte left got.0 is), (fits.0, fits.1, is.some, is.within))
grown-sound left (Steps session steps) next byte small fits e =
    let got = some-of (Steps session) (longer steps byte left) next e in
    let is = longer-from steps byte left got.0 got.1 in
    subst (λ p. (part_text p ≡ (decimal session ++ codes "x" ++ decimal steps) ++ byte ∷ []) × PartFits left p) got.2 (
      ap (λ t. decimal session ++ codes "x" ++ t) (decimal_longer steps byte left got.0 fits.2 (omega arith) is)
          ∙ sym (append_assoc (decimal session ++ codes "x") (decimal steps) (byte ∷ [])),
      (fits.0, fits.1, is.some, is.within),
    )

grow : (text : ScheduleText) (r : Reading) (next : Progress) (byte : ℕ) → SoFar text r → (part_text next ≡ part_text r.progress ++ byte ∷ []) × PartFits r.left next
    → SoFar (text ++ byte ∷ []) (record r { progress = next })
grow text r next byte so is = record {
  items = so.items;
  written = ap (λ t. t ++ byte ∷ []) so.written ∙ append_assoc (flat_map ended so.items) (part_text r.progress) (byte ∷ [])
      ∙ ap (λ t. flat_map ended so.items ++ t) (sym is.0);
  meant = so.meant;
  in_range = so.in_range;
  counted = so.counted;
  room = so.room;
  fits = is.1;
}

ends : (text : ScheduleText) (turns : Turns) (left : ℕ) (p : Progress) (next : Reading) → SoFar text (record { turns = turns; left = left; progress = p })
    → after_item (record { turns = turns; left = left; progress = p }) (turn_at p) ≡ Some next → SoFar (text ++ 44 ∷ []) next
ends text turns left Begun next so e = absurd (none≢some next e)
ends text turns left (Session session) next so e = comma text _ next (alone session) so refl (so.fits.0, so.fits.1, omega arith) e
ends text turns left (Marked session) next so e = absurd (none≢some next e)
ends text turns left (Steps session steps) next so e = comma text _ next (repeated session steps) so refl (so.fits.0, so.fits.1, so.fits.2) e

step-sound : (text : ScheduleText) (r next : Reading) (byte : ℕ) → SoFar text r → stepped r byte ≡ Some next → SoFar (text ++ byte ∷ []) next
step-sound text r next byte so e = go (byte == 44) refl e
  where
    go : (b : Bool) → (byte == 44) ≡ b → cond b (after_item r (turn_at r.progress)) (option_map (λ p. record r { progress = p }) (grown r.left r.progress byte)) ≡ Some next
        → SoFar (text ++ byte ∷ []) next
    go true t e = subst (λ b. SoFar (text ++ b ∷ []) next) (sym (eqb-true byte 44 t)) (ends text r.turns r.left r.progress next so e)
    go false t e = inner (grown r.left r.progress byte) refl e
      where
        inner : (o : Option Progress) → grown r.left r.progress byte ≡ o → option_map (λ p. record r { progress = p }) o ≡ Some next → SoFar (text ++ byte ∷ []) next
        inner None is e = absurd (none≢some next e)
        inner (Some p) is e =
            let counted = so.counted in
            let same : record r { progress = p } ≡ next = cc in
            subst (SoFar (text ++ byte ∷ [])) same (grow text r p byte so (grown-sound r.left r.progress p byte (omega arith) so.fits is))

read-sound : (text rest : ScheduleText) (r last : Reading) → SoFar text r → read_from r rest ≡ Some last → SoFar (text ++ rest) last
read-sound text [] r last so e =
    let same : r ≡ last = cc in
    subst (λ t. SoFar t last) (sym (append-nil text)) (subst (SoFar text) same so)
read-sound text (byte ∷ rest) r last so e =
    let one = next-of (stepped r byte) refl e in
    subst (λ t. SoFar t last) (append_assoc text (byte ∷ []) rest) (read-sound (text ++ byte ∷ []) rest one.0 last (step-sound text r one.0 byte so one.1) one.2)
  where
    next-of : (o : Option Reading) → stepped r byte ≡ o → option_and_then (λ next. read_from next rest) o ≡ Some last
        → (next : Reading) × (stepped r byte ≡ Some next) × (read_from next rest ≡ Some last)
    next-of None is e = absurd (none≢some last e)
    next-of (Some next) is e = (next, is, e)

pub so_far : (text : ScheduleText) (last : Reading) → read_from start text ≡ Some last → SoFar text last
so_far text last e = read-sound [] text start last (record { items = []; written = refl; meant = refl; in_range = tt; counted = refl; room = omega arith; fits = tt }) e

-- ---- what a beginning means

to_schedule : (items : List Item) (last : Item) → schedule_text (items ++ last ∷ []) ≡ flat_map ended items ++ item_text last
to_schedule [] last = append-nil (item_text last)
to_schedule (item ∷ items) last =
    ap (λ t. item_text item ++ t) (rest items) ∙ sym (append_assoc (item_text item) (codes ",") _) ∙ ap (λ t. ended item ++ t) (to_schedule items last)
    ∙ sym (append_assoc (ended item) (flat_map ended items) (item_text last))
  where
    rest : (xs : List Item) → flat_map (λ y. codes "," ++ item_text y) (xs ++ last ∷ []) ≡ codes "," ++ schedule_text (xs ++ last ∷ [])
    rest [] = refl
    rest (x ∷ xs) = refl

split-first : (items : List Item) (last : Item) → (first : Item) × (others : List Item) × (items ++ last ∷ [] ≡ first ∷ others)
split-first [] last = (last, [], refl)
split-first (item ∷ items) last = (item, items ++ last ∷ [], refl)

whole : (text : ScheduleText) (r : Reading) (item : Item) → SoFar text r → part_text r.progress ≡ item_text item → IsTurn (turn_of item) → (turn_of item).1 ≤ r.left
    → IsSchedule text (r.turns ++ turn_of item ∷ [])
whole text r item so part turn within =
    let parts = split-first so.items item in
    let counted = so.counted in
    let more = steps-last r.turns (turn_of item) in
    record {
      first = parts.0;
      others = parts.1;
      written = so.written ∙ ap (λ t. flat_map ended so.items ++ t) part ∙ sym (to_schedule so.items item) ∙ ap schedule_text parts.2;
      meant = ap (λ ts. ts ++ turn_of item ∷ []) so.meant ∙ sym (map-append turn_of so.items (item ∷ [])) ∙ ap (map turn_of) parts.2;
      in_range = all-last IsTurn r.turns (turn_of item) so.in_range turn;
      bounded = omega arith;
    }

whole-at : (text : ScheduleText) (turns result : Turns) (left : ℕ) (p : Progress) → SoFar text (record { turns = turns; left = left; progress = p })
    → turns_at (record { turns = turns; left = left; progress = p }) ≡ Some result → IsSchedule text result
whole-at text turns result left Begun so e = absurd (none≢some result e)
whole-at text turns result left (Session session) so e =
    let same : turns ++ (session, 1) ∷ [] ≡ result = cc in
    subst (IsSchedule text) same (whole text _ (alone session) so refl (so.fits.0, so.fits.1, omega arith) so.room)
whole-at text turns result left (Marked session) so e = absurd (none≢some result e)
whole-at text turns result left (Steps session steps) so e =
    let same : turns ++ (session, steps) ∷ [] ≡ result = cc in
    subst (IsSchedule text) same (whole text _ (repeated session steps) so refl (so.fits.0, so.fits.1, so.fits.2) so.fits.3)

-- a text that is read to its end is a schedule
pub schedule_from : (text : ScheduleText) (r : Reading) (turns : Turns) → read_from start text ≡ Some r → turns_at r ≡ Some turns → IsSchedule text turns
schedule_from text r turns e done = whole-at text r.turns turns r.left r.progress (so_far text r e) done

one-more : (text : ScheduleText) (r next : Reading) (turns : Turns) → SoFar text r → stepped r 49 ≡ Some next → turns_at next ≡ Some turns → GoesOn text
one-more text r next turns so e done = (49 ∷ [], turns, whole-at (text ++ 49 ∷ []) next.turns turns next.left next.progress (step-sound text r next 49 so e) done)

goes-at : (text : ScheduleText) (turns : Turns) (left : ℕ) (p : Progress) → SoFar text (record { turns = turns; left = left; progress = p }) → GoesOn text
goes-at text turns left Begun so = one-more text _ (record { turns = turns; left = left; progress = Session 1 }) (turns ++ (1, 1) ∷ []) so refl refl
goes-at text turns left (Marked session) so =
    let more : longer 0 49 left ≡ Some 1 = longer-to 0 49 left 1 (record { low = omega arith; high = omega arith; is = refl; some = omega arith; within = so.room }) in
    one-more text _ (record { turns = turns; left = left; progress = Steps session 1 }) (turns ++ (session, 1) ∷ []) so
    (ap (λ o. option_map (λ p. record { turns = turns; left = left; progress = p }) (option_map (Steps session) o)) more) refl
goes-at text turns left (Session session) so =
    ([], turns ++ (session, 1) ∷ [], subst (λ t. IsSchedule t (turns ++ (session, 1) ∷ [])) (sym (append-nil text)) (whole-at text turns _ left (Session session) so refl))
goes-at text turns left (Steps session steps) so =
    ([], turns ++ (session, steps) ∷ [], subst (λ t. IsSchedule t (turns ++ (session, steps) ∷ [])) (sym (append-nil text)) (whole-at text turns _ left (Steps session steps) so refl))

-- with a text that is read some schedule begins
pub goes_on : (text : ScheduleText) (r : Reading) → read_from start text ≡ Some r → GoesOn text
goes_on text r e = goes-at text r.turns r.left r.progress (so_far text r e)

-- ---- what a schedule reads as

read-append : (r : Reading) (xs ys : ScheduleText) → read_from r (xs ++ ys) ≡ option_and_then (λ next. read_from next ys) (read_from r xs)
read-append r [] ys = refl
read-append r (x ∷ xs) ys = go (stepped r x) (λ next. read-append next xs ys)
  where
    go : (o : Option Reading) → ((next : Reading) → read_from next (xs ++ ys) ≡ option_and_then (λ last. read_from last ys) (read_from next xs))
        → option_and_then (λ next. read_from next (xs ++ ys)) o ≡ option_and_then (λ next. read_from next ys) (option_and_then (λ next. read_from next xs) o)
    go None each = refl
    go (Some next) each = each next

then-read : (r middle : Reading) (xs ys : ScheduleText) → read_from r xs ≡ Some middle → read_from r (xs ++ ys) ≡ read_from middle ys
then-read r middle xs ys e = read-append r xs ys ∙ ap (option_and_then (λ next. read_from next ys)) e

abbrev at : Turns → ℕ → Progress → Reading
at turns left p = record { turns = turns; left = left; progress = p }

-- a number is read digit by digit, from nothing to its value
module _ (from : Reading) (to : ℕ → Reading) (most : ℕ) (small : most < 2 ^ 64)
    (first : (byte next : ℕ) → IsLonger 0 byte most next → stepped from byte ≡ Some (to next))
    (more : (n byte next : ℕ) → IsLonger n byte most next → stepped (to n) byte ≡ Some (to next)) where
  abbrev Digits : ℕ → ScheduleText → Type 0
  Digits n ds = 1 ≤ n → n ≤ most → read_from from ds ≡ Some (to n)

  reads-one : (n : ℕ) → n < 10 → Digits n ((48 + n) ∷ [])
  reads-one n digit some within =
      ap (option_and_then (λ next. Some next)) (first (48 + n) n (record { low = omega arith; high = omega arith; is = omega arith; some = some; within = within }))

  reads-more : (n : ℕ) (ds : ScheduleText) → 10 ≤ n → Digits (n / 10) ds → Digits n (ds ++ (48 + n % 10) ∷ [])
  reads-more n ds ten before some within =
      then-read from (to (n / 10)) ds ((48 + n % 10) ∷ []) (before (omega arith) (omega arith))
      ∙ ap (option_and_then (λ next. Some next)) (more (n / 10) (48 + n % 10) n (record { low = omega arith; high = omega arith; is = omega arith; some = some; within = within }))

  reads-number : (n : ℕ) → 1 ≤ n → n ≤ most → read_from from (decimal n) ≡ Some (to n)
  reads-number n some within = decimal_by_steps Digits reads-one reads-more n (omega arith) some within

-- a digit is neither `,` nor `x`
not_comma : (byte : ℕ) → 48 ≤ byte → byte ≤ 57 → (byte == 44) ≡ false
not_comma byte low high = ne_eqb byte 44 (λ e. omega arith)

not_x : (byte : ℕ) → 48 ≤ byte → byte ≤ 57 → (byte == 120) ≡ false
not_x byte low high = ne_eqb byte 120 (λ e. omega arith)

reads-session : (turns : Turns) (left session : ℕ) → 1 ≤ session → session ≤ MAX_SESSION
    → read_from (at turns left Begun) (decimal session) ≡ Some (at turns left (Session session))
reads-session turns left session some within =
    reads-number (at turns left Begun) (λ n. at turns left (Session n)) MAX_SESSION (omega arith)
    (λ byte next is. let comma_not : (byte == 44) ≡ false = not_comma byte is.low is.high in
    let got = longer-to 0 byte MAX_SESSION next is in rw comma_not (ap (λ o. option_map (at turns left) (option_map Session o)) got))
    (λ n byte next is. let comma_not : (byte == 44) ≡ false = not_comma byte is.low is.high in
    let x_not : (byte == 120) ≡ false = not_x byte is.low is.high in
    let got = longer-to n byte MAX_SESSION next is in rw (comma_not, x_not) (ap (λ o. option_map (at turns left) (option_map Session o)) got))
    session some within

reads-steps : (turns : Turns) (left session steps : ℕ) → left < 2 ^ 64 → 1 ≤ steps → steps ≤ left
    → read_from (at turns left (Marked session)) (decimal steps) ≡ Some (at turns left (Steps session steps))
reads-steps turns left session steps small some within =
    reads-number (at turns left (Marked session)) (λ n. at turns left (Steps session n)) left small
    (λ byte next is. let comma_not : (byte == 44) ≡ false = not_comma byte is.low is.high in
    let got = longer-to 0 byte left next is in rw comma_not (ap (λ o. option_map (at turns left) (option_map (Steps session) o)) got))
    (λ n byte next is. let comma_not : (byte == 44) ≡ false = not_comma byte is.low is.high in
    let got = longer-to n byte left next is in rw comma_not (ap (λ o. option_map (at turns left) (option_map (Steps session) o)) got))
    steps some within

abbrev progress_of : Item → Progress
progress_of (alone session) = Session session
progress_of (repeated session steps) = Steps session steps

reads-item : (turns : Turns) (left : ℕ) (item : Item) → left < 2 ^ 64 → IsTurn (turn_of item) → (turn_of item).1 ≤ left
    → read_from (at turns left Begun) (item_text item) ≡ Some (at turns left (progress_of item))
reads-item turns left (alone session) small turn within = reads-session turns left session turn.0 turn.1
reads-item turns left (repeated session steps) small turn within =
    let marked = then-read (at turns left Begun) (at turns left (Session session)) (decimal session) (codes "x") (reads-session turns left session turn.0 turn.1) in
    then-read (at turns left Begun) (at turns left (Marked session)) (decimal session ++ codes "x") (decimal steps) marked
    ∙ reads-steps turns left session steps small turn.2 within

ended-turn : (item : Item) → turn_at (progress_of item) ≡ Some (turn_of item)
ended-turn (alone session) = refl
ended-turn (repeated session steps) = refl

-- a reading that ends with these turns
abbrev EndsWith : Option Reading → Turns → Type 0
EndsWith o turns = (last : Reading) × (o ≡ Some last) × (turns_at last ≡ Some turns)

reads-others : (others : List Item) (turns : Turns) (left : ℕ) (item : Item) → left < 2 ^ 64 → AllByRecursion IsTurn (map turn_of others)
    → (turn_of item).1 + steps_of (map turn_of others) ≤ left
    → EndsWith (read_from (at turns left (progress_of item)) (flat_map (λ y. codes "," ++ item_text y) others)) (turns ++ map turn_of (item ∷ others))
reads-others [] turns left item small all within =
    (at turns left (progress_of item), refl, ap (option_map (λ turn. turns ++ turn ∷ [])) (ended-turn item))
reads-others (other ∷ others) turns left item small all within =
    let total = sum_by-cons (λ t. t.1) (turn_of other) (map turn_of others) in
    let some = all.0.2 in
    let less : (turn_of item).1 < left = omega arith in
    let goes : nat_lt (turn_of item).1 left ≡ true = lt-ltb _ _ less in
    let after : Reading = at (turns ++ turn_of item ∷ []) (left - (turn_of item).1) Begun in
    let comma_read : stepped (at turns left (progress_of item)) 44 ≡ Some after = ap (after_item (at turns left (progress_of item))) (ended-turn item) ∙ rw goes refl in
    let item_read = reads-item (turns ++ turn_of item ∷ []) (left - (turn_of item).1) other (omega arith) all.0 (omega arith) in
    let next = reads-others others (turns ++ turn_of item ∷ []) (left - (turn_of item).1) other (omega arith) all.1 (omega arith) in
    let text = flat_map (λ y. codes "," ++ item_text y) others in
    let read : read_from (at turns left (progress_of item)) ((codes "," ++ item_text other) ++ text) ≡ read_from
    (at (turns ++ turn_of item ∷ []) (left - (turn_of item).1) (progress_of other)) text =
    ap (option_and_then (λ r. read_from r (item_text other ++ text))) comma_read ∙ then-read after _ (item_text other) text item_read in
    (next.0, read ∙ next.1, next.2 ∙ ap Some (append_assoc turns (turn_of item ∷ []) (map turn_of (other ∷ others))))

-- a schedule is read to its end, with its turns
pub schedule_to : (text : ScheduleText) (turns : Turns) → IsSchedule text turns → EndsWith (read_from start text) turns
schedule_to text turns h =
    let all = subst (AllByRecursion IsTurn) h.meant h.in_range in
    let bounded = h.bounded in
    let total = ap steps_of h.meant ∙ sum_by-cons (λ t. t.1) (turn_of h.first) (map turn_of h.others) in
    let item_read = reads-item [] MAX_STEPS h.first (omega arith) all.0 (omega arith) in
    let others = reads-others h.others [] MAX_STEPS h.first (omega arith) all.1 (omega arith) in (
      others.0,
      ap (read_from start) h.written ∙ then-read start _ (item_text h.first) (flat_map (λ y. codes "," ++ item_text y) h.others) item_read ∙ others.1,
      others.2 ∙ ap Some (sym h.meant),
    )

-- ---- where reading stops

pub no_further : (text : ScheduleText) → read_from start text ≡ None → GoesOn text → ⊥
no_further text e (rest, turns, h) =
    let all = schedule_to (text ++ rest) turns h in
    none≢some all.0 (sym (read-append start text rest ∙ ap (option_and_then (λ next. read_from next rest)) e) ∙ all.1)

pub breaks_within : (text : ScheduleText) (place : ℕ) (r : Reading) → place < length text → read_from start (take place text) ≡ Some r
    → stepped r (get_or text place 0) ≡ None → BreaksAt text place
breaks_within text place r within e stops =
    let none : read_from start (take (place + 1) text) ≡ None =
    ap (read_from start) (take_more text place 0 within) ∙ then-read start r (take place text) (get_or text place 0 ∷ []) e
    ∙ ap (option_and_then (λ next. Some next)) stops in
    record {
      within = omega arith;
      before = goes_on (take place text) r e;
      broken = λ h. no_further (take (place + 1) text) none;
      no_schedule = λ turns h. no_further (take (place + 1) text) none
          (drop (place + 1) text, turns, subst (λ t. IsSchedule t turns) (sym (take-append-drop (place + 1) text)) h);
    }

pub breaks_at_end : (text : ScheduleText) (r : Reading) → read_from start text ≡ Some r → turn_at r.progress ≡ None → BreaksAt text (length text)
breaks_at_end text r e unfinished =
    let whole : take (length text) text ≡ text = take_all _ _ (omega arith) in
    record {
      within = omega arith;
      before = subst GoesOn (sym whole) (goes_on text r e);
      broken = λ h. absurd (omega (arith, h));
      no_schedule = λ turns h.
          let all = schedule_to text turns h in
          let same : r ≡ all.0 = cc (e, all.1) in
          none≢some turns (sym (ap (option_map (λ turn. r.turns ++ turn ∷ [])) unfinished) ∙ ap turns_at same ∙ all.2);
    }

-- ---- how long a beginning is

length-item : (item : Item) → IsTurn (turn_of item) → (turn_of item).1 ≤ MAX_STEPS → length (item_text item) ≤ 10
length-item (alone session) turn small =
    let within = turn.1 in
    omega (arith, length-decimal-le 2 session (omega arith) (omega arith) (omega arith))
length-item (repeated session steps) turn small =
    let within = turn.1 in
    omega (
      arith,
      length-append (decimal session ++ codes "x") (decimal steps),
      length-append (decimal session) (codes "x"),
      length-decimal-le 2 session (omega arith) (omega arith) (omega arith),
      length-decimal-le 7 steps (omega arith) (omega arith) (omega arith),
    )

length-items : (items : List Item) → AllByRecursion IsTurn (map turn_of items) → steps_of (map turn_of items) ≤ MAX_STEPS
    → length (flat_map ended items) ≤ 11 * steps_of (map turn_of items)
length-items [] all small = omega arith
length-items (item ∷ items) all small =
    let total = sum_by-cons (λ t. t.1) (turn_of item) (map turn_of items) in
    let some = all.0.2 in
    omega (
      arith,
      length-append (ended item) (flat_map ended items),
      length-append (item_text item) (codes ","),
      length-item item all.0 (omega arith),
      length-items items all.1 (omega arith),
    )

length-part : (left : ℕ) (p : Progress) → left ≤ MAX_STEPS → PartFits left p → length (part_text p) ≤ 10
length-part left Begun small fits = omega arith
length-part left (Session session) small fits = length-item (alone session) (fits.0, fits.1, omega arith) (omega arith)
length-part left (Marked session) small fits =
    let within = fits.1 in
    omega (arith, length-append (decimal session) (codes "x"), length-decimal-le 2 session (omega arith) (omega arith) (omega arith))
length-part left (Steps session steps) small fits =
    let within = fits.3 in
    length-item (repeated session steps) (fits.0, fits.1, fits.2) (omega arith)

pub short : (text : ScheduleText) (r : Reading) → read_from start text ≡ Some r → length text < 2 ^ 32
short text r e =
    let so = so_far text r e in
    let counted = so.counted in
    let meant = ap steps_of so.meant in
    let items = length-items so.items (subst (AllByRecursion IsTurn) so.meant so.in_range) (omega (arith, meant)) in
    omega (arith, meant, items, ap length so.written, length-append (flat_map ended so.items) (part_text r.progress), length-part r.left r.progress (omega arith) so.fits)

-- a text is a schedule in one way
pub same_turns : (text : ScheduleText) (a b : Turns) → IsSchedule text a → IsSchedule text b → a ≡ b
same_turns text a b one other =
    let first = schedule_to text a one in
    let second = schedule_to text b other in
    let last : first.0 ≡ second.0 = cc (first.1, second.1) in
    let some : Some a ≡ Some b = sym first.2 ∙ ap turns_at last ∙ second.2 in
    cc

-- a text breaks at one place
pub same_place : (text : ScheduleText) (a b : ℕ) → BreaksAt text a → BreaksAt text b → a ≡ b
same_place text a b one other = elim (cases_lt a b) [
  | inl less ↦ absurd (earlier a b one other less)
  | inr more ↦ elim (cases_lt b a) [
    | inl less ↦ absurd (earlier b a other one less)
    | inr less ↦ omega arith
  ]
]
  where
    earlier : (p q : ℕ) → BreaksAt text p → BreaksAt text q → p < q → ⊥
    earlier p q first second less =
        let within = second.within in
        let before = second.before in
        let split : take q text ≡ take (p + 1) text ++ drop (p + 1) (take q text) =
        sym (take-append-drop (p + 1) (take q text)) ∙ ap (λ t. t ++ drop (p + 1) (take q text)) (take-take (p + 1) q text (omega arith)) in
        first.broken (omega arith) (
          drop (p + 1) (take q text) ++ before.0,
          before.1,
          subst (λ t. IsSchedule t before.1) (ap (λ t. t ++ before.0) split ∙ append_assoc (take (p + 1) text) (drop (p + 1) (take q text)) before.0) before.2,
        )

-- one more byte
pub read_more : (text : ScheduleText) (place : ℕ) (r next : Reading) → place < length text → read_from start (take place text) ≡ Some r
    → stepped r (get_or text place 0) ≡ Some next → read_from start (take (place + 1) text) ≡ Some next
read_more text place r next within e step =
    ap (read_from start) (take_more text place 0 within) ∙ then-read start r (take place text) (get_or text place 0 ∷ []) e ∙ ap (option_and_then (λ next. Some next)) step
