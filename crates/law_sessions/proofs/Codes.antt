-- Texts that can be read back: from what a text begins with, and what follows it, both are known.
use Rattle.std.proofs.Common.{◌≡◌, ℕ, zero, suc, ◌<◌, ℤ, pos, negsuc, ◌^◌, ◌%◌, ◌+◌, Bool, true, false, ◌||◌, ◌==◌, List, [], ◌∷◌, ◌++◌, flat_map, length, refl, sym, ap, ◌∙◌, arith}
use Rattle.std.specs.Prelude.{codes, decimal}
use Rattle.std.specs.Fmt.{signed_decimal}
use Rattle.std.specs.List.{AllByRecursion, concat, join_by}
use Rattle.std.proofs.lemmas.Bool.{false≢true}
use Rattle.std.proofs.lemmas.Fmt.{decimal_by_steps, decimal_injective, decimal_nonempty, signed_decimal_injective}
use Rattle.std.proofs.lemmas.Int.{ints}
use lib.Signed.{mag}
use Rattle.std.proofs.lemmas.List.{append_assoc}
use Rattle.spec_grammar.specs.Tokens.{Text, continues_name, first_is}
use Rattle.spec_workloads.specs.Answers.{point_text_of}
use Rattle.law_lists.proofs.Each.{append_all}
use Rattle.law_sessions.specs.Numbers.{IsReportInt, IsReportNumber}

-- ---- pieces one after another

pub head_same : {X : Type 0} {x y : X} {xs ys : List X} → x ∷ xs ≡ y ∷ ys → x ≡ y
head_same is = cc

pub tail_same : {X : Type 0} {x y : X} {xs ys : List X} → x ∷ xs ≡ y ∷ ys → xs ≡ ys
tail_same is = cc

-- texts that begin alike go on alike
pub same-front : (front rest more : Text) → front ++ rest ≡ front ++ more → rest ≡ more
same-front [] rest more is = is
same-front (b ∷ front) rest more is = same-front front rest more (tail_same is)

abbrev pub then_all : List Text → Text → Text
then_all [] rest = rest
then_all (part ∷ parts) rest = part ++ then_all parts rest

pub concat-then : (parts : List Text) (rest : Text) → concat parts ++ rest ≡ then_all parts rest
concat-then [] rest = refl
concat-then (part ∷ parts) rest = append_assoc part (concat parts) rest ∙ ap (λ t. part ++ t) (concat-then parts rest)

-- ---- words

-- bytes of numbers and names
abbrev pub in_word : ℕ → Bool
in_word b = continues_name b || b == 45

abbrev pub IsWordText : Text → Type 0
IsWordText = AllByRecursion (λ b. in_word b ≡ true)

-- it doesn't go on with such a byte
abbrev pub IsApart : Text → Type 0
IsApart rest = first_is in_word rest ≡ false

pub word-code : (xs ys rest more : Text) → IsWordText xs → IsWordText ys → IsApart rest → IsApart more → xs ++ rest ≡ ys ++ more → (xs ≡ ys) × (rest ≡ more)
word-code [] [] rest more x y apart apart_too is = (refl, is)
word-code [] (b ∷ ys) rest more x y apart apart_too is = absurd (false≢true (sym apart ∙ ap (first_is in_word) is ∙ y.0))
word-code (a ∷ xs) [] rest more x y apart apart_too is = absurd (false≢true (sym apart_too ∙ ap (first_is in_word) (sym is) ∙ x.0))
word-code (a ∷ xs) (b ∷ ys) rest more x y apart apart_too is =
    let first : a ≡ b = head_same is in
    let later = word-code xs ys rest more x.1 y.1 apart apart_too (tail_same is) in
    ((λ i. first i ∷ later.0 i), later.1)

-- ---- numbers

digit-byte : (n : ℕ) → n < 10 → in_word (48 + n) ≡ true
digit-byte zero small = refl
digit-byte (suc zero) small = refl
digit-byte (suc (suc zero)) small = refl
digit-byte (suc (suc (suc zero))) small = refl
digit-byte (suc (suc (suc (suc zero)))) small = refl
digit-byte (suc (suc (suc (suc (suc zero))))) small = refl
digit-byte (suc (suc (suc (suc (suc (suc zero)))))) small = refl
digit-byte (suc (suc (suc (suc (suc (suc (suc zero))))))) small = refl
digit-byte (suc (suc (suc (suc (suc (suc (suc (suc zero)))))))) small = refl
digit-byte (suc (suc (suc (suc (suc (suc (suc (suc (suc zero))))))))) small = refl
digit-byte (suc (suc (suc (suc (suc (suc (suc (suc (suc (suc n)))))))))) small = absurd (omega (arith, small))

decimal-word : (n : ℕ) → n < 2 ^ 64 → IsWordText (decimal n)
decimal-word n small =
    decimal_by_steps (λ n ds. IsWordText ds) (λ n one. (digit-byte n one, tt))
    (λ n ds more all. append_all (λ b. in_word b ≡ true) ds ((48 + n % 10) ∷ []) all (digit-byte (n % 10) (omega arith), tt)) n small

pub short-word : (n : ℕ) → IsReportNumber n → IsWordText (decimal n)
short-word n small = decimal-word n (omega (arith, small))

pub number-code : (m n : ℕ) (rest more : Text) → decimal m ++ rest ≡ decimal n ++ more → IsReportNumber m → IsReportNumber n → IsApart rest → IsApart more → (m ≡ n) × (rest ≡ more)
number-code m n rest more is small small_too apart apart_too =
    let both = word-code (decimal m) (decimal n) rest more (short-word m small) (short-word n small_too) apart apart_too is in
    (decimal_injective m n (omega (arith, small)) (omega (arith, small_too)) both.0, both.1)

pub short-mag : (z : ℤ) → IsReportInt z → mag z < 2 ^ 63
short-mag (pos n) short = omega (arith, ints, short.1)
short-mag (negsuc n) short = omega (arith, ints, short.0)

signed-word : (z : ℤ) → IsReportInt z → IsWordText (signed_decimal z)
signed-word (pos n) short = decimal-word n (let h = short-mag (pos n) short in omega (arith, h))
signed-word (negsuc n) short = (refl, decimal-word (suc n) (let h = short-mag (negsuc n) short in omega (arith, h)))

pub signed-code : (z y : ℤ) (rest more : Text) → signed_decimal z ++ rest ≡ signed_decimal y ++ more → IsReportInt z → IsReportInt y → IsApart rest → IsApart more
    → (z ≡ y) × (rest ≡ more)
signed-code z y rest more is short short_too apart apart_too =
    let both = word-code (signed_decimal z) (signed_decimal y) rest more (signed-word z short) (signed-word y short_too) apart apart_too is in
    (signed_decimal_injective z y (short-mag z short) (short-mag y short_too) both.0, both.1)

pub signed-some : (z : ℤ) → IsReportInt z → [] ≡ signed_decimal z → ⊥
signed-some (pos n) short is =
    let h = short-mag (pos n) short in
    let some : 0 < length (decimal n) = decimal_nonempty n (omega (arith, h)) in
    let none : 0 ≡ length (decimal n) = ap length is in
    omega (arith, some, none)
signed-some (negsuc n) short is = cc

-- ---- lists with commas

abbrev IsNoComma : Text → Type 0
IsNoComma rest = first_is (λ b. b == 44) rest ≡ false

-- what a piece's text is read back as
abbrev pub IsCode : {A : Type 0} → (A → Text) → (A → Type 0) → Type 0
IsCode {A} f P = (x y : A) (rest more : Text) → f x ++ rest ≡ f y ++ more → P x → P y → IsApart rest → IsApart more → (x ≡ y) × (rest ≡ more)

regroup : (a b c d : Text) → (((a ++ b) ++ c) ++ d) ≡ (a ++ (b ++ (c ++ d)))
regroup a b c d = append_assoc (a ++ b) c d ∙ append_assoc a b (c ++ d)

module _ {A : Type 0} (f : A → Text) (P : A → Type 0) (code : IsCode f P) (sep : Text) where
  abbrev pub pieces : List A → Text
  pieces xs = flat_map (λ x. (44 ∷ sep) ++ f x) xs

  pub pieces-apart : (xs : List A) (rest : Text) → IsApart rest → IsApart (pieces xs ++ rest)
  pieces-apart [] rest apart = apart
  pieces-apart (x ∷ xs) rest apart = refl

  pieces-code : (xs ys : List A) (rest more : Text) → pieces xs ++ rest ≡ pieces ys ++ more → AllByRecursion P xs → AllByRecursion P ys → IsApart rest → IsApart more
      → IsNoComma rest → IsNoComma more → (xs ≡ ys) × (rest ≡ more)
  pieces-code [] [] rest more is all all_too apart apart_too none none_too = (refl, is)
  pieces-code [] (y ∷ ys) rest more is all all_too apart apart_too none none_too = absurd (false≢true (sym none ∙ ap (first_is (λ b. b == 44)) is))
  pieces-code (x ∷ xs) [] rest more is all all_too apart apart_too none none_too = absurd (false≢true (sym none_too ∙ ap (first_is (λ b. b == 44)) (sym is)))
  pieces-code (x ∷ xs) (y ∷ ys) rest more is all all_too apart apart_too none none_too =
      let e : ((44 ∷ sep) ++ (f x ++ (pieces xs ++ rest))) ≡ ((44 ∷ sep) ++ (f y ++ (pieces ys ++ more))) =
      sym (regroup (44 ∷ sep) (f x) (pieces xs) rest) ∙ is ∙ regroup (44 ∷ sep) (f y) (pieces ys) more in
      let here = code x y (pieces xs ++ rest) (pieces ys ++ more) (same-front (44 ∷ sep) _ _ e) all.0 all_too.0 (pieces-apart xs rest apart) (pieces-apart ys more apart_too) in
      let later = pieces-code xs ys rest more here.1 all.1 all_too.1 apart apart_too none none_too in
      ((λ i. here.0 i ∷ later.0 i), later.1)

  -- a list with an element
  pub join-code : (x y : A) (xs ys : List A) (rest more : Text) → join_by f (44 ∷ sep) (x ∷ xs) ++ rest ≡ join_by f (44 ∷ sep) (y ∷ ys) ++ more → P x → P y
      → AllByRecursion P xs → AllByRecursion P ys → IsApart rest → IsApart more → IsNoComma rest → IsNoComma more → (x ∷ xs ≡ y ∷ ys) × (rest ≡ more)
  join-code x y xs ys rest more is one two all all_too apart apart_too none none_too =
      let e : (f x ++ (pieces xs ++ rest)) ≡ (f y ++ (pieces ys ++ more)) = sym (append_assoc (f x) (pieces xs) rest) ∙ is ∙ append_assoc (f y) (pieces ys) more in
      let here = code x y (pieces xs ++ rest) (pieces ys ++ more) e one two (pieces-apart xs rest apart) (pieces-apart ys more apart_too) in
      let later = pieces-code xs ys rest more here.1 all all_too apart apart_too none none_too in
      ((λ i. here.0 i ∷ later.0 i), later.1)

-- ---- points

numbers-code : (zs ys : List ℤ) (rest more : Text) → join_by signed_decimal (codes ",") zs ++ 93 ∷ rest ≡ join_by signed_decimal (codes ",") ys ++ 93 ∷ more
    → AllByRecursion IsReportInt zs → AllByRecursion IsReportInt ys → (zs ≡ ys) × (rest ≡ more)
numbers-code [] [] rest more is short short_too = (refl, tail_same is)
numbers-code [] (y ∷ ys) rest more is short short_too =
    let T : Text = pieces signed_decimal IsReportInt signed-code [] ys in
    let e : (93 ∷ rest) ≡ (signed_decimal y ++ (T ++ 93 ∷ more)) = is ∙ append_assoc (signed_decimal y) T (93 ∷ more) in
    let apart : IsApart (T ++ 93 ∷ more) = pieces-apart signed_decimal IsReportInt signed-code [] ys (93 ∷ more) refl in
    absurd (signed-some y short_too.0 (word-code [] (signed_decimal y) (93 ∷ rest) (T ++ 93 ∷ more) tt (signed-word y short_too.0) refl apart e).0)
numbers-code (z ∷ zs) [] rest more is short short_too =
    let T : Text = pieces signed_decimal IsReportInt signed-code [] zs in
    let e : (93 ∷ more) ≡ (signed_decimal z ++ (T ++ 93 ∷ rest)) = sym is ∙ append_assoc (signed_decimal z) T (93 ∷ rest) in
    let apart : IsApart (T ++ 93 ∷ rest) = pieces-apart signed_decimal IsReportInt signed-code [] zs (93 ∷ rest) refl in
    absurd (signed-some z short.0 (word-code [] (signed_decimal z) (93 ∷ more) (T ++ 93 ∷ rest) tt (signed-word z short.0) refl apart e).0)
numbers-code (z ∷ zs) (y ∷ ys) rest more is short short_too =
    let both = join-code signed_decimal IsReportInt signed-code [] z y zs ys (93 ∷ rest) (93 ∷ more) is short.0 short_too.0 short.1 short_too.1 refl refl refl refl in
    (both.0, tail_same both.1)

pub point-code : (zs ys : List ℤ) (rest more : Text) → point_text_of zs ++ rest ≡ point_text_of ys ++ more → AllByRecursion IsReportInt zs
    → AllByRecursion IsReportInt ys → (zs ≡ ys) × (rest ≡ more)
point-code zs ys rest more is short short_too =
    let inner : (List ℤ → Text) = join_by signed_decimal (codes ",") in
    let e : ((inner zs ++ 93 ∷ []) ++ rest) ≡ ((inner ys ++ 93 ∷ []) ++ more) = tail_same is in
    numbers-code zs ys rest more (sym (append_assoc (inner zs) (93 ∷ []) rest) ∙ e ∙ append_assoc (inner ys) (93 ∷ []) more) short short_too
