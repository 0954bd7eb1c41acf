-- The form of words, as a test and as a relation; words have it in one way.
use Rattle.ras_settings.proofs.Booleans.{both, and_true, neither, none_of, negated}
use Rattle.std.proofs.Common.{◌≡◌, ◌≢◌, ◌∙◌, ◌&&◌, ◌||◌, ◌==◌, ℕ, Bool, true, false, not, refl, sym, ap, ap₂, subst, map, length, drop, ◌≤◌, ◌<◌, List, [], ◌∷◌, Option, Some, None, true≢false, ne_eqb, arith}
use Rattle.std.specs.Prelude.{is_some, cond, MatchOption}
use Rattle.std.specs.List.{flat_map, list_any, slice_index_or}
use Rattle.std.specs.Str.{bytes_eq}
use Rattle.std.proofs.lemmas.Slice.Eq.{bytes_eq-Decides}
use Rattle.std.proofs.lemmas.Bool.{eqb-false}
use Rattle.ras_settings.specs.declared.form.OptionName.{OptionName}
use Rattle.ras_settings.specs.declared.form.OptionName.TheVariants.{Workers, Schedule, Seed, Size}
use Rattle.ras_settings.specs.Form.{ArePairs, Given, HasForm, HasSomeForm, IsValue, are_pairs, is_option, is_same_option, is_value, option_word, pair_words, given_value}

same_words : (p q : OptionName) → bytes_eq (option_word p) (option_word q) ≡ is_same_option p q
same_words Workers Workers = refl
same_words Workers Schedule = refl
same_words Workers Seed = refl
same_words Workers Size = refl
same_words Schedule Workers = refl
same_words Schedule Schedule = refl
same_words Schedule Seed = refl
same_words Schedule Size = refl
same_words Seed Workers = refl
same_words Seed Schedule = refl
same_words Seed Seed = refl
same_words Seed Size = refl
same_words Size Workers = refl
same_words Size Schedule = refl
same_words Size Seed = refl
same_words Size Size = refl

same_name : (p q : OptionName) → is_same_option p q ≡ true → p ≡ q
same_name Workers Workers e = refl
same_name Workers Schedule e = absurd (true≢false (sym e))
same_name Workers Seed e = absurd (true≢false (sym e))
same_name Workers Size e = absurd (true≢false (sym e))
same_name Schedule Workers e = absurd (true≢false (sym e))
same_name Schedule Schedule e = refl
same_name Schedule Seed e = absurd (true≢false (sym e))
same_name Schedule Size e = absurd (true≢false (sym e))
same_name Seed Workers e = absurd (true≢false (sym e))
same_name Seed Schedule e = absurd (true≢false (sym e))
same_name Seed Seed e = refl
same_name Seed Size e = absurd (true≢false (sym e))
same_name Size Workers e = absurd (true≢false (sym e))
same_name Size Schedule e = absurd (true≢false (sym e))
same_name Size Seed e = absurd (true≢false (sym e))
same_name Size Size e = refl

word-injective : (p q : OptionName) → option_word p ≡ option_word q → p ≡ q
word-injective p q e = same_name p q (sym (same_words p q) ∙ (bytes_eq-Decides (option_word p) (option_word q)).1 e)

pub value_from : (word : List ℕ) → is_value word ≡ true → IsValue word
value_from [] e = absurd (true≢false (sym e))
value_from (first ∷ rest) e = eqb-false first 45 (negated (first == 45) e)

value_to : (word : List ℕ) → IsValue word → is_value word ≡ true
value_to [] h = absurd h
value_to (first ∷ rest) h = ap not (ne_eqb first 45 h)

option_from : (word : List ℕ) → is_option word ≡ true → (name : OptionName) × (word ≡ option_word name)
option_from word e = go (bytes_eq word (option_word Workers)) (bytes_eq word (option_word Schedule)) (bytes_eq word (option_word Seed)) (bytes_eq word (option_word Size)) refl refl refl refl e
  where
    go : (a b c d : Bool) → bytes_eq word (option_word Workers) ≡ a → bytes_eq word (option_word Schedule) ≡ b → bytes_eq word (option_word Seed) ≡ c
        → bytes_eq word (option_word Size) ≡ d → (a || (b || (c || d))) ≡ true → (name : OptionName) × (word ≡ option_word name)
    go true b c d ea eb ec ed e = (Workers, (bytes_eq-Decides word (option_word Workers)).0 ea)
    go false true c d ea eb ec ed e = (Schedule, (bytes_eq-Decides word (option_word Schedule)).0 eb)
    go false false true d ea eb ec ed e = (Seed, (bytes_eq-Decides word (option_word Seed)).0 ec)
    go false false false true ea eb ec ed e = (Size, (bytes_eq-Decides word (option_word Size)).0 ed)
    go false false false false ea eb ec ed e = absurd (true≢false (sym e))

pub option_to : (name : OptionName) → is_option (option_word name) ≡ true
option_to Workers = refl
option_to Schedule = refl
option_to Seed = refl
option_to Size = refl

-- the option's word is among the words of the pairs only where the option is given
absent : (name : OptionName) (given : Given) → list_any (λ word. bytes_eq word (option_word name)) (flat_map pair_words given) ≡ false → given_value name given ≡ None
absent name [] e = refl
absent name (pair ∷ rest) e =
    let first = neither (bytes_eq (option_word pair.0) (option_word name)) _ e in
    let second = neither (bytes_eq pair.1 (option_word name)) _ first.1 in
    let other : is_same_option pair.0 name ≡ false = sym (same_words pair.0 name) ∙ first.0 in
    rw other (absent name rest second.1)

no_option : (name : OptionName) (word : List ℕ) → IsValue word → bytes_eq word (option_word name) ≡ false
no_option name [] h = absurd h
no_option Workers (first ∷ rest) h = let ne : (first == 45) ≡ false = ne_eqb first 45 h in rw ne refl
no_option Schedule (first ∷ rest) h = let ne : (first == 45) ≡ false = ne_eqb first 45 h in rw ne refl
no_option Seed (first ∷ rest) h = let ne : (first == 45) ≡ false = ne_eqb first 45 h in rw ne refl
no_option Size (first ∷ rest) h = let ne : (first == 45) ≡ false = ne_eqb first 45 h in rw ne refl

pub not_given : (pair : OptionName × List ℕ) (rest : Given) (name : OptionName) → given_value name (pair ∷ rest) ≡ None → (is_same_option pair.0 name ≡ false) × (given_value name rest ≡ None)
not_given pair rest name none = go (is_same_option pair.0 name) refl none
  where
    go : (b : Bool) → is_same_option pair.0 name ≡ b → cond b (Some pair.1) (given_value name rest) ≡ None → (is_same_option pair.0 name ≡ false) × (given_value name rest ≡ None)
    go true e n = absurd (true≢false (ap is_some n))
    go false e n = (e, n)

missing : (name : OptionName) (given : Given) → ArePairs given → given_value name given ≡ None → list_any (λ word. bytes_eq word (option_word name)) (flat_map pair_words given) ≡ false
missing name [] pairs e = refl
missing name (pair ∷ rest) pairs e =
    let parts = not_given pair rest name e in
    none_of _ _ (same_words pair.0 name ∙ parts.0) (none_of _ _ (no_option name pair.1 pairs.0) (missing name rest pairs.2 parts.1))

pairs_from : (words : List (List ℕ)) → are_pairs words ≡ true → (given : Given) × (words ≡ flat_map pair_words given) × ArePairs given
pairs_from [] e = ([], refl, tt)
pairs_from (option ∷ []) e = absurd (true≢false (sym e))
pairs_from (option ∷ value ∷ rest) e =
    let first = both (is_option option) _ e in
    let second = both (is_value value) _ first.1 in
    let third = both (not (list_any (λ word. bytes_eq word option) rest)) _ second.1 in
    let name = option_from option first.0 in
    let others = pairs_from rest third.1 in
    let once : list_any (λ word. bytes_eq word (option_word name.0)) (flat_map pair_words others.0) ≡ false =
    ap₂ (λ word ws. list_any (λ w. bytes_eq w word) ws) (sym name.1) (sym others.1) ∙ negated _ third.0 in
    ((name.0, value) ∷ others.0, ap₂ (λ w ws. w ∷ value ∷ ws) name.1 others.1, (value_from value second.0, absent name.0 others.0 once, others.2))

pairs_to : (given : Given) → ArePairs given → are_pairs (flat_map pair_words given) ≡ true
pairs_to [] pairs = refl
pairs_to (pair ∷ rest) pairs =
    and_true _ _ (option_to pair.0) (and_true _ _ (value_to pair.1 pairs.0) (and_true _ _ (ap not (missing pair.0 rest pairs.2 pairs.1)) (pairs_to rest pairs.2)))

-- words have the form in one way
same_pairs : (p q : Given) → flat_map pair_words p ≡ flat_map pair_words q → p ≡ q
same_pairs [] [] e = refl
same_pairs [] (q ∷ qs) e = absurd (cc)
same_pairs (p ∷ ps) [] e = absurd (cc)
same_pairs (p ∷ ps) (q ∷ qs) e =
    let word : option_word p.0 ≡ option_word q.0 = cc in
    let value : p.1 ≡ q.1 = cc in
    let rest : flat_map pair_words ps ≡ flat_map pair_words qs = cc in
    let name = word-injective p.0 q.0 word in
    ap₂ (λ x xs. x ∷ xs) (λ i. (name i, value i)) (same_pairs ps qs rest)

pub same_form : (words : List (List ℕ)) (c d : List ℕ) (p q : Given) → HasForm words c p → HasForm words d q → (c ≡ d) × (p ≡ q)
same_form words c d p q one other =
    let whole : c ∷ flat_map pair_words p ≡ d ∷ flat_map pair_words q = sym one.in_order ∙ other.in_order in
    let pairs : flat_map pair_words p ≡ flat_map pair_words q = cc in
    (cc, same_pairs p q pairs)

pub form_from : (command : List ℕ) (words : List (List ℕ)) → IsValue command → are_pairs words ≡ true → HasSomeForm (command ∷ words)
form_from command words named e =
    let pairs = pairs_from words e in
    (command, pairs.0, record { in_order = ap (λ ws. command ∷ ws) pairs.1; named = named; pairs = pairs.2 })

pub form_to : (command : List ℕ) (words : List (List ℕ)) → HasSomeForm (command ∷ words) → IsValue command × (are_pairs words ≡ true)
form_to command words (name, given, form) =
    let whole : command ∷ words ≡ name ∷ flat_map pair_words given = form.in_order in
    let same : command ≡ name = cc in
    let rest : words ≡ flat_map pair_words given = cc in
    (subst IsValue (sym same) form.named, ap are_pairs rest ∙ pairs_to given form.pairs)

pub no_form : HasSomeForm [] → ⊥
no_form (name, given, form) = absurd (let e : [] ≡ name ∷ flat_map pair_words given = form.in_order in cc)

-- ---- what the code reads

no_option_named : (word : List ℕ) → ((name : OptionName) → word ≢ option_word name) → is_option word ≡ false
no_option_named word none = go (is_option word) refl
  where
    go : (b : Bool) → is_option word ≡ b → is_option word ≡ false
    go true e = absurd (none (option_from word e).0 (option_from word e).1)
    go false e = e

pub names_option : (word : List ℕ) (r : Option OptionName) → MatchOption r ((name : OptionName) → word ≢ option_word name) (λ name. word ≡ option_word name) → is_option word ≡ is_some r
names_option word None none = no_option_named word none
names_option word (Some name) is = ap is_option is ∙ option_to name

-- a list of two or more words
pub from_two : {X : Type 0} (f : X → List ℕ) (xs : List X) (a b : X) → 2 ≤ length xs → a ≡ slice_index_or xs 0 a → b ≡ slice_index_or xs 1 b
    → map f xs ≡ f a ∷ f b ∷ map f (drop 2 xs)
from_two f [] a b long at_a at_b = absurd (omega arith)
from_two f (x ∷ []) a b long at_a at_b = absurd (omega arith)
from_two f (x ∷ y ∷ zs) a b long at_a at_b = ap₂ (λ p q. f p ∷ f q ∷ map f zs) (sym at_a) (sym at_b)

pub from_one : {X : Type 0} (f : X → List ℕ) (xs : List X) (a : X) → 1 ≤ length xs → a ≡ slice_index_or xs 0 a → map f xs ≡ f a ∷ map f (drop 1 xs)
from_one f [] a long at_a = absurd (omega arith)
from_one f (x ∷ xs) a long at_a = ap (λ p. f p ∷ map f xs) (sym at_a)

pub any-map : {X : Type 0} (f : X → List ℕ) (word : List ℕ) (xs : List X) → list_any (λ x. bytes_eq (f x) word) xs ≡ list_any (λ w. bytes_eq w word) (map f xs)
any-map f word [] = refl
any-map f word (x ∷ xs) = ap (λ b. bytes_eq (f x) word || b) (any-map f word xs)

pub pairs_again : (option value : List ℕ) (rest : List (List ℕ)) → list_any (λ w. bytes_eq w option) rest ≡ true → are_pairs (option ∷ value ∷ rest) ≡ false
pairs_again option value rest again = rw again (go (is_option option) (is_value value))
  where
    go : (a b : Bool) → (a && (b && false)) ≡ false
    go true true = refl
    go true false = refl
    go false b = refl

pub pairs_on : (option value : List ℕ) (rest : List (List ℕ)) → (is_option option && is_value value) ≡ true → list_any (λ w. bytes_eq w option) rest ≡ false
    → are_pairs (option ∷ value ∷ rest) ≡ are_pairs rest
pairs_on option value rest pair once =
    let parts = both (is_option option) _ pair in
    rw (parts.0, parts.1, once) refl

pub one_left : {X : Type 0} (f : X → List ℕ) (xs : List X) → 1 ≤ length xs → length xs < 2 → are_pairs (map f xs) ≡ false
one_left f [] long short = absurd (omega arith)
one_left f (x ∷ []) long short = refl
one_left f (x ∷ y ∷ zs) long short = absurd (omega arith)
