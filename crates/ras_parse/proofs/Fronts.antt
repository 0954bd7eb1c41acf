-- The token that a text begins with, by its first byte.
use Rattle.std.proofs.Common.{◌≡◌, ℕ, ◌+◌, ◌-◌, ◌<◌, Bool, true, false, [], ◌∷◌, length, drop, take, get_or, refl, sym, ap, ap₂, ◌∙◌, arith, length-drop}
use Rattle.std.proofs.lemmas.List.{drop-drop, take_rest, get_or-drop}
use Rattle.std.specs.Prelude.{if◌then◌else◌, slice_range, take_while}
use Rattle.std.specs.List.{prefix_len}
use Rattle.std.proofs.lemmas.List.Folds.{length-prefix_len}
use Rattle.spec_grammar.specs.Tokens.{Text, is_digit, begins_name, continues_name, Found, name_at, number_at, token_at}

if_true : {A : Type 0} (b : Bool) (x y : A) → b ≡ true → (if b then x else y) ≡ x
if_true true x y e = refl
if_true false x y e = cc

if_false : {A : Type 0} (b : Bool) (x y : A) → b ≡ false → (if b then x else y) ≡ y
if_false true x y e = cc
if_false false x y e = refl

at_name : (place : ℕ) (text : Text) → 0 < length text → begins_name (get_or text 0 0) ≡ true
    → token_at place text ≡ name_at place (take_while continues_name text) (drop (length (take_while continues_name text)) text)
at_name place [] some e = absurd (omega arith)
at_name place (b ∷ bytes) some e = if_true (begins_name b) _ _ e

at_digit : (place : ℕ) (text : Text) → 0 < length text → begins_name (get_or text 0 0) ≡ false → is_digit (get_or text 0 0) ≡ true
    → token_at place text ≡ number_at place (take_while is_digit text) (drop (length (take_while is_digit text)) text)
at_digit place [] some e f = absurd (omega arith)
at_digit place (b ∷ bytes) some e f = if_false (begins_name b) _ _ e ∙ if_true (is_digit b) _ _ f

-- the bytes from a place to the end of what passes a test, and those behind them
parted : (p : ℕ → Bool) (at : Text → Text → Found) (text : Text) (from n : ℕ) → n ≡ prefix_len p (take (length text - from) (drop from text))
    → at (slice_range text from (from + n)) (drop (from + n) text)
    ≡ at (take_while p (drop from text)) (drop (length (take_while p (drop from text))) (drop from text))
parted p at text from n is =
    let rest : Text = drop from text in
    let e : n ≡ prefix_len p rest = is ∙ ap (prefix_len p) (take_rest text from) in
    let len : length (take_while p rest) ≡ n = length-prefix_len p rest ∙ sym e in
    let size : from + n - from ≡ prefix_len p rest = omega arith in
    let back : drop (length (take_while p rest)) rest ≡ drop (from + n) text = ap (λ k. drop k rest) len ∙ drop-drop n from text in
    ap₂ at (ap (λ k. take k rest) size) (sym back)

front : (text : Text) (from : ℕ) → get_or (drop from text) 0 0 ≡ get_or text from 0
front text from = get_or-drop from text 0 0 ∙ (let e : from + 0 ≡ from = omega arith in ap (λ k. get_or text k 0) e)

some_left : (text : Text) (from : ℕ) → from < length text → 0 < length (drop from text)
some_left text from h = let e = length-drop from text in omega arith

pub name_found : (text : Text) (from n : ℕ) → from < length text → begins_name (get_or text from 0) ≡ true
    → n ≡ prefix_len continues_name (take (length text - from) (drop from text))
    → name_at from (slice_range text from (from + n)) (drop (from + n) text) ≡ token_at from (drop from text)
name_found text from n h e is =
    parted continues_name (name_at from) text from n is
    ∙ sym (at_name from (drop from text) (some_left text from h) (ap begins_name (front text from) ∙ e))

pub number_found : (text : Text) (from n : ℕ) → from < length text → begins_name (get_or text from 0) ≡ false → is_digit (get_or text from 0) ≡ true
    → n ≡ prefix_len is_digit (take (length text - from) (drop from text))
    → number_at from (slice_range text from (from + n)) (drop (from + n) text) ≡ token_at from (drop from text)
number_found text from n h e f is =
    parted is_digit (number_at from) text from n is
    ∙ sym (at_digit from (drop from text) (some_left text from h) (ap begins_name (front text from) ∙ e) (ap is_digit (front text from) ∙ f))
