-- A text's tokens, one after the other.
use Rattle.std.specs.Prelude.{◌≡◌, ℕ, zero, suc, ◌+◌, ◌-◌, ◌<◌, ◌≤◌, nat_lt, Bool, true, false, not, if◌then◌else◌, pos, List, [], ◌∷◌, length, take, drop, find, take_while, Option, Some, None, codes}
use Rattle.std.specs.List.{prefix_len, list_all}
use Rattle.std.proofs.Common.{refl, sym, ap, ◌∙◌, arith, length-drop}
use Rattle.std.proofs.lemmas.Bool.{and_parts, ltb-true}
use Rattle.std.proofs.lemmas.List.{drop-drop, take_rest}
use Rattle.std.proofs.lemmas.List.Folds.{length-prefix_len}
use Rattle.ras_cells.specs.declared.atom.Atom.{Atom}
use Rattle.ras_cells.specs.Atoms.{is_in_range}
use Rattle.ras_syntax.specs.declared.faults.SyntaxFault.TheVariants.{Unexpected, FloatRefused}
use Rattle.spec_grammar.specs.Tokens.{Text, is_digit, begins_name, continues_name, begins_with, first_is, is_one_of, in_small_letters, reserved_words, float_names, signs, TokenKind, token, Found, nothing, good, bad, Lexed, and_then, space_length, after_space, name_at, suffix_of, value_of, is_float_mark, number_with, sign_at, token_at, lexed_from, lexed}
use Rattle.law_lists.proofs.Choices.{either_way}
use Rattle.ras_parse.specs.Walk.{found_from, lexed_after, lexed_with}

-- ---- a token has a byte at least

abbrev MovesOn : ℕ → Found → Type 0
MovesOn place nothing = Unit {0}
MovesOn place (good t) = place < t.to
MovesOn place (bad f) = Unit {0}

some_taken : (p : ℕ → Bool) (b : ℕ) (bytes : Text) → p b ≡ true → 0 < length (take_while p (b ∷ bytes))
some_taken p b bytes e =
    let len : length (take_while p (b ∷ bytes)) ≡ prefix_len p (b ∷ bytes) = length-prefix_len p (b ∷ bytes) in
    let one : prefix_len p (b ∷ bytes) ≡ 1 + prefix_len p bytes = rw e refl in
    omega arith

name_at-moves : (place : ℕ) (letters rest : Text) → 0 < length letters → MovesOn place (name_at place letters rest)
name_at-moves place letters rest some =
    either_way (MovesOn place) (is_one_of reserved_words (in_small_letters letters)) _ _ (λ e. omega arith)
    (λ e. either_way (MovesOn place) (is_one_of float_names letters) _ _ (λ e. tt)
    (λ e. either_way (MovesOn place) (begins_with (codes "(") (after_space rest)) _ _ (λ e. tt) (λ e. omega arith)))

number_with-moves : (place : ℕ) (digits : Text) (suffix : Text × Atom) (rest : Text) → 0 < length digits → MovesOn place (number_with place digits suffix rest)
number_with-moves place digits suffix rest some =
    either_way (MovesOn place) (not (is_in_range suffix.1 (pos (value_of digits)))) _ _ (λ e. tt)
    (λ e. either_way (MovesOn place) (is_float_mark rest) _ _ (λ e. tt)
    (λ e. either_way (MovesOn place) (first_is begins_name rest) _ _ (λ e. tt) (λ e. omega arith)))

abbrev are_some : List Text → Bool
are_some = list_all (λ s. nat_lt 0 (length s))

abbrev sign_found : ℕ → Text → Option Text → Found
sign_found place text found = elim found [
  | Some s ↦ token (TokenKind.sign s) place (length s)
  | None ↦ if begins_with (codes "/") text then bad (FloatRefused place) else bad (Unexpected place)
]

sign_in-moves : (place : ℕ) (text : Text) (p : Text → Bool) (table : List Text) → are_some table ≡ true
    → MovesOn place (sign_found place text (find p table))
sign_in-moves place text p [] some = either_way (MovesOn place) (begins_with (codes "/") text) _ _ (λ e. tt) (λ e. tt)
sign_in-moves place text p (s ∷ ss) some =
    let both = and_parts (nat_lt 0 (length s)) (are_some ss) some in
    either_way (λ o. MovesOn place (sign_found place text o)) (p s) (Some s) (find p ss)
    (λ e. let h : 0 < length s = ltb-true _ _ both.0 in omega arith) (λ e. sign_in-moves place text p ss both.1)

sign_at-moves : (place : ℕ) (text : Text) → MovesOn place (sign_at place text)
sign_at-moves place text = sign_in-moves place text (λ s. begins_with s text) signs refl

token_at-moves : (place : ℕ) (text : Text) → MovesOn place (token_at place text)
token_at-moves place [] = tt
token_at-moves place (b ∷ bytes) =
    either_way (MovesOn place) (begins_name b) _ _
    (λ e. name_at-moves place (take_while continues_name (b ∷ bytes)) (drop (length (take_while continues_name (b ∷ bytes))) (b ∷ bytes))
    (some_taken continues_name b bytes (grind (arith, e))))
    (λ e. either_way (MovesOn place) (is_digit b) _ _
    (λ e. let rest : Text = drop (length (take_while is_digit (b ∷ bytes))) (b ∷ bytes) in
    number_with-moves place (take_while is_digit (b ∷ bytes)) (suffix_of rest) (drop (length (suffix_of rest).0) rest) (some_taken is_digit b bytes e))
    (λ e. sign_at-moves place (b ∷ bytes)))

-- ---- the count of tokens is of no matter

abbrev lexed_by : ℕ → ℕ → Text → Found → Lexed
lexed_by most place text found = elim found [
  | nothing ↦ record { tokens = []; fault = None }
  | good t ↦ and_then t (lexed_from most t.to (drop (t.to - place) text))
  | bad fault ↦ record { tokens = []; fault = Some fault }
]

no_text : (most place : ℕ) → lexed_from most place [] ≡ record { tokens = []; fault = None }
no_text zero place = refl
no_text (suc most) place = refl

pub lexed_from-any : (most other place : ℕ) (text : Text) → length text ≤ most → length text ≤ other → lexed_from most place text ≡ lexed_from other place text
lexed_from-any most other place [] h k = no_text most place ∙ sym (no_text other place)
lexed_from-any zero other place (b ∷ bytes) h k = absurd (omega arith)
lexed_from-any (suc most) zero place (b ∷ bytes) h k = absurd (omega arith)
lexed_from-any (suc most) (suc other) place (b ∷ bytes) h k =
    go (token_at (place + space_length false text) (after_space text)) (token_at-moves (place + space_length false text) (after_space text))
    (λ p t. lexed_from-any most other p t)
  where
    text : Text
    text = b ∷ bytes

    go : (found : Found) → MovesOn (place + space_length false text) found
        → ((p : ℕ) (t : Text) → length t ≤ most → length t ≤ other → lexed_from most p t ≡ lexed_from other p t)
        → lexed_by most place text found ≡ lexed_by other place text found
    go nothing moves same = refl
    go (good t) moves same =
        let left : length (drop (t.to - place) text) ≡ length text - (t.to - place) = length-drop (t.to - place) text in
        ap (and_then t) (same t.to (drop (t.to - place) text) (omega arith) (omega arith))
    go (bad f) moves same = refl

-- ---- from place to place

pub lexed-start : (text : Text) → lexed_after text 0 ≡ lexed text
lexed-start text = let e : length text - 0 ≡ length text = omega arith in ap (λ most. lexed_from most 0 text) e

further : (text : Text) (at to : ℕ) → at ≤ to → drop (to - at) (drop at text) ≡ drop to text
further text at to h = drop-drop (to - at) at text ∙ (let e : at + (to - at) ≡ to = omega arith in ap (λ k. drop k text) e)

pub lexed-steps : (text : Text) (at : ℕ) → lexed_after text at ≡ lexed_with text (found_from text at)
lexed-steps text at =
    let left : length (drop at text) ≡ length text - at = length-drop at text in
    lexed_from-any (length text - at) (suc (length text - at)) at (drop at text) (omega arith) (omega arith)
    ∙ go (found_from text at) (token_at-moves (at + space_length false (drop at text)) (after_space (drop at text)))
  where
    go : (found : Found) → MovesOn (at + space_length false (drop at text)) found
        → lexed_by (length text - at) at (drop at text) found ≡ lexed_with text found
    go nothing moves = refl
    go (good t) moves =
        let left : length (drop t.to text) ≡ length text - t.to = length-drop t.to text in
        ap (and_then t) (ap (lexed_from (length text - at) t.to) (further text at t.to (omega arith))
        ∙ lexed_from-any (length text - at) (length text - t.to) t.to (drop t.to text) (omega arith) (omega arith))
    go (bad f) moves = refl

-- what stands behind the blanks and comments that were counted is what is found
pub found_there : (text : Text) (at n : ℕ) → n ≡ space_length false (take (length text - at) (drop at text))
    → token_at (at + n) (drop (at + n) text) ≡ found_from text at
found_there text at n is =
    let s : ℕ = space_length false (drop at text) in
    let e : n ≡ s = is ∙ ap (space_length false) (take_rest text at) in
    ap (λ k. token_at (at + k) (drop (at + k) text)) e ∙ ap (token_at (at + s)) (sym (drop-drop s at text))
