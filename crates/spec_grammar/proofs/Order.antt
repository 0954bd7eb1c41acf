-- The tokens of a text stand in order.
use Rattle.std.specs.Prelude.{◌≡◌, ℕ, zero, suc, ◌+◌, ◌-◌, ◌<◌, ◌≤◌, Bool, true, false, ◌||◌, min, if◌then◌else◌, pos, List, [], ◌∷◌, length, take, drop, find, take_while, Option, Some, None, codes, not}
use Rattle.std.specs.List.{prefix_len}
use Rattle.std.specs.Cmp.Lexicographic.{same_text}
use Rattle.std.proofs.Common.{refl, sym, ap, subst, arith, length-take, length-drop}
use Rattle.std.proofs.lemmas.List.Sums.{prefix_len-le-length}
use Rattle.std.proofs.lemmas.List.Folds.{length-prefix_len}
use Rattle.ras_cells.specs.declared.atom.Atom.{Atom}
use Rattle.ras_cells.specs.declared.atom.Atom.TheVariants.{Wide}
use Rattle.ras_cells.specs.Atoms.{is_in_range}
use Rattle.ras_syntax.specs.declared.faults.SyntaxFault.{SyntaxFault}
use Rattle.ras_syntax.specs.declared.faults.SyntaxFault.TheVariants.{Unexpected, FloatRefused}
use Rattle.spec_grammar.specs.Tokens.{Text, is_blank, is_line_feed, is_digit, begins_name, continues_name, begins_with, first_is, is_one_of, in_small_letters, reserved_words, float_names, TokenKind, Token, Found, nothing, good, bad, token, signs, suffixes, space_length, after_space, name_at, suffix_of, value_of, is_float_mark, number_with, sign_at, token_at, Lexed, and_then, lexed_from, lexed}
use Rattle.spec_grammar.specs.Verdict.{fault_place}
use Rattle.spec_grammar.specs.Order.{AreInOrder}
use Rattle.law_lists.proofs.Choices.{either_way}

-- ---- tests and tables

or_left : (a b : Bool) → a ≡ true → a || b ≡ true
or_left true b e = refl
or_left false b e = grind arith

abbrev AllOf : {A : Type 0} → (A → Type 0) → List A → Type 0
AllOf Q [] = Unit {0}
AllOf Q (x ∷ xs) = Q x × AllOf Q xs

-- what is found in a table is of it, and passes
by_find : {A : Type 0} (p : A → Bool) (Q : A → Type 0) (P : Option A → Type 0) → P None → ((x : A) → Q x → p x ≡ true → P (Some x))
    → (xs : List A) → AllOf Q xs → P (find p xs)
by_find p Q P none some [] all = none
by_find p Q P none some (x ∷ xs) all = either_way P (p x) (Some x) (find p xs) (some x all.0) (λ e. by_find p Q P none some xs all.1)

-- ---- lengths

begins_with-length : (front text : Text) → begins_with front text ≡ true → length front ≤ length text
begins_with-length front text e =
    let same : length front ≡ length (take (length front) text) = ap length (same_text front (take (length front) text) (sym e)) in
    let short : length (take (length front) text) ≡ min (length front) (length text) = length-take (length front) text in
    omega arith

some_taken : (p : ℕ → Bool) (b : ℕ) (bytes : Text) → p b ≡ true → 0 < length (take_while p (b ∷ bytes))
some_taken p b bytes e =
    let len : length (take_while p (b ∷ bytes)) ≡ prefix_len p (b ∷ bytes) = length-prefix_len p (b ∷ bytes) in
    let one : prefix_len p (b ∷ bytes) ≡ 1 + prefix_len p bytes = rw e refl in
    omega arith

few_taken : (p : ℕ → Bool) (text : Text) → length (take_while p text) ≤ length text
few_taken p text =
    let len : length (take_while p text) ≡ prefix_len p text = length-prefix_len p text in
    let few : prefix_len p text ≤ length text = prefix_len-le-length p text in
    omega arith

suffix-length : (text : Text) → length (suffix_of text).0 ≤ length text
suffix-length text = by_find (λ s. begins_with s.0 text) (λ s. Unit {0})
    (λ o. length (elim o as (λ x. Text × Atom) [ Some s ↦ s | None ↦ ([], Wide) ]).0 ≤ length text)
    (omega arith) (λ s u e. begins_with-length s.0 text e) suffixes (tt, (tt, (tt, (tt, (tt, (tt, tt))))))

space-length : (in_comment : Bool) (text : Text) → space_length in_comment text ≤ length text
space-length true [] = omega arith
space-length false [] = omega arith
space-length true (b ∷ bytes) = let h : space_length (not (is_line_feed b)) bytes ≤ length bytes = space-length (not (is_line_feed b)) bytes in omega arith
space-length false (b ∷ bytes) = go (is_blank b) (begins_with (codes "--") (b ∷ bytes)) (space-length false bytes) (space-length true bytes)
  where
    go : (x y : Bool) → space_length false bytes ≤ length bytes → space_length true bytes ≤ length bytes
        → elim x as (λ z. ℕ) [ true ↦ suc (space_length false bytes) | false ↦ elim y as (λ z. ℕ) [ true ↦ suc (space_length true bytes) | false ↦ 0 ] ] ≤ suc (length bytes)
    go true y h k = omega arith
    go false true h k = omega arith
    go false false h k = omega arith

-- ---- one token

-- the token stands at the place, and within the text that is left there
abbrev Fits : ℕ → Text → Found → Type 0
Fits place text nothing = Unit {0}
Fits place text (good t) = (t.from ≡ place) × (place < t.to) × (t.to ≤ place + length text)
Fits place text (bad f) = (fault_place f ≡ place) × (0 < length text)

good-Fits : (kind : TokenKind) (place size : ℕ) (text : Text) → 0 < size → size ≤ length text → Fits place text (token kind place size)
good-Fits kind place size text some few = (refl, omega arith, omega arith)

name_at-Fits : (place : ℕ) (text letters rest : Text) → 0 < length letters → length letters ≤ length text → Fits place text (name_at place letters rest)
name_at-Fits place text letters rest some few =
    let full : 0 < length text = omega arith in
    either_way (Fits place text) (is_one_of reserved_words (in_small_letters letters)) _ _
    (λ e. good-Fits (TokenKind.word (in_small_letters letters)) place (length letters) text some few)
    (λ e. either_way (Fits place text) (is_one_of float_names letters) _ _ (λ e. (refl, full))
    (λ e. either_way (Fits place text) (begins_with (codes "(") (after_space rest)) _ _ (λ e. (refl, full))
    (λ e. good-Fits (TokenKind.name letters) place (length letters) text some few)))

number_with-Fits : (place : ℕ) (text digits : Text) (suffix : Text × Atom) (rest : Text) → 0 < length digits
    → length digits + length suffix.0 ≤ length text → Fits place text (number_with place digits suffix rest)
number_with-Fits place text digits suffix rest some few =
    let full : 0 < length text = omega arith in
    either_way (Fits place text) (not (is_in_range suffix.1 (pos (value_of digits)))) _ _ (λ e. (refl, full))
    (λ e. either_way (Fits place text) (is_float_mark rest) _ _ (λ e. (refl, full))
    (λ e. either_way (Fits place text) (first_is begins_name rest) _ _ (λ e. (refl, full))
    (λ e. good-Fits (TokenKind.number (pos (value_of digits)) suffix.1) place (length digits + length suffix.0) text (omega arith) few)))

abbrev HasSignLength : Text → Type 0
HasSignLength sign = 0 < length sign

sign_at-Fits : (place : ℕ) (text : Text) → 0 < length text → Fits place text (sign_at place text)
sign_at-Fits place text full = by_find (λ s. begins_with s text) HasSignLength
    (λ o. Fits place text (elim o as (λ x. Found) [
      | Some s ↦ token (TokenKind.sign s) place (length s)
      | None ↦ if begins_with (codes "/") text then bad (FloatRefused place) else bad (Unexpected place)
    ]))
    (either_way (Fits place text) (begins_with (codes "/") text) _ _ (λ e. (refl, full)) (λ e. (refl, full)))
    (λ s some e. good-Fits (TokenKind.sign s) place (length s) text some (begins_with-length s text e)) signs (
      omega arith,
      (
        omega arith,
        (
          omega arith,
          (
            omega arith,
            (
              omega arith,
              (
                omega arith,
                (
                  omega arith,
                  (
                    omega arith,
                    (
                      omega arith,
                      (omega arith, (omega arith, (omega arith, (omega arith, (omega arith, (omega arith, (omega arith, (omega arith, (omega arith, tt))))))))),
                    ),
                  ),
                ),
              ),
            ),
          ),
        ),
      ),
    )

abbrev after_digits : Text → Text
after_digits text = drop (length (take_while is_digit text)) text

digits_and_suffix : (text : Text) → length (take_while is_digit text) + length (suffix_of (after_digits text)).0 ≤ length text
digits_and_suffix text =
    let few : length (take_while is_digit text) ≤ length text = few_taken is_digit text in
    let suffix : length (suffix_of (after_digits text)).0 ≤ length (after_digits text) = suffix-length (after_digits text) in
    let left : length (after_digits text) ≡ length text - length (take_while is_digit text) = length-drop (length (take_while is_digit text)) text in
    omega arith

token_at-Fits : (place : ℕ) (text : Text) → Fits place text (token_at place text)
token_at-Fits place [] = tt
token_at-Fits place (b ∷ bytes) =
    either_way (Fits place (b ∷ bytes)) (begins_name b) _ _
    (λ e. name_at-Fits place (b ∷ bytes) (take_while continues_name (b ∷ bytes)) (drop (length (take_while continues_name (b ∷ bytes))) (b ∷ bytes))
    (some_taken continues_name b bytes (or_left (begins_name b) (is_digit b) e)) (few_taken continues_name (b ∷ bytes)))
    (λ e. either_way (Fits place (b ∷ bytes)) (is_digit b) _ _
    (λ e. number_with-Fits place (b ∷ bytes) (take_while is_digit (b ∷ bytes)) (suffix_of (after_digits (b ∷ bytes)))
    (drop (length (suffix_of (after_digits (b ∷ bytes))).0) (after_digits (b ∷ bytes))) (some_taken is_digit b bytes e) (digits_and_suffix (b ∷ bytes)))
    (λ e. sign_at-Fits place (b ∷ bytes) (omega arith)))

-- ---- all tokens

-- the place up to which the tokens stand: that of the first fault of a token's own, or the text's end
abbrev end_of_tokens : Option SyntaxFault → ℕ → ℕ
end_of_tokens None end = end
end_of_tokens (Some f) end = fault_place f

record StandsIn (from : ℕ) (l : Lexed) (end : ℕ) : Type 0 where
  order : AreInOrder from l.tokens (end_of_tokens l.fault end)
  within : (f : SyntaxFault) → l.fault ≡ Some f → fault_place f < end

no_some : {A : Type 0} (a : A) → ◌≡◌ {A = Option A} None (Some a) → ⊥
no_some a e = grind arith

lexed_from-order : (most place : ℕ) (text : Text) → StandsIn place (lexed_from most place text) (place + length text)
lexed_from-order zero place text = record { order = omega arith; within = λ f e. absurd (no_some f e) }
lexed_from-order (suc most) place text =
    go (token_at (place + space_length false text) (after_space text)) (token_at-Fits (place + space_length false text) (after_space text))
    (λ p t. lexed_from-order most p t)
  where
    go : (found : Found) → Fits (place + space_length false text) (after_space text) found
        → ((p : ℕ) (t : Text) → StandsIn p (lexed_from most p t) (p + length t))
        → StandsIn place (elim found as (λ x. Lexed) [
          | nothing ↦ record { tokens = []; fault = None }
          | good t ↦ and_then t (lexed_from most t.to (drop (t.to - place) text))
          | bad fault ↦ record { tokens = []; fault = Some fault }
        ]) (place + length text)
    go nothing fits rest = record { order = omega arith; within = λ f e. absurd (no_some f e) }
    go (good t) fits rest =
        let here : t.from ≡ place + space_length false text = fits.0 in
        let some : place + space_length false text < t.to = fits.1 in
        let few : t.to ≤ place + space_length false text + length (after_space text) = fits.2 in
        let left : length (after_space text) ≡ length text - space_length false text = length-drop (space_length false text) text in
        let space : space_length false text ≤ length text = space-length false text in
        let after : length (drop (t.to - place) text) ≡ length text - (t.to - place) = length-drop (t.to - place) text in
        let end : t.to + length (drop (t.to - place) text) ≡ place + length text = omega arith in
        let others : StandsIn t.to (lexed_from most t.to (drop (t.to - place) text)) (place + length text) =
        subst (λ e. StandsIn t.to (lexed_from most t.to (drop (t.to - place) text)) e) end (rest t.to (drop (t.to - place) text)) in
        record { order = (omega arith, omega arith, others.order); within = others.within }
    go (bad f) fits rest =
        let here : fault_place f ≡ place + space_length false text = fits.0 in
        let some : 0 < length (after_space text) = fits.1 in
        let left : length (after_space text) ≡ length text - space_length false text = length-drop (space_length false text) text in
        record {
          order = omega arith;
          within = λ g e. let same : fault_place f ≡ fault_place g = ap (λ o. end_of_tokens o 0) e in omega arith;
        }

-- ---- what the laws say

AreInOrder-further : (from to further : ℕ) (ts : List Token) → AreInOrder from ts to → to ≤ further → AreInOrder from ts further
AreInOrder-further from to further [] h more = let h' : from ≤ to = h in omega arith
AreInOrder-further from to further (t ∷ ts) h more = (h.0, h.1, AreInOrder-further t.to to further ts h.2 more)

stands : (text : Text) → StandsIn 0 (lexed text) (length text)
stands text = subst (λ end. StandsIn 0 (lexed text) end) (let e : 0 + length text ≡ length text = omega arith in e) (lexed_from-order (length text) 0 text)

before_fault : (tokens : List Token) (fault : Option SyntaxFault) (end : ℕ) → AreInOrder 0 tokens (end_of_tokens fault end)
    → (f : SyntaxFault) → fault ≡ Some f → AreInOrder 0 tokens (fault_place f)
before_fault tokens fault end h f e = subst (λ o. AreInOrder 0 tokens (end_of_tokens o end)) e h

pub own_fault-order : (text : Text) (f : SyntaxFault) → (lexed text).fault ≡ Some f → AreInOrder 0 (lexed text).tokens (fault_place f) × (fault_place f < length text)
own_fault-order text f e =
    let all : StandsIn 0 (lexed text) (length text) = stands text in
    (before_fault (lexed text).tokens (lexed text).fault (length text) all.order f e, all.within f e)

pub tokens-order : (text : Text) → AreInOrder 0 (lexed text).tokens (length text)
tokens-order text = go (lexed text).fault refl
  where
    go : (o : Option SyntaxFault) → (lexed text).fault ≡ o → AreInOrder 0 (lexed text).tokens (length text)
    go None e = let all : StandsIn 0 (lexed text) (length text) = stands text in
        subst (λ o. AreInOrder 0 (lexed text).tokens (end_of_tokens o (length text))) e all.order
    go (Some f) e =
        let both : AreInOrder 0 (lexed text).tokens (fault_place f) × (fault_place f < length text) = own_fault-order text f e in
        AreInOrder-further 0 (fault_place f) (length text) (lexed text).tokens both.0 (let h : fault_place f < length text = both.1 in omega arith)
