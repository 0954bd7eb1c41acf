-- A text that `parse` reads as a number, and that has no sign and no leading zero, is what the number writes.
use Rattle.ras_settings.proofs.Booleans.{both, negated}
use Rattle.std.proofs.Common.{◌≡◌, ◌∙◌, ◌==◌, ◌<◌, ◌^◌, ℕ, Bool, true, false, not, cond, refl, sym, ap, subst, List, [], ◌∷◌, length, drop, get_or, Result, Ok, ne_eqb, rules, arith, zero, suc}
use Rattle.std.specs.Fmt.{decimal}
use Rattle.std.specs.Str.Parse.{AllDigits, IsNumeral, ParsesUnsigned, digits_value, without_leading_plus}
use Rattle.std.proofs.lemmas.Bool.{eqb-false}
use Rattle.std.proofs.lemmas.Str.Parse.{IsNumeralModel, numerals_by_value}
use Rattle.std.proofs.lemmas.Fmt.{decimal-digits_value, decimal_digit, first_decimal, parse-decimal}
use Rattle.ras_settings.specs.Settings.{is_plain}

own : IsNumeralModel (AllDigits 10) (digits_value 10)
own = numerals_by_value _ (search rules)

-- with no sign, the text is its digits
no_plus : (text : List ℕ) → is_plain text ≡ true → 0 < length (without_leading_plus text) → without_leading_plus text ≡ text
no_plus [] plain some = refl
no_plus (first ∷ []) plain some = go (first == 43) refl some
  where
    go : (b : Bool) → (first == 43) ≡ b → 0 < length (drop (cond b 1 0) (first ∷ [])) → without_leading_plus (first ∷ []) ≡ first ∷ []
    go true e some = absurd (omega arith)
    go false e some = rw e refl
no_plus (first ∷ second ∷ rest) plain some =
    let no_sign : (first == 43) ≡ false = negated _ (both _ _ plain).0 in
    rw no_sign refl

no_zero : (text : List ℕ) → is_plain text ≡ true → get_or text 0 0 ≡ 48 → length text ≡ 1
no_zero [] plain e = absurd (cc)
no_zero (first ∷ []) plain e = refl
no_zero (first ∷ second ∷ rest) plain e = absurd (eqb-false first 48 (negated _ (both (not (first == 43)) _ plain).1) e)

pub written : (text : List ℕ) (n : ℕ) → IsNumeral 10 (without_leading_plus text) × (digits_value 10 (without_leading_plus text) < 2 ^ 32)
    → n ≡ digits_value 10 (without_leading_plus text) → is_plain text ≡ true → text ≡ decimal n
written text n numeral is plain =
    let same = no_plus text plain numeral.0.0 in
    let digits : AllDigits 10 text = subst (AllDigits 10) same numeral.0.1 in
    let some : 0 < length text = subst (λ t. 0 < length t) same numeral.0.0 in
    let value : digits_value 10 text ≡ n = ap (digits_value 10) (sym same) ∙ sym is in
    let small : digits_value 10 text < 2 ^ 64 = omega (arith, value, numeral.1, is) in
    sym (decimal-digits_value own text digits some (no_zero text plain) small) ∙ ap decimal value

plain_if : (text : List ℕ) → 48 < get_or text 0 0 → is_plain text ≡ true
plain_if [] above = absurd (omega arith)
plain_if (first ∷ []) above = refl
plain_if (first ∷ second ∷ rest) above =
    let no_sign : (first == 43) ≡ false = ne_eqb first 43 (λ e. omega arith) in
    let nonzero : (first == 48) ≡ false = ne_eqb first 48 (λ e. omega arith) in
    rw (no_sign, nonzero) refl

plain_decimal : (n : ℕ) → n < 2 ^ 32 → is_plain (decimal n) ≡ true
plain_decimal zero small = ap is_plain (decimal_digit 0 (omega arith))
plain_decimal (suc n) small = plain_if (decimal (suc n)) (first_decimal (suc n) (omega arith) (omega arith))

-- such a text of a number is read as that number
pub reads : {E : Type 0} (text : List ℕ) (n : ℕ) (r : Result ℕ E) → ParsesUnsigned 32 10 text r → n < 2 ^ 32 → text ≡ decimal n
    → (r ≡ Ok n) × (is_plain text ≡ true)
reads text n r parsed small is = (parse-decimal 32 n text r small (omega arith) is parsed, ap is_plain is ∙ plain_decimal n small)
