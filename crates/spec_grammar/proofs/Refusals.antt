-- Verdicts of worked texts that are no statements.
use Rattle.std.specs.Prelude.{◌≡◌, ℕ, zero, suc, nat_le, Bool, true, false, ℤ, pos, negsuc, List, [], ◌∷◌, ◌++◌, length, replicate, None, Ok, Err, codes}
use Rattle.std.proofs.Common.{refl, sym, ap, ◌∙◌, subst, arith, rules, append_assoc}
use Rattle.ras_cells.specs.declared.atom.Atom.TheVariants.{Wide}
use Rattle.ras_syntax.specs.declared.expr.Expr.{Expr}
use Rattle.ras_syntax.specs.declared.faults.SyntaxFault.TheVariants.{Unexpected, NumberTooWide, TooDeep}
use Rattle.ras_syntax.specs.declared.statement.StatementForm.{StatementForm}
use Rattle.ras_syntax.specs.declared.statement.StatementForm.TheVariants as statements
use Rattle.ras_syntax.specs.declared.statement.Word.TheVariants as words
use Rattle.spec_grammar.specs.Tokens.{is_same, TokenKind, name, word, number, sign, Token}
use Rattle.spec_grammar.specs.Grammar.{w, s, any, IsChain, IsBetween, IsPrimary, IsPart, IsSigned, IsCompared, IsNegated, IsWhole, IsForm, IsAt, IsStatement}
use Rattle.spec_grammar.specs.Verdict.{BeginsStatement, IsVerdict}
use Rattle.spec_grammar.specs.Worked.{token_from}
use Rattle.spec_grammar.proofs.Nesting.{IsLevel-IsAt}
use Rattle.spec_grammar.proofs.Readings.{digit, digit_tree, digit-whole}
use Rattle.spec_grammar.proofs.Told.{told-unexpected, told-too_deep, told-own, told-ended}

-- ---- the end of a text

nothing-is : (ts : List Token) (form : StatementForm) → IsStatement ts form → ts ≡ [] → ⊥
nothing-is ts form h e = absurd (some_tokens ts form h (ap length e))
  where
    some_tokens : (ts : List Token) (form : StatementForm) → IsStatement ts form → length ts ≡ 0 → ⊥
    some_tokens ts form (IsForm.select k is h) e = grind arith
    some_tokens ts form (IsForm.select_from k f is h from sources cond) e = grind arith
    some_tokens ts form (IsForm.insert k i n v x is into named values h) e = grind arith
    some_tokens ts form (IsForm.delete k f is from of cond) e = grind arith
    some_tokens ts form (IsForm.update k s' n a x is of set named axes assign h cond) e = grind arith
    some_tokens ts form (IsForm.create k c n t x y is collection named type) e = grind arith
    some_tokens ts form (IsForm.drop k c n x is collection named) e = grind arith
    some_tokens ts form (IsForm.begin k is) e = grind arith
    some_tokens ts form (IsForm.begin_retry k r n times is retry plain one most) e = grind arith
    some_tokens ts form (IsForm.commit k is) e = grind arith
    some_tokens ts form (IsForm.commit_anyway k a is anyway) e = grind arith
    some_tokens ts form (IsForm.abort k is) e = grind arith

abort-is : IsStatement (token_from (w "abort") 0 5 ∷ []) (statements.Word words.Abort)
abort-is = IsForm.abort (token_from (w "abort") 0 5) refl

pub empty : IsVerdict (codes " -- nothing") (Err (Unexpected 11))
empty = told-ended (codes " -- nothing") refl (token_from (w "abort") 0 5 ∷ [], statements.Word words.Abort, abort-is)
    (λ form is. nothing-is [] form is refl) (omega arith)

-- ---- retry

pub most_retries : IsVerdict (codes "begin Retry 1000") (Ok (record { form = statements.Word (words.Begin 1000); length = 16 }))
most_retries = IsVerdict.statement _ refl (IsForm.begin_retry _ _ _ 1000 refl refl refl (omega arith) (omega arith)) (omega arith)

kind_at : ℕ → List Token → TokenKind
kind_at n [] = word []
kind_at zero (t ∷ ts) = t.kind
kind_at (suc n) (t ∷ ts) = kind_at n ts

is_begin : TokenKind → Bool
is_begin (name text) = false
is_begin (word text) = is_same text (codes "begin")
is_begin (number z a) = false
is_begin (sign text) = false

is_retry : TokenKind → Bool
is_retry (name text) = false
is_retry (word text) = is_same text (codes "retry")
is_retry (number z a) = false
is_retry (sign text) = false

abbrev is_large : ℤ → Bool
is_large (pos n) = nat_le 1001 n
is_large (negsuc n) = false

is_large_number : TokenKind → Bool
is_large_number (name text) = false
is_large_number (word text) = false
is_large_number (number z a) = is_large z
is_large_number (sign text) = false

wrong : (p : TokenKind → Bool) (a b : TokenKind) → a ≡ b → p a ≡ true → p b ≡ false → ⊥
wrong p a b e yes' no' = let x : p a ≡ p b = ap p e in grind arith

-- no statement has a number above 1000 after begin retry
few_retries : (ts : List Token) (form : StatementForm) → IsStatement ts form
    → is_begin (kind_at 0 ts) ≡ true → is_retry (kind_at 1 ts) ≡ true → is_large_number (kind_at 2 ts) ≡ true → ⊥
unfolding kind_at is_begin is_retry is_large_number
few_retries ts form (IsForm.select k is h) b r l = wrong is_begin k.kind (w "select") is b refl
few_retries ts form (IsForm.select_from k f is h from sources cond) b r l = wrong is_begin k.kind (w "select") is b refl
few_retries ts form (IsForm.insert k i n v x is into named values h) b r l = wrong is_begin k.kind (w "insert") is b refl
few_retries ts form (IsForm.delete k f is from of cond) b r l = wrong is_begin k.kind (w "delete") is b refl
few_retries ts form (IsForm.update k s' n a x is of set named axes assign h cond) b r l = wrong is_begin k.kind (w "update") is b refl
few_retries ts form (IsForm.create k c n t x y is collection named type) b r l = wrong is_begin k.kind (w "create") is b refl
few_retries ts form (IsForm.drop k c n x is collection named) b r l = wrong is_begin k.kind (w "drop") is b refl
few_retries ts form (IsForm.begin k is) b r l = grind arith
few_retries ts form (IsForm.begin_retry k r' n times is retry plain one most) b r l =
    let large : nat_le 1001 times ≡ true = sym (ap is_large_number plain) ∙ l in
    grind (arith, rules)
few_retries ts form (IsForm.commit k is) b r l = wrong is_begin k.kind (w "commit") is b refl
few_retries ts form (IsForm.commit_anyway k a is anyway) b r l = wrong is_begin k.kind (w "commit") is b refl
few_retries ts form (IsForm.abort k is) b r l = wrong is_begin k.kind (w "abort") is b refl

no_more_retries : ¬ BeginsStatement (token_from (w "begin") 0 5 ∷ token_from (w "retry") 6 11 ∷ token_from (number (pos 1001) Wide) 12 16 ∷ [])
unfolding kind_at is_begin is_retry is_large_number
no_more_retries (more, form, is) = few_retries _ form is refl refl refl

pub too_many_retries : IsVerdict (codes "begin retry 1001;") (Err (Unexpected 12))
too_many_retries = told-unexpected (codes "begin retry 1001;") (token_from (w "begin") 0 5 ∷ token_from (w "retry") 6 11 ∷ []) [] (token_from (number (pos 1001) Wide) 12 16) refl
    (digit 1 0 ∷ [], statements.Word (words.Begin 1), IsForm.begin_retry (token_from (w "begin") 0 5) (token_from (w "retry") 6 11) (digit 1 0) 1 refl refl refl (omega arith) (omega arith))
    no_more_retries (omega arith)

-- ---- a fault of a token's own

pub own_fault : IsVerdict (codes "select 300c") (Err (NumberTooWide 7))
own_fault = told-own (codes "select 300c") (NumberTooWide 7) refl
    (digit 1 0 ∷ [], statements.Select (digit_tree 1 0) [] None, IsForm.select (token_from (w "select") 0 6) refl (1, digit-whole (λ l ts x. ⊥) 1 0)) (omega arith)

-- ---- parentheses

abbrev opening : ℕ → Token
opening place = token_from (s "(") place (suc place)

-- so many parentheses that stand at a place and after it
abbrev openings : ℕ → ℕ → List Token
openings zero place = []
openings (suc n) place = opening place ∷ openings n (suc place)

closings : ℕ → List Token
closings zero = []
closings (suc n) = closings n ++ token_from (s ")") 0 1 ∷ []

primary-whole : (ts : List Token) (x : Expr) → IsPrimary IsAt ts x → IsAt any ts x
primary-whole ts x h = (IsLevel-IsAt any ts x).0 (IsWhole.overlaid (IsChain.alone (IsChain.alone (IsChain.alone (IsNegated.plain (IsCompared.alone
    (IsChain.alone (IsChain.alone (IsSigned.part (IsPart.alone h))))))))))

-- a digit in parentheses
enclosed : (n place : ℕ) → IsAt any (openings n place ++ digit 1 0 ∷ closings n) (digit_tree 1 0)
unfolding closings
enclosed zero place = (1, digit-whole (λ l ts x. ⊥) 1 0)
enclosed (suc n) place = primary-whole _ _ (IsPrimary.parentheses (subst (λ ts. IsBetween "(" ")" (IsAt any) (opening place ∷ ts) (digit_tree 1 0))
    (append_assoc (openings n (suc place)) (digit 1 0 ∷ closings n) (token_from (s ")") 0 1 ∷ []))
    (IsBetween.between (opening place) (token_from (s ")") 0 1) refl (enclosed n (suc place)) refl)))

openings_begin : (n : ℕ) → BeginsStatement (token_from (w "select") 0 6 ∷ openings n 7)
openings_begin n = (digit 1 0 ∷ closings n, statements.Select (digit_tree 1 0) [] None, IsForm.select (token_from (w "select") 0 6) refl (enclosed n 7))

pub too_many_openings : IsVerdict (codes "select " ++ replicate 64 40) (Err (TooDeep 70))
too_many_openings = told-too_deep (codes "select " ++ replicate 64 40) (token_from (w "select") 0 6 ∷ openings 63 7) [] (opening 70) refl (openings_begin 64) (omega arith) (omega arith)
