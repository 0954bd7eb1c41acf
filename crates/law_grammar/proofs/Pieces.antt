-- The readers of what productions are made of read it.
use Prim.Native.String.{String as Literal}
use Rattle.std.specs.Prelude.{◌≡◌, ℕ, suc, ◌+◌, ◌≤◌, Bool as Truth, true, false, List, [], ◌∷◌, ◌++◌, length, Option, Some, None}
use Rattle.std.proofs.Common.{refl, sym, subst, arith, length-append}
use Rattle.std.proofs.lemmas.List.{append-nil}
use Rattle.ras_cells.specs.declared.numbers.Op2.{Op2}
use Rattle.ras_syntax.specs.declared.expr.Expr.{Expr}
use Rattle.ras_syntax.specs.declared.expr.ExprForm.{ExprForm}
use Rattle.spec_grammar.specs.Tokens.{TokenKind, Token}
use Rattle.spec_grammar.specs.Grammar.{Rel, Table, tree, w, s, IsChain, IsRow, IsCommaList, IsBetween, IsAfter, IsOptional}
use Rattle.law_grammar.specs.Readers.{Reader, same_kind, exactly, give, accept_or, accept, expect, spanned_after, with_span}
use Rattle.law_grammar.specs.Reading.{closed_read, between_read, optional_after, if_room, comma_list, any_count, row_read, chain_read}
use Rattle.law_grammar.proofs.Good.{Begins, Good, good-map, give-good, refuse-good, bind-good, mapped-good, accept_or-good, with_tokens-good, loop_after-good}
use Rattle.law_grammar.proofs.TokenTests.{exactly-is, is-exactly, meaning_of-means}

pub deeper : (n : ℕ) → n ≤ suc n
deeper n = omega arith

-- a token of a kind
abbrev pub some_token : TokenKind → Token
some_token kind = record { kind = kind; from = 0; to = 0 }

module _ {A B : Type 0} {Q : Rel B} {n n' m m' : ℕ} {p : Token → Option A} {g g' : A → Reader B} (deep : n ≤ suc m) (deep' : n' ≤ suc m') where
  pub accept-good : (t : Token) (x : A) → p t ≡ Some x
      → ((t : Token) (x : A) → p t ≡ Some x → Good (λ us y. Q (t ∷ us) y) m m' (g x) (g' x)) → Good Q n n' (accept p g) (accept p g')
  accept-good t x e taken = accept_or-good deep deep' taken
      (refuse-good (let b : Begins (λ us y. Q (t ∷ us) y) [] = (taken t x e).some in (t ∷ b.0, b.1, b.2)))

-- a word or a sign
module _ {A : Type 0} {Q : Rel A} {n n' m m' : ℕ} {g g' : Token → Reader A} {f f' : Reader A} (deep : n ≤ suc m) (deep' : n' ≤ suc m') where
  pub exact_or-good : (kind : TokenKind) → ((t : Token) → t.kind ≡ kind → Good (λ us y. Q (t ∷ us) y) m m' (g t) (g' t))
      → Good Q n n' f f' → Good Q n n' (accept_or (exactly kind) g f) (accept_or (exactly kind) g' f')
  exact_or-good kind taken passed = accept_or-good deep deep'
      (λ t u e. let is : (t.kind ≡ kind) × (t ≡ u) = exactly-is kind t u e in
      subst (λ v. Good (λ us y. Q (t ∷ us) y) m m' (g v) (g' v)) is.1 (taken t is.0))
      passed

module _ {A : Type 0} {Q : Rel A} {n n' m m' : ℕ} {g g' : Token → Reader A} (deep : n ≤ suc m) (deep' : n' ≤ suc m') where
  pub exact-good : (kind : TokenKind) → same_kind kind kind ≡ true
      → ((t : Token) → t.kind ≡ kind → Good (λ us y. Q (t ∷ us) y) m m' (g t) (g' t)) → Good Q n n' (accept (exactly kind) g) (accept (exactly kind) g')
  exact-good kind same taken = exact_or-good deep deep' kind taken
      (refuse-good (let b : Begins (λ us y. Q (some_token kind ∷ us) y) [] = (taken (some_token kind) refl).some in (some_token kind ∷ b.0, b.1, b.2)))

module _ {A : Type 0} {Q : Rel A} {n n' m m' : ℕ} {f f' : Reader A} (deep : n ≤ suc m) (deep' : n' ≤ suc m') where
  pub expect-good : (kind : TokenKind) → same_kind kind kind ≡ true
      → ((t : Token) → t.kind ≡ kind → Good (λ us y. Q (t ∷ us) y) m m' f f') → Good Q n n' (expect kind f) (expect kind f')
  expect-good kind same taken = accept-good deep deep' (some_token kind) (some_token kind) (is-exactly kind (some_token kind) same refl)
      (λ t x e. taken t (exactly-is kind t x e).0)

module _ {n n' : ℕ} where
  -- ---- brackets and options

  pub closed-good : {A : Type 0} {R Q : Rel A} {f f' : Reader A} (closing : TokenKind) → same_kind closing closing ≡ true → Good R n n' f f'
      → ((ts : List Token) (x : A) (c : Token) → R ts x → c.kind ≡ closing → Q (ts ++ c ∷ []) x) → Good Q n n' (closed_read closing f) (closed_read closing f')
  closed-good closing same item built =
      bind-good item (λ ts x r. expect-good (deeper n) (deeper n') closing same (λ c right. give-good x (built ts x c r right)))

  pub between-good : {A : Type 0} {R : Rel A} {f f' : Reader A} (o c : Literal) → same_kind (s o) (s o) ≡ true → same_kind (s c) (s c) ≡ true
      → Good R n n' f f' → Good (IsBetween o c R) n n' (between_read (s o) (s c) f) (between_read (s o) (s c) f')
  between-good o c same same' item =
      expect-good (deeper n) (deeper n') (s o) same (λ t left. closed-good (s c) same' item (λ ts x t' r right. IsBetween.between t t' left r right))

  pub optional_after-good : {A : Type 0} {R : Rel A} {Q : Rel (Option A)} {f f' : Reader A} (keyword : TokenKind) → Good R n n' f f'
      → ((k : Token) (ts : List Token) (x : A) → k.kind ≡ keyword → R ts x → Q (k ∷ ts) (Some x)) → Q [] None
      → Good Q n n' (optional_after keyword f) (optional_after keyword f')
  optional_after-good keyword item some none = accept_or-good (deeper n) (deeper n')
      (λ t u e. mapped-good _ item (λ ts x r. some t ts x (exactly-is keyword t u e).0 r)) (give-good None none)

  pub optional-good : {A : Type 0} {R : Rel A} {f f' : Reader A} (keyword : Literal) → Good R n n' f f'
      → Good (IsOptional (IsAfter keyword R)) n n' (optional_after (w keyword) f) (optional_after (w keyword) f')
  optional-good keyword item = optional_after-good (w keyword) item (λ k ts x is r. IsOptional.present (IsAfter.after k is r)) IsOptional.absent

  -- ---- lists

  -- each further item needs room, and a list that fits has it
  pub comma_list-good : {A : Type 0} {I : Rel A} {f f' : Reader A} (room : ℕ → Truth) (Fits : ℕ → Type 0)
      → Fits 1 → ((k : ℕ) → Fits k → room k ≡ true → Fits (suc k)) → Good I n n' f f'
      → Good (λ ts xs. IsCommaList I ts xs × Fits (length xs)) n n' (comma_list room f) (comma_list room f')
  comma_list-good {A} {I} room Fits one more item =
      loop_after-good {Q = λ ts xs. IsCommaList I ts xs × Fits (length xs)} (deeper n) (deeper n') [] (mapped-good _ item (λ ts x r. (IsCommaList.first r, one)))
      (λ ts xs q t b e. let comma : (room (length xs) ≡ true) × (t.kind ≡ s ",") = roomy xs t b e in
      mapped-good _ item (λ us x r. (IsCommaList.more t q.0 comma.1 r, subst Fits (longer xs x) (more (length xs) q.1 comma.0))))
    where
      longer : (xs : List A) (x : A) → suc (length xs) ≡ length (xs ++ x ∷ [])
      longer xs x = let e : length (xs ++ x ∷ []) ≡ length xs + length (x ∷ []) = length-append xs (x ∷ []) in omega arith

      roomy : (xs : List A) (t b : Token) → if_room room xs t ≡ Some b → (room (length xs) ≡ true) × (t.kind ≡ s ",")
      roomy xs t b e = at (room (length xs)) refl e
        where
          at : (r : Truth) → room (length xs) ≡ r → elim r as (λ v. Option Token) [ true ↦ exactly (s ",") t | false ↦ None ] ≡ Some b
              → (room (length xs) ≡ true) × (t.kind ≡ s ",")
          at true is e = (is, (exactly-is (s ",") t b e).0)
          at false is e = absurd (cc)

  pub row-good : {A : Type 0} {R I : Rel A} {f f' : Reader A} (keyword : TokenKind) → same_kind keyword keyword ≡ true
      → ((k : Token) (ts : List Token) (x : A) → k.kind ≡ keyword → R ts x → I (k ∷ ts) x)
      → Good R n n' f f' → Good (IsRow I) n n' (row_read keyword f) (row_read keyword f')
  row-good {I} keyword same begun item =
      loop_after-good {Q = IsRow I} (deeper n) (deeper n') [] (expect-good (deeper n) (deeper n') keyword same (λ k is. mapped-good _ item (λ ts x r. IsRow.first (begun k ts x is r))))
      (λ ts xs q t b e. mapped-good _ item (λ us x r. IsRow.more q (begun t us x (exactly-is keyword t b e).0 r)))

  pub chain-good : {I : Rel Expr} {f f' : Reader Expr} (operators : Table Op2) → Good I n n' f f'
      → Good (IsChain operators I) n n' (chain_read operators f) (chain_read operators f')
  chain-good {I} operators item =
      loop_after-good {Q = IsChain operators I} (deeper n) (deeper n') [] (good-map (λ ts x. IsChain.alone) item)
      (λ ts x q t op e. mapped-good _ item (λ us y r. IsChain.more t op q (meaning_of-means operators t op e) r))

  -- ---- spans

  pub spanned_after-good : {Q : Rel Expr} {f f' : Reader ExprForm} (already : List Token)
      → Good (λ us form. Q us (tree (already ++ us) form)) n n' f f' → Good Q n n' (spanned_after already f) (spanned_after already f')
  spanned_after-good already item = with_tokens-good (mapped-good _ item (λ ts form q. q))

  pub spanned-good : {Q : Rel Expr} {f f' : Reader ExprForm}
      → Good (λ us form. Q us (tree us form)) n n' f f' → Good Q n n' (with_span f) (with_span f')
  spanned-good item = with_tokens-good (mapped-good _ item (λ ts form q. q))

module _ {A : Type 0} (Q : Rel A) {n n' : ℕ} where
  -- nothing more is read
  pub given : (ts : List Token) (x : A) → Q ts x → Good (λ us y. Q (ts ++ us) y) n n' (give x) (give x)
  given ts x q = give-good x (subst (λ us. Q us x) (sym (append-nil ts)) q)

pub comma-good : {A : Type 0} {I : Rel A} {n n' : ℕ} {f f' : Reader A} → Good I n n' f f'
    → Good (IsCommaList I) n n' (comma_list any_count f) (comma_list any_count f')
comma-good item = good-map (λ ts xs q. q.0) (comma_list-good any_count (λ k. Unit {0}) tt (λ k fits room. tt) item)
