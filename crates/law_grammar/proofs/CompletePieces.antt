-- What productions are made of is read where it ends.
use Prim.Native.String.{String as Literal}
use Rattle.std.specs.Prelude.{◌≡◌, ℕ, suc, ◌+◌, nat_le, Bool as Truth, true, false, List, [], ◌∷◌, ◌++◌, length, Option, Some, None}
use Rattle.std.proofs.Common.{refl, sym, ap, subst, ◌∙◌, arith, length-append}
use Rattle.std.proofs.lemmas.List.{append-nil}
use Rattle.std.proofs.lemmas.Bool.{leb-true}
use Rattle.ras_cells.specs.declared.numbers.Op2.{Op2}
use Rattle.ras_syntax.specs.declared.expr.Expr.{Expr}
use Rattle.ras_syntax.specs.declared.expr.ExprForm.TheVariants as forms
use Rattle.spec_grammar.specs.Tokens.{TokenKind, Token}
use Rattle.spec_grammar.specs.Grammar.{Rel, Table, tree, w, s, IsChain, IsRow, IsCommaList, IsBetween, IsAfter, IsOptional}
use Rattle.law_grammar.specs.Readers.{Reader, same_kind, exactly, meant, bind, accept_or}
use Rattle.law_grammar.specs.Reading.{closed_read, between_read, optional_after, if_room, with_item, comma_list, any_count, row_read, with_operand, chain_read}
use Rattle.law_grammar.proofs.TokenTests.{is-exactly, keys_apart, means-meaning_of}
use Rattle.law_grammar.proofs.Ranks.{rank, Stops, stops-wider, Declines, declines-exactly, all_ranked, declines-table, all_below, stops-table, stops-kind, opening, Starts, starts-append, not_opening}
use Rattle.law_grammar.proofs.Takes.{Takes, Complete, give-takes, bind-takes, mapped-takes, accept-takes, pass-takes, skip-takes, expect-takes, Loops, loop-starts, loop-goes_on, loop-ends}

-- ---- other forms of the lemmas

pub regrouped : {A : Type 0} {f : Reader A} {ts us : List Token} {x : A} {rest : List Token} → ts ≡ us → Takes f us x rest → Takes f ts x rest
regrouped {f} {x} {rest} e h = subst (λ vs. Takes f vs x rest) (sym e) h

-- what follows reads nothing
pub bind-last : {A B : Type 0} {f : Reader A} {ts : List Token} {x : A} (g : A → Reader B) {rest : List Token} {y : B}
    → Takes f ts x rest → Takes (g x) [] y rest → Takes (bind f g) ts y rest
bind-last {ts} g h k = regrouped (sym (append-nil ts)) (bind-takes g {us = []} h k)

-- what begins so is passed on
pub pass-starts : {A : Type 0} (kind : TokenKind) (limit : ℕ) → nat_le (suc limit) (opening kind) ≡ true → (g : Token → Reader A) {f : Reader A}
    {ts rest : List Token} {x : A} → Starts limit ts → Takes f ts x rest → Takes (accept_or (exactly kind) g f) ts x rest
pass-starts kind limit high g {f} {ts} {rest} {x} begun h =
    regrouped begun.is (pass-takes _ _ _ (not_opening kind limit high begun.head begun.low) (regrouped (sym begun.is) h))

-- ---- brackets and options

module _ {A : Type 0} {R : Rel A} {limit : ℕ} {f : Reader A} (item : Complete R limit f) where
  pub closed-takes : (closing : TokenKind) → same_kind closing closing ≡ true → nat_le (suc (rank closing)) limit ≡ true
      → (ts : List Token) (x : A) (c : Token) → R ts x → c.kind ≡ closing → (rest : List Token) → Takes (closed_read closing f) (ts ++ c ∷ []) x rest
  closed-takes closing same low ts x c r is rest =
      bind-takes _ (item.takes ts x (c ∷ rest) r (stops-kind closing limit low c is rest)) (expect-takes closing same c is (give-takes x rest))

  pub between-takes : (opening' closing : Literal) → same_kind (s opening') (s opening') ≡ true → same_kind (s closing) (s closing) ≡ true
      → nat_le (suc (rank (s closing))) limit ≡ true
      → (ts : List Token) (x : A) → IsBetween opening' closing R ts x → (rest : List Token) → Takes (between_read (s opening') (s closing) f) ts x rest
  between-takes opening' closing same same' low _ x (IsBetween.between {ts} o c left r right) rest =
      expect-takes (s opening') same o left (closed-takes (s closing) same' low ts x c r right rest)

  pub optional-takes : (keyword : Literal) → same_kind (w keyword) (w keyword) ≡ true → (ts : List Token) (x : Option A) (rest : List Token)
      → IsOptional (IsAfter keyword R) ts x → Declines (exactly (w keyword)) rest → Stops limit rest → Takes (optional_after (w keyword) f) ts x rest
  optional-takes keyword same _ _ rest IsOptional.absent declined stops = skip-takes _ _ _ _ rest declined (give-takes None rest)
  optional-takes keyword same _ _ rest (IsOptional.present (IsAfter.after {ts} {x} k is r)) declined stops =
      accept-takes _ _ _ (is-exactly (w keyword) k same is) (mapped-takes _ (item.takes ts x rest r stops))

  -- ---- lists

  -- a list that fits had room before each further item
  pub comma_list-complete : (room : ℕ → Truth) (Fits : ℕ → Type 0) → ((k : ℕ) → Fits (suc (suc k)) → Fits (suc k) × (room (suc k) ≡ true))
      → nat_le 2 limit ≡ true → Complete (λ ts xs. IsCommaList R ts xs × Fits (length xs)) 1 (comma_list room f)
  comma_list-complete room Fits fewer within = record { takes = λ ts xs rest h stops. ended ts xs rest h stops }
    where
      some_items : {ts : List Token} {xs : List A} → IsCommaList R ts xs → (k : ℕ) × (length xs ≡ suc k)
      some_items (IsCommaList.first h) = (0, refl)
      some_items (IsCommaList.more {xs} {x} c hs comma h) = (length xs, (let e : length (xs ++ x ∷ []) ≡ length xs + length (x ∷ []) = length-append xs (x ∷ []) in omega arith))

      lower : (xs : List A) (x : A) (k : ℕ) → length xs ≡ suc k → Fits (length (xs ++ x ∷ [])) → Fits (length xs) × (room (length xs) ≡ true)
      lower xs x k e fits =
          let longer : length (xs ++ x ∷ []) ≡ suc (suc k) = (let l : length (xs ++ x ∷ []) ≡ length xs + length (x ∷ []) = length-append xs (x ∷ []) in omega arith) in
          subst (λ m. Fits m × (room m ≡ true)) (sym e) (fewer k (subst Fits longer fits))

      goes_on : (xs : List A) (c : Token) → room (length xs) ≡ true → c.kind ≡ s "," → if_room room xs c ≡ Some c
      goes_on xs c has comma = ap (λ b. elim b as (λ v. Option Token) [ true ↦ exactly (s ",") c | false ↦ None ]) has ∙ is-exactly (s ",") c refl comma

      loops : {ts : List Token} {xs : List A} → IsCommaList R ts xs → Fits (length xs) → (rest : List Token) → Stops 2 rest
          → Loops [] (if_room room) (with_item f) (comma_list room f) ts xs rest
      loops (IsCommaList.first {ts} {x} h) fits rest stops =
          loop-starts [] (if_room room) (with_item f) (mapped-takes _ (item.takes ts x rest h (stops-wider 2 limit (leb-true 2 limit within) rest stops)))
      loops (IsCommaList.more {ts} {us} {xs} {x} c hs comma h) fits rest stops =
          let some : (k : ℕ) × (length xs ≡ suc k) = some_items hs in
          let had : Fits (length xs) × (room (length xs) ≡ true) = lower xs x some.0 some.1 fits in
          loop-goes_on [] (if_room room) (with_item f) (comma_list room f) ts us rest xs c c (λ ts. xs ++ x ∷ [])
          (loops hs had.0 (c ∷ us ++ rest) (stops-kind (s ",") 2 refl c comma (us ++ rest))) (goes_on xs c had.1 comma)
          (mapped-takes _ (item.takes us x rest h (stops-wider 2 limit (leb-true 2 limit within) rest stops)))

      declined : (xs : List A) (rest : List Token) → Stops 1 rest → Declines (if_room room xs) rest
      declined xs [] stops = tt
      declined xs (t ∷ rest) stops = at (room (length xs))
        where
          at : (b : Truth) → elim b as (λ v. Option Token) [ true ↦ exactly (s ",") t | false ↦ None ] ≡ None
          at true = declines-exactly (s ",") 1 refl (t ∷ rest) stops
          at false = refl

      ended : (ts : List Token) (xs : List A) (rest : List Token) → IsCommaList R ts xs × Fits (length xs) → Stops 1 rest → Takes (comma_list room f) ts xs rest
      ended ts xs rest h stops = loop-ends [] (if_room room) (with_item f) (comma_list room f) ts xs rest
          (loops h.0 h.1 rest (stops-wider 1 2 (omega arith) rest stops)) (declined xs rest stops)

  pub comma-complete : nat_le 2 limit ≡ true → Complete (IsCommaList R) 1 (comma_list any_count f)
  comma-complete within =
      let all = comma_list-complete any_count (λ k. Unit {0}) (λ k fits. (tt, refl)) within in
      record { takes = λ ts xs rest h stops. all.takes ts xs rest (h, tt) stops }

-- what stands behind each keyword
module _ {A : Type 0} {R I : Rel A} {limit : ℕ} {f : Reader A} (item : Complete R limit f) where
  pub row-complete : (keyword : TokenKind) → same_kind keyword keyword ≡ true → nat_le 1 (rank keyword) ≡ true → nat_le (suc (rank keyword)) limit ≡ true
      → nat_le 1 limit ≡ true
      → ((P : List Token → A → Type 0) → ((k : Token) (ts : List Token) (x : A) → k.kind ≡ keyword → R ts x → P (k ∷ ts) x) → (ts : List Token) (x : A) → I ts x → P ts x)
      → Complete (IsRow I) 1 (row_read keyword f)
  row-complete keyword same ranked low within split = record {
    takes = λ ts xs rest h stops. loop-ends [] (λ xs. exactly keyword) (with_item f) (row_read keyword f) ts xs rest
        (loops h rest (stops-wider 1 limit (leb-true 1 limit within) rest stops)) (declines-exactly keyword 1 ranked rest stops);
  }
    where
      loops : {ts : List Token} {xs : List A} → IsRow I ts xs → (rest : List Token) → Stops limit rest
          → Loops [] (λ xs. exactly keyword) (with_item f) (row_read keyword f) ts xs rest
      loops (IsRow.first {ts} {x} h) rest stops = split
          (λ ts x. Loops [] (λ xs. exactly keyword) (with_item f) (row_read keyword f) ts (x ∷ []) rest)
          (λ k us y is r. loop-starts [] (λ xs. exactly keyword) (with_item f) (expect-takes keyword same k is (mapped-takes _ (item.takes us y rest r stops)))) ts x h
      loops (IsRow.more {ts} {us} {xs} {x} hs h) rest stops = split
          (λ us x. ((rest : List Token) → Stops limit rest → Loops [] (λ xs. exactly keyword) (with_item f) (row_read keyword f) ts xs rest)
          → Loops [] (λ xs. exactly keyword) (with_item f) (row_read keyword f) (ts ++ us) (xs ++ x ∷ []) rest)
          (λ k vs y is r front. loop-goes_on [] (λ xs. exactly keyword) (with_item f) (row_read keyword f) ts vs rest xs k k (λ ts. xs ++ y ∷ [])
          (front (k ∷ vs ++ rest) (stops-kind keyword limit low k is (vs ++ rest))) (is-exactly keyword k same is) (mapped-takes _ (item.takes vs y rest r stops)))
          us x h (λ rest stops. loops hs rest stops)

-- ---- chains

pub chain-complete : {I : Rel Expr} {item : Reader Expr} (operators : Table Op2) (low high : ℕ) → keys_apart operators ≡ true → all_ranked low operators ≡ true
    → all_below high operators ≡ true → nat_le low high ≡ true → Complete I high item → Complete (IsChain operators I) low (chain_read operators item)
chain-complete {I} {item} operators low high apart ranked below within each = record {
  takes = λ ts x rest h stops. loop-ends [] (λ x. meant operators) (with_operand item) (chain_read operators item) ts x rest
      (loops h rest (stops-wider low high (leb-true low high within) rest stops)) (declines-table operators low ranked rest stops);
}
  where
    loops : {ts : List Token} {x : Expr} → IsChain operators I ts x → (rest : List Token) → Stops high rest
        → Loops [] (λ x. meant operators) (with_operand item) (chain_read operators item) ts x rest
    loops (IsChain.alone {ts} {x} h) rest stops = loop-starts [] (λ x. meant operators) (with_operand item) (each.takes ts x rest h stops)
    loops (IsChain.more {ts} {us} {x} {y} o op hs means h) rest stops =
        loop-goes_on [] (λ x. meant operators) (with_operand item) (chain_read operators item) ts us rest x o op (λ ts. tree ts (forms.Binary op x y))
        (loops hs (o ∷ us ++ rest) (stops-table operators high below o op means (us ++ rest))) (means-meaning_of operators apart o op means)
        (mapped-takes _ (each.takes us y rest h stops))

pub chain-starts : {I : Rel Expr} {operators : Table Op2} (limit : ℕ) → ((ts : List Token) (x : Expr) → I ts x → Starts limit ts)
    → {ts : List Token} {x : Expr} → IsChain operators I ts x → Starts limit ts
chain-starts limit each (IsChain.alone h) = each _ _ h
chain-starts limit each (IsChain.more {ts} {us} o op hs means h) = starts-append limit ts (o ∷ us) (chain-starts limit each hs)
