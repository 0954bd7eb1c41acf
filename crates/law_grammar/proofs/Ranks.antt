-- Which tokens go on with a form that could end before them, and which begin one, each by a number.
use Rattle.std.specs.Prelude.{◌≡◌, ℕ, suc, ◌<◌, ◌≤◌, nat_le, Bool as Truth, true, false, List, [], ◌∷◌, ◌++◌, Option, Some, None}
use Rattle.std.proofs.Common.{refl, ap, arith}
use Rattle.std.proofs.lemmas.Bool.{leb-true}
use Rattle.spec_grammar.specs.Tokens.{TokenKind, Token}
use Rattle.spec_grammar.specs.Grammar.{Table, w, s, Means}
use Rattle.law_grammar.specs.Readers.{same_kind, exactly, meaning_of, meant}
use Rattle.law_grammar.proofs.TokenTests.{same_kind-is, meaning_of-means, each_key, each_key-at}

-- ---- what goes on

abbrev pub ranks : Table ℕ
ranks =
    (s "[", 10) ∷ (s ".", 10) ∷ (s "*", 9) ∷ (s "+", 8) ∷ (s "-", 8)
    ∷ (s "=", 7) ∷ (s "!=", 7) ∷ (s "<", 7) ∷ (s "<=", 7) ∷ (s ">", 7) ∷ (s ">=", 7)
    ∷ (w "and", 5) ∷ (w "or", 4) ∷ (w "xor", 4) ∷ (w "overlay", 3)
    ∷ (s ":", 2) ∷ (w "as", 2) ∷ (s ",", 1) ∷ (w "when", 1) ∷ (w "with", 1) ∷ []

abbrev pub number_in : Table ℕ → TokenKind → ℕ
number_in table kind = elim (meaning_of table kind) [ Some n ↦ n | None ↦ 0 ]

abbrev pub rank : TokenKind → ℕ
rank kind = number_in ranks kind

-- the next token has a lower rank
abbrev pub Stops : ℕ → List Token → Type 0
Stops limit [] = Unit {0}
Stops limit (t ∷ ts) = rank t.kind < limit

pub stops-wider : (low high : ℕ) → low ≤ high → (ts : List Token) → Stops low ts → Stops high ts
stops-wider low high le [] h = tt
stops-wider low high le (t ∷ ts) h = let h' : rank t.kind < low = h in omega arith

-- the next token is not accepted
abbrev pub Declines : {A : Type 0} → (Token → Option A) → List Token → Type 0
Declines p [] = Unit {0}
Declines p (t ∷ ts) = p t ≡ None

pub declines-exactly : (kind : TokenKind) (limit : ℕ) → nat_le limit (rank kind) ≡ true → (ts : List Token) → Stops limit ts → Declines (exactly kind) ts
declines-exactly kind limit high [] h = tt
declines-exactly kind limit high (t ∷ ts) h = at (same_kind kind t.kind) refl
  where
    at : (b : Truth) → same_kind kind t.kind ≡ b → elim b as (λ v. Option Token) [ true ↦ Some t | false ↦ None ] ≡ None
    at true same =
        let e : rank kind ≡ rank t.kind = ap rank (same_kind-is kind t.kind same) in
        let le : limit ≤ rank kind = leb-true limit (rank kind) high in
        let less : rank t.kind < limit = h in
        absurd (omega arith)
    at false same = refl

-- each word or sign of the table has this rank at least
abbrev pub all_ranked : {A : Type 0} → ℕ → Table A → Truth
all_ranked limit table = each_key (λ kind. nat_le limit (rank kind)) table

pub declines-table : {A : Type 0} (table : Table A) (limit : ℕ) → all_ranked limit table ≡ true → (ts : List Token) → Stops limit ts → Declines (meant table) ts
declines-table table limit high [] h = tt
declines-table {A} table limit high (t ∷ ts) h = at (meaning_of table t.kind) refl
  where
    at : (o : Option A) → meaning_of table t.kind ≡ o → o ≡ None
    at (Some a) is =
        let le : limit ≤ rank t.kind = leb-true limit (rank t.kind) (each_key-at (λ kind. nat_le limit (rank kind)) table high t a (meaning_of-means table t a is)) in
        let less : rank t.kind < limit = h in
        absurd (omega arith)
    at None is = refl

-- a table's words and signs stop what ends before them
abbrev pub all_below : {A : Type 0} → ℕ → Table A → Truth
all_below limit table = each_key (λ kind. nat_le (suc (rank kind)) limit) table

pub stops-table : {A : Type 0} (table : Table A) (limit : ℕ) → all_below limit table ≡ true → (t : Token) (a : A) → Means table t a
    → (ts : List Token) → Stops limit (t ∷ ts)
stops-table table limit low t a means ts =
    let le : suc (rank t.kind) ≤ limit = leb-true (suc (rank t.kind)) limit (each_key-at (λ kind. nat_le (suc (rank kind)) limit) table low t a means) in
    omega arith

pub stops-kind : (kind : TokenKind) (limit : ℕ) → nat_le (suc (rank kind)) limit ≡ true → (t : Token) → t.kind ≡ kind → (ts : List Token) → Stops limit (t ∷ ts)
stops-kind kind limit low t is ts =
    let le : suc (rank kind) ≤ limit = leb-true (suc (rank kind)) limit low in
    let e : rank t.kind ≡ rank kind = ap rank is in
    omega arith

-- ---- what begins

abbrev pub openings : Table ℕ
openings =
    (s "-", 1) ∷ (w "not", 2) ∷ (w "marray", 3) ∷ (w "condense", 3) ∷ (w "concat", 3) ∷ (s "*", 4)
    ∷ (w "bool", 4) ∷ (w "boolean", 4) ∷ (w "octet", 4) ∷ (w "char", 4) ∷ (w "short", 4) ∷ (w "ushort", 4)
    ∷ (w "long", 4) ∷ (w "ulong", 4) ∷ (w "wide", 4) ∷ (w "unsigned", 4) ∷ []

abbrev pub opening : TokenKind → ℕ
opening kind = number_in openings kind

-- a form has a first token, and what may begin it
pub record Starts (limit : ℕ) (ts : List Token) : Type 0 where
  pub head : Token
  pub tail : List Token
  pub is : ts ≡ head ∷ tail
  pub low : opening head.kind ≤ limit

pub starts-wider : (low high : ℕ) (ts : List Token) → low ≤ high → Starts low ts → Starts high ts
starts-wider low high ts le h = record { head = h.head; tail = h.tail; is = h.is; low = let l : opening h.head.kind ≤ low = h.low in omega arith }

pub starts-append : (limit : ℕ) (ts us : List Token) → Starts limit ts → Starts limit (ts ++ us)
starts-append limit ts us h = record { head = h.head; tail = h.tail ++ us; is = ap (λ vs. vs ++ us) h.is; low = h.low }

pub starts-kind : (kind : TokenKind) (limit : ℕ) → nat_le (opening kind) limit ≡ true → (t : Token) (ts : List Token) → t.kind ≡ kind → Starts limit (t ∷ ts)
starts-kind kind limit low t ts is = record {
  head = t;
  tail = ts;
  is = refl;
  low = let e : opening t.kind ≡ opening kind = ap opening is in let le : opening kind ≤ limit = leb-true (opening kind) limit low in omega arith;
}

pub starts-table : {A : Type 0} (table : Table A) (limit : ℕ) → each_key (λ kind. nat_le (opening kind) limit) table ≡ true
    → (t : Token) (a : A) → Means table t a → (ts : List Token) → Starts limit (t ∷ ts)
starts-table table limit low t a means ts = record {
  head = t;
  tail = ts;
  is = refl;
  low = leb-true (opening t.kind) limit (each_key-at (λ kind. nat_le (opening kind) limit) table low t a means);
}

-- what begins so is not this word or sign
pub not_opening : (kind : TokenKind) (limit : ℕ) → nat_le (suc limit) (opening kind) ≡ true → (t : Token) → opening t.kind ≤ limit → exactly kind t ≡ None
not_opening kind limit high t low = at (same_kind kind t.kind) refl
  where
    at : (b : Truth) → same_kind kind t.kind ≡ b → elim b as (λ v. Option Token) [ true ↦ Some t | false ↦ None ] ≡ None
    at true same =
        let e : opening kind ≡ opening t.kind = ap opening (same_kind-is kind t.kind same) in
        let le : suc limit ≤ opening kind = leb-true (suc limit) (opening kind) high in
        absurd (omega arith)
    at false same = refl
