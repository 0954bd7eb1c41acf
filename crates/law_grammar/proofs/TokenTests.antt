-- What the tests of single tokens say, both ways.
use Rattle.std.specs.Prelude.{◌≡◌, ℕ, ◌≤◌, nat_le, ◌&&◌, ℤ, pos, negsuc, Bool as Truth, true, false, [], ◌∷◌, Option, Some, None, is_none}
use Rattle.std.specs.Cmp.Lexicographic.{same_text}
use Rattle.std.proofs.Common.{refl, sym, ap, subst, ◌∙◌, inl, inr}
use Rattle.std.proofs.lemmas.Bool.{and_parts, and_from, leb-true, le-leb}
use Rattle.ras_cells.specs.declared.atom.Atom.{Atom}
use Rattle.ras_cells.specs.declared.atom.Atom.TheVariants.{Bool, Char, Octet, Short, Ushort, Long, Ulong, Wide}
use Rattle.ras_syntax.specs.declared.span.Spanned.{Spanned}
use Rattle.spec_grammar.specs.Tokens.{Text, TokenKind, name, word, number, sign, Token}
use Rattle.spec_grammar.specs.Grammar.{span_of, Table, Means, IsName, IsPlainNumber}
use Rattle.law_grammar.specs.Readers.{same_kind, exactly, meaning_of}
use Rattle.law_grammar.specs.Reading.{name_of_kind, placed_name, number_of_kind, if_wide, plain_of_kind, if_times, times_of}

-- ---- words and signs

pub same_kind-is : (a b : TokenKind) → same_kind a b ≡ true → a ≡ b
same_kind-is (name a) other e = absurd (cc)
same_kind-is (number z a) other e = absurd (cc)
same_kind-is (word a) (name b) e = absurd (cc)
same_kind-is (word a) (word b) e = ap word (same_text a b (sym e))
same_kind-is (word a) (number z b) e = absurd (cc)
same_kind-is (word a) (sign b) e = absurd (cc)
same_kind-is (sign a) (name b) e = absurd (cc)
same_kind-is (sign a) (word b) e = absurd (cc)
same_kind-is (sign a) (number z b) e = absurd (cc)
same_kind-is (sign a) (sign b) e = ap sign (same_text a b (sym e))

pub exactly-is : (kind : TokenKind) (t u : Token) → exactly kind t ≡ Some u → (t.kind ≡ kind) × (t ≡ u)
exactly-is kind t u e = at (same_kind kind t.kind) refl e
  where
    at : (b : Truth) → same_kind kind t.kind ≡ b → elim b as (λ v. Option Token) [ true ↦ Some t | false ↦ None ] ≡ Some u → (t.kind ≡ kind) × (t ≡ u)
    at true same e = (sym (same_kind-is kind t.kind same), cc)
    at false same e = absurd (cc)

pub is-exactly : (kind : TokenKind) (t : Token) → same_kind kind kind ≡ true → t.kind ≡ kind → exactly kind t ≡ Some t
is-exactly kind t same is = ap (λ b. elim b as (λ v. Option Token) [ true ↦ Some t | false ↦ None ]) (ap (same_kind kind) is ∙ same)

pub not-exactly : (kind : TokenKind) (t : Token) → same_kind kind t.kind ≡ false → exactly kind t ≡ None
not-exactly kind t same = ap (λ b. elim b as (λ v. Option Token) [ true ↦ Some t | false ↦ None ]) same

-- ---- tables

pub meaning_of-means : {A : Type 0} (table : Table A) (t : Token) (a : A) → meaning_of table t.kind ≡ Some a → Means table t a
meaning_of-means [] t a e = absurd (none_some e)
  where
    none_some : None ≡ Some a → ⊥
    none_some e = cc
meaning_of-means {A} (entry ∷ table) t a e = at (same_kind entry.0 t.kind) refl e (meaning_of-means table t a)
  where
    at : (b : Truth) → same_kind entry.0 t.kind ≡ b → elim b as (λ v. Option A) [ true ↦ Some entry.1 | false ↦ meaning_of table t.kind ] ≡ Some a
        → (meaning_of table t.kind ≡ Some a → Means table t a) → Means (entry ∷ table) t a
    at true same e rest = inl (sym (same_kind-is entry.0 t.kind same), cc)
    at false same e rest = inr (rest e)

-- a test of each key
abbrev pub each_key : {A : Type 0} → (TokenKind → Truth) → Table A → Truth
each_key p [] = true
each_key p (entry ∷ table) = p entry.0 && each_key p table

pub each_key-at : {A : Type 0} (p : TokenKind → Truth) (table : Table A) → each_key p table ≡ true → (t : Token) (a : A) → Means table t a → p t.kind ≡ true
each_key-at p [] e t a h = elim h [ ]
each_key-at p (entry ∷ table) e t a (inl is) = ap p is.0 ∙ (and_parts (p entry.0) (each_key p table) e).0
each_key-at p (entry ∷ table) e t a (inr h) = each_key-at p table (and_parts (p entry.0) (each_key p table) e).1 t a h

-- each key is a word or a sign, and stands once
abbrev pub keys_apart : {A : Type 0} → Table A → Truth
keys_apart [] = true
keys_apart (entry ∷ table) = same_kind entry.0 entry.0 && is_none (meaning_of table entry.0) && keys_apart table

pub means-meaning_of : {A : Type 0} (table : Table A) → keys_apart table ≡ true → (t : Token) (a : A) → Means table t a → meaning_of table t.kind ≡ Some a
means-meaning_of [] apart t a h = elim h [ ]
means-meaning_of {A} (entry ∷ table) apart t a (inl is) =
    let own : same_kind entry.0 entry.0 && is_none (meaning_of table entry.0) ≡ true =
    (and_parts (same_kind entry.0 entry.0 && is_none (meaning_of table entry.0)) (keys_apart table) apart).0 in
    let same : same_kind entry.0 t.kind ≡ true = ap (same_kind entry.0) is.0 ∙ (and_parts (same_kind entry.0 entry.0) (is_none (meaning_of table entry.0)) own).0 in
    ap (λ b. elim b as (λ v. Option A) [ true ↦ Some entry.1 | false ↦ meaning_of table t.kind ]) same ∙ ap (λ x. Some x) (sym is.1)
means-meaning_of {A} (entry ∷ table) apart t a (inr h) =
    at (same_kind entry.0 t.kind) refl
    (means-meaning_of table (and_parts (same_kind entry.0 entry.0 && is_none (meaning_of table entry.0)) (keys_apart table) apart).1 t a h)
  where
    own : same_kind entry.0 entry.0 && is_none (meaning_of table entry.0) ≡ true
    own = (and_parts (same_kind entry.0 entry.0 && is_none (meaning_of table entry.0)) (keys_apart table) apart).0

    at : (b : Truth) → same_kind entry.0 t.kind ≡ b → meaning_of table t.kind ≡ Some a
        → elim b as (λ v. Option A) [ true ↦ Some entry.1 | false ↦ meaning_of table t.kind ] ≡ Some a
    at true same rest =
        let alone : is_none (meaning_of table entry.0) ≡ true = (and_parts (same_kind entry.0 entry.0) (is_none (meaning_of table entry.0)) own).1 in
        let there : meaning_of table entry.0 ≡ Some a = ap (meaning_of table) (same_kind-is entry.0 t.kind same) ∙ rest in
        absurd (let e : is_none (Some a) ≡ true = ap is_none (sym there) ∙ alone in cc)
    at false same rest = rest

-- ---- names and numbers

pub name_of-is : (kind : TokenKind) (text : Text) → name_of_kind kind ≡ Some text → kind ≡ name text
name_of-is (name a) text e = cc
name_of-is (word a) text e = absurd (cc)
name_of-is (number z a) text e = absurd (cc)
name_of-is (sign a) text e = absurd (cc)

pub placed_name-is : (t : Token) (x : Spanned) → placed_name t ≡ Some x → IsName t x
placed_name-is t x e = at (name_of_kind t.kind) refl e
  where
    at : (o : Option Text) → name_of_kind t.kind ≡ o
        → elim o as (λ v. Option Spanned) [ Some text ↦ Some (record { name = text; span = span_of (t ∷ []) }) | None ↦ None ] ≡ Some x → IsName t x
    at (Some text) is e =
        let whole : record { name = text; span = span_of (t ∷ []) } ≡ x = cc in
        (name_of-is t.kind text is ∙ ap (λ y. name y.name) whole, sym (ap (λ y. y.span) whole))
    at None is e = absurd (cc)

pub is-placed_name : (t : Token) (x : Spanned) → IsName t x → placed_name t ≡ Some x
is-placed_name t x is =
    let e : name_of_kind t.kind ≡ Some x.name = ap name_of_kind is.0 in
    ap (λ o. elim o as (λ v. Option Spanned) [ Some text ↦ Some (record { name = text; span = span_of (t ∷ []) }) | None ↦ None ]) e
    ∙ ap (λ span. Some (record { name = x.name; span = span })) (sym is.1)

pub number_of-is : (kind : TokenKind) (n : ℤ × Atom) → number_of_kind kind ≡ Some n → kind ≡ number n.0 n.1
number_of-is (name a) n e = absurd (cc)
number_of-is (word a) n e = absurd (cc)
number_of-is (number z a) n e = let e' : (z, a) ≡ n = cc in ap (λ m. number m.0 m.1) e'
number_of-is (sign a) n e = absurd (cc)

if_wide-is : (z : ℤ) (a : Atom) (z' : ℤ) → if_wide z a ≡ Some z' → number z a ≡ number z' Wide
if_wide-is z Bool z' e = absurd (cc)
if_wide-is z Char z' e = absurd (cc)
if_wide-is z Octet z' e = absurd (cc)
if_wide-is z Short z' e = absurd (cc)
if_wide-is z Ushort z' e = absurd (cc)
if_wide-is z Long z' e = absurd (cc)
if_wide-is z Ulong z' e = absurd (cc)
if_wide-is z Wide z' e = let e' : z ≡ z' = cc in ap (λ y. number y Wide) e'

pub plain_of-is : (kind : TokenKind) (z : ℤ) → plain_of_kind kind ≡ Some z → kind ≡ number z Wide
plain_of-is (name a) z e = absurd (cc)
plain_of-is (word a) z e = absurd (cc)
plain_of-is (number y a) z e = if_wide-is y a z e
plain_of-is (sign a) z e = absurd (cc)

if_times-is : (z : ℤ) (n : ℕ) → if_times z ≡ Some n → (z ≡ pos n) × (1 ≤ n) × (n ≤ 1000)
if_times-is (negsuc k) n e = absurd (cc)
if_times-is (pos k) n e = at (nat_le 1 k && nat_le k 1000) refl e
  where
    at : (b : Truth) → nat_le 1 k && nat_le k 1000 ≡ b → elim b as (λ v. Option ℕ) [ true ↦ Some k | false ↦ None ] ≡ Some n
        → (pos k ≡ pos n) × (1 ≤ n) × (n ≤ 1000)
    at true within e =
        let same : k ≡ n = cc in
        let both = and_parts (nat_le 1 k) (nat_le k 1000) within in
        (ap (λ m. pos m) same, subst (λ m. 1 ≤ m) same (leb-true 1 k both.0), subst (λ m. m ≤ 1000) same (leb-true k 1000 both.1))
    at false within e = absurd (cc)

pub times_of-is : (t : Token) (n : ℕ) → times_of t ≡ Some n → IsPlainNumber t (pos n) × (1 ≤ n) × (n ≤ 1000)
times_of-is t n e = at (plain_of_kind t.kind) refl e
  where
    at : (o : Option ℤ) → plain_of_kind t.kind ≡ o → elim o as (λ v. Option ℕ) [ Some z ↦ if_times z | None ↦ None ] ≡ Some n
        → IsPlainNumber t (pos n) × (1 ≤ n) × (n ≤ 1000)
    at (Some z) is e =
        let within : (z ≡ pos n) × (1 ≤ n) × (n ≤ 1000) = if_times-is z n e in
        (plain_of-is t.kind z is ∙ ap (λ y. number y Wide) within.0, within.1, within.2)
    at None is e = absurd (cc)

pub is-times_of : (t : Token) (n : ℕ) → IsPlainNumber t (pos n) → 1 ≤ n → n ≤ 1000 → times_of t ≡ Some n
is-times_of t n is low high =
    ap (λ kind. elim (plain_of_kind kind) as (λ v. Option ℕ) [ Some z ↦ if_times z | None ↦ None ]) is
    ∙ ap (λ b. elim b as (λ v. Option ℕ) [ true ↦ Some n | false ↦ None ]) (and_from (nat_le 1 n) (nat_le n 1000) (le-leb 1 n low) (le-leb n 1000 high))
