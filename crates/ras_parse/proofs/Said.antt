-- The tests for session words say what the grammar says.
use Rattle.std.specs.Prelude.{◌≡◌, ℕ, pos, ◌≤◌, nat_le, Bool, true, false, ◌&&◌, if◌then◌else◌, negsuc, List, [], ◌∷◌, Option, Some, None, IfSome, codes, Ok}
use Rattle.std.specs.Cmp.Lexicographic.{same_text}
use Rattle.std.proofs.Common.{refl, sym, ap, ap₂, subst, ◌∙◌, arith}
use Rattle.std.proofs.lemmas.Bool.{and_parts}
use Rattle.ras_cells.specs.declared.atom.Atom.TheVariants as atoms
use Rattle.ras_syntax.specs.declared.faults.SyntaxFault.{SyntaxFault}
use Rattle.ras_syntax.specs.declared.statement.Statement.{Statement}
use Rattle.ras_syntax.specs.declared.statement.StatementForm.{StatementForm}
use Rattle.ras_syntax.specs.declared.statement.StatementForm.TheVariants as statements
use Rattle.ras_syntax.specs.declared.statement.Word.{Word}
use Rattle.ras_syntax.specs.declared.statement.Word.TheVariants.{Begin, Commit, Abort}
use Rattle.spec_grammar.specs.Tokens.{Text, TokenKind, name, word, number, sign, Token, lexed}
use Rattle.spec_grammar.specs.Weight.{weight_of_kind, weight_of}
use Rattle.ras_syntax.specs.declared.limits.TheConstants.{MAX_WEIGHT}
use Rattle.spec_grammar.specs.Grammar.{IsForm, IsAt, IsStatement}
use Rattle.spec_grammar.specs.Verdict.{IsVerdict, statement}
use Rattle.ras_parse.specs.Seen.{says}
use Rattle.ras_parse.specs.SessionWords.{word_statement, word_of_one, word_of_two, retries_of, begin_of, word_of_three, word_in, word_of}

-- ---- tests

chosen : {A : Type 0} (P : Type 0) (b : Bool) (x y z : A) → (if b then x else y) ≡ z → (b ≡ true → x ≡ z → P) → (b ≡ false → y ≡ z → P) → P
chosen P true x y z e f g = f refl e
chosen P false x y z e f g = g refl e

says-word : (w : Text) (kind : TokenKind) → says w kind ≡ true → kind ≡ word w
says-word w (name text) e = cc
says-word w (word text) e = ap word (same_text text w (sym e))
says-word w (number z atom) e = cc
says-word w (sign text) e = cc

within : (n : ℕ) → (nat_le 1 n && nat_le n 1000) ≡ true → (1 ≤ n) × (n ≤ 1000)
within n e = let both = and_parts (nat_le 1 n) (nat_le n 1000) e in (grind (arith, both.0), grind (arith, both.1))

within_is : (n : ℕ) → 1 ≤ n → n ≤ 1000 → (nat_le 1 n && nat_le n 1000) ≡ true
within_is n h k = grind arith

retries_are : (kind : TokenKind) (n : ℕ) → retries_of kind ≡ Some n → (kind ≡ number (pos n) atoms.Wide) × (1 ≤ n) × (n ≤ 1000)
retries_are (name text) n e = cc
retries_are (word text) n e = cc
retries_are (sign text) n e = cc
retries_are (number (negsuc k) atom) n e = cc
retries_are (number (pos k) atoms.Bool) n e = cc
retries_are (number (pos k) atoms.Octet) n e = cc
retries_are (number (pos k) atoms.Char) n e = cc
retries_are (number (pos k) atoms.Short) n e = cc
retries_are (number (pos k) atoms.Ushort) n e = cc
retries_are (number (pos k) atoms.Long) n e = cc
retries_are (number (pos k) atoms.Ulong) n e = cc
retries_are (number (pos k) atoms.Wide) n e =
    chosen ((number (pos k) atoms.Wide ≡ number (pos n) atoms.Wide) × (1 ≤ n) × (n ≤ 1000)) (nat_le 1 k && nat_le k 1000) (Some k) None (Some n) e
    (λ b is. let same : k ≡ n = cc in
    let both = within k b in (ap (λ m. number (pos m) atoms.Wide) same, subst (λ m. 1 ≤ m) same both.0, subst (λ m. m ≤ 1000) same both.1))
    (λ b is. cc)

-- ---- tokens

abbrev Says : List Token → Word → Type 0
Says ts w = IsStatement ts (statements.Word w) × (weight_of ts ≤ MAX_WEIGHT)

made : (ts : List Token) (v w : Word) → Some v ≡ Some w → IsStatement ts (statements.Word v) → weight_of ts ≤ MAX_WEIGHT → Says ts w
made ts v w e is few = let same : v ≡ w = cc in subst (Says ts) same (is, few)

-- a word that weighs nothing
light : (a : Token) (w : Text) → says w a.kind ≡ true → weight_of_kind (word w) ≡ 0 → weight_of_kind a.kind ≡ 0
light a w e z = ap weight_of_kind (says-word w a.kind e) ∙ z

one-said : (a : Token) (w : Word) → word_of_one a.kind ≡ Some w → Says (a ∷ []) w
one-said a w e =
    chosen (Says (a ∷ []) w) (says (codes "begin") a.kind) _ _ _ e
    (λ b is. made (a ∷ []) (Begin 0) w is (IsForm.begin a (says-word _ a.kind b)) (let z = light a (codes "begin") b refl in omega arith))
    (λ b e'. chosen (Says (a ∷ []) w) (says (codes "commit") a.kind) _ _ _ e'
    (λ b is. made (a ∷ []) (Commit false) w is (IsForm.commit a (says-word _ a.kind b)) (let z = light a (codes "commit") b refl in omega arith))
    (λ b e''. chosen (Says (a ∷ []) w) (says (codes "abort") a.kind) _ _ _ e''
    (λ b is. made (a ∷ []) Abort w is (IsForm.abort a (says-word _ a.kind b)) (let z = light a (codes "abort") b refl in omega arith)) (λ b is. cc)))

two-said : (a b : Token) (w : Word) → word_of_two a.kind b.kind ≡ Some w → Says (a ∷ b ∷ []) w
two-said a b w e =
    chosen (Says (a ∷ b ∷ []) w) (says (codes "commit") a.kind && says (codes "anyway") b.kind) _ _ _ e
    (λ t is. let both = and_parts _ _ t in
    let first = light a (codes "commit") both.0 refl in let second = light b (codes "anyway") both.1 refl in
    made (a ∷ b ∷ []) (Commit true) w is (IsForm.commit_anyway a b (says-word _ a.kind both.0) (says-word _ b.kind both.1)) (omega arith))
    (λ t is. cc)

three-said : (a b c : Token) (w : Word) → word_of_three a.kind b.kind c.kind ≡ Some w → Says (a ∷ b ∷ c ∷ []) w
three-said a b c w e =
    chosen (Says (a ∷ b ∷ c ∷ []) w) (says (codes "begin") a.kind && says (codes "retry") b.kind) _ _ _ e
    (λ t is. let both = and_parts _ _ t in retried (retries_of c.kind) refl both.0 both.1 is) (λ t is. cc)
  where
    retried : (o : Option ℕ) → retries_of c.kind ≡ o → says (codes "begin") a.kind ≡ true → says (codes "retry") b.kind ≡ true
        → begin_of o ≡ Some w → Says (a ∷ b ∷ c ∷ []) w
    retried None times s t is = cc
    retried (Some n) times s t is =
        let number = retries_are c.kind n times in
        let first = light a (codes "begin") s refl in
        let second = light b (codes "retry") t refl in
        let third : weight_of_kind c.kind ≡ 0 = ap weight_of_kind number.0 in
        made (a ∷ b ∷ c ∷ []) (Begin n) w is
        (IsForm.begin_retry a b c n (says-word _ a.kind s) (says-word _ b.kind t) number.0 number.1 number.2) (omega arith)

all-said : (ts : List Token) (f : Option SyntaxFault) (w : Word) → word_in ts f ≡ Some w → (f ≡ None) × Says ts w
all-said ts (Some f) w e = cc
all-said [] None w e = cc
all-said (a ∷ []) None w e = (refl, one-said a w e)
all-said (a ∷ b ∷ []) None w e = (refl, two-said a b w e)
all-said (a ∷ b ∷ c ∷ []) None w e = (refl, three-said a b c w e)
all-said (a ∷ b ∷ c ∷ d ∷ ts) None w e = cc

form-said : (ts : List Token) (form : StatementForm) (w : Word) → IsForm IsAt ts form → form ≡ statements.Word w → word_in ts None ≡ Some w
form-said ts form w (IsForm.select k a b) e = cc
form-said ts form w (IsForm.select_from k f a b c d e') e = cc
form-said ts form w (IsForm.insert k i n v x a b c d e') e = cc
form-said ts form w (IsForm.delete k f a b c d) e = cc
form-said ts form w (IsForm.update k s n a x b c d e' f g h i) e = cc
form-said ts form w (IsForm.create k c n t x y a b d e') e = cc
form-said ts form w (IsForm.drop k c n x a b d) e = cc
form-said ts form w (IsForm.begin k a) e = ap word_of_one a ∙ (let same : Begin 0 ≡ w = cc in ap Some same)
form-said ts form w (IsForm.begin_retry k r n times a b c low high) e =
    ap (λ k. word_of_three k r.kind n.kind) a ∙ (ap (λ k. word_of_three (word (codes "begin")) k n.kind) b
    ∙ (ap (word_of_three (word (codes "begin")) (word (codes "retry"))) c
    ∙ (ap (λ t. begin_of (if t then Some times else None)) (within_is times low high) ∙ (let same : Begin times ≡ w = cc in ap Some same))))
form-said ts form w (IsForm.commit k a) e = ap word_of_one a ∙ (let same : Commit false ≡ w = cc in ap Some same)
form-said ts form w (IsForm.commit_anyway k y a b) e = ap₂ word_of_two a b ∙ (let same : Commit true ≡ w = cc in ap Some same)
form-said ts form w (IsForm.abort k a) e = ap word_of_one a ∙ (let same : Abort ≡ w = cc in ap Some same)

-- ---- verdicts

pub told : (text : Text) (w : Word) → word_of (lexed text) ≡ Some w → IsVerdict text (Ok (word_statement text w))
told text w e = let all = all-said (lexed text).tokens (lexed text).fault w e in statement (statements.Word w) all.0 all.1.0 all.1.1

pub told-only : (text : Text) (s : Statement) (w : Word) → IsVerdict text (Ok s) → s.form ≡ statements.Word w → word_of (lexed text) ≡ Some w
told-only text s w (statement form none is light) e =
    ap (word_in (lexed text).tokens) none ∙ form-said (lexed text).tokens form w is e

pub told_word : (text : Text) (o : Option Word) → word_of (lexed text) ≡ o → IfSome o (λ w. IsVerdict text (Ok (word_statement text w)))
told_word text None e = tt
told_word text (Some w) e = told text w e
