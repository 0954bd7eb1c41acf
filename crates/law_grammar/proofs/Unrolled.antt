-- What a parser's loops need: a reader leaves an end of its list, and a loop may be taken one turn at a time.
use Rattle.std.specs.Prelude.{◌≡◌, ◌<◌, ℕ, zero, suc, ◌+◌, ◌≤◌, pos, Bool as Truth, true, false, List, [], ◌∷◌, ◌++◌, length, Option, Some, None, Ok, Err}
use Rattle.std.proofs.Common.{subst, refl, sym, ap, ◌∙◌, arith, length-append}
use Rattle.ras_cells.specs.declared.atom.Atom.TheVariants as atoms
use Rattle.ras_cells.specs.declared.numbers.Op2.{Op2}
use Rattle.ras_syntax.specs.declared.expr.Expr.{Expr}
use Rattle.ras_syntax.specs.declared.expr.ExprForm.TheVariants as forms
use Rattle.spec_grammar.specs.Tokens.{TokenKind, number, Token}
use Rattle.spec_grammar.specs.Grammar.{IsAt, Rel, Table, end_of, span_of, tree, Level}
use Rattle.law_grammar.specs.Readers.{ReadOutcome, Reader, then_read, exactly, meant, mapped, before, turns}
use Rattle.law_grammar.specs.Reading.{if_room, with_item, with_operand, part_signs, part_rest, with_part, index_rest, axis_read, bounds_read, arm_rest, source_read, signed_read, product_read, sum_read, negated_read, both_read, either_read, read_at, read_form}
use Rattle.law_grammar.proofs.Good.{Told, Good, give-good, accept_or-good, less, turn-on, turn-wrong, turn-stop, turn-end}
use Rattle.law_grammar.proofs.Pieces.{deeper, some_token, accept-good}
use Rattle.law_grammar.proofs.Productions.{indexes-good, axis-good, bounds-good, arm_rest-good, signed-good, product-good, sum-good, negated-good, both-good, either-good}
use Rattle.law_grammar.proofs.Ranks.{Starts}
use Rattle.law_grammar.proofs.CompleteProductions.{opening_of}
use Rattle.law_grammar.proofs.CompleteStatements.{at-starts}
use Rattle.law_grammar.proofs.StatementsRead.{read_at-good, read_form-good, source-good}

-- the tokens that are left after reading
abbrev pub left : {A : Type 0} → ReadOutcome A → List Token
left (Ok p) = p.1
left (Err rest) = rest

-- a reader leaves an end of its list
pub record Leaves {A : Type 0} (f : Reader A) : Type 0 where
  pub read : (s : List Token) → List Token
  pub is : (s : List Token) → s ≡ read s ++ left (f s)

pub good-leaves : {A : Type 0} {Q : Rel A} {f : Reader A} → ((n : ℕ) → Good Q (suc n) (suc n) f f) → Leaves f
good-leaves {A} {Q} {f} good = record { read = λ s. (split s).0; is = λ s. (split s).1 }
  where
    at : (n : ℕ) (s : List Token) (o : ReadOutcome A) → Told Q n f s o → (pre : List Token) × (s ≡ pre ++ left o)
    at n s (Ok p) r = (r.pre, r.is)
    at n s (Err rest) r = (r.pre, r.is)

    split : (s : List Token) → (pre : List Token) × (s ≡ pre ++ left (f s))
    split s = at (suc (length s)) s (f s) ((good (length s)).told s (omega arith))

pub leaves-fewer : {A : Type 0} (f : Reader A) → Leaves f → (s : List Token) (x : A) (rest : List Token) → f s ≡ Ok (x, rest) → length rest ≤ length s
leaves-fewer f l s x rest e =
    let is : length s ≡ length (l.read s ++ rest) = ap length (l.is s ∙ ap (λ o. l.read s ++ left o) e) in
    let len : length (l.read s ++ rest) ≡ length (l.read s) + length rest = length-append (l.read s) rest in
    omega arith

pub mapped-leaves : {A B : Type 0} (h : A → B) (f : Reader A) → Leaves f → Leaves (mapped h f)
unfolding mapped
mapped-leaves {A} {B} h f l = record { read = l.read; is = λ s. l.is s ∙ ap (λ us. l.read s ++ us) (at (f s)) }
  where
    at : (o : ReadOutcome A) → left o ≡ left (then_read o (λ x rest. Ok (h x, rest)))
    at (Ok p) = refl
    at (Err rest) = refl

-- ---- turns

module _ {A B : Type 0} (next : A → Token → Option B) (step : A → B → Reader (List Token → A)) (leaves : (x : A) (b : B) → Leaves (step x b))
    (start : List Token) where
  -- more turns than tokens are of no matter
  pub turns-same : (most most' : ℕ) (x : A) (s : List Token) → length s ≤ most → length s ≤ most'
      → turns next step most start x s ≡ turns next step most' start x s
  unfolding less
  turns-same most most' x [] few few' = turn-end next step start most x ∙ sym (turn-end next step start most' x)
  turns-same zero most' x (t ∷ s) few few' = absurd (let h : length (t ∷ s) ≤ 0 = few in omega arith)
  turns-same (suc most) zero x (t ∷ s) few few' = absurd (let h : length (t ∷ s) ≤ 0 = few' in omega arith)
  turns-same (suc most) (suc most') x (t ∷ s) few few' = at (next x t) refl (λ y rest h h'. turns-same most most' y rest h h')
    where
      More : Type 0
      More = (y : A) (rest : List Token) → length rest ≤ most → length rest ≤ most' → turns next step most start y rest ≡ turns next step most' start y rest

      Goal : Type 0
      Goal = turns next step (suc most) start x (t ∷ s) ≡ turns next step (suc most') start x (t ∷ s)

      go : (b : B) (o : ReadOutcome (List Token → A)) → next x t ≡ Some b → step x b s ≡ o → More → Goal
      go b (Ok (j, rest)) e e' more =
          let shorter : length rest ≤ length s = leaves-fewer (step x b) (leaves x b) s j rest e' in
          let h : length (t ∷ s) ≤ suc most = few in
          let h' : length (t ∷ s) ≤ suc most' = few' in
          turn-on next step start (suc most) x t b s j rest (omega arith) e e'
          ∙ more (j (before start rest)) rest (omega arith) (omega arith)
          ∙ sym (turn-on next step start (suc most') x t b s j rest (omega arith) e e')
      go b (Err rest) e e' more =
          turn-wrong next step start (suc most) x t b s rest (omega arith) e e' ∙ sym (turn-wrong next step start (suc most') x t b s rest (omega arith) e e')

      at : (o : Option B) → next x t ≡ o → More → Goal
      at (Some b) e more = go b (step x b s) e refl more
      at None e more = turn-stop next step start (suc most) x t s e ∙ sym (turn-stop next step start (suc most') x t s e)

  -- one turn of a loop, which has as many turns left as tokens
  pub one_turn : (x : A) (t : Token) (b : B) (s : List Token) (j : List Token → A) (rest : List Token) → next x t ≡ Some b → step x b s ≡ Ok (j, rest)
      → turns next step (length (t ∷ s)) start x (t ∷ s) ≡ turns next step (length rest) start (j (before start rest)) rest
  unfolding less
  one_turn x t b s j rest e e' =
      turn-on next step start (suc (length s)) x t b s j rest (omega arith) e e'
      ∙ turns-same (length s) (length rest) (j (before start rest)) rest (leaves-fewer (step x b) (leaves x b) s j rest e') (omega arith)

-- ---- the readers of the grammar

pub read_at-leaves : (level : Level) → Leaves (read_at level)
read_at-leaves level = good-leaves (λ n. read_at-good (suc n) (suc n) level)

pub read_form-leaves : Leaves read_form
read_form-leaves = good-leaves (λ n. read_form-good n n)

pub source-leaves : Leaves source_read
source-leaves = good-leaves (λ n. source-good)

pub signed-leaves : Leaves (signed_read read_at)
signed-leaves = good-leaves (λ n. signed-good n n read_at read_at (read_at-good n n))

pub product-leaves : Leaves (product_read read_at)
product-leaves = good-leaves (λ n. product-good n n read_at read_at (read_at-good n n))

pub sum-leaves : Leaves (sum_read read_at)
sum-leaves = good-leaves (λ n. sum-good n n read_at read_at (read_at-good n n))

pub negated-leaves : Leaves (negated_read read_at)
negated-leaves = good-leaves (λ n. negated-good n n read_at read_at (read_at-good n n))

pub both-leaves : Leaves (both_read read_at)
both-leaves = good-leaves (λ n. both-good n n read_at read_at (read_at-good n n))

pub either-leaves : Leaves (either_read read_at)
either-leaves = good-leaves (λ n. either-good n n read_at read_at (read_at-good n n))

pub axis-leaves : Leaves (axis_read read_at)
axis-leaves = good-leaves (λ n. axis-good (suc n) (suc n) read_at read_at (read_at-good (suc n) (suc n)))

pub bounds-leaves : Leaves (bounds_read read_at)
bounds-leaves = good-leaves (λ n. bounds-good (suc n) (suc n) read_at read_at (read_at-good (suc n) (suc n)))

pub arm-leaves : Leaves (arm_rest read_at)
arm-leaves = good-leaves (λ n. arm_rest-good (suc n) (suc n) read_at read_at (read_at-good (suc n) (suc n)))

pub index-leaves : Leaves (index_rest read_at)
index-leaves = good-leaves (λ n. indexes-good (suc n) (suc n) read_at read_at (read_at-good (suc n) (suc n)))

-- whatever is read, with no regard to what it is
abbrev Anything : {A : Type 0} → Rel A
Anything ts x = Unit {0}

part_rest-leaves : (x : Expr) → Leaves (part_rest x)
part_rest-leaves x = good-leaves {Q = Anything} (λ n. accept_or-good (deeper (suc n)) (deeper (suc n)) (λ t text is. give-good _ tt)
    (accept-good (deeper (suc n)) (deeper (suc n)) (some_token (number (pos 0) atoms.Wide)) (pos 0) refl (λ t z is. give-good _ tt)))

pub part-leaves : (x : Expr) (b : Truth) → Leaves (with_part read_at x b)
part-leaves x true = mapped-leaves _ (index_rest read_at) index-leaves
part-leaves x false = part_rest-leaves x

-- ---- one turn of each kind of loop

mapped-is : {A B : Type 0} (h : A → B) (f : Reader A) (ts : List Token) (x : A) (rest : List Token) → f ts ≡ Ok (x, rest) → mapped h f ts ≡ Ok (h x, rest)
unfolding mapped
mapped-is h f ts x rest e = ap (λ o. then_read o (λ x left. Ok (h x, left))) e

pub chain-turn : (operators : Table Op2) (item : Reader Expr) → Leaves item → (start : List Token) (x : Expr) (t : Token) (op : Op2) (ts : List Token) (y : Expr)
    (rest : List Token) → meant operators t ≡ Some op → item ts ≡ Ok (y, rest)
    → turns (λ x. meant operators) (with_operand item) (length (t ∷ ts)) start x (t ∷ ts)
    ≡ turns (λ x. meant operators) (with_operand item) (length rest) start (tree (before start rest) (forms.Binary op x y)) rest
chain-turn operators item l start x t op ts y rest e e' =
    one_turn (λ x. meant operators) (with_operand item) (λ x op. mapped-leaves _ item l) start x t op ts _ rest e (mapped-is _ item ts y rest e')

pub comma-turn : {A : Type 0} (room : ℕ → Truth) (item : Reader A) → Leaves item → (start : List Token) (xs : List A) (t : Token) (ts : List Token) (x : A)
    (rest : List Token) → if_room room xs t ≡ Some t → item ts ≡ Ok (x, rest)
    → turns (if_room room) (with_item item) (length (t ∷ ts)) start xs (t ∷ ts) ≡ turns (if_room room) (with_item item) (length rest) start (xs ++ x ∷ []) rest
comma-turn room item l start xs t ts x rest e e' =
    one_turn (if_room room) (with_item item) (λ xs c. mapped-leaves _ item l) start xs t t ts _ rest e (mapped-is _ item ts x rest e')

pub row-turn : {A : Type 0} (keyword : TokenKind) (item : Reader A) → Leaves item → (start : List Token) (xs : List A) (t : Token) (ts : List Token) (x : A)
    (rest : List Token) → exactly keyword t ≡ Some t → item ts ≡ Ok (x, rest)
    → turns (λ xs. exactly keyword) (with_item item) (length (t ∷ ts)) start xs (t ∷ ts)
    ≡ turns (λ xs. exactly keyword) (with_item item) (length rest) start (xs ++ x ∷ []) rest
row-turn keyword item l start xs t ts x rest e e' =
    one_turn (λ xs. exactly keyword) (with_item item) (λ xs k. mapped-leaves _ item l) start xs t t ts _ rest e (mapped-is _ item ts x rest e')

pub part-turn : (start : List Token) (x : Expr) (t : Token) (b : Truth) (ts : List Token) (j : List Token → Expr) (rest : List Token)
    → meant part_signs t ≡ Some b → with_part read_at x b ts ≡ Ok (j, rest)
    → turns (λ x. meant part_signs) (with_part read_at) (length (t ∷ ts)) start x (t ∷ ts)
    ≡ turns (λ x. meant part_signs) (with_part read_at) (length rest) start (j (before start rest)) rest
part-turn start x t b ts j rest e e' = one_turn (λ x. meant part_signs) (with_part read_at) part-leaves start x t b ts j rest e e'

-- ---- what was read

-- what was read of a list is an expression
pub record Taken (level : Level) (ts : List Token) (x : Expr) (rest : List Token) : Type 0 where
  pub before : List Token
  pub is : ts ≡ before ++ rest
  pub holds : IsAt level before x

pub taken : (level : Level) (ts : List Token) (x : Expr) (rest : List Token) → read_at level ts ≡ Ok (x, rest) → Taken level ts x rest
taken level ts x rest e = at (subst (λ o. Told (IsAt level) 0 (read_at level) ts o) e ((read_at-good (suc (length ts)) 0 level).told ts (omega arith)))
  where
    at : Told (IsAt level) 0 (read_at level) ts (Ok (x, rest)) → Taken level ts x rest
    at h = record { before = h.pre; is = h.is; holds = h.holds }

pub taken-fewer : (level : Level) (ts : List Token) (x : Expr) (rest : List Token) → read_at level ts ≡ Ok (x, rest) → length rest < length ts
taken-fewer level ts x rest e =
    let t : Taken level ts x rest = taken level ts x rest e in
    let b : Starts (opening_of level) t.before = at-starts level t.before x t.holds in
    let some : length t.before ≡ length (b.head ∷ b.tail) = ap length b.is in
    let all : length ts ≡ length (t.before ++ rest) = ap length t.is in
    let parts : length (t.before ++ rest) ≡ length t.before + length rest = length-append t.before rest in
    omega arith

-- ---- spans

-- a span reaches to the last token
pub end_of-last : (place : ℕ) (ts : List Token) (t : Token) → end_of place (ts ++ t ∷ []) ≡ t.to
end_of-last place [] t = refl
end_of-last place (u ∷ ts) t = end_of-last u.to ts t

pub span_of-one : (t : Token) → span_of (t ∷ []) ≡ record { from = t.from; to = t.to }
span_of-one t = refl

pub span_of-ends : (t u : Token) (ts : List Token) → span_of (t ∷ ts ++ u ∷ []) ≡ record { from = t.from; to = u.to }
span_of-ends t u ts = ap (λ to. record { from = t.from; to = to }) (end_of-last t.to ts u)
