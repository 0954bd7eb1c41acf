-- Loops of readers, one turn at a time.
use Rattle.std.specs.Prelude.{◌≡◌, ℤ, ℕ, zero, suc, drop, ◌≤◌, Bool as Truth, true, false, List, [], ◌∷◌, ◌++◌, length, Option, Some, None, option_map, Ok, Err}
use Rattle.std.proofs.Common.{refl, sym, ap, subst, ◌∙◌, arith}
use Rattle.std.proofs.lemmas.Option.{some_pair_parts}
use Rattle.ras_cells.specs.declared.numbers.Op2.{Op2}
use Rattle.ras_syntax.specs.declared.expr.Expr.{Expr}
use Rattle.ras_syntax.specs.declared.expr.ExprForm.{ExprForm}
use Rattle.ras_syntax.specs.declared.expr.ExprForm.TheVariants as forms
use Rattle.ras_syntax.specs.declared.expr.Part.TheVariants as parts
use Rattle.spec_grammar.specs.Tokens.{Text, TokenKind, Token}
use Rattle.spec_grammar.specs.Grammar.{Level, Table, tree}
use Rattle.law_grammar.specs.Readers.{ReadOutcome, Reader, then_read, give, accept, meant, exactly, expect, refuse, mapped, before, turns, loop_after}
use Rattle.law_grammar.specs.Reading.{if_room, with_item, comma_list, row_read, with_operand, chain_read, index_rest, part_signs, with_part, part_after, name_of, plain_number_of}
use Rattle.ras_parse.specs.declared.stop.Stop.{Stop}
use Rattle.ras_parse.specs.declared.stop.Stop.TheVariants.{Unexpected}
use Rattle.ras_syntax.specs.declared.expr.Axis.{Axis}
use Rattle.ras_parse.specs.Parts.{form_of_part, parts_from}
use Rattle.ras_parse.specs.Inputs.{Input, left, Goes, taken, TakesToken, Reads}
use Rattle.ras_parse.proofs.Readings.{chosen, accept_or-is, refuse-is, mapped-is}
use Rattle.ras_parse.proofs.Follows.{goes-same, goes-on, goes-past, made}

module _ {A B : Type 0} (next : A → Token → Option B) (step : A → B → Reader (List Token → A)) (start : List Token) where
  -- with what was read so far, and what is left, the loop comes to this outcome
  pub record Turning (x : A) (s : List Token) (outcome : ReadOutcome A) : Type 0 where
    pub most : ℕ
    pub enough : length s ≤ most
    pub same : outcome ≡ turns next step most start x s

  go-on : B → List Token → (x : A) → ℕ → ReadOutcome A
  go-on b s x most = then_read (step x b s) (λ told rest. turns next step most start (told (before start rest)) rest)

  one-more : (most : ℕ) (x : A) (s : List Token) (b : B) (rest : List Token) → taken (next x) s ≡ Some (b, rest)
      → (turns next step (suc most) start x s ≡ then_read (step x b rest) (λ told us. turns next step most start (told (before start us)) us)) × (length s ≡ suc (length rest))
  unfolding turns taken
  one-more most x [] b rest e = absurd (cc)
  one-more most x (t ∷ s) b rest e = at (next x t) e
    where
      at : (o : Option B) → option_map {U = B × List Token} (λ b. (b, s)) o ≡ Some (b, rest)
          → (elim o as (λ v. ReadOutcome A) [
            | Some b ↦ then_read (step x b s) (λ told us. turns next step most start (told (before start us)) us)
            | None ↦ Ok (x, t ∷ s)
          ] ≡ then_read (step x b rest) (λ told us. turns next step most start (told (before start us)) us)) × (length (t ∷ s) ≡ suc (length rest))
      at (Some b') e' =
          let same : b' ≡ b = (some_pair_parts b' b s rest e').0 in
          let left : s ≡ rest = (some_pair_parts b' b s rest e').1 in (
            subst (λ v. then_read (step x b' s) (λ told us. turns next step most start (told (before start us)) us)
                ≡ then_read (step x v rest) (λ told us. turns next step most start (told (before start us)) us)) same
                (ap (λ us. then_read (step x b' us) (λ told us. turns next step most start (told (before start us)) us)) left),
            ap (λ us. suc (length us)) left,
          )
      at None e' = absurd (cc)

  no-more : (most : ℕ) (x : A) (s : List Token) → taken (next x) s ≡ None → turns next step most start x s ≡ Ok (x, s)
  unfolding turns taken
  no-more zero x s e = refl
  no-more (suc most) x [] e = refl
  no-more (suc most) x (t ∷ s) e = at (next x t) e
    where
      at : (o : Option B) → option_map {U = B × List Token} (λ b. (b, s)) o ≡ None
          → elim o as (λ v. ReadOutcome A) [
            | Some b ↦ then_read (step x b s) (λ told us. turns next step most start (told (before start us)) us)
            | None ↦ Ok (x, t ∷ s)
          ] ≡ Ok (x, t ∷ s)
      at (Some b) e' = absurd (cc)
      at None e' = refl

  pub turning-begins : (x : A) (s : List Token) → Turning x s (turns next step (length s) start x s)
  turning-begins x s = record { most = length s; enough = omega arith; same = refl }

  pub turning-stops : (x : A) (s : List Token) (o : ReadOutcome A) → Turning x s o → taken (next x) s ≡ None → o ≡ Ok (x, s)
  turning-stops x s o t e = t.same ∙ no-more t.most x s e

  pub turning-wrong : (x : A) (s : List Token) (o : ReadOutcome A) (b : B) (us rest : List Token) → Turning x s o → taken (next x) s ≡ Some (b, us) → step x b us ≡ Err rest → o ≡ Err rest
  turning-wrong x s o b us rest t e w = at t.most t.enough t.same
    where
      at : (most : ℕ) → length s ≤ most → o ≡ turns next step most start x s → o ≡ Err rest
      at zero few same = absurd (let k = (one-more zero x s b us e).1 in omega arith)
      at (suc most) few same =
          same ∙ (one-more most x s b us e).0 ∙ ap (λ o. then_read o (λ told us. turns next step most start (told (before start us)) us)) w

  pub turning-goes : (x : A) (s : List Token) (o : ReadOutcome A) (b : B) (us : List Token) (j : List Token → A) (rest : List Token)
      → Turning x s o → taken (next x) s ≡ Some (b, us) → step x b us ≡ Ok (j, rest) → length rest ≤ length us → Turning (j (before start rest)) rest o
  turning-goes x s o b us j rest t e w fewer = at t.most t.enough t.same
    where
      at : (most : ℕ) → length s ≤ most → o ≡ turns next step most start x s → Turning (j (before start rest)) rest o
      at zero few same = absurd (let k = (one-more zero x s b us e).1 in omega arith)
      at (suc most) few same = record {
        most = most;
        enough = (let k = (one-more most x s b us e).1 in omega arith);
        same = same ∙ (one-more most x s b us e).0 ∙ ap (λ o. then_read o (λ told us. turns next step most start (told (before start us)) us)) w;
      }

pub loop_after-is : {A B : Type 0} (already : List Token) (first : Reader A) (next : A → Token → Option B) (step : A → B → Reader (List Token → A)) (s : List Token)
    → loop_after already first next step s ≡ then_read (first s) (λ x rest. turns next step (length rest) (already ++ s) x rest)
unfolding loop_after
loop_after-is already first next step s = refl

-- ---- lists that grow

-- with so many items read of a list, and what is left
pub record InList {A : Type 0} (next : List A → Token → Option Token) (item : Reader A) (o : ReadOutcome (List A)) (old : Input) (xs : List A) (now : Input) : Type 0 where
  pub goes : Goes old now
  pub turning : Turning next (with_item item) (left old) xs (left now) o

abbrev pub InCommas : {A : Type 0} → (ℕ → Truth) → Reader A → Input → List A → Input → Type 0
InCommas room item old xs now = InList (if_room room) item (comma_list room item (left old)) old xs now

pub commas-begin : {A : Type 0} (room : ℕ → Truth) (item : Reader A) (old new : Input) (x : A) → Reads item old (Ok x) new → InCommas room item old (x ∷ []) new
commas-begin room item old new x h = record {
  goes = h.gives.0;
  turning = record {
    most = length (left new);
    enough = omega arith;
    same = loop_after-is [] (mapped (λ x. x ∷ []) item) (if_room room) (with_item item) (left old)
        ∙ ap (λ o. then_read o (λ xs rest. turns (if_room room) (with_item item) (length rest) (left old) xs rest))
        (mapped-is (λ x. x ∷ []) item (left old) ∙ ap (λ o. then_read o (λ x rest. Ok (x ∷ [], rest))) h.gives.1);
  };
}

-- want of memory says nothing
pub commas-none : {A : Type 0} (room : ℕ → Truth) (item : Reader A) (old new : Input) (e : Stop) → Reads item old (Err e) new → Reads (comma_list room item) old (Err e) new
commas-none room item old new e h = record {
  gives = λ k. loop_after-is [] (mapped (λ x. x ∷ []) item) (if_room room) (with_item item) (left old)
      ∙ ap (λ o. then_read o (λ xs rest. turns (if_room room) (with_item item) (length rest) (left old) xs rest))
      (mapped-is (λ x. x ∷ []) item (left old) ∙ ap (λ o. then_read o (λ x rest. Ok (x ∷ [], rest))) (h.gives k));
}

module _ {A : Type 0} {next : List A → Token → Option Token} {item : Reader A} {o : ReadOutcome (List A)} {old : Input} where
  pub list-goes : {xs : List A} {x : A} {now mid new : Input} (t : Token) → InList next item o old xs now → Goes now mid → taken (next xs) (left now) ≡ Some (t, left mid)
      → Reads item mid (Ok x) new → InList next item o old (xs ++ x ∷ []) new
  list-goes {xs} {x} {now} {mid} {new} t l g e h = record {
    goes = goes-on l.goes (goes-on g h.gives.0);
    turning = turning-goes next (with_item item) (left old) xs (left now) o t (left mid) (λ ts. xs ++ x ∷ []) (left new) l.turning e
        (mapped-is (λ x ts. xs ++ x ∷ []) item (left mid) ∙ ap (λ o. then_read o (λ x rest. Ok ((λ ts. xs ++ x ∷ []), rest))) h.gives.1) h.gives.0.fewer;
  }

  pub list-wrong : {xs : List A} {now mid new : Input} {e : Stop} (t : Token) → InList next item o old xs now → taken (next xs) (left now) ≡ Some (t, left mid)
      → Reads item mid (Err e) new → e ≡ Unexpected → o ≡ Err (left new)
  list-wrong {xs} {now} {mid} {new} t l e h k =
      turning-wrong next (with_item item) (left old) xs (left now) o t (left mid) (left new) l.turning e
      (mapped-is (λ x ts. xs ++ x ∷ []) item (left mid) ∙ ap (λ o. then_read o (λ x rest. Ok ((λ ts. xs ++ x ∷ []), rest))) (h.gives k))

  pub list-ends : {xs : List A} {now new : Input} → InList next item o old xs now → Goes now new → left now ≡ left new → taken (next xs) (left now) ≡ None
      → Goes old new × (o ≡ Ok (xs, left new))
  list-ends {xs} {now} {new} l g same e =
      (goes-on l.goes g, turning-stops next (with_item item) (left old) xs (left now) o l.turning e ∙ ap (λ us. Ok (xs, us)) same)

-- a keyword before each item
abbrev pub InRow : {A : Type 0} → TokenKind → Reader A → ReadOutcome (List A) → Input → List A → Input → Type 0
InRow keyword item o old xs now = InList (λ xs. exactly keyword) item o old xs now

pub row-begins : {A : Type 0} (keyword : TokenKind) (item : Reader A) (old mid new : Input) (t : Token) (x : A) → Goes old mid → taken (exactly keyword) (left old) ≡ Some (t, left mid)
    → Reads item mid (Ok x) new → InRow keyword item (row_read keyword item (left old)) old (x ∷ []) new
row-begins keyword item old mid new t x g e h = record {
  goes = goes-on g h.gives.0;
  turning = record {
    most = length (left new);
    enough = omega arith;
    same = loop_after-is [] (expect keyword (mapped (λ x. x ∷ []) item)) (λ xs. exactly keyword) (with_item item) (left old)
        ∙ ap (λ o. then_read o (λ xs rest. turns (λ xs. exactly keyword) (with_item item) (length rest) (left old) xs rest))
        (accept_or-is (exactly keyword) (λ t. mapped (λ x. x ∷ []) item) refuse (left old)
        ∙ ap (λ o. chosen o (λ (t : Token). mapped (λ x. x ∷ []) item) (refuse (left old))) e
        ∙ mapped-is (λ x. x ∷ []) item (left mid) ∙ ap (λ o. then_read o (λ x rest. Ok (x ∷ [], rest))) h.gives.1);
  };
}

pub row-none : {A : Type 0} (keyword : TokenKind) (item : Reader A) (s rest : List Token) → taken (exactly keyword) s ≡ None → rest ≡ s → row_read keyword item s ≡ Err rest
row-none keyword item s rest e is =
    loop_after-is [] (expect keyword (mapped (λ x. x ∷ []) item)) (λ xs. exactly keyword) (with_item item) s
    ∙ ap (λ o. then_read o (λ xs rest. turns (λ xs. exactly keyword) (with_item item) (length rest) s xs rest))
    (accept_or-is (exactly keyword) (λ t. mapped (λ x. x ∷ []) item) refuse s
    ∙ ap (λ o. chosen o (λ (t : Token). mapped (λ x. x ∷ []) item) (refuse s)) e ∙ refuse-is s)
    ∙ ap (λ us. Err us) (sym is)

pub row-wrong : {A : Type 0} (keyword : TokenKind) (item : Reader A) (s rest us : List Token) (t : Token) → taken (exactly keyword) s ≡ Some (t, us) → item us ≡ Err rest
    → row_read keyword item s ≡ Err rest
row-wrong keyword item s rest us t e h =
    loop_after-is [] (expect keyword (mapped (λ x. x ∷ []) item)) (λ xs. exactly keyword) (with_item item) s
    ∙ ap (λ o. then_read o (λ xs rest. turns (λ xs. exactly keyword) (with_item item) (length rest) s xs rest))
    (accept_or-is (exactly keyword) (λ t. mapped (λ x. x ∷ []) item) refuse s
    ∙ ap (λ o. chosen o (λ (t : Token). mapped (λ x. x ∷ []) item) (refuse s)) e
    ∙ mapped-is (λ x. x ∷ []) item us ∙ ap (λ o. then_read o (λ x rest. Ok (x ∷ [], rest))) h)

-- a list behind a first item
pub record Behind {A : Type 0} (P : List A → Type 0) (x : A) (all : List A) : Type 0 where
  pub rest : List A
  pub is : all ≡ x ∷ rest
  pub holds : P rest

-- ---- chains of operators

pub record InChain (operators : Table Op2) (item : Reader Expr) (old : Input) (x : Expr) (now : Input) : Type 0 where
  pub goes : Goes old now
  pub turning : Turning (λ x. meant operators) (with_operand item) (left old) x (left now) (chain_read operators item (left old))

module _ (operators : Table Op2) (item : Reader Expr) where
  chain-first : (old : Input) (o : ReadOutcome Expr) → item (left old) ≡ o
      → chain_read operators item (left old) ≡ then_read o (λ x rest. turns (λ x. meant operators) (with_operand item) (length rest) (left old) x rest)
  chain-first old o e =
      loop_after-is [] item (λ x. meant operators) (with_operand item) (left old)
      ∙ ap (λ o. then_read o (λ x rest. turns (λ x. meant operators) (with_operand item) (length rest) (left old) x rest)) e

  pub chain-begins : {old : Input} {x : Expr} {new : Input} → Reads item old (Ok x) new → InChain operators item old x new
  chain-begins {old} {x} {new} h = record {
    goes = h.gives.0;
    turning = record { most = length (left new); enough = omega arith; same = chain-first old (Ok (x, left new)) h.gives.1 };
  }

  pub chain-none : {old : Input} {e : Stop} {new : Input} → Reads item old (Err e) new → Reads (chain_read operators item) old (Err e) new
  chain-none {old} {e} {new} h = record { gives = λ k. chain-first old (Err (left new)) (h.gives k) }

  pub chain-wrong : {old : Input} {x : Expr} {now mid new : Input} {op : Op2} {e : Stop} → InChain operators item old x now → TakesToken (meant operators) now (Some op) mid
      → Reads item mid (Err e) new → Reads (chain_read operators item) old (Err e) new
  chain-wrong {old} {x} {now} {mid} {new} {op} {e} l t h = record {
    gives = λ k. turning-wrong (λ x. meant operators) (with_operand item) (left old) x (left now) (chain_read operators item (left old)) op (left mid) (left new)
        l.turning t.took
        (mapped-is (λ y ts. tree ts (forms.Binary op x y)) item (left mid)
        ∙ ap (λ o. then_read o (λ y rest. Ok ((λ ts. tree ts (forms.Binary op x y)), rest))) (h.gives k));
  }

  pub chain-goes : {old : Input} {x y : Expr} {now mid new : Input} {op : Op2} (start : ℕ) (form : ExprForm) (z : Expr) → InChain operators item old x now
      → TakesToken (meant operators) now (Some op) mid → Reads item mid (Ok y) new → start ≡ old.at → form ≡ forms.Binary op x y
      → z ≡ tree (before (drop start new.tokens) (left new)) form → InChain operators item old z new
  chain-goes {old} {x} {y} {now} {mid} {new} {op} start form z l t h at is e =
      let goes : Goes old new = goes-on l.goes (goes-on (goes-past t) h.gives.0) in
      let e' : z ≡ tree (before (left old) (left new)) (forms.Binary op x y) = made start old new form z at goes.same e ∙ ap (tree (before (left old) (left new))) is in
      record {
        goes = goes;
        turning = subst (λ v. Turning (λ x. meant operators) (with_operand item) (left old) v (left new) (chain_read operators item (left old))) (sym e')
            (turning-goes (λ x. meant operators) (with_operand item) (left old) x (left now) (chain_read operators item (left old)) op (left mid)
            (λ ts. tree ts (forms.Binary op x y)) (left new) l.turning t.took
            (mapped-is (λ y ts. tree ts (forms.Binary op x y)) item (left mid)
            ∙ ap (λ o. then_read o (λ y rest. Ok ((λ ts. tree ts (forms.Binary op x y)), rest))) h.gives.1) h.gives.0.fewer);
      }

  pub chain-ends : {old : Input} {x : Expr} {now new : Input} → InChain operators item old x now → TakesToken (meant operators) now None new
      → Reads (chain_read operators item) old (Ok x) new
  chain-ends {old} {x} {now} {new} l t = record {
    gives = (
      goes-on l.goes (goes-past t),
      turning-stops (λ x. meant operators) (with_operand item) (left old) x (left now) (chain_read operators item (left old)) l.turning t.took
          ∙ ap (λ us. Ok (x, us)) t.steps.is,
    );
  }

-- ---- parts

as_told : ReadOutcome ExprForm → ReadOutcome (List Token → Expr)
as_told o = then_read o (λ form rest. Ok ((λ ts. tree ts form), rest))

with_part-is : (E : Level → Reader Expr) (x : Expr) (b : Truth) (s : List Token) → with_part E x b s ≡ as_told (form_of_part E x b s)
unfolding as_told give refuse
with_part-is E x true s =
    mapped-is (λ axes ts. tree ts (forms.Index x axes)) (index_rest E) s ∙ at (index_rest E s)
    ∙ ap as_told (sym (mapped-is (λ axes. forms.Index x axes) (index_rest E) s))
  where
    at : (o : ReadOutcome (List Axis)) → then_read o (λ axes rest. Ok ((λ ts. tree ts (forms.Index x axes)), rest))
        ≡ as_told (then_read o (λ axes rest. Ok (forms.Index x axes, rest)))
    at (Ok p) = refl
    at (Err rest) = refl
with_part-is E x false s =
    accept_or-is name_of (λ text. give (λ ts. tree ts (forms.Part x (parts.Named text)))) numbered s
    ∙ named (taken name_of s)
    ∙ ap as_told (sym (accept_or-is name_of (λ text. give (forms.Part x (parts.Named text))) number s))
  where
    numbered : Reader (List Token → Expr)
    numbered = accept plain_number_of (λ z. give (λ ts. tree ts (forms.Part x (parts.Numbered z))))

    number : Reader ExprForm
    number = accept plain_number_of (λ z. give (forms.Part x (parts.Numbered z)))

    at : (o : Option (ℤ × List Token)) → chosen o (λ z. give (λ ts. tree ts (forms.Part x (parts.Numbered z)))) (refuse s)
        ≡ as_told (chosen o (λ z. give (forms.Part x (parts.Numbered z))) (refuse s))
    at (Some p) = refl
    at None = refl

    numbers : numbered s ≡ as_told (number s)
    numbers = accept_or-is plain_number_of (λ z. give (λ ts. tree ts (forms.Part x (parts.Numbered z)))) refuse s ∙ at (taken plain_number_of s)
        ∙ ap as_told (sym (accept_or-is plain_number_of (λ z. give (forms.Part x (parts.Numbered z))) refuse s))

    named : (o : Option (Text × List Token)) → chosen o (λ text. give (λ ts. tree ts (forms.Part x (parts.Named text)))) (numbered s)
        ≡ as_told (chosen o (λ text. give (forms.Part x (parts.Named text))) (number s))
    named (Some p) = refl
    named None = numbers

told-ok : (form : ExprForm) (o : ReadOutcome ExprForm) (rest : List Token) → o ≡ Ok (form, rest) → as_told o ≡ Ok ((λ ts. tree ts form), rest)
unfolding as_told
told-ok form o rest e = ap as_told e

told-wrong : (o : ReadOutcome ExprForm) (rest : List Token) → o ≡ Err rest → as_told o ≡ Err rest
unfolding as_told
told-wrong o rest e = ap as_told e

pub record InParts (E : Level → Reader Expr) (start : ℕ) (of : Expr) (old : Input) (x : Expr) (now : Input) : Type 0 where
  pub goes : Goes old now
  pub turning : Turning (λ x. meant part_signs) (with_part E) (drop start old.tokens) x (left now) (parts_from E (drop start old.tokens) of (left old))

pub parts-begin : (E : Level → Reader Expr) (start : ℕ) (of : Expr) (old : Input) → InParts E start of old of old
parts-begin E start of old = record { goes = goes-same old; turning = turning-begins (λ x. meant part_signs) (with_part E) (drop start old.tokens) of (left old) }

module _ (E : Level → Reader Expr) (start : ℕ) where
  pub parts-go : {of x : Expr} {old now mid new : Input} {b : Truth} (form : ExprForm) (z : Expr) → InParts E start of old x now → TakesToken (meant part_signs) now (Some b) mid
      → Reads (form_of_part E x b) mid (Ok form) new → z ≡ tree (before (drop start new.tokens) (left new)) form → InParts E start of old z new
  parts-go {of} {x} {old} {now} {mid} {new} {b} form z l t h e =
      let goes : Goes old new = goes-on l.goes (goes-on (goes-past t) h.gives.0) in
      let e' : z ≡ tree (before (drop start old.tokens) (left new)) form = e ∙ ap (λ ts. tree (before (drop start ts) (left new)) form) goes.same in
      record {
        goes = goes;
        turning = subst (λ v. Turning (λ x. meant part_signs) (with_part E) (drop start old.tokens) v (left new) (parts_from E (drop start old.tokens) of (left old))) (sym e')
            (turning-goes (λ x. meant part_signs) (with_part E) (drop start old.tokens) x (left now) (parts_from E (drop start old.tokens) of (left old)) b (left mid)
            (λ ts. tree ts form) (left new) l.turning t.took
            (with_part-is E x b (left mid) ∙ told-ok form (form_of_part E x b (left mid)) (left new) h.gives.1) h.gives.0.fewer);
      }

  pub parts-wrong : {of x : Expr} {old now mid new : Input} {b : Truth} {e : Stop} → InParts E start of old x now → TakesToken (meant part_signs) now (Some b) mid
      → Reads (form_of_part E x b) mid (Err e) new → Reads (parts_from E (drop start old.tokens) of) old (Err e) new
  parts-wrong {of} {x} {old} {now} {mid} {new} {b} {e} l t h = record {
    gives = λ k. turning-wrong (λ x. meant part_signs) (with_part E) (drop start old.tokens) x (left now) (parts_from E (drop start old.tokens) of (left old)) b (left mid) (left new)
        l.turning t.took (with_part-is E x b (left mid) ∙ told-wrong (form_of_part E x b (left mid)) (left new) (h.gives k));
  }

  pub parts-end : {of x : Expr} {old now new : Input} → InParts E start of old x now → TakesToken (meant part_signs) now None new
      → Reads (parts_from E (drop start old.tokens) of) old (Ok x) new
  parts-end {of} {x} {old} {now} {new} l t = record {
    gives = (
      goes-on l.goes (goes-past t),
      turning-stops (λ x. meant part_signs) (with_part E) (drop start old.tokens) x (left now) (parts_from E (drop start old.tokens) of (left old)) l.turning t.took
          ∙ ap (λ us. Ok (x, us)) t.steps.is,
    );
  }

-- a part whose first reader read so much
pub part_after-is : (E : Level → Reader Expr) (already : List Token) (first : Reader Expr) (s : List Token) (x : Expr) (rest : List Token) → first s ≡ Ok (x, rest)
    → part_after E already first s ≡ parts_from E (already ++ s) x rest
part_after-is E already first s x rest e =
    loop_after-is already first (λ x. meant part_signs) (with_part E) s
    ∙ ap (λ o. then_read o (λ x rest. turns (λ x. meant part_signs) (with_part E) (length rest) (already ++ s) x rest)) e

pub part_after-wrong : (E : Level → Reader Expr) (already : List Token) (first : Reader Expr) (s rest : List Token) → first s ≡ Err rest → part_after E already first s ≡ Err rest
part_after-wrong E already first s rest e =
    loop_after-is already first (λ x. meant part_signs) (with_part E) s
    ∙ ap (λ o. then_read o (λ x rest. turns (λ x. meant part_signs) (with_part E) (length rest) (already ++ s) x rest)) e
