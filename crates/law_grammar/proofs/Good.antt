-- What holds of a reader that reads a form: what it reads is of the form, what it had read of a wrong list begins the form, and
-- both rest on nothing behind the next token. Two readers are compared, which may go to different depths.
use Rattle.std.specs.Prelude.{◌≡◌, ℕ, zero, suc, ◌+◌, ◌-◌, ◌<◌, ◌≤◌, Bool as Truth, true, false, List, [], ◌∷◌, ◌++◌, length, take, Option, Some, None, Ok, Err}
use Rattle.std.proofs.Common.{refl, sym, ap, subst, ◌∙◌, arith, append_assoc, length-append}
use Rattle.std.proofs.lemmas.List.{append-nil}
use Rattle.std.proofs.Math.Seq.{take-append_seam}
use Rattle.spec_grammar.specs.Tokens.{Token}
use Rattle.spec_grammar.specs.Grammar.{Rel}
use Rattle.law_grammar.specs.Readers.{ReadOutcome, Reader, then_read, give, refuse, bind, mapped, accept_or, choose, before, with_tokens, turns, loop_after}

-- the next token
abbrev pub front : List Token → Option Token
front [] = None
front (t ∷ ts) = Some t

-- a form begins with these tokens
abbrev pub Begins : {A : Type 0} → Rel A → List Token → Type 0
Begins {A} Q pre = (more : List Token) × (x : A) × Q (pre ++ more) x

pub record Read {A : Type 0} (Q : Rel A) (n : ℕ) (f : Reader A) (s : List Token) (x : A) (rest : List Token) : Type 0 where
  pub pre : List Token
  pub is : s ≡ pre ++ rest
  pub holds : Q pre x
  pub again : (other : List Token) → front other ≡ front rest → length (pre ++ other) < n → f (pre ++ other) ≡ Ok (x, other)

pub record Stuck {A : Type 0} (Q : Rel A) (n : ℕ) (f : Reader A) (s rest : List Token) : Type 0 where
  pub pre : List Token
  pub is : s ≡ pre ++ rest
  pub begins : Begins Q pre
  pub again : (other : List Token) → front other ≡ front rest → length (pre ++ other) < n → f (pre ++ other) ≡ Err other

abbrev pub Told : {A : Type 0} → Rel A → ℕ → Reader A → List Token → ReadOutcome A → Type 0
Told Q n f s (Ok p) = Read Q n f s p.0 p.1
Told Q n f s (Err rest) = Stuck Q n f s rest

pub record Good {A : Type 0} (Q : Rel A) (n n' : ℕ) (f f' : Reader A) : Type 0 where
  pub some : Begins Q []
  pub told : (s : List Token) → length s < n → Told Q n' f' s (f s)

-- ---- lists

front-append : (pre s other : List Token) → front s ≡ front other → front (pre ++ s) ≡ front (pre ++ other)
front-append [] s other e = e
front-append (t ∷ pre) s other e = refl

pub before-append : (pre rest : List Token) → before (pre ++ rest) rest ≡ pre
before-append pre rest =
    let len : length (pre ++ rest) ≡ length pre + length rest = length-append pre rest in
    let e : length (pre ++ rest) - length rest ≡ length pre = omega arith in
    ap (λ k. take k (pre ++ rest)) e ∙ take-append_seam pre rest

shorter : (pre rest : List Token) (n : ℕ) → length (pre ++ rest) < n → length rest < n
shorter pre rest n short = let len : length (pre ++ rest) ≡ length pre + length rest = length-append pre rest in omega arith

-- ---- one reader after another

module _ {A : Type 0} (Q : Rel A) (n m : ℕ) (F k : Reader A) (pre s rest : List Token) (is : s ≡ pre ++ rest)
    (fits : (other : List Token) → length (pre ++ other) < n → length other < m)
    (goes_on : (other : List Token) → front other ≡ front rest → length (pre ++ other) < n → F (pre ++ other) ≡ k other) where
  pub after : (o : ReadOutcome A) → Told (λ us y. Q (pre ++ us) y) m k rest o → Told Q n F s o
  after (Ok p) r = record {
    pre = pre ++ r.pre;
    is = is ∙ ap (λ us. pre ++ us) r.is ∙ sym (append_assoc pre r.pre p.1);
    holds = r.holds;
    again = λ other e short.
        let e' : (pre ++ r.pre) ++ other ≡ pre ++ (r.pre ++ other) = append_assoc pre r.pre other in
        let short' : length (pre ++ (r.pre ++ other)) < n = subst (λ ts. length ts < n) e' short in
        ap F e' ∙ goes_on (r.pre ++ other) (front-append r.pre other p.1 e ∙ ap front (sym r.is)) short'
        ∙ r.again other e (fits (r.pre ++ other) short');
  }
  after (Err left) r = record {
    pre = pre ++ r.pre;
    is = is ∙ ap (λ us. pre ++ us) r.is ∙ sym (append_assoc pre r.pre left);
    begins = (r.begins.0, r.begins.1, subst (λ ts. Q ts r.begins.1) (sym (append_assoc pre r.pre r.begins.0)) r.begins.2);
    again = λ other e short.
        let e' : (pre ++ r.pre) ++ other ≡ pre ++ (r.pre ++ other) = append_assoc pre r.pre other in
        let short' : length (pre ++ (r.pre ++ other)) < n = subst (λ ts. length ts < n) e' short in
        ap F e' ∙ goes_on (r.pre ++ other) (front-append r.pre other left e ∙ ap front (sym r.is)) short'
        ∙ r.again other e (fits (r.pre ++ other) short');
  }

-- what is of one relation is of a wider one
module _ {A : Type 0} {R Q : Rel A} (wider : (ts : List Token) (x : A) → R ts x → Q ts x) where
  pub told-map : (n : ℕ) (f : Reader A) (s : List Token) (o : ReadOutcome A) → Told R n f s o → Told Q n f s o
  told-map n f s (Ok p) r = record { pre = r.pre; is = r.is; holds = wider r.pre p.0 r.holds; again = r.again }
  told-map n f s (Err rest) r = record { pre = r.pre; is = r.is; begins = (r.begins.0, r.begins.1, wider _ _ r.begins.2); again = r.again }

  pub good-map : {n n' : ℕ} {f f' : Reader A} → Good R n n' f f' → Good Q n n' f f'
  good-map {n'} {f} {f'} good = record { some = (good.some.0, good.some.1, wider _ _ good.some.2); told = λ s short. told-map n' f' s (f s) (good.told s short) }

-- the second may see the whole list
module _ {A B : Type 0} {R : Rel A} {Q : Rel B} {n n' : ℕ} {f f' : Reader A} (k k' : List Token → A → Reader B) (first : Good R n n' f f')
    (second : (pre : List Token) (x : A) → R pre x
    → Good (λ us y. Q (pre ++ us) y) n n' (λ rest. k (pre ++ rest) x rest) (λ rest. k' (pre ++ rest) x rest)) where
  staged : Good Q n n' (λ s. then_read (f s) (k s)) (λ s. then_read (f' s) (k' s))
  staged = record { some = begun first.some; told = λ s short. go s (f s) short (first.told s short) }
    where
      begun : Begins R [] → Begins Q []
      begun (more, x, r) = let b : Begins (λ us y. Q (more ++ us) y) [] = (second more x r).some in (more ++ b.0, b.1, b.2)

      go : (s : List Token) (o : ReadOutcome A) → length s < n → Told R n' f' s o → Told Q n' (λ s. then_read (f' s) (k' s)) s (then_read o (k s))
      go s (Ok p) short r =
          let short' : length (r.pre ++ p.1) < n = subst (λ ts. length ts < n) r.is short in
          let t : Told (λ us y. Q (r.pre ++ us) y) n' (λ rest. k' (r.pre ++ rest) p.0 rest) p.1 (k (r.pre ++ p.1) p.0 p.1) =
          (second r.pre p.0 r.holds).told p.1 (shorter r.pre p.1 n short') in
          subst (λ ts. Told Q n' (λ s. then_read (f' s) (k' s)) s (k ts p.0 p.1)) (sym r.is)
          (after Q n' n' (λ s. then_read (f' s) (k' s)) (λ rest. k' (r.pre ++ rest) p.0 rest) r.pre s p.1 r.is
          (λ other. shorter r.pre other n')
          (λ other e short. ap (λ o. then_read o (k' (r.pre ++ other))) (r.again other e short)) _ t)
      go s (Err rest) short r = record {
        pre = r.pre;
        is = r.is;
        begins = onward r.begins;
        again = λ other e short. ap (λ o. then_read o (k' (r.pre ++ other))) (r.again other e short);
      }
        where
          onward : Begins R r.pre → Begins Q r.pre
          onward (more, x, h) =
              let b : Begins (λ us y. Q ((r.pre ++ more) ++ us) y) [] = (second (r.pre ++ more) x h).some in
              (more ++ b.0, b.1, subst (λ ts. Q ts b.1) (append_assoc r.pre more b.0) b.2)

-- ---- the readers

module _ {A : Type 0} {Q : Rel A} {n n' : ℕ} where
  pub give-good : (x : A) → Q [] x → Good Q n n' (give x) (give x)
  unfolding give
  give-good x h = record { some = ([], x, h); told = λ s short. record { pre = []; is = refl; holds = h; again = λ other e short'. refl } }

  pub refuse-good : Begins Q [] → Good Q n n' refuse refuse
  unfolding refuse
  refuse-good b = record { some = b; told = λ s short. record { pre = []; is = refl; begins = b; again = λ other e short'. refl } }

module _ {A B : Type 0} {R : Rel A} {Q : Rel B} {n n' : ℕ} {f f' : Reader A} where
  pub bind-good : {g g' : A → Reader B} → Good R n n' f f'
      → ((pre : List Token) (x : A) → R pre x → Good (λ us y. Q (pre ++ us) y) n n' (g x) (g' x))
      → Good Q n n' (bind f g) (bind f' g')
  unfolding bind
  bind-good {g} {g'} first second = staged (λ s. g) (λ s. g') first second

  pub mapped-good : (h : A → B) → Good R n n' f f' → ((pre : List Token) (x : A) → R pre x → Q pre (h x)) → Good Q n n' (mapped h f) (mapped h f')
  unfolding mapped
  mapped-good h first then = staged (λ s x rest. Ok (h x, rest)) (λ s x rest. Ok (h x, rest)) first (λ pre x r. last pre x (then pre x r))
    where
      last : (pre : List Token) (x : A) → Q pre (h x) → Good (λ us y. Q (pre ++ us) y) n n' (λ rest. Ok (h x, rest)) (λ rest. Ok (h x, rest))
      last pre x q = let q' : Q (pre ++ []) (h x) = subst (λ ts. Q ts (h x)) (sym (append-nil pre)) q in record {
        some = ([], h x, q');
        told = λ s short. record { pre = []; is = refl; holds = q'; again = λ other e short'. refl };
      }

module _ {A : Type 0} {Q : Rel A} {n n' : ℕ} {f f' : Reader (List Token → A)} where
  pub with_tokens-good : Good (λ ts j. Q ts (j ts)) n n' f f' → Good Q n n' (with_tokens f) (with_tokens f')
  unfolding with_tokens
  with_tokens-good first =
      staged (λ s j rest. Ok (j (before s rest), rest)) (λ s j rest. Ok (j (before s rest), rest)) first last
    where
      last : (pre : List Token) (j : List Token → A) → Q pre (j pre) → Good (λ us y. Q (pre ++ us) y) n n'
          (λ rest. Ok (j (before (pre ++ rest) rest), rest)) (λ rest. Ok (j (before (pre ++ rest) rest), rest))
      last pre j q = let q' : Q (pre ++ []) (j pre) = subst (λ ts. Q ts (j pre)) (sym (append-nil pre)) q in record {
        some = ([], j pre, q');
        told = λ s short. record {
          pre = [];
          is = refl;
          holds = subst (λ ts. Q (pre ++ []) (j ts)) (sym (before-append pre s)) q';
          again = λ other e short'. ap (λ ts. Ok (j ts, other)) (before-append pre other ∙ sym (before-append pre s));
        };
      }

-- two lists with the same first token
same_front : (t : Token) (P : List Token → Type 0) → ((us : List Token) → P (t ∷ us)) → (other : List Token) → front other ≡ Some t → P other
same_front t P f [] e = absurd (none_some e)
  where
    none_some : {t : Token} → None ≡ Some t → ⊥
    none_some e = cc
same_front t P f (u ∷ us) e = let e' : t ≡ u = cc in subst (λ v. P (v ∷ us)) e' (f us)

no_front : (P : List Token → Type 0) → P [] → (other : List Token) → front other ≡ None → P other
no_front P f [] e = f
no_front P f (u ∷ us) e = absurd (some_none e)
  where
    some_none : {t : Token} → Some t ≡ None → ⊥
    some_none e = cc

module _ {A B : Type 0} {Q : Rel B} {n n' m m' : ℕ} {p : Token → Option A} {g g' : A → Reader B} {f f' : Reader B}
    (deep : n ≤ suc m) (deep' : n' ≤ suc m') where
  pub accept_or-good :
      ((t : Token) (x : A) → p t ≡ Some x → Good (λ us y. Q (t ∷ us) y) m m' (g x) (g' x))
      → Good Q n n' f f' → Good Q n n' (accept_or p g f) (accept_or p g' f')
  unfolding accept_or
  accept_or-good taken passed = record { some = passed.some; told = told }
    where
      F : Reader B
      F = accept_or p g' f'

      at : (t : Token) (s : List Token) (o : Option A) → p t ≡ o → length (t ∷ s) < n
          → Told Q n' F (t ∷ s) (elim o as (λ v. ReadOutcome B) [ Some x ↦ g x s | None ↦ f (t ∷ s) ])
      at t s (Some x) e short = after Q n' m' F (g' x) (t ∷ []) (t ∷ s) s refl
          (λ other short'. let h : length (t ∷ other) < n' = short' in omega arith)
          (λ other ahead short'. ap (λ o. elim o as (λ v. ReadOutcome B) [ Some x ↦ g' x other | None ↦ f' (t ∷ other) ]) e) _
          ((taken t x e).told s (let h : length (t ∷ s) < n = short in omega arith))
      at t s None e short = after Q n' n' F f' [] (t ∷ s) (t ∷ s) refl (λ other short'. short')
          (same_front t (λ other. length other < n' → F other ≡ f' other)
          (λ us short'. ap (λ o. elim o as (λ v. ReadOutcome B) [ Some x ↦ g' x us | None ↦ f' (t ∷ us) ]) e)) _ (passed.told (t ∷ s) short)

      told : (s : List Token) → length s < n → Told Q n' F s (accept_or p g f s)
      told [] short = after Q n' n' F f' [] [] [] refl (λ other short'. short')
          (no_front (λ other. length other < n' → F other ≡ f' other) (λ short'. refl)) _ (passed.told [] short)
      told (t ∷ s) short = at t s (p t) refl short

module _ {A : Type 0} {Q : Rel A} {n n' : ℕ} (p : Token → Truth) {f f' g g' : Reader A} where
  pub choose-good : Good Q n n' f f' → Good Q n n' g g' → Good Q n n' (choose p f g) (choose p f' g')
  unfolding choose
  choose-good one other' = record { some = one.some; told = told }
    where
      F : Reader A
      F = choose p f' g'

      at : (t : Token) (s : List Token) (b : Truth) → p t ≡ b → length (t ∷ s) < n
          → Told Q n' F (t ∷ s) (elim b as (λ v. ReadOutcome A) [ true ↦ f (t ∷ s) | false ↦ g (t ∷ s) ])
      at t s true e short = after Q n' n' F f' [] (t ∷ s) (t ∷ s) refl (λ other short'. short')
          (same_front t (λ other. length other < n' → F other ≡ f' other)
          (λ us short'. ap (λ b. elim b as (λ v. ReadOutcome A) [ true ↦ f' (t ∷ us) | false ↦ g' (t ∷ us) ]) e)) _ (one.told (t ∷ s) short)
      at t s false e short = after Q n' n' F g' [] (t ∷ s) (t ∷ s) refl (λ other short'. short')
          (same_front t (λ other. length other < n' → F other ≡ g' other)
          (λ us short'. ap (λ b. elim b as (λ v. ReadOutcome A) [ true ↦ f' (t ∷ us) | false ↦ g' (t ∷ us) ]) e)) _ (other'.told (t ∷ s) short)

      told : (s : List Token) → length s < n → Told Q n' F s (choose p f g s)
      told [] short = after Q n' n' F g' [] [] [] refl (λ other short'. short')
          (no_front (λ other. length other < n' → F other ≡ g' other) (λ short'. refl)) _ (other'.told [] short)
      told (t ∷ s) short = at t s (p t) refl short

-- ---- turns

unfoldable pub less : ℕ → ℕ
less zero = zero
less (suc n) = n

module _ {A B : Type 0} (next : A → Token → Option B) (step : A → B → Reader (List Token → A)) (start : List Token) where
  pub turn-on : (most : ℕ) (x : A) (t : Token) (b : B) (s : List Token) (j : List Token → A) (rest : List Token) → 1 ≤ most → next x t ≡ Some b
      → step x b s ≡ Ok (j, rest) → turns next step most start x (t ∷ s) ≡ turns next step (less most) start (j (before start rest)) rest
  unfolding turns less
  turn-on zero x t b s j rest some e e' = absurd (let h : 1 ≤ 0 = some in omega arith)
  turn-on (suc most) x t b s j rest some e e' =
      ap (λ o. elim o as (λ v. ReadOutcome A) [
        | Some b ↦ then_read (step x b s) (λ told rest. turns next step most start (told (before start rest)) rest)
        | None ↦ Ok (x, t ∷ s)
      ]) e ∙ ap (λ o. then_read o (λ told rest. turns next step most start (told (before start rest)) rest)) e'

  pub turn-wrong : (most : ℕ) (x : A) (t : Token) (b : B) (s rest : List Token) → 1 ≤ most → next x t ≡ Some b
      → step x b s ≡ Err rest → turns next step most start x (t ∷ s) ≡ Err rest
  unfolding turns
  turn-wrong zero x t b s rest some e e' = absurd (let h : 1 ≤ 0 = some in omega arith)
  turn-wrong (suc most) x t b s rest some e e' =
      ap (λ o. elim o as (λ v. ReadOutcome A) [
        | Some b ↦ then_read (step x b s) (λ told rest. turns next step most start (told (before start rest)) rest)
        | None ↦ Ok (x, t ∷ s)
      ]) e ∙ ap (λ o. then_read o (λ told rest. turns next step most start (told (before start rest)) rest)) e'

  pub turn-stop : (most : ℕ) (x : A) (t : Token) (s : List Token) → next x t ≡ None → turns next step most start x (t ∷ s) ≡ Ok (x, t ∷ s)
  unfolding turns
  turn-stop zero x t s e = refl
  turn-stop (suc most) x t s e =
      ap (λ o. elim o as (λ v. ReadOutcome A) [
        | Some b ↦ then_read (step x b s) (λ told rest. turns next step most start (told (before start rest)) rest)
        | None ↦ Ok (x, t ∷ s)
      ]) e

  pub turn-end : (most : ℕ) (x : A) → turns next step most start x [] ≡ Ok (x, [])
  unfolding turns
  turn-end zero x = refl
  turn-end (suc most) x = refl

pub less-bound : (k n : ℕ) → suc n ≤ k → n ≤ less k
unfolding less
less-bound zero n h = absurd (omega arith)
less-bound (suc k) n h = omega arith

module _ {A B : Type 0} (Q : Rel A) (n n' m m' : ℕ) (next : A → Token → Option B) (step step' : A → B → Reader (List Token → A))
    (deep : n ≤ suc m) (deep' : n' ≤ suc m')
    (turn : (ts : List Token) (x : A) → Q ts x → (t : Token) (b : B) → next x t ≡ Some b
    → Good (λ us j. Q (ts ++ t ∷ us) (j (ts ++ t ∷ us))) m m' (step x b) (step' x b)) where
  -- the rest of a loop whose first tokens were read, with so many turns before a rest
  abbrev pub onward : (List Token → ℕ) → List Token → A → Reader A
  onward bound ts x rest = turns next step' (bound rest) (ts ++ rest) x rest

  pub turns-told : (most : ℕ) (bound : List Token → ℕ) → ((rest : List Token) → length rest ≤ bound rest) → (ts : List Token) (x : A) → Q ts x
      → (s : List Token) → length s ≤ most → length s < n
      → Told (λ us y. Q (ts ++ us) y) n' (onward bound ts x) s (turns next step most (ts ++ s) x s)
  unfolding turns
  turns-told most bound enough ts x q [] few short =
      subst (λ o. Told (λ us y. Q (ts ++ us) y) n' (onward bound ts x) [] o) (sym (turn-end next step (ts ++ []) most x))
      (record {
        pre = [];
        is = refl;
        holds = subst (λ us. Q us x) (sym (append-nil ts)) q;
        again = no_front (λ other. length other < n' → onward bound ts x other ≡ Ok (x, other)) (λ short'. turn-end next step' (ts ++ []) (bound []) x);
      })
  turns-told zero bound enough ts x q (t ∷ s) few short = absurd (let h : length (t ∷ s) ≤ 0 = few in omega arith)
  turns-told (suc most) bound enough ts x q (t ∷ s) few short =
      at (next x t) refl (λ bound' enough' ts' x' q' s' few' short'. turns-told most bound' enough' ts' x' q' s' few' short')
    where
      More : Type 0
      More = (bound : List Token → ℕ) → ((rest : List Token) → length rest ≤ bound rest) → (ts : List Token) (x : A) → Q ts x
          → (s : List Token) → length s ≤ most → length s < n
          → Told (λ us y. Q (ts ++ us) y) n' (onward bound ts x) s (turns next step most (ts ++ s) x s)

      fewer : List Token → List Token → ℕ
      fewer pre other = less (bound (t ∷ (pre ++ other)))

      fewer-enough : (pre other : List Token) → length other ≤ fewer pre other
      fewer-enough pre other =
          let all : length (t ∷ (pre ++ other)) ≤ bound (t ∷ (pre ++ other)) = enough (t ∷ (pre ++ other)) in
          let len : length (pre ++ other) ≡ length pre + length other = length-append pre other in
          less-bound (bound (t ∷ (pre ++ other))) (length other) (omega arith)

      Rest : Rel A
      Rest us y = Q (ts ++ us) y

      at : (o : Option B) → next x t ≡ o → More → Told (λ us y. Q (ts ++ us) y) n' (onward bound ts x) (t ∷ s) (elim o as (λ v. ReadOutcome A) [
        | Some b ↦ then_read (step x b s) (λ told rest. turns next step most (ts ++ t ∷ s) (told (before (ts ++ t ∷ s) rest)) rest)
        | None ↦ Ok (x, t ∷ s)
      ])
      at (Some b) e more = go (step x b s) ((turn ts x q t b e).told s (let h : length (t ∷ s) < n = short in omega arith))
        where
          some_turn : (other : List Token) → 1 ≤ bound (t ∷ other)
          some_turn other = let h : length (t ∷ other) ≤ bound (t ∷ other) = enough (t ∷ other) in omega arith

          fits : (other : List Token) → length (t ∷ other) < n' → length other < m'
          fits other short' = let h : length (t ∷ other) < n' = short' in omega arith

          go : (o : ReadOutcome (List Token → A)) → Told (λ us j. Q (ts ++ t ∷ us) (j (ts ++ t ∷ us))) m' (step' x b) s o
              → Told (λ us y. Q (ts ++ us) y) n' (onward bound ts x) (t ∷ s)
              (then_read o (λ told rest. turns next step most (ts ++ t ∷ s) (told (before (ts ++ t ∷ s) rest)) rest))
          go (Ok p) r =
              let us : List Token = ts ++ t ∷ r.pre in
              let y : A = p.0 us in
              let whole : (other : List Token) → ts ++ t ∷ (r.pre ++ other) ≡ us ++ other = λ other. sym (append_assoc ts (t ∷ r.pre) other) in
              let read : (other : List Token) → p.0 (before (ts ++ t ∷ (r.pre ++ other)) other) ≡ y =
              λ other. ap (λ vs. p.0 (before vs other)) (whole other) ∙ ap p.0 (before-append us other) in
              let is : ts ++ t ∷ s ≡ ts ++ t ∷ (r.pre ++ p.1) = ap (λ vs. ts ++ t ∷ vs) r.is in
              let len : length s ≡ length (r.pre ++ p.1) = ap length r.is in
              let parts : length (r.pre ++ p.1) ≡ length r.pre + length p.1 = length-append r.pre p.1 in
              let short' : length (t ∷ s) < n = short in
              let few' : length (t ∷ s) ≤ suc most = few in
              let told : Told (λ vs z. Q (us ++ vs) z) n' (onward (fewer r.pre) us y) p.1 (turns next step most (us ++ p.1) y p.1) =
              more (fewer r.pre) (fewer-enough r.pre) us y r.holds p.1 (omega arith) (omega arith) in
              let left : turns next step most (ts ++ t ∷ s) (p.0 (before (ts ++ t ∷ s) p.1)) p.1 ≡ turns next step most (us ++ p.1) y p.1 =
              ap (λ vs. turns next step most vs (p.0 (before vs p.1)) p.1) is
              ∙ ap (λ z. turns next step most (ts ++ t ∷ (r.pre ++ p.1)) z p.1) (read p.1)
              ∙ ap (λ vs. turns next step most vs y p.1) (whole p.1) in
              subst (λ o. Told Rest n' (onward bound ts x) (t ∷ s) o) (sym left)
              (after Rest n' n' (onward bound ts x) (onward (fewer r.pre) us y) (t ∷ r.pre) (t ∷ s) p.1 (ap (λ vs. t ∷ vs) r.is)
              (λ other. shorter (t ∷ r.pre) other n')
              (λ other ahead short''.
              turn-on next step' (ts ++ t ∷ (r.pre ++ other)) (bound (t ∷ (r.pre ++ other))) x t b (r.pre ++ other) p.0 other
              (some_turn (r.pre ++ other)) e (r.again other ahead (fits (r.pre ++ other) short''))
              ∙ ap (λ z. turns next step' (fewer r.pre other) (ts ++ t ∷ (r.pre ++ other)) z other) (read other)
              ∙ ap (λ vs. turns next step' (fewer r.pre other) vs y other) (whole other))
              _ (told-map {R = λ vs z. Q (us ++ vs) z} (λ vs z. subst (λ ws. Q ws z) (append_assoc ts (t ∷ r.pre) vs)) n' (onward (fewer r.pre) us y) p.1 _ told))
          go (Err rest) r = record {
            pre = t ∷ r.pre;
            is = ap (λ us. t ∷ us) r.is;
            begins = (r.begins.0, r.begins.1 (ts ++ t ∷ (r.pre ++ r.begins.0)), r.begins.2);
            again = λ other ahead short'. turn-wrong next step' (ts ++ t ∷ (r.pre ++ other)) (bound (t ∷ (r.pre ++ other))) x t b (r.pre ++ other) other
                (some_turn (r.pre ++ other)) e (r.again other ahead (fits (r.pre ++ other) short'));
          }
      at None e more = record {
        pre = [];
        is = refl;
        holds = subst (λ us. Q us x) (sym (append-nil ts)) q;
        again = same_front t (λ other. length other < n' → onward bound ts x other ≡ Ok (x, other))
            (λ us short'. turn-stop next step' (ts ++ t ∷ us) (bound (t ∷ us)) x t us e);
      }

-- ---- loops

module _ {A B : Type 0} {Q : Rel A} {n n' m m' : ℕ} {next : A → Token → Option B} {step step' : A → B → Reader (List Token → A)}
    {first first' : Reader A} (deep : n ≤ suc m) (deep' : n' ≤ suc m') (already : List Token) where
  pub loop_after-good : Good (λ us x. Q (already ++ us) x) n n' first first'
      → ((ts : List Token) (x : A) → Q ts x → (t : Token) (b : B) → next x t ≡ Some b
      → Good (λ us j. Q (ts ++ t ∷ us) (j (ts ++ t ∷ us))) m m' (step x b) (step' x b))
      → Good (λ us x. Q (already ++ us) x) n n' (loop_after already first next step) (loop_after already first' next step')
  unfolding loop_after
  loop_after-good one turn = staged (λ s x rest. turns next step (length rest) (already ++ s) x rest)
      (λ s x rest. turns next step' (length rest) (already ++ s) x rest) one (λ pre x q. rest-good pre x q)
    where
      whole : (pre other : List Token) → already ++ (pre ++ other) ≡ (already ++ pre) ++ other
      whole pre other = sym (append_assoc already pre other)

      rest-good : (pre : List Token) (x : A) → Q (already ++ pre) x → Good (λ us y. Q (already ++ (pre ++ us)) y) n n'
          (λ rest. turns next step (length rest) (already ++ (pre ++ rest)) x rest)
          (λ rest. turns next step' (length rest) (already ++ (pre ++ rest)) x rest)
      rest-good pre x q = record {
        some = ([], x, subst (λ us. Q (already ++ us) x) (sym (append-nil pre)) q);
        told = λ s short.
            let t : Told (λ us y. Q ((already ++ pre) ++ us) y) n' (onward Q n n' m m' next step step' deep deep' turn length (already ++ pre) x) s
            (turns next step (length s) ((already ++ pre) ++ s) x s) =
            turns-told Q n n' m m' next step step' deep deep' turn (length s) length (λ rest. omega arith) (already ++ pre) x q s (omega arith) short in
            subst (λ o. Told (λ us y. Q (already ++ (pre ++ us)) y) n' (λ rest. turns next step' (length rest) (already ++ (pre ++ rest)) x rest) s o)
            (ap (λ us. turns next step (length s) us x s) (sym (whole pre s)))
            (told-map {R = λ us y. Q ((already ++ pre) ++ us) y} (λ us y. subst (λ ws. Q ws y) (append_assoc already pre us)) n' _ s _
            (after (λ us y. Q ((already ++ pre) ++ us) y) n' n' (λ rest. turns next step' (length rest) (already ++ (pre ++ rest)) x rest)
            (λ rest. turns next step' (length rest) ((already ++ pre) ++ rest) x rest) [] s s refl (λ other short'. short')
            (λ other ahead short'. ap (λ us. turns next step' (length other) us x other) (whole pre other)) _ t));
      }
