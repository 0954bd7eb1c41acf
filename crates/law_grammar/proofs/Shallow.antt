-- Reading goes no deeper than the tokens weigh: two readers that agree on lighter lists inside agree outside.
use Rattle.std.specs.Prelude.{◌≡◌, ℕ, zero, suc, ◌+◌, ◌<◌, ◌≤◌, nat_le, Bool as Truth, true, false, List, [], ◌∷◌, ◌++◌, length, Option, Some, None, Ok, Err}
use Rattle.std.proofs.Common.{refl, sym, ap, subst, ◌∙◌, arith, append_assoc}
use Rattle.std.proofs.lemmas.Bool.{leb-true}
use Rattle.ras_cells.specs.declared.numbers.Op2.{Op2}
use Rattle.ras_syntax.specs.declared.expr.Expr.{Expr}
use Rattle.ras_syntax.specs.declared.expr.ExprForm.{ExprForm}
use Rattle.ras_syntax.specs.declared.expr.ExprForm.TheVariants as forms
use Rattle.spec_grammar.specs.Tokens.{TokenKind, Token}
use Rattle.spec_grammar.specs.Weight.{weight_of, weight_of_kind}
use Rattle.spec_grammar.specs.Grammar.{Table, w, s, Level, any, negation, signed, products, sums, boths, eithers, overlays}
use Rattle.spec_grammar.proofs.Verdicts.{weight_of-append}
use Rattle.law_grammar.specs.Readers.{ReadOutcome, Reader, then_read, exactly, meant, give, refuse, bind, mapped, accept_or, accept, expect, choose, before, with_tokens, spanned_after, with_span, turns, loop_after}
use Rattle.law_grammar.specs.Reading as r
use Rattle.law_grammar.specs.Reading.{closed_read, between_read, optional_after, if_room, with_item, comma_list, row_read, with_operand, chain_read, part_signs, with_part, level_read, reads, read_at}
use Rattle.law_grammar.proofs.TokenTests.{exactly-is, each_key-at, meaning_of-means}
use Rattle.law_grammar.proofs.StatementsRead.{read_at-is}
use Rattle.law_grammar.proofs.Unrolled.{left, Leaves, read_at-leaves}

-- what a reader leaves of a list
pub record Left (s rest : List Token) : Type 0 where
  pub read : List Token
  pub is : s ≡ read ++ rest

pub record Agree {A : Type 0} (n : ℕ) (f g : Reader A) : Type 0 where
  pub same : (s : List Token) → weight_of s < n → f s ≡ g s
  pub leaves : (s : List Token) → Left s (left (g s))

lighter : (s rest : List Token) (n : ℕ) → Left s rest → weight_of s < n → weight_of rest < n
lighter s rest n l light =
    let e : weight_of s ≡ weight_of (l.read ++ rest) = ap weight_of l.is in
    let sum : weight_of (l.read ++ rest) ≡ weight_of l.read + weight_of rest = weight_of-append l.read rest in
    omega arith

further : (s rest more : List Token) → Left s rest → Left rest more → Left s more
further s rest more l k = record { read = l.read ++ k.read; is = l.is ∙ ap (λ us. l.read ++ us) k.is ∙ sym (append_assoc l.read k.read more) }

nothing_read : (s : List Token) → Left s s
nothing_read s = record { read = []; is = refl }

one_read : (t : Token) (s : List Token) → Left (t ∷ s) s
one_read t s = record { read = t ∷ []; is = refl }

-- one reader after another, where the second may see the whole list
module _ {A B : Type 0} (n : ℕ) (k l : List Token → A → Reader B) where
  then-same : (s : List Token) → weight_of s < n → (o : ReadOutcome A) → Left s (left o)
      → ((x : A) (rest : List Token) → weight_of rest < n → k s x rest ≡ l s x rest) → then_read o (k s) ≡ then_read o (l s)
  then-same s light (Ok p) h second = second p.0 p.1 (lighter s p.1 n h light)
  then-same s light (Err rest) h second = refl

  then-leaves : (s : List Token) (o : ReadOutcome A) → Left s (left o) → ((x : A) (rest : List Token) → Left rest (left (l s x rest))) → Left s (left (then_read o (l s)))
  then-leaves s (Ok p) h second = further s p.1 (left (l s p.0 p.1)) h (second p.0 p.1)
  then-leaves s (Err rest) h second = h

  staged : {f g : Reader A} → Agree n f g → ((s : List Token) (x : A) → Agree n (k s x) (l s x))
      → Agree n (λ s. then_read (f s) (k s)) (λ s. then_read (g s) (l s))
  staged {f} {g} first second = record {
    same = λ s light. ap (λ o. then_read o (k s)) (first.same s light)
        ∙ then-same s light (g s) (first.leaves s) (λ x rest less. (second s x).same rest less);
    leaves = λ s. then-leaves s (g s) (first.leaves s) (λ x rest. (second s x).leaves rest);
  }

module _ {n : ℕ} where
  pub give-agrees : {A : Type 0} (x : A) → Agree n (give x) (give x)
  unfolding give
  give-agrees x = record { same = λ s light. refl; leaves = nothing_read }

  refuse-agrees : {A : Type 0} → Agree {A = A} n refuse refuse
  unfolding refuse
  refuse-agrees = record { same = λ s light. refl; leaves = nothing_read }

  bind-agrees : {A B : Type 0} {f g : Reader A} {k l : A → Reader B} → Agree n f g → ((x : A) → Agree n (k x) (l x)) → Agree n (bind f k) (bind g l)
  unfolding bind
  bind-agrees {k} {l} first second = staged n (λ s. k) (λ s. l) first (λ s x. second x)

  mapped-agrees : {A B : Type 0} (h : A → B) {f g : Reader A} → Agree n f g → Agree n (mapped h f) (mapped h g)
  unfolding mapped
  mapped-agrees h first = staged n (λ s x rest. Ok (h x, rest)) (λ s x rest. Ok (h x, rest)) first
      (λ s x. record { same = λ rest light. refl; leaves = nothing_read })

  with_tokens-agrees : {A : Type 0} {f g : Reader (List Token → A)} → Agree n f g → Agree n (with_tokens f) (with_tokens g)
  unfolding with_tokens
  with_tokens-agrees first = staged n (λ s j rest. Ok (j (before s rest), rest)) (λ s j rest. Ok (j (before s rest), rest)) first
      (λ s j. record { same = λ rest light. refl; leaves = nothing_read })

  choose-agrees : {A : Type 0} (p : Token → Truth) {f g f' g' : Reader A} → Agree n f f' → Agree n g g' → Agree n (choose p f g) (choose p f' g')
  unfolding choose
  choose-agrees {A} p {f} {g} {f'} {g'} one other = record { same = same; leaves = leaves }
    where
      at : (t : Token) (s : List Token) (b : Truth) → weight_of (t ∷ s) < n
          → elim b as (λ v. ReadOutcome A) [ true ↦ f (t ∷ s) | false ↦ g (t ∷ s) ] ≡ elim b as (λ v. ReadOutcome A) [ true ↦ f' (t ∷ s) | false ↦ g' (t ∷ s) ]
      at t s true light = one.same (t ∷ s) light
      at t s false light = other.same (t ∷ s) light

      at_left : (t : Token) (s : List Token) (b : Truth) → Left (t ∷ s) (left (elim b as (λ v. ReadOutcome A) [ true ↦ f' (t ∷ s) | false ↦ g' (t ∷ s) ]))
      at_left t s true = one.leaves (t ∷ s)
      at_left t s false = other.leaves (t ∷ s)

      same : (s : List Token) → weight_of s < n → choose p f g s ≡ choose p f' g' s
      same [] light = other.same [] light
      same (t ∷ s) light = at t s (p t) light

      leaves : (s : List Token) → Left s (left (choose p f' g' s))
      leaves [] = other.leaves []
      leaves (t ∷ s) = at_left t s (p t)

  -- what is accepted may make the rest lighter
  accept_or-agrees : {A B : Type 0} (m : ℕ) (p : Token → Option A) {k l : A → Reader B} {f g : Reader B}
      → ((t : Token) (x : A) → p t ≡ Some x → n ≤ m + weight_of_kind t.kind) → ((x : A) → Agree m (k x) (l x)) → Agree n f g
      → Agree n (accept_or p k f) (accept_or p l g)
  unfolding accept_or
  accept_or-agrees {A} {B} m p {k} {l} {f} {g} heavy taken passed = record { same = same; leaves = leaves }
    where
      at : (t : Token) (s : List Token) (o : Option A) → p t ≡ o → weight_of (t ∷ s) < n
          → elim o as (λ v. ReadOutcome B) [ Some x ↦ k x s | None ↦ f (t ∷ s) ] ≡ elim o as (λ v. ReadOutcome B) [ Some x ↦ l x s | None ↦ g (t ∷ s) ]
      at t s (Some x) e light = (taken x).same s (let h : n ≤ m + weight_of_kind t.kind = heavy t x e in
          let h' : weight_of_kind t.kind + weight_of s < n = light in omega arith)
      at t s None e light = passed.same (t ∷ s) light

      at_left : (t : Token) (s : List Token) (o : Option A) → Left (t ∷ s) (left (elim o as (λ v. ReadOutcome B) [ Some x ↦ l x s | None ↦ g (t ∷ s) ]))
      at_left t s (Some x) = further (t ∷ s) s _ (one_read t s) ((taken x).leaves s)
      at_left t s None = passed.leaves (t ∷ s)

      same : (s : List Token) → weight_of s < n → accept_or p k f s ≡ accept_or p l g s
      same [] light = passed.same [] light
      same (t ∷ s) light = at t s (p t) refl light

      leaves : (s : List Token) → Left s (left (accept_or p l g s))
      leaves [] = passed.leaves []
      leaves (t ∷ s) = at_left t s (p t)

-- ---- loops

module _ {A B : Type 0} (n m : ℕ) (next : A → Token → Option B) {step step' : A → B → Reader (List Token → A)}
    (heavy : (x : A) (t : Token) (b : B) → next x t ≡ Some b → n ≤ m + weight_of_kind t.kind)
    (each : (x : A) (b : B) → Agree m (step x b) (step' x b)) where
  turns-agree : (most : ℕ) (start : List Token) (x : A) → Agree n (turns next step most start x) (turns next step' most start x)
  unfolding turns
  turns-agree zero start x = record { same = λ s light. refl; leaves = nothing_read }
  turns-agree (suc most) start x = record { same = same (λ y. turns-agree most start y); leaves = leaves (λ y. turns-agree most start y) }
    where
      More : Type 0
      More = (y : A) → Agree n (turns next step most start y) (turns next step' most start y)

      on : (A → B → Reader (List Token → A)) → Token → List Token → Option B → ReadOutcome A
      on f t s o = elim o [ Some b ↦ then_read (f x b s) (λ told rest. turns next f most start (told (before start rest)) rest) | None ↦ Ok (x, t ∷ s) ]

      at : More → (t : Token) (s : List Token) (o : Option B) → next x t ≡ o → weight_of (t ∷ s) < n → on step t s o ≡ on step' t s o
      at more t s (Some b) e light =
          let h : n ≤ m + weight_of_kind t.kind = heavy x t b e in
          let h' : weight_of_kind t.kind + weight_of s < n = light in
          ap (λ o. then_read o (λ told rest. turns next step most start (told (before start rest)) rest)) ((each x b).same s (omega arith))
          ∙ then-same n (λ us told rest. turns next step most start (told (before start rest)) rest)
          (λ us told rest. turns next step' most start (told (before start rest)) rest) s (omega arith) (step' x b s) ((each x b).leaves s)
          (λ told rest less. (more (told (before start rest))).same rest less)
      at more t s None e light = refl

      at_left : More → (t : Token) (s : List Token) (o : Option B) → Left (t ∷ s) (left (on step' t s o))
      at_left more t s (Some b) = further (t ∷ s) s _ (one_read t s)
          (then-leaves n (λ us told rest. turns next step most start (told (before start rest)) rest)
          (λ us told rest. turns next step' most start (told (before start rest)) rest) s (step' x b s) ((each x b).leaves s)
          (λ told rest. (more (told (before start rest))).leaves rest))
      at_left more t s None = nothing_read (t ∷ s)

      same : More → (s : List Token) → weight_of s < n → turns next step (suc most) start x s ≡ turns next step' (suc most) start x s
      same more [] light = refl
      same more (t ∷ s) light = at more t s (next x t) refl light

      leaves : More → (s : List Token) → Left s (left (turns next step' (suc most) start x s))
      leaves more [] = nothing_read []
      leaves more (t ∷ s) = at_left more t s (next x t)

  loop_after-agrees : (already : List Token) {first first' : Reader A} → Agree n first first'
      → Agree n (loop_after already first next step) (loop_after already first' next step')
  unfolding loop_after
  loop_after-agrees already one = staged n (λ s x rest. turns next step (length rest) (already ++ s) x rest)
      (λ s x rest. turns next step' (length rest) (already ++ s) x rest) one
      (λ s x. record { same = λ rest light. (turns-agree (length rest) (already ++ s) x).same rest light; leaves = λ rest. (turns-agree (length rest) (already ++ s) x).leaves rest })

-- ---- pieces

pub smaller : {A : Type 0} {n : ℕ} {f g : Reader A} → Agree (suc n) f g → Agree n f g
smaller h = record { same = λ s light. h.same s (omega arith); leaves = h.leaves }

-- any token
light_ok : {A : Type 0} {n : ℕ} (p : Token → Option A) (t : Token) (x : A) → p t ≡ Some x → n ≤ n + weight_of_kind t.kind
light_ok p t x e = omega arith

-- a word or sign that weighs
weighty : (n : ℕ) (kind : TokenKind) → nat_le 1 (weight_of_kind kind) ≡ true → (t u : Token) → exactly kind t ≡ Some u → suc n ≤ n + weight_of_kind t.kind
weighty n kind heavy t u e =
    let same : weight_of_kind t.kind ≡ weight_of_kind kind = ap weight_of_kind (exactly-is kind t u e).0 in
    let le : 1 ≤ weight_of_kind kind = leb-true 1 (weight_of_kind kind) heavy in
    omega arith

module _ {A : Type 0} {n : ℕ} where
  -- after a token that need not weigh, and after one that does
  passed_over : {B : Type 0} (p : Token → Option B) {k l : B → Reader A} {f g : Reader A} → ((x : B) → Agree n (k x) (l x)) → Agree n f g
      → Agree n (accept_or p k f) (accept_or p l g)
  passed_over p taken passed = accept_or-agrees n p (light_ok p) taken passed

  went_in : (kind : TokenKind) → nat_le 1 (weight_of_kind kind) ≡ true → {k l : Token → Reader A} {f g : Reader A}
      → ((t : Token) → Agree n (k t) (l t)) → Agree (suc n) f g → Agree (suc n) (accept_or (exactly kind) k f) (accept_or (exactly kind) l g)
  went_in kind heavy taken passed = accept_or-agrees n (exactly kind) (weighty n kind heavy) taken passed

  wanted : {B : Type 0} (p : Token → Option B) {k l : B → Reader A} → ((x : B) → Agree n (k x) (l x)) → Agree n (accept p k) (accept p l)
  wanted p taken = passed_over p taken refuse-agrees

  expected : (kind : TokenKind) {f g : Reader A} → Agree n f g → Agree n (expect kind f) (expect kind g)
  expected kind inner = wanted (exactly kind) (λ t. inner)

  closed-agrees : (closing : TokenKind) {f g : Reader A} → Agree n f g → Agree n (closed_read closing f) (closed_read closing g)
  closed-agrees closing inner = bind-agrees inner (λ x. expected closing (give-agrees x))

  between-agrees : (o c : TokenKind) → nat_le 1 (weight_of_kind o) ≡ true → {f g : Reader A} → Agree n f g → Agree (suc n) (between_read o c f) (between_read o c g)
  between-agrees o c heavy inner = went_in o heavy (λ t. closed-agrees c inner) refuse-agrees

module _ {A : Type 0} {n : ℕ} where
  optional_after-agrees : (keyword : TokenKind) {f g : Reader A} → Agree n f g → Agree n (optional_after keyword f) (optional_after keyword g)
  optional_after-agrees keyword inner = passed_over (exactly keyword) (λ t. mapped-agrees _ inner) (give-agrees None)

  comma_list-agrees : (room : ℕ → Truth) {f g : Reader A} → Agree n f g → Agree n (comma_list room f) (comma_list room g)
  comma_list-agrees room inner = loop_after-agrees n n (if_room room) (λ xs. light_ok (if_room room xs)) (λ xs t. mapped-agrees _ inner) [] (mapped-agrees _ inner)

  row-agrees : (keyword : TokenKind) {f g : Reader A} → Agree n f g → Agree n (row_read keyword f) (row_read keyword g)
  row-agrees keyword inner = loop_after-agrees n n (λ xs. exactly keyword) (λ xs. light_ok (exactly keyword)) (λ xs t. mapped-agrees _ inner) []
      (expected keyword (mapped-agrees _ inner))

chain-agrees : {n : ℕ} (operators : Table Op2) {f g : Reader Expr} → Agree n f g → Agree n (chain_read operators f) (chain_read operators g)
chain-agrees {n} operators inner = loop_after-agrees n n (λ x. meant operators) (λ x. light_ok (meant operators)) (λ x op. mapped-agrees _ inner) [] inner

spanned_after-agrees : {n : ℕ} (already : List Token) {f g : Reader ExprForm} → Agree n f g → Agree n (spanned_after already f) (spanned_after already g)
spanned_after-agrees already inner = with_tokens-agrees (mapped-agrees _ inner)

spanned-agrees : {n : ℕ} {f g : Reader ExprForm} → Agree n f g → Agree n (with_span f) (with_span g)
spanned-agrees inner = with_tokens-agrees (mapped-agrees _ inner)

-- ---- productions

module _ {n : ℕ} where
  named-agrees : Agree n r.named_read r.named_read
  named-agrees = wanted r.placed_name (λ x. give-agrees x)

  atom-agrees : Agree n r.atom_read r.atom_read
  atom-agrees = passed_over _ (λ a. give-agrees a) (expected (w "unsigned") (wanted _ (λ a. give-agrees a)))

  part_rest-agrees : (x : Expr) → Agree n (r.part_rest x) (r.part_rest x)
  part_rest-agrees x = passed_over r.name_of (λ text. give-agrees _) (wanted r.plain_number_of (λ z. give-agrees _))

module _ (n : ℕ) (E F : Level → Reader Expr) (e : (level : Level) → Agree n (E level) (F level)) where
  parentheses-agree : Agree (suc n) (r.parentheses_read E) (r.parentheses_read F)
  parentheses-agree = between-agrees (s "(") (s ")") refl (e any)

  edge-agrees : Agree n (r.edge_read E) (r.edge_read F)
  edge-agrees = passed_over (exactly (s "*")) (λ t. give-agrees None) (mapped-agrees _ (e any))

  pub axis-agrees : Agree n (r.axis_read E) (r.axis_read F)
  axis-agrees = passed_over (exactly (s "*")) (λ t. expected (s ":") (mapped-agrees _ edge-agrees))
      (bind-agrees (e any) (λ x. passed_over (exactly (s ":")) (λ c. mapped-agrees _ edge-agrees) (give-agrees _)))

  pub index-agrees : Agree n (r.index_rest E) (r.index_rest F)
  index-agrees = closed-agrees (s "]") (comma_list-agrees r.any_count axis-agrees)

  pub bounds-agree : Agree n (r.bounds_read E) (r.bounds_read F)
  bounds-agree = bind-agrees (e any) (λ lo. expected (s ":") (mapped-agrees _ (e any)))

  pub domain-agrees : Agree (suc n) (r.domain_read E) (r.domain_read F)
  domain-agrees = went_in (s "[") refl (λ o. mapped-agrees _ (closed-agrees (s "]") (comma_list-agrees r.any_count bounds-agree)))
      (wanted (exactly (w "sdom")) (λ k. mapped-agrees _ (spanned_after-agrees (k ∷ []) (mapped-agrees _ parentheses-agree))))

  braces-agree : Agree n (r.braces_rest E) (r.braces_rest F)
  braces-agree = mapped-agrees _ (closed-agrees (s "}") (comma_list-agrees r.may_grow (e any)))

  pub arm-agrees : Agree n (r.arm_rest E) (r.arm_rest F)
  arm-agrees = bind-agrees (e any) (λ c. expected (w "then") (mapped-agrees _ (e any)))

  choice-agrees : Agree n (r.choice_rest E) (r.choice_rest F)
  choice-agrees = bind-agrees (row-agrees (w "when") arm-agrees)
      (λ arms. expected (w "else") (mapped-agrees _ (closed-agrees (w "end") (e any))))

  -- two operands in parentheses
  operands-agree : {A : Type 0} (h : Expr → A → ExprForm) {f g : Reader A} → Agree n f g
      → Agree (suc n) (expect (s "(") (bind (E any) (λ x. expect (s ",") (mapped (h x) (closed_read (s ")") f)))))
      (expect (s "(") (bind (F any) (λ x. expect (s ",") (mapped (h x) (closed_read (s ")") g)))))
  operands-agree h second = went_in (s "(") refl
      (λ o. bind-agrees (e any) (λ x. expected (s ",") (mapped-agrees _ (closed-agrees (s ")") second)))) refuse-agrees

  function-agrees : Agree (suc n) (r.function_form E) (r.function_form F)
  unfolding r.function_form
  function-agrees =
      passed_over _ (λ op. operands-agree (λ x y. forms.Binary op x y) (e any))
      (passed_over _ (λ k. mapped-agrees _ parentheses-agree)
      (passed_over _ (λ fold. mapped-agrees _ parentheses-agree)
      (passed_over _ (λ k. operands-agree (λ x y. forms.Shift x y) (smaller (between-agrees (s "[") (s "]") refl (comma_list-agrees r.any_count (e any)))))
      (passed_over _ (λ k. operands-agree (λ x y. forms.Extend x y) (smaller domain-agrees))
      (passed_over _ (λ k. mapped-agrees _ parentheses-agree)
      (wanted _ (λ k. mapped-agrees _ (between-agrees (s "(") (s ")") refl named-agrees))))))))

  pub primary-agrees : Agree (suc n) (r.primary_form E) (r.primary_form F)
  unfolding r.primary_form
  primary-agrees =
      passed_over _ (λ m. give-agrees _)
      (passed_over _ (λ b. give-agrees _)
      (passed_over _ (λ text. give-agrees _)
      (went_in (s "{") refl (λ o. braces-agree)
      (passed_over _ (λ k. went_in (s "{") refl (λ o. braces-agree) refuse-agrees)
      (went_in (w "case") refl (λ k. choice-agrees) function-agrees)))))

  part-heavy : (x : Expr) (t : Token) (b : Truth) → meant part_signs t ≡ Some b → suc n ≤ n + weight_of_kind t.kind
  part-heavy x t b is =
      let le : 1 ≤ weight_of_kind t.kind = leb-true 1 (weight_of_kind t.kind)
      (each_key-at (λ kind. nat_le 1 (weight_of_kind kind)) part_signs refl t b (meaning_of-means part_signs t b is)) in
      omega arith

  pub with_part-agrees : (x : Expr) (b : Truth) → Agree n (with_part E x b) (with_part F x b)
  with_part-agrees x true = mapped-agrees _ index-agrees
  with_part-agrees x false = part_rest-agrees x

  part-agrees : (already : List Token) {f g : Reader Expr} → Agree (suc n) f g → Agree (suc n) (r.part_after E already f) (r.part_after F already g)
  part-agrees already first = loop_after-agrees (suc n) n (λ x. meant part_signs) part-heavy with_part-agrees already first

  parenthesis-part-agrees : (o : Token) → Agree n (r.part_after E (o ∷ []) (closed_read (s ")") (E any))) (r.part_after F (o ∷ []) (closed_read (s ")") (F any)))
  parenthesis-part-agrees o = loop_after-agrees n n (λ x. meant part_signs) (λ x. light_ok (meant part_signs)) with_part-agrees (o ∷ []) (closed-agrees (s ")") (e any))

  pub signed-agrees : Agree (suc n) (r.signed_read E) (r.signed_read F)
  unfolding r.signed_read
  signed-agrees =
      went_in (s "-") refl (λ m. spanned_after-agrees (m ∷ []) (mapped-agrees _ (e signed)))
      (went_in (s "(") refl (λ o. choose-agrees r.begins_atom
      (spanned_after-agrees (o ∷ []) (bind-agrees (closed-agrees (s ")") atom-agrees) (λ a. mapped-agrees _ (e signed)))) (parenthesis-part-agrees o))
      (part-agrees [] (spanned-agrees primary-agrees)))

  pub product-agrees : Agree (suc n) (r.product_read E) (r.product_read F)
  unfolding r.product_read
  product-agrees = chain-agrees products signed-agrees

  pub sum-agrees : Agree (suc n) (r.sum_read E) (r.sum_read F)
  unfolding r.sum_read
  sum-agrees = chain-agrees sums product-agrees

  pub compared-agrees : Agree (suc n) (r.compared_read E) (r.compared_read F)
  unfolding r.compared_read
  compared-agrees = with_tokens-agrees (bind-agrees sum-agrees (λ x. passed_over _ (λ op. mapped-agrees _ sum-agrees) (give-agrees _)))

  pub negated-agrees : Agree (suc n) (r.negated_read E) (r.negated_read F)
  unfolding r.negated_read
  negated-agrees = went_in (w "not") refl (λ k. spanned_after-agrees (k ∷ []) (mapped-agrees _ (e negation))) compared-agrees

  pub both-agrees : Agree (suc n) (r.both_read E) (r.both_read F)
  unfolding r.both_read
  both-agrees = chain-agrees boths negated-agrees

  pub either-agrees : Agree (suc n) (r.either_read E) (r.either_read F)
  unfolding r.either_read
  either-agrees = chain-agrees eithers both-agrees

  pub overlaid-agrees : Agree (suc n) (r.overlaid_read E) (r.overlaid_read F)
  unfolding r.overlaid_read
  overlaid-agrees = chain-agrees overlays either-agrees

  marray-agrees : Agree n (r.marray_rest E) (r.marray_rest F)
  marray-agrees = wanted _ (λ x. expected (w "in") (bind-agrees (smaller domain-agrees) (λ d. expected (w "values") (mapped-agrees _ (e any)))))

  condense-agrees : Agree n (r.condense_rest E) (r.condense_rest F)
  condense-agrees = wanted _ (λ op. expected (w "over") (wanted _ (λ x. expected (w "in") (bind-agrees (smaller domain-agrees) (λ d.
      bind-agrees (optional_after-agrees (w "where") (e any)) (λ cond. expected (w "using") (mapped-agrees _ (e any))))))))

  concat-agrees : Agree n (r.concat_rest E) (r.concat_rest F)
  concat-agrees = bind-agrees (e any) (λ x. bind-agrees (row-agrees (w "with") (e any)) (λ xs. expected (w "along") (wanted _ (λ z. give-agrees _))))

  pub whole-agrees : Agree (suc n) (r.whole_read E) (r.whole_read F)
  unfolding r.whole_read
  whole-agrees =
      went_in (w "marray") refl (λ k. spanned_after-agrees (k ∷ []) marray-agrees)
      (went_in (w "condense") refl (λ k. spanned_after-agrees (k ∷ []) condense-agrees)
      (went_in (w "concat") refl (λ k. spanned_after-agrees (k ∷ []) concat-agrees) overlaid-agrees))

  pub level-agrees : (level : Level) → Agree (suc n) (level_read E level) (level_read F level)
  level-agrees any = whole-agrees
  level-agrees negation = negated-agrees
  level-agrees signed = signed-agrees

-- readers that may go as deep as the tokens weigh read as those of any depth do
pub reads-agree : (n : ℕ) (level : Level) → Agree n (reads n level) (read_at level)
unfolding reads
reads-agree zero level = record {
  same = λ s light. absurd (let h : weight_of s < 0 = light in omega arith);
  leaves = λ s. record { read = (read_at-leaves level).read s; is = (read_at-leaves level).is s };
}
reads-agree (suc n) level =
    let a : Agree (suc n) (level_read (reads n) level) (level_read read_at level) = level-agrees n (reads n) read_at (λ l. reads-agree n l) level in
    record {
      same = λ s light. a.same s light ∙ sym (read_at-is level s);
      leaves = λ s. subst (λ o. Left s (left o)) (sym (read_at-is level s)) (a.leaves s);
    }

-- ---- what readers of a bounded depth leave

pub agree-leaves : {A : Type 0} {n : ℕ} {f g : Reader A} → Agree n f g → Leaves g
agree-leaves h = record { read = λ s. (h.leaves s).read; is = λ s. (h.leaves s).is }

-- each reader of a production over these leaves an end of its list, by the lemmas above
pub reads-leave : (n : ℕ) (level : Level) → Agree 0 (reads n level) (reads n level)
unfolding reads
reads-leave zero level = record { same = λ s light. refl; leaves = nothing_read }
reads-leave (suc n) level = smaller (level-agrees 0 (reads n) (reads n) (λ l. reads-leave n l) level)

-- ---- statements

source-agrees : {n : ℕ} → Agree n r.source_read r.source_read
source-agrees = wanted r.placed_name (λ x. mapped-agrees _ (optional_after-agrees (w "as") named-agrees))

module _ (n : ℕ) (E F : Level → Reader Expr) (e : (level : Level) → Agree n (E level) (F level)) where
  condition-agrees : Agree n (r.condition E) (r.condition F)
  condition-agrees = optional_after-agrees (w "where") (e any)

  target-agrees : Agree n (r.target E) (r.target F)
  target-agrees = with_tokens-agrees (wanted r.placed_name (λ x. mapped-agrees _ (optional_after-agrees (s "[") (index-agrees n E F e))))

  select-agrees : Agree n (r.select_rest E) (r.select_rest F)
  select-agrees = bind-agrees (e any) (λ x. passed_over (exactly (w "from"))
      (λ f. bind-agrees (comma_list-agrees r.any_count source-agrees) (λ sources. mapped-agrees _ condition-agrees)) (give-agrees _))

  insert-agrees : Agree n (r.insert_rest E) (r.insert_rest F)
  insert-agrees = expected (w "into") (wanted r.placed_name (λ x. expected (w "values") (mapped-agrees _ (e any))))

  delete-agrees : Agree n (r.delete_rest E) (r.delete_rest F)
  delete-agrees = expected (w "from") (bind-agrees source-agrees (λ of. mapped-agrees _ condition-agrees))

  update-agrees : Agree n (r.update_rest E) (r.update_rest F)
  update-agrees = bind-agrees source-agrees (λ of. expected (w "set") (bind-agrees target-agrees (λ to. expected (w "assign")
      (bind-agrees (e any) (λ x. mapped-agrees _ condition-agrees)))))

  create-agrees : Agree n (r.create_rest E) (r.create_rest F)
  create-agrees = expected (w "collection") (wanted r.placed_name (λ x. wanted r.placed_name (λ y. give-agrees _)))

  drop-agrees : Agree n (r.drop_rest E) (r.drop_rest F)
  drop-agrees = expected (w "collection") (wanted r.placed_name (λ x. give-agrees _))

  begin-agrees : Agree n (r.begin_rest E) (r.begin_rest F)
  begin-agrees = passed_over (exactly (w "retry")) (λ k. wanted r.times_of (λ times. give-agrees _)) (give-agrees _)

  commit-agrees : Agree n (r.commit_rest E) (r.commit_rest F)
  commit-agrees = passed_over (exactly (w "anyway")) (λ a. give-agrees _) (give-agrees _)

  pub form-agrees : Agree n (r.form_read E) (r.form_read F)
  form-agrees =
      passed_over _ (λ k. select-agrees)
      (passed_over _ (λ k. insert-agrees)
      (passed_over _ (λ k. delete-agrees)
      (passed_over _ (λ k. update-agrees)
      (passed_over _ (λ k. create-agrees)
      (passed_over _ (λ k. drop-agrees)
      (passed_over _ (λ k. begin-agrees)
      (passed_over _ (λ k. commit-agrees) (wanted _ (λ k. give-agrees _)))))))))
