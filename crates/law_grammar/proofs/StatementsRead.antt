-- The readers of statements read them, and the readers of the whole grammar, which go as deep as a list is long, read it.
use Rattle.std.specs.Prelude.{◌≡◌, ℕ, zero, suc, ◌+◌, ◌<◌, ◌≤◌, pos, List, [], ◌∷◌, ◌++◌, length, Option, Ok, Err}
use Rattle.std.proofs.Common.{refl, sym, ap, subst, ◌∙◌, arith, append_assoc}
use Rattle.ras_cells.specs.declared.atom.Atom.TheVariants as atoms
use Rattle.ras_syntax.specs.declared.span.Span.{Span}
use Rattle.ras_syntax.specs.declared.span.Spanned.{Spanned}
use Rattle.ras_syntax.specs.declared.expr.Expr.{Expr}
use Rattle.ras_syntax.specs.declared.expr.ExprForm.TheVariants as forms
use Rattle.ras_syntax.specs.declared.expr.Axis.{Axis}
use Rattle.ras_syntax.specs.declared.statement.SourceName.{SourceName}
use Rattle.ras_syntax.specs.declared.statement.StatementForm.{StatementForm}
use Rattle.ras_syntax.specs.declared.statement.StatementForm.TheVariants as statements
use Rattle.spec_grammar.specs.Tokens.{name, number, Token}
use Rattle.spec_grammar.specs.Grammar.{Rel, span_of, w, s, IsWord, IsName, IsAfter, IsOptional, IsSource, tree, Level, any, negation, signed, IsIndex, IsPrimary, IsForm, IsAt}
use Rattle.spec_grammar.proofs.Levels.{up, primary-any, primary-signed, primary-negated}
use Rattle.law_grammar.specs.Readers.{ReadOutcome, Reader, mapped, expect, bind}
use Rattle.law_grammar.specs.Reading.{source_read, level_read, condition, select_rest, insert_rest, delete_rest, target, update_rest, create_rest, drop_rest, begin_rest, commit_rest, form_read, reads, read_at, read_form}
use Rattle.law_grammar.proofs.Good.{Begins, Told, Good, good-map, give-good, bind-good, mapped-good, with_tokens-good}
use Rattle.law_grammar.proofs.TokenTests.{placed_name-is, times_of-is}
use Rattle.law_grammar.proofs.Pieces.{deeper, some_token, accept-good, exact_or-good, exact-good, expect-good, optional_after-good, optional-good, comma-good, given}
use Rattle.law_grammar.proofs.Productions.{named-good, indexes-good, level-good}

module _ {n n' : ℕ} where
  pub source-good : Good IsSource n n' source_read source_read
  source-good = accept-good (deeper n) (deeper n') (some_token (name [])) _ refl
      (λ t x e. mapped-good _ (optional-good "as" named-good) (λ ts iterator q. IsSource.source t x (placed_name-is t x e) q))

-- a target's tokens, with its name, its index and its span
data IsTarget (E : Level → Rel Expr) : List Token → Spanned × Option (List Axis) × Span → Type 0 where
  target_of : {us : List Token} {axes : Option (List Axis)} (t : Token) (x : Spanned) → IsName t x → IsOptional (IsIndex E) us axes
      → IsTarget E (t ∷ us) (x, axes, span_of (t ∷ us))

module _ (n n' : ℕ) (E E' : Level → Reader Expr) (e : (level : Level) → Good (IsAt level) n n' (E level) (E' level)) where
  condition-good : Good (IsOptional (IsAfter "where" (IsAt any))) n n' (condition E) (condition E')
  condition-good = optional-good "where" (e any)

  -- a form from its second token on
  abbrev Rest : Token → Rel StatementForm
  Rest k us form = IsForm IsAt (k ∷ us) form

  select_rest-good : (k : Token) → IsWord "select" k → Good (Rest k) n n' (select_rest E) (select_rest E')
  select_rest-good k is = bind-good (e any) (λ ts x p. exact_or-good (deeper n) (deeper n') (w "from")
      (λ f from. bind-good (comma-good source-good) (λ us sources q. mapped-good _ condition-good (λ vs cond c.
      subst (λ ws. Rest k ws (statements.Select x sources cond)) (append_assoc ts (f ∷ us) vs) (IsForm.select_from k f is p from q c))))
      (given (Rest k) ts _ (IsForm.select k is p)))

  insert_rest-good : (k : Token) → IsWord "insert" k → Good (Rest k) n n' (insert_rest E) (insert_rest E')
  insert_rest-good k is = expect-good (deeper n) (deeper n') (w "into") refl (λ i into.
      accept-good (deeper n) (deeper n') (some_token (name [])) _ refl (λ t x at.
      expect-good (deeper n) (deeper n') (w "values") refl (λ v values. mapped-good _ (e any) (λ us y q.
      IsForm.insert k i t v x is into (placed_name-is t x at) values q))))

  delete_rest-good : (k : Token) → IsWord "delete" k → Good (Rest k) n n' (delete_rest E) (delete_rest E')
  delete_rest-good k is = expect-good (deeper n) (deeper n') (w "from") refl (λ f from.
      bind-good source-good (λ ts of p. mapped-good _ condition-good (λ us cond q. IsForm.delete k f is from p q)))

  target-good : Good (IsTarget IsAt) n n' (target E) (target E')
  target-good = with_tokens-good {Q = IsTarget IsAt} (accept-good (deeper n) (deeper n') (some_token (name [])) _ refl
      (λ t x at. mapped-good {R = IsOptional (IsIndex IsAt)} _
      (optional_after-good {R = λ us axes. (o : Token) → o.kind ≡ s "[" → IsIndex IsAt (o ∷ us) axes} (s "[") (indexes-good n n' E E' e)
      (λ o us axes left q. IsOptional.present (q o left)) IsOptional.absent)
      (λ us axes q. target_of t x (placed_name-is t x at) q)))

  assigned-good : (k s' : Token) (ts : List Token) (of : SourceName) → IsWord "update" k → IsSource ts of → IsWord "set" s'
      → (us : List Token) (to : Spanned × Option (List Axis) × Span) → IsTarget IsAt us to
      → Good (λ vs form. Rest k (ts ++ s' ∷ (us ++ vs)) form) n n'
      (expect (w "assign") (bind (E any) (λ e. mapped (λ cond. statements.Update of to.0 to.1 to.2 e cond) (condition E))))
      (expect (w "assign") (bind (E' any) (λ e. mapped (λ cond. statements.Update of to.0 to.1 to.2 e cond) (condition E'))))
  assigned-good k s' ts of is p set _ _ (target_of {us} {axes} t x at index) =
      expect-good (deeper n) (deeper n') (w "assign") refl (λ a assign. bind-good (e any) (λ vs y q. mapped-good _ condition-good (λ ws cond c.
      subst (λ xs. Rest k xs (statements.Update of x axes (span_of (t ∷ us)) y cond))
      (append_assoc (ts ++ s' ∷ t ∷ us) (a ∷ vs) ws ∙ append_assoc ts (s' ∷ t ∷ us) (a ∷ vs ++ ws))
      (IsForm.update k s' t a x is p set at index assign q c))))

  update_rest-good : (k : Token) → IsWord "update" k → Good (Rest k) n n' (update_rest E) (update_rest E')
  update_rest-good k is = bind-good source-good (λ ts of p. expect-good (deeper n) (deeper n') (w "set") refl (λ s' set.
      bind-good target-good (λ us to q. assigned-good k s' ts of is p set us to q)))

  create_rest-good : (k : Token) → IsWord "create" k → Good (Rest k) n n' (create_rest E) (create_rest E')
  create_rest-good k is = expect-good (deeper n) (deeper n') (w "collection") refl (λ c collection.
      accept-good (deeper n) (deeper n') (some_token (name [])) _ refl (λ t x at.
      accept-good (deeper n) (deeper n') (some_token (name [])) _ refl (λ u y at'.
      give-good _ (IsForm.create k c t u x y is collection (placed_name-is t x at) (placed_name-is u y at')))))

  drop_rest-good : (k : Token) → IsWord "drop" k → Good (Rest k) n n' (drop_rest E) (drop_rest E')
  drop_rest-good k is = expect-good (deeper n) (deeper n') (w "collection") refl (λ c collection.
      accept-good (deeper n) (deeper n') (some_token (name [])) _ refl (λ t x at.
      give-good _ (IsForm.drop k c t x is collection (placed_name-is t x at))))

  begin_rest-good : (k : Token) → IsWord "begin" k → Good (Rest k) n n' (begin_rest E) (begin_rest E')
  begin_rest-good k is = exact_or-good (deeper n) (deeper n') (w "retry")
      (λ r retry. accept-good (deeper n) (deeper n') (some_token (number (pos 1) atoms.Wide)) 1 refl (λ t times at.
      let q = times_of-is t times at in give-good _ (IsForm.begin_retry k r t times is retry q.0 q.1 q.2)))
      (give-good _ (IsForm.begin k is))

  commit_rest-good : (k : Token) → IsWord "commit" k → Good (Rest k) n n' (commit_rest E) (commit_rest E')
  commit_rest-good k is = exact_or-good (deeper n) (deeper n') (w "anyway") (λ a anyway. give-good _ (IsForm.commit_anyway k a is anyway))
      (give-good _ (IsForm.commit k is))

  top : suc n ≤ suc n
  top = omega arith

  top' : suc n' ≤ suc n'
  top' = omega arith

  pub form-good : Good (IsForm IsAt) (suc n) (suc n') (form_read E) (form_read E')
  form-good =
      exact_or-good top top' (w "select") select_rest-good
      (exact_or-good top top' (w "insert") insert_rest-good
      (exact_or-good top top' (w "delete") delete_rest-good
      (exact_or-good top top' (w "update") update_rest-good
      (exact_or-good top top' (w "create") create_rest-good
      (exact_or-good top top' (w "drop") drop_rest-good
      (exact_or-good top top' (w "begin") begin_rest-good
      (exact_or-good top top' (w "commit") commit_rest-good
      (exact-good top top' (w "abort") refl (λ k is. give-good _ (IsForm.abort k is))))))))))

-- ---- readers that agree

-- two readers that are compared tell the same of a list that is short enough for both
pub same_reading : {A : Type 0} {Q : Rel A} {n n' : ℕ} {f f' : Reader A} → Good Q n n' f f' → (s : List Token) → length s < n → length s < n' → f' s ≡ f s
same_reading {A} {Q} {n} {n'} {f} {f'} good s short short' = go (f s) (good.told s short)
  where
    go : (o : ReadOutcome A) → Told Q n' f' s o → f' s ≡ o
    go (Ok p) r = ap f' r.is ∙ r.again p.1 refl (subst (λ ts. length ts < n') r.is short')
    go (Err rest) r = ap f' r.is ∙ r.again rest refl (subst (λ ts. length ts < n') r.is short')

-- a reader may be exchanged for another that tells the same of short lists
module _ {A : Type 0} {Q : Rel A} {m m' n n' : ℕ} {f f' g g' : Reader A} (more : n ≤ m) (more' : n' ≤ m') (good : Good Q m m' f f')
    (same : (s : List Token) → length s < n → f s ≡ g s) (same' : (s : List Token) → length s < n' → f' s ≡ g' s) where
  again : (pre other : List Token) (o : ReadOutcome A) → (length (pre ++ other) < m' → f' (pre ++ other) ≡ o) → length (pre ++ other) < n' → g' (pre ++ other) ≡ o
  again pre other o h short = sym (same' (pre ++ other) short) ∙ h (omega arith)

  exchanged-told : (s : List Token) (o : ReadOutcome A) → Told Q m' f' s o → Told Q n' g' s o
  exchanged-told s (Ok p) r = record {
    pre = r.pre;
    is = r.is;
    holds = r.holds;
    again = λ other e. again r.pre other (Ok (p.0, other)) (r.again other e);
  }
  exchanged-told s (Err rest) r = record {
    pre = r.pre;
    is = r.is;
    begins = r.begins;
    again = λ other e. again r.pre other (Err other) (r.again other e);
  }

  exchanged : Good Q n n' g g'
  exchanged = record {
    some = good.some;
    told = λ s short. exchanged-told s (g s) (subst (λ o. Told Q m' f' s o) (same s short) (good.told s (let h : length s < n = short in omega arith)));
  }

-- a bound of 0 says nothing
vacuous : {A : Type 0} {Q : Rel A} {n n' : ℕ} {f f' : Reader A} (g : Reader A) → Good Q n n' f f' → Good Q n 0 f g
vacuous {A} {Q} {n} {n'} {f} {f'} g good = record { some = good.some; told = λ s short. go s (f s) (good.told s short) }
  where
    go : (s : List Token) (o : ReadOutcome A) → Told Q n' f' s o → Told Q 0 g s o
    go s (Ok p) r = record { pre = r.pre; is = r.is; holds = r.holds; again = λ other e short. absurd (let h : length (r.pre ++ other) < 0 = short in omega arith) }
    go s (Err rest) r = record { pre = r.pre; is = r.is; begins = r.begins; again = λ other e short. absurd (let h : length (r.pre ++ other) < 0 = short in omega arith) }

-- ---- the whole grammar

abbrev one_digit : Token
one_digit = some_token (number (pos 1) atoms.Wide)

digit_is : IsPrimary IsAt (one_digit ∷ []) (tree (one_digit ∷ []) (forms.Number (pos 1) atoms.Wide))
digit_is = IsPrimary.number one_digit (pos 1) atoms.Wide refl

some_at : (level : Level) → Begins (IsAt level) []
some_at any = (one_digit ∷ [], _, primary-any digit_is)
some_at negation = (one_digit ∷ [], _, up negation _ _ (primary-negated digit_is))
some_at signed = (one_digit ∷ [], _, up signed _ _ (primary-signed digit_is))

pub reads-good : (n n' : ℕ) (level : Level) → Good (IsAt level) n n' (reads n level) (reads n' level)
unfolding reads
reads-good zero n' level = record { some = some_at level; told = λ s short. absurd (let h : length s < 0 = short in omega arith) }
reads-good (suc n) zero level =
    vacuous (reads zero level) (good-map (up level) (level-good n zero (reads n) (reads zero) (λ l. reads-good n zero l) level))
reads-good (suc n) (suc n') level = good-map (up level) (level-good n n' (reads n) (reads n') (λ l. reads-good n n' l) level)

-- the depth is of no matter where it is more than a list is long
pub reads-same : (n : ℕ) (level : Level) (s : List Token) → length s < n → reads n level s ≡ read_at level s
unfolding read_at
reads-same n level s short = same_reading (reads-good (suc (length s)) n level) s (omega arith) short

pub read_at-good : (n n' : ℕ) (level : Level) → Good (IsAt level) n n' (read_at level) (read_at level)
read_at-good n n' level = exchanged {f' = reads (n + n') level} (omega arith) (omega arith) (reads-good (n + n') (n + n') level)
    (λ s short. reads-same (n + n') level s (omega arith)) (λ s short. reads-same (n + n') level s (omega arith))

-- the three readers stand inside themselves
pub read_at-is : (level : Level) (s : List Token) → read_at level s ≡ level_read read_at level s
unfolding read_at reads
read_at-is level s =
    sym (same_reading (level-good (length s) (length s) (reads (length s)) read_at
    (λ l. exchanged {f' = reads (length s) l} {g = reads (length s) l} (omega arith) (omega arith) (reads-good (length s) (length s) l)
    (λ ts short. refl) (λ ts short. reads-same (length s) l ts short)) level) s (omega arith) (omega arith))

pub read_form-good : (n n' : ℕ) → Good (IsForm IsAt) (suc n) (suc n') read_form read_form
read_form-good n n' = form-good n n' read_at read_at (λ level. read_at-good n n' level)
