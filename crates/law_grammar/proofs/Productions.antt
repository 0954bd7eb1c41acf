-- Each reader of a production of expressions reads it, where the readers of what stands inside do.
use Rattle.std.specs.Prelude.{◌≡◌, ℕ, suc, ◌<◌, ◌≤◌, pos, Bool as Truth, true, false, List, [], ◌∷◌, ◌++◌, length, Option, Some, None}
use Rattle.std.proofs.Common.{refl, subst, arith, inl, inr, append_assoc}
use Rattle.std.proofs.lemmas.Bool.{ltb-true}
use Rattle.ras_cells.specs.declared.atom.Atom.TheVariants as atoms
use Rattle.ras_cells.specs.declared.numbers.Op2.{Op2}
use Rattle.ras_syntax.specs.declared.expr.Expr.{Expr}
use Rattle.ras_syntax.specs.declared.expr.ExprForm.{ExprForm}
use Rattle.ras_syntax.specs.declared.expr.ExprForm.TheVariants as forms
use Rattle.ras_syntax.specs.declared.expr.DomainExpr.TheVariants as domains
use Rattle.spec_grammar.specs.Tokens.{name, number, Token}
use Rattle.spec_grammar.specs.Grammar.{Rel, tree, w, s, IsWord, Means, IsCommaList, IsBetween, IsAfter, IsNamed, IsAtom, Level, any, negation, signed, InParentheses, Exprs, IsEdge, IsAxis, IsIndex, IsBounds, IsDomain, IsArm, IsPrimary, IsPart, IsSigned, IsProduct, IsSum, IsCompared, IsNegated, IsBoth, IsEither, IsOverlaid, IsWhole, IsLevel, IsAt, atom_words, unsigned_words, truths, calls, cells_folds, comparisons, fold_operators, products, sums, boths, eithers, overlays}
use Rattle.law_grammar.specs.Readers.{Reader, meant, with_span}
use Rattle.law_grammar.specs.Reading as r
use Rattle.law_grammar.specs.Reading.{named_read, atom_read, begins_atom, parentheses_read, exprs, edge_read, trim_to, axis_read, index_rest, part_signs, with_part, bounds_read, domain_read, arm_rest, braces_rest, choice_rest, call_rest, shift_rest, extend_rest, function_form, primary_form, part_rest, part_after, cast_rest, signed_read, product_read, sum_read, compared_read, negated_read, both_read, either_read, overlaid_read, marray_rest, condense_rest, concat_rest, whole_read, level_read, may_grow}
use Rattle.law_grammar.proofs.Good.{Good, good-map, give-good, bind-good, mapped-good, accept_or-good, choose-good, with_tokens-good, loop_after-good}
use Rattle.law_grammar.proofs.TokenTests.{meaning_of-means, name_of-is, placed_name-is, number_of-is, plain_of-is}
use Rattle.law_grammar.proofs.Pieces.{deeper, some_token, accept-good, exact_or-good, exact-good, expect-good, closed-good, between-good, optional-good, comma_list-good, comma-good, row-good, chain-good, spanned_after-good, spanned-good, given}

pub same_depth : (n : ℕ) → n ≤ n
same_depth n = omega arith

module _ {n n' : ℕ} where
  pub named-good : Good IsNamed n n' named_read named_read
  named-good = accept-good (deeper n) (deeper n') (some_token (name [])) _ refl (λ t x e. give-good x (IsNamed.named t x (placed_name-is t x e)))

  pub atom-good : Good IsAtom n n' atom_read atom_read
  atom-good = accept_or-good (deeper n) (deeper n') (λ t a e. give-good a (IsAtom.one_word t a (meaning_of-means atom_words t a e)))
      (expect-good (deeper n) (deeper n') (w "unsigned") refl
      (λ u is. accept-good (deeper n) (deeper n') (some_token (w "short")) atoms.Ushort refl
      (λ t a e. give-good a (IsAtom.two_words u t a is (meaning_of-means unsigned_words t a e)))))

module _ (n n' : ℕ) (E E' : Level → Reader Expr) (e : (level : Level) → Good (IsAt level) n n' (E level) (E' level)) where
  pub parentheses-good : Good (InParentheses IsAt) n n' (parentheses_read E) (parentheses_read E')
  parentheses-good = between-good "(" ")" refl refl (e any)

  pub edge-good : Good (IsEdge IsAt) n n' (edge_read E) (edge_read E')
  edge-good = exact_or-good (deeper n) (deeper n') (s "*") (λ t is. give-good None (IsEdge.own t is)) (mapped-good _ (e any) (λ us x q. IsEdge.written q))

  trim_to-good : (lo : Option Expr) (ts : List Token) (c : Token) → IsEdge IsAt ts lo → c.kind ≡ s ":"
      → Good (λ us x. IsAxis IsAt (ts ++ c ∷ us) x) n n' (trim_to E lo) (trim_to E' lo)
  trim_to-good lo ts c low colon = mapped-good _ edge-good (λ us hi high. IsAxis.trim c low colon high)

  pub axis-good : Good (IsAxis IsAt) n n' (axis_read E) (axis_read E')
  axis-good = exact_or-good (deeper n) (deeper n') (s "*")
      (λ t is. expect-good (deeper n) (deeper n') (s ":") refl (λ c colon. trim_to-good None (t ∷ []) c (IsEdge.own t is) colon))
      (bind-good (e any) (λ ts x q. exact_or-good (deeper n) (deeper n') (s ":")
      (λ c is. trim_to-good (Some x) ts c (IsEdge.written q) is) (given (IsAxis IsAt) ts _ (IsAxis.at q))))

  pub indexes-good : Good (λ us x. (o : Token) → o.kind ≡ s "[" → IsIndex IsAt (o ∷ us) x) n n' (index_rest E) (index_rest E')
  indexes-good = closed-good (s "]") refl (comma-good axis-good) (λ ts x c q right o left. IsBetween.between o c left q right)

  pub bounds-good : Good (IsBounds IsAt) n n' (bounds_read E) (bounds_read E')
  bounds-good = bind-good (e any) (λ ts lo low. expect-good (deeper n) (deeper n') (s ":") refl
      (λ c colon. mapped-good _ (e any) (λ us hi high. IsBounds.bounds c low colon high)))

  pub domain-good : Good (IsDomain IsAt) n n' (domain_read E) (domain_read E')
  domain-good = exact_or-good (deeper n) (deeper n') (s "[")
      (λ o is. mapped-good {R = λ us pairs. IsBetween "[" "]" (IsCommaList (IsBounds IsAt)) (o ∷ us) pairs} _
      (closed-good (s "]") refl (comma-good bounds-good) (λ ts x c q right. IsBetween.between o c is q right))
      (λ ts x q. IsDomain.literal q))
      (exact-good (deeper n) (deeper n') (w "sdom") refl
      (λ k is. mapped-good {R = λ us y. IsDomain IsAt (k ∷ us) (domains.Sdom y)} _
      (spanned_after-good (k ∷ []) (mapped-good _ parentheses-good (λ us x q. IsDomain.of_array k is q)))
      (λ ts y q. q)))

  -- ---- primary

  pub arm_rest-good : Good (λ us x. (k : Token) → IsWord "when" k → IsArm IsAt (k ∷ us) x) n n' (arm_rest E) (arm_rest E')
  arm_rest-good = bind-good (e any) (λ ts c p. expect-good (deeper n) (deeper n') (w "then") refl
      (λ t is. mapped-good _ (e any) (λ us x q k when. IsArm.arm k t when p is q)))

  braces_rest-good : {Q : Rel ExprForm}
      → ((ts : List Token) (xs : List Expr) (c : Token) → Exprs IsAt ts xs → length xs ≤ 8 → c.kind ≡ s "}" → Q (ts ++ c ∷ []) (forms.Build xs))
      → Good Q n n' (braces_rest E) (braces_rest E')
  braces_rest-good {Q} built = mapped-good {R = λ us xs. Q us (forms.Build xs)} _
      (closed-good (s "}") refl
      (comma_list-good may_grow (λ k. k ≤ 8) (omega arith) (λ k fits room. let h : k < 8 = ltb-true k 8 room in omega arith) (e any))
      (λ ts xs c q right. built ts xs c q.0 q.1 right))
      (λ ts xs q. q)

  -- a form of a primary, from its second token on
  abbrev From : Token → Rel ExprForm
  From k us form = IsPrimary IsAt (k ∷ us) (tree (k ∷ us) form)

  choice_rest-good : (k : Token) → IsWord "case" k → Good (From k) n n' (choice_rest E) (choice_rest E')
  choice_rest-good k is = bind-good (row-good (w "when") refl (λ k ts x is q. q k is) arm_rest-good) (λ ts arms p.
      expect-good (deeper n) (deeper n') (w "else") refl (λ e' is'.
      mapped-good {R = λ us x. From k (ts ++ e' ∷ us) (forms.Case arms x)} _
      (closed-good (w "end") refl (e any) (λ us x c q right. subst (λ vs. From k vs (forms.Case arms x)) (append_assoc ts (e' ∷ us) (c ∷ []))
      (IsPrimary.choice k e' c is p is' q right)))
      (λ us x q. q)))

  call_rest-good : (f : Token) (op : Op2) → Means calls f op → Good (From f) n n' (call_rest E op) (call_rest E' op)
  call_rest-good f op means = expect-good (deeper n) (deeper n') (s "(") refl (λ o left. bind-good (e any) (λ ts x p.
      expect-good (deeper n) (deeper n') (s ",") refl (λ c comma.
      mapped-good {R = λ us y. From f (o ∷ (ts ++ c ∷ us)) (forms.Binary op x y)} _
      (closed-good (s ")") refl (e any) (λ us y c' q right. subst (λ vs. From f (o ∷ vs) (forms.Binary op x y)) (append_assoc ts (c ∷ us) (c' ∷ []))
      (IsPrimary.call f o c c' op means left p comma q right)))
      (λ us y q. q))))

  shift_rest-good : (f : Token) → IsWord "shift" f → Good (From f) n n' (shift_rest E) (shift_rest E')
  shift_rest-good f is = expect-good (deeper n) (deeper n') (s "(") refl (λ o left. bind-good (e any) (λ ts x p.
      expect-good (deeper n) (deeper n') (s ",") refl (λ c comma.
      mapped-good {R = λ us y. From f (o ∷ (ts ++ c ∷ us)) (forms.Shift x y)} _
      (closed-good (s ")") refl (between-good "[" "]" refl refl (comma-good (e any)))
      (λ us y c' q right. subst (λ vs. From f (o ∷ vs) (forms.Shift x y)) (append_assoc ts (c ∷ us) (c' ∷ []))
      (IsPrimary.shift f o c c' is left p comma q right)))
      (λ us y q. q))))

  extend_rest-good : (f : Token) → IsWord "extend" f → Good (From f) n n' (extend_rest E) (extend_rest E')
  extend_rest-good f is = expect-good (deeper n) (deeper n') (s "(") refl (λ o left. bind-good (e any) (λ ts x p.
      expect-good (deeper n) (deeper n') (s ",") refl (λ c comma.
      mapped-good {R = λ us y. From f (o ∷ (ts ++ c ∷ us)) (forms.Extend x y)} _
      (closed-good (s ")") refl domain-good
      (λ us y c' q right. subst (λ vs. From f (o ∷ vs) (forms.Extend x y)) (append_assoc ts (c ∷ us) (c' ∷ []))
      (IsPrimary.extend f o c c' is left p comma q right)))
      (λ us y q. q))))

  top : suc n ≤ suc n
  top = omega arith

  top' : suc n' ≤ suc n'
  top' = omega arith

  abbrev Form : Rel ExprForm
  Form us form = IsPrimary IsAt us (tree us form)

  function_form-good : Good Form (suc n) (suc n') (function_form E) (function_form E')
  unfolding function_form
  function_form-good =
      accept_or-good top top' (λ f op is. call_rest-good f op (meaning_of-means calls f op is))
      (exact_or-good top top' (w "abs") (λ f is. mapped-good _ parentheses-good (λ us x q. IsPrimary.abs f is q))
      (accept_or-good top top' (λ f fold is. mapped-good _ parentheses-good (λ us x q. IsPrimary.folded f fold (meaning_of-means cells_folds f fold is) q))
      (exact_or-good top top' (w "shift") shift_rest-good
      (exact_or-good top top' (w "extend") extend_rest-good
      (exact_or-good top top' (w "sdom") (λ f is. mapped-good _ parentheses-good (λ us x q. IsPrimary.sdom f is q))
      (exact-good top top' (w "oid") refl
      (λ f is. mapped-good _ (between-good "(" ")" refl refl named-good) (λ us x q. IsPrimary.oid f is q))))))))

  pub primary_form-good : Good Form (suc n) (suc n') (primary_form E) (primary_form E')
  unfolding primary_form
  primary_form-good =
      accept_or-good top top' (λ t x is. give-good _ (IsPrimary.number t x.0 x.1 (number_of-is t.kind x is)))
      (accept_or-good top top' (λ t b is. give-good _ (IsPrimary.truth t b (meaning_of-means truths t b is)))
      (accept_or-good top top' (λ t text is. give-good _ (IsPrimary.name t text (name_of-is t.kind text is)))
      (exact_or-good top top' (s "{") (λ o is. braces_rest-good (λ ts xs c q few right. IsPrimary.braces (IsBetween.between o c is q right) few))
      (exact_or-good top top' (w "struct") (λ k is. expect-good (deeper n) (deeper n') (s "{") refl
      (λ o left. braces_rest-good (λ ts xs c q few right. IsPrimary.struct k is (IsBetween.between o c left q right) few)))
      (exact_or-good top top' (w "case") choice_rest-good function_form-good)))))

  -- ---- parts, signs and casts

  part_rest-good : (ts : List Token) (x : Expr) → IsPart IsAt ts x → (d : Token) → d.kind ≡ s "."
      → Good (λ us j. IsPart IsAt (ts ++ d ∷ us) (j (ts ++ d ∷ us))) n n' (part_rest x) (part_rest x)
  part_rest-good ts x p d dot = accept_or-good (deeper n) (deeper n')
      (λ t text is. give-good _ (IsPart.named d t text p dot (name_of-is t.kind text is)))
      (accept-good (deeper n) (deeper n') (some_token (number (pos 0) atoms.Wide)) (pos 0) refl
      (λ t z is. give-good _ (IsPart.numbered d t z p dot (plain_of-is t.kind z is))))

  pub with_part-good : (ts : List Token) (x : Expr) → IsPart IsAt ts x → (t : Token) (b : Truth) → meant part_signs t ≡ Some b
      → Good (λ us j. IsPart IsAt (ts ++ t ∷ us) (j (ts ++ t ∷ us))) n n' (with_part E x b) (with_part E' x b)
  with_part-good ts x p t true is = mapped-good _ indexes-good (λ us axes q. IsPart.indexed p (q t (bracket t is)))
    where
      bracket : (t : Token) → meant part_signs t ≡ Some true → t.kind ≡ s "["
      bracket t is = elim (meaning_of-means part_signs t true is) as (λ v. t.kind ≡ s "[") [
        | inl h ↦ h.0
        | inr h ↦ elim h as (λ v. t.kind ≡ s "[") [ inl g ↦ absurd (let e : true ≡ false = g.1 in cc) | inr g ↦ absurd g ]
      ]
  with_part-good ts x p t false is = part_rest-good ts x p t (dot t is)
    where
      dot : (t : Token) → meant part_signs t ≡ Some false → t.kind ≡ s "."
      dot t is = elim (meaning_of-means part_signs t false is) as (λ v. t.kind ≡ s ".") [
        | inl h ↦ absurd (let e : false ≡ true = h.1 in cc)
        | inr h ↦ elim h as (λ v. t.kind ≡ s ".") [ inl g ↦ g.0 | inr g ↦ absurd g ]
      ]

  -- the rest of a part behind its parenthesis
  pub after_parenthesis-good : (o : Token) → o.kind ≡ s "("
      → Good (λ us x. IsPart IsAt (o ∷ us) x) n n' (part_after E (o ∷ []) (r.closed_read (s ")") (E any))) (part_after E' (o ∷ []) (r.closed_read (s ")") (E' any)))
  after_parenthesis-good o left = loop_after-good {Q = IsPart IsAt} (deeper n) (deeper n') (o ∷ [])
      (closed-good (s ")") refl (e any) (λ ts x c q right. IsPart.alone (IsPrimary.parentheses (IsBetween.between o c left q right))))
      with_part-good

  pub part-good : Good (IsPart IsAt) (suc n) (suc n') (part_after E [] (with_span (primary_form E))) (part_after E' [] (with_span (primary_form E')))
  part-good = loop_after-good {Q = IsPart IsAt} top top' [] (spanned-good (good-map (λ ts form q. IsPart.alone q) primary_form-good)) with_part-good

  cast_rest-good : (o : Token) → o.kind ≡ s "(" → Good (λ us form. IsSigned IsAt (o ∷ us) (tree (o ∷ us) form)) n n' (cast_rest E) (cast_rest E')
  cast_rest-good o left = bind-good {R = λ us a. IsBetween "(" ")" IsAtom (o ∷ us) a}
      (closed-good (s ")") refl atom-good (λ ts a c q right. IsBetween.between o c left q right))
      (λ ts a q. mapped-good _ (e signed) (λ us x p. IsSigned.cast q p))

  pub signed-good : Good (IsSigned IsAt) (suc n) (suc n') (signed_read E) (signed_read E')
  unfolding signed_read
  signed-good =
      exact_or-good top top' (s "-") (λ m is. spanned_after-good (m ∷ []) (mapped-good _ (e signed) (λ us x q. IsSigned.minus m is q)))
      (exact_or-good top top' (s "(")
      (λ o left. choose-good begins_atom (spanned_after-good (o ∷ []) (cast_rest-good o left)) (good-map (λ us x q. IsSigned.part q) (after_parenthesis-good o left)))
      (good-map (λ ts x. IsSigned.part) part-good))

  -- ---- operators

  pub product-good : Good (IsProduct IsAt) (suc n) (suc n') (product_read E) (product_read E')
  unfolding product_read
  product-good = chain-good products signed-good

  pub sum-good : Good (IsSum IsAt) (suc n) (suc n') (sum_read E) (sum_read E')
  unfolding sum_read
  sum-good = chain-good sums product-good

  pub compared-good : Good (IsCompared IsAt) (suc n) (suc n') (compared_read E) (compared_read E')
  unfolding compared_read
  compared-good = with_tokens-good {Q = IsCompared IsAt} (bind-good sum-good (λ ts x p. accept_or-good (deeper (suc n)) (deeper (suc n'))
      (λ t op is. mapped-good _ sum-good (λ us y q. IsCompared.compared t op p (meaning_of-means comparisons t op is) q))
      (given (λ us j. IsCompared IsAt us (j us)) ts (λ us. x) (IsCompared.alone p))))

  pub negated-good : Good (IsNegated IsAt) (suc n) (suc n') (negated_read E) (negated_read E')
  unfolding negated_read
  negated-good = exact_or-good top top' (w "not")
      (λ k is. spanned_after-good (k ∷ []) (mapped-good _ (e negation) (λ us x q. IsNegated.negated k is q)))
      (good-map (λ ts x. IsNegated.plain) compared-good)

  pub both-good : Good (IsBoth IsAt) (suc n) (suc n') (both_read E) (both_read E')
  unfolding both_read
  both-good = chain-good boths negated-good

  pub either-good : Good (IsEither IsAt) (suc n) (suc n') (either_read E) (either_read E')
  unfolding either_read
  either-good = chain-good eithers both-good

  pub overlaid-good : Good (IsOverlaid IsAt) (suc n) (suc n') (overlaid_read E) (overlaid_read E')
  unfolding overlaid_read
  overlaid-good = chain-good overlays either-good

  -- ---- whole expressions

  -- a form of an expression, from its second token on
  abbrev Whole : Token → Rel ExprForm
  Whole k us form = IsWhole IsAt (k ∷ us) (tree (k ∷ us) form)

  marray_rest-good : (k : Token) → IsWord "marray" k → Good (Whole k) n n' (marray_rest E) (marray_rest E')
  marray_rest-good k is = accept-good (deeper n) (deeper n') (some_token (name [])) _ refl (λ t x at.
      expect-good (deeper n) (deeper n') (w "in") refl (λ i in'. bind-good domain-good (λ ts d p.
      expect-good (deeper n) (deeper n') (w "values") refl (λ v values. mapped-good _ (e any) (λ us y q.
      IsWhole.marray k t i v x is (placed_name-is t x at) in' p values q)))))

  condense_rest-good : (k : Token) → IsWord "condense" k → Good (Whole k) n n' (condense_rest E) (condense_rest E')
  condense_rest-good k is = accept-good (deeper n) (deeper n') (some_token (s "+")) _ refl (λ f op means.
      expect-good (deeper n) (deeper n') (w "over") refl (λ o over.
      accept-good (deeper n) (deeper n') (some_token (name [])) _ refl (λ t x at.
      expect-good (deeper n) (deeper n') (w "in") refl (λ i in'. bind-good domain-good (λ ts d p. bind-good (optional-good "where" (e any)) (λ us cond c.
      expect-good (deeper n) (deeper n') (w "using") refl (λ u using. mapped-good _ (e any) (λ vs y q.
      subst (λ ws. Whole k (f ∷ o ∷ t ∷ i ∷ ws) (forms.Condense op x d cond y)) (append_assoc ts us (u ∷ vs))
      (IsWhole.condense k f o t i u op x is (meaning_of-means fold_operators f op means) over (placed_name-is t x at) in' p c using q)))))))))

  concat_rest-good : (k : Token) → IsWord "concat" k → Good (Whole k) n n' (concat_rest E) (concat_rest E')
  concat_rest-good k is = bind-good (e any) (λ ts x p.
      bind-good (row-good (w "with") refl (λ v us y with' q. IsAfter.after v with' q) (e any)) (λ us xs q.
      expect-good (deeper n) (deeper n') (w "along") refl (λ a along.
      accept-good (deeper n) (deeper n') (some_token (number (pos 0) atoms.Wide)) (pos 0) refl (λ t z at.
      give-good _ (subst (λ ws. Whole k ws (forms.Concat (x ∷ xs) z)) (append_assoc ts us (a ∷ t ∷ []))
      (IsWhole.concat k a t z is p q along (plain_of-is t.kind z at)))))))

  pub whole-good : Good (IsWhole IsAt) (suc n) (suc n') (whole_read E) (whole_read E')
  unfolding whole_read
  whole-good =
      exact_or-good top top' (w "marray") (λ k is. spanned_after-good (k ∷ []) (marray_rest-good k is))
      (exact_or-good top top' (w "condense") (λ k is. spanned_after-good (k ∷ []) (condense_rest-good k is))
      (exact_or-good top top' (w "concat") (λ k is. spanned_after-good (k ∷ []) (concat_rest-good k is))
      (good-map (λ ts x. IsWhole.overlaid) overlaid-good)))

  pub level-good : (level : Level) → Good (IsLevel IsAt level) (suc n) (suc n') (level_read E level) (level_read E' level)
  level-good any = whole-good
  level-good negation = negated-good
  level-good signed = signed-good
