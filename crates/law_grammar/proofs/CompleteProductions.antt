-- Each production of expressions is read where it ends, where what stands inside is.
use Rattle.std.specs.Prelude.{◌≡◌, ℕ, suc, ◌≤◌, nat_le, ℤ, Bool as Truth, true, false, List, [], ◌∷◌, ◌++◌, length, Option, Some, None}
use Rattle.std.proofs.Common.{refl, sym, ap, subst, ◌∙◌, arith, inl, inr, append_assoc}
use Rattle.std.proofs.lemmas.Bool.{lt-ltb, leb-true}
use Rattle.ras_cells.specs.declared.atom.Atom.{Atom}
use Rattle.ras_cells.specs.declared.numbers.Op1.TheVariants as one
use Rattle.ras_cells.specs.declared.numbers.Op2.{Op2}
use Rattle.ras_syntax.specs.declared.span.Spanned.{Spanned}
use Rattle.ras_syntax.specs.declared.expr.Expr.{Expr}
use Rattle.ras_syntax.specs.declared.expr.ExprForm.{ExprForm}
use Rattle.ras_syntax.specs.declared.expr.ExprForm.TheVariants as forms
use Rattle.ras_syntax.specs.declared.expr.Axis.{Axis}
use Rattle.ras_syntax.specs.declared.expr.DomainExpr.{DomainExpr}
use Rattle.ras_syntax.specs.declared.expr.Part.TheVariants as parts
use Rattle.ras_syntax.specs.declared.expr.CellsFold.{CellsFold}
use Rattle.spec_grammar.specs.Tokens.{Text, TokenKind, name, number, Token}
use Rattle.spec_grammar.specs.Grammar.{Rel, Table, tree, w, s, IsWord, IsSign, IsPlainNumber, Means, IsRow, IsCommaList, IsBetween, IsAfter, IsOptional, IsNamed, IsAtom, Level, any, negation, signed, InParentheses, Exprs, IsEdge, IsAxis, IsIndex, IsBounds, IsDomain, IsArm, IsPrimary, IsPart, IsSigned, IsSum, IsCompared, IsNegated, IsOverlaid, IsWhole, IsLevel, atom_words, unsigned_words, truths, calls, cells_folds, comparisons, fold_operators, products, sums, boths, eithers, overlays}
use Rattle.law_grammar.specs.Readers.{ReadOutcome, Reader, same_kind, exactly, meaning_of, meant, give, bind, mapped, accept_or, expect, choose, spanned_after, with_span}
use Rattle.law_grammar.specs.Reading.{optional_after, name_of_kind, plain_of_kind, closed_read, between_read, may_grow, row_read, named_read, atom_read, begins_atom, parentheses_read, exprs, edge_read, axis_read, index_rest, bounds_read, domain_read, arm_rest, braces_rest, choice_rest, call_rest, shift_rest, extend_rest, primary_form, part_signs, part_rest, with_part, part_after, cast_rest, signed_read, sum_read, compared_read, negated_read, overlaid_read, whole_read, level_read, function_form, product_read, either_read, both_read}
use Rattle.law_grammar.proofs.TokenTests.{same_kind-is, is-exactly, not-exactly, is-placed_name, meaning_of-means, means-meaning_of, each_key-at}
use Rattle.law_grammar.proofs.Ranks.{Stops, stops-wider, declines-exactly, declines-table, stops-table, stops-kind, opening, Starts, starts-wider, starts-append, starts-kind, starts-table}
use Rattle.law_grammar.proofs.Takes.{Takes, Complete, give-takes, bind-takes, mapped-takes, with_tokens-takes, spanned_after-takes, spanned-takes, accept-takes, pass-takes, skip-takes, expect-takes, first-takes, Loops, loop-starts, loop-goes_on, loop-ends}
use Rattle.law_grammar.proofs.CompletePieces.{regrouped, bind-last, pass-starts, closed-takes, between-takes, optional-takes, comma_list-complete, comma-complete, row-complete, chain-complete, chain-starts}

-- ---- tokens of a known kind

-- what holds of a token of a kind
pub at_kind : (P : Token → Type 0) (t : Token) (kind : TokenKind) → t.kind ≡ kind → P (record { kind = kind; from = t.from; to = t.to }) → P t
at_kind P t kind is h = subst (λ k. P (record { kind = k; from = t.from; to = t.to })) (sym is) h

-- another word or sign
pub other_kind : (kind kind' : TokenKind) (t : Token) → same_kind kind kind' ≡ false → t.kind ≡ kind' → exactly kind t ≡ None
other_kind kind kind' t apart is = not-exactly kind t (ap (same_kind kind) is ∙ apart)

-- ---- names and atoms

pub named-complete : Complete IsNamed 11 named_read
named-complete = record { takes = λ ts x rest h stops. go rest ts x h }
  where
    go : (rest ts : List Token) (x : Spanned) → IsNamed ts x → Takes named_read ts x rest
    go rest _ x (IsNamed.named t _ is) = accept-takes _ _ _ (is-placed_name t x is) (give-takes x rest)

pub atom-complete : Complete IsAtom 11 atom_read
atom-complete = record { takes = λ ts a rest h stops. go rest ts a h }
  where
    go : (rest ts : List Token) (a : Atom) → IsAtom ts a → Takes atom_read ts a rest
    go rest _ _ (IsAtom.one_word t a means) = accept-takes _ _ _ (means-meaning_of atom_words refl t a means) (give-takes a rest)
    go rest _ _ (IsAtom.two_words u t a is means) = pass-takes _ _ _ (ap (meaning_of atom_words) is)
        (expect-takes (w "unsigned") refl u is (accept-takes _ _ _ (means-meaning_of unsigned_words refl t a means) (give-takes a rest)))

-- ---- tables

abbrev AllEntries : {A : Type 0} → Table A → (TokenKind → A → Type 0) → Type 0
AllEntries [] P = Unit {0}
AllEntries (entry ∷ table) P = P entry.0 entry.1 × AllEntries table P

by_entries : {A : Type 0} (table : Table A) (P : TokenKind → A → Type 0) → AllEntries table P → (t : Token) (a : A) → Means table t a → P t.kind a
by_entries [] P all t a h = elim h [ ]
by_entries (entry ∷ table) P all t a (inl is) = subst (λ k. P k a) (sym is.0) (subst (λ b. P entry.0 b) (sym is.1) all.0)
by_entries (entry ∷ table) P all t a (inr h) = by_entries table P all.1 t a h

-- ---- productions

-- an atom's first token is told
begins-atom : {A : Type 0} (f g : Reader A) (ts us rest : List Token) (a : Atom) (x : A) (c : Token) → IsAtom ts a → Takes f ((ts ++ c ∷ []) ++ us) x rest
    → Takes (choose begins_atom f g) ((ts ++ c ∷ []) ++ us) x rest
begins-atom f g _ us rest _ x c (IsAtom.one_word t a means) h = first-takes begins_atom _ _
    (ap (λ o. elim o as (λ v. Truth) [ Some a ↦ true | None ↦ same_kind (w "unsigned") t.kind ]) (means-meaning_of atom_words refl t a means)) h
begins-atom f g _ us rest _ x c (IsAtom.two_words u t a is means) h = first-takes begins_atom _ _
    (ap (λ kind. elim (meaning_of atom_words kind) as (λ v. Truth) [ Some a ↦ true | None ↦ same_kind (w "unsigned") kind ]) is) h

-- what begins an expression begins no atom
no_atom : (t : Token) → opening t.kind ≤ 3 → begins_atom t ≡ false
no_atom t low = at (meaning_of atom_words t.kind) refl
  where
    unsigned : (b : Truth) → same_kind (w "unsigned") t.kind ≡ b → b ≡ false
    unsigned true same = let e : opening (w "unsigned") ≡ opening t.kind = ap opening (same_kind-is (w "unsigned") t.kind same) in absurd (omega arith)
    unsigned false same = refl

    at : (o : Option Atom) → meaning_of atom_words t.kind ≡ o → elim o as (λ v. Truth) [ Some a ↦ true | None ↦ same_kind (w "unsigned") t.kind ] ≡ false
    at (Some a) is =
        let le : 4 ≤ opening t.kind = leb-true 4 (opening t.kind)
        (each_key-at (λ kind. nat_le 4 (opening kind)) atom_words refl t a (meaning_of-means atom_words t a is)) in
        absurd (omega arith)
    at None is = unsigned (same_kind (w "unsigned") t.kind) refl

named-takes : (x : Expr) (n : Token) (text : Text) → n.kind ≡ name text → (rest : List Token)
    → Takes (part_rest x) (n ∷ []) (λ ts. tree ts (forms.Part x (parts.Named text))) rest
named-takes x n text is rest = accept-takes _ _ _ (ap name_of_kind is) (give-takes _ rest)

numbered-takes : (x : Expr) (n : Token) (z : ℤ) → IsPlainNumber n z → (rest : List Token)
    → Takes (part_rest x) (n ∷ []) (λ ts. tree ts (forms.Part x (parts.Numbered z))) rest
numbered-takes x n z is rest = pass-takes _ _ _ (ap name_of_kind is) (accept-takes _ _ _ (ap plain_of_kind is) (give-takes _ rest))

-- "when" expr "then" expr, from its second token on
data IsArmRest (N : Level → Rel Expr) : List Token → Expr × Expr → Type 0 where
  arm_of : {ts us : List Token} {c x : Expr} (t : Token) → N any ts c → IsWord "then" t → N any us x → IsArmRest N (ts ++ t ∷ us) (c, x)

-- what may follow each of the three that stand inside themselves, and what they begin with
abbrev pub limit_of : Level → ℕ
limit_of any = 3
limit_of negation = 7
limit_of signed = 10

abbrev pub opening_of : Level → ℕ
opening_of any = 3
opening_of negation = 2
opening_of signed = 1

module _ (N : Level → Rel Expr) (begins : (level : Level) (ts : List Token) (x : Expr) → N level ts x → Starts (opening_of level) ts) where
  primary-starts : {ts : List Token} {x : Expr} → IsPrimary N ts x → Starts 0 ts
  primary-starts (IsPrimary.number t z a is) = starts-kind (number z a) 0 refl t [] is
  primary-starts (IsPrimary.truth t b means) = starts-table truths 0 refl t b means []
  primary-starts (IsPrimary.name t text is) = starts-kind (name text) 0 refl t [] is
  primary-starts (IsPrimary.parentheses (IsBetween.between o c left h right)) = starts-kind (s "(") 0 refl o _ left
  primary-starts (IsPrimary.braces (IsBetween.between o c left h right) few) = starts-kind (s "{") 0 refl o _ left
  primary-starts (IsPrimary.struct k is h few) = starts-kind (w "struct") 0 refl k _ is
  primary-starts (IsPrimary.choice k e n is arms else' h end) = starts-kind (w "case") 0 refl k _ is
  primary-starts (IsPrimary.call f o c p op means left a comma b right) = starts-table calls 0 refl f op means _
  primary-starts (IsPrimary.abs f is h) = starts-kind (w "abs") 0 refl f _ is
  primary-starts (IsPrimary.folded f fold means h) = starts-table cells_folds 0 refl f fold means _
  primary-starts (IsPrimary.shift f o c p is left a comma b right) = starts-kind (w "shift") 0 refl f _ is
  primary-starts (IsPrimary.extend f o c p is left a comma b right) = starts-kind (w "extend") 0 refl f _ is
  primary-starts (IsPrimary.sdom f is h) = starts-kind (w "sdom") 0 refl f _ is
  primary-starts (IsPrimary.oid f is h) = starts-kind (w "oid") 0 refl f _ is

  part-starts : {ts : List Token} {x : Expr} → IsPart N ts x → Starts 0 ts
  part-starts (IsPart.alone h) = primary-starts h
  part-starts (IsPart.indexed {ts} {us} h i) = starts-append 0 ts us (part-starts h)
  part-starts (IsPart.named {ts} d n text h dot is) = starts-append 0 ts (d ∷ n ∷ []) (part-starts h)
  part-starts (IsPart.numbered {ts} d n z h dot is) = starts-append 0 ts (d ∷ n ∷ []) (part-starts h)

  signed-starts : {ts : List Token} {x : Expr} → IsSigned N ts x → Starts 1 ts
  signed-starts (IsSigned.minus m is h) = starts-kind (s "-") 1 refl m _ is
  signed-starts (IsSigned.cast (IsBetween.between o c left a right) h) = starts-kind (s "(") 1 refl o _ left
  signed-starts (IsSigned.part h) = starts-wider 0 1 _ (omega arith) (part-starts h)

  sum-starts : {ts : List Token} {x : Expr} → IsSum N ts x → Starts 1 ts
  sum-starts h = chain-starts 1 (λ ts x p. chain-starts 1 (λ us y. signed-starts) p) h

  compared-starts : {ts : List Token} {x : Expr} → IsCompared N ts x → Starts 1 ts
  compared-starts (IsCompared.alone h) = sum-starts h
  compared-starts (IsCompared.compared {ts} {us} o op a means b) = starts-append 1 ts (o ∷ us) (sum-starts a)

  negated-starts : {ts : List Token} {x : Expr} → IsNegated N ts x → Starts 2 ts
  negated-starts (IsNegated.negated k is h) = starts-kind (w "not") 2 refl k _ is
  negated-starts (IsNegated.plain h) = starts-wider 1 2 _ (omega arith) (compared-starts h)

  overlaid-starts : {ts : List Token} {x : Expr} → IsOverlaid N ts x → Starts 2 ts
  overlaid-starts h = chain-starts 2 (λ ts x p. chain-starts 2 (λ us y q. chain-starts 2 (λ vs z. negated-starts) q) p) h

  whole-starts : {ts : List Token} {x : Expr} → IsWhole N ts x → Starts 3 ts
  whole-starts (IsWhole.marray k n i v x is at in' d values h) = starts-kind (w "marray") 3 refl k _ is
  whole-starts (IsWhole.condense k f o n i u op x is means over at in' d c using h) = starts-kind (w "condense") 3 refl k _ is
  whole-starts (IsWhole.concat k a n z is h hs along at) = starts-kind (w "concat") 3 refl k _ is
  whole-starts (IsWhole.overlaid h) = starts-wider 2 3 _ (omega arith) (overlaid-starts h)

  pub level-starts : (level : Level) (ts : List Token) (x : Expr) → IsLevel N level ts x → Starts (opening_of level) ts
  level-starts any ts x h = whole-starts h
  level-starts negation ts x h = negated-starts h
  level-starts signed ts x h = signed-starts h

  module _ (E : Level → Reader Expr) (e : (level : Level) → Complete (N level) (limit_of level) (E level)) where
    parentheses-takes : (ts : List Token) (x : Expr) → InParentheses N ts x → (rest : List Token) → Takes (parentheses_read E) ts x rest
    parentheses-takes ts x h rest = between-takes (e any) "(" ")" refl refl refl ts x h rest

    edge-complete : Complete (IsEdge N) 3 (edge_read E)
    edge-complete = record { takes = go }
      where
        go : (ts : List Token) (x : Option Expr) (rest : List Token) → IsEdge N ts x → Stops 3 rest → Takes (edge_read E) ts x rest
        go _ _ rest (IsEdge.own t is) stops = accept-takes _ _ _ (is-exactly (s "*") t refl is) (give-takes None rest)
        go ts _ rest (IsEdge.written {x} h) stops = pass-starts (s "*") 3 refl _ (begins any ts x h) (mapped-takes _ ((e any).takes ts x rest h stops))

    axis-complete : Complete (IsAxis N) 2 (axis_read E)
    axis-complete = record { takes = go }
      where
        go : (ts : List Token) (x : Axis) (rest : List Token) → IsAxis N ts x → Stops 2 rest → Takes (axis_read E) ts x rest
        go ts _ rest (IsAxis.at {x} h) stops = pass-starts (s "*") 3 refl _ (begins any ts x h)
            (bind-last _ ((e any).takes ts x rest h (stops-wider 2 3 (omega arith) rest stops))
            (skip-takes _ _ _ _ rest (declines-exactly (s ":") 2 refl rest stops) (give-takes _ rest)))
        go _ _ rest (IsAxis.trim {us} {hi} c (IsEdge.own t is) colon high) stops = accept-takes _ _ _ (is-exactly (s "*") t refl is)
            (expect-takes (s ":") refl c colon (mapped-takes _ (edge-complete.takes us hi rest high (stops-wider 2 3 (omega arith) rest stops))))
        go _ _ rest (IsAxis.trim {us} {hi} c (IsEdge.written {ts} {x} h) colon high) stops =
            pass-starts (s "*") 3 refl _ (starts-append 3 ts (c ∷ us) (begins any ts x h))
            (bind-takes _ ((e any).takes ts x (c ∷ us ++ rest) h (stops-kind (s ":") 3 refl c colon (us ++ rest)))
            (accept-takes _ _ _ (is-exactly (s ":") c refl colon)
            (mapped-takes _ (edge-complete.takes us hi rest high (stops-wider 2 3 (omega arith) rest stops)))))

    index-takes : (ts : List Token) (x : List Axis) (c : Token) → IsCommaList (IsAxis N) ts x → c.kind ≡ s "]" → (rest : List Token)
        → Takes (index_rest E) (ts ++ c ∷ []) x rest
    index-takes ts x c h right rest = closed-takes (comma-complete axis-complete refl) (s "]") refl refl ts x c h right rest

    bounds-complete : Complete (IsBounds N) 3 (bounds_read E)
    bounds-complete = record { takes = go }
      where
        go : (ts : List Token) (x : Expr × Expr) (rest : List Token) → IsBounds N ts x → Stops 3 rest → Takes (bounds_read E) ts x rest
        go _ _ rest (IsBounds.bounds {ts} {us} {lo} {hi} c low colon high) stops =
            bind-takes _ ((e any).takes ts lo (c ∷ us ++ rest) low (stops-kind (s ":") 3 refl c colon (us ++ rest)))
            (expect-takes (s ":") refl c colon (mapped-takes _ ((e any).takes us hi rest high stops)))

    domain-takes : (ts : List Token) (d : DomainExpr) → IsDomain N ts d → (rest : List Token) → Takes (domain_read E) ts d rest
    domain-takes _ _ (IsDomain.literal (IsBetween.between {ts} {x} o c left h right)) rest = accept-takes _ _ _ (is-exactly (s "[") o refl left)
        (mapped-takes _ (closed-takes (comma-complete bounds-complete refl) (s "]") refl refl ts x c h right rest))
    domain-takes _ _ (IsDomain.of_array {ts} {x} k is h) rest = pass-takes _ _ _ (other_kind (s "[") (w "sdom") k refl is)
        (accept-takes _ _ _ (is-exactly (w "sdom") k refl is)
        (mapped-takes _ (spanned_after-takes (k ∷ []) (mapped-takes (λ x. forms.Sdom x) (parentheses-takes ts x h rest)))))

    -- ---- primary

    arm_rest-complete : Complete (IsArmRest N) 3 (arm_rest E)
    arm_rest-complete = record { takes = go }
      where
        go : (ts : List Token) (x : Expr × Expr) (rest : List Token) → IsArmRest N ts x → Stops 3 rest → Takes (arm_rest E) ts x rest
        go _ _ rest (arm_of {ts} {us} {c} {x} t p is q) stops =
            bind-takes _ ((e any).takes ts c (t ∷ us ++ rest) p (stops-kind (w "then") 3 refl t is (us ++ rest)))
            (expect-takes (w "then") refl t is (mapped-takes _ ((e any).takes us x rest q stops)))

    arms-complete : Complete (IsRow (IsArm N)) 1 (row_read (w "when") (arm_rest E))
    arms-complete = row-complete arm_rest-complete (w "when") refl refl refl refl split
      where
        split : (P : List Token → Expr × Expr → Type 0) → ((k : Token) (ts : List Token) (x : Expr × Expr) → k.kind ≡ w "when" → IsArmRest N ts x → P (k ∷ ts) x)
            → (ts : List Token) (x : Expr × Expr) → IsArm N ts x → P ts x
        split P f _ _ (IsArm.arm {ts} {us} {c} {x} k t when p is q) = f k (ts ++ t ∷ us) (c, x) when (arm_of t p is q)

    braces-takes : (ts : List Token) (xs : List Expr) (c : Token) → Exprs N ts xs → length xs ≤ 8 → c.kind ≡ s "}" → (rest : List Token)
        → Takes (braces_rest E) (ts ++ c ∷ []) (forms.Build xs) rest
    braces-takes ts xs c h few right rest = mapped-takes _
        (closed-takes (comma_list-complete (e any) may_grow (λ k. k ≤ 8)
        (λ k fits. (omega arith, lt-ltb (suc k) 8 (omega arith))) refl) (s "}") refl refl ts xs c (h, few) right rest)

    choice-takes : (ts us : List Token) (arms : List (Expr × Expr)) (x : Expr) (k n : Token) → IsRow (IsArm N) ts arms → IsWord "else" k → N any us x
        → IsWord "end" n → (rest : List Token) → Takes (choice_rest E) (ts ++ k ∷ us ++ n ∷ []) (forms.Case arms x) rest
    choice-takes ts us arms x k n h is p end rest = regrouped (append_assoc ts (k ∷ us) (n ∷ []))
        (bind-takes _ (arms-complete.takes ts arms (k ∷ (us ++ n ∷ []) ++ rest) h (stops-kind (w "else") 1 refl k is ((us ++ n ∷ []) ++ rest)))
        (expect-takes (w "else") refl k is (mapped-takes _ (closed-takes (e any) (w "end") refl refl us x n p end rest))))

    -- two operands in parentheses, the second of any production
    operands-takes : {A B : Type 0} {R : Rel A} {limit : ℕ} {f : Reader A} (h : Expr → A → B) → Complete R limit f → nat_le 1 limit ≡ true
        → (ts us : List Token) (x : Expr) (y : A) (o c p : Token)
        → IsSign "(" o → N any ts x → IsSign "," c → R us y → IsSign ")" p → (rest : List Token)
        → Takes (expect (s "(") (bind (E any) (λ x. expect (s ",") (mapped (h x) (closed_read (s ")") f))))) (o ∷ ts ++ c ∷ us ++ p ∷ []) (h x y) rest
    operands-takes h second within ts us x y o c p left a comma b right rest = expect-takes (s "(") refl o left
        (regrouped (append_assoc ts (c ∷ us) (p ∷ []))
        (bind-takes _ ((e any).takes ts x (c ∷ (us ++ p ∷ []) ++ rest) a (stops-kind (s ",") 3 refl c comma ((us ++ p ∷ []) ++ rest)))
        (expect-takes (s ",") refl c comma (mapped-takes _ (closed-takes second (s ")") refl within us y p b right rest)))))

    -- a token of this kind opens a primary, and what follows it
    record Opens (kind : TokenKind) (g : Reader ExprForm) : Type 0 where
      signed : (from to : ℕ) (ts : List Token) → signed_read E (record { kind = kind; from = from; to = to } ∷ ts)
          ≡ part_after E [] (with_span (primary_form E)) (record { kind = kind; from = from; to = to } ∷ ts)
      primary : (from to : ℕ) (ts : List Token) → primary_form E (record { kind = kind; from = from; to = to } ∷ ts) ≡ g ts

    -- after these tokens a reader of signed expressions stands at a rest, where more of a part may follow
    abbrev PartLoops : List Token → Expr → List Token → Type 0
    PartLoops = Loops [] (λ x. meant part_signs) (with_part E) (signed_read E)

    opens-loops : (kind : TokenKind) (g : Reader ExprForm) → Opens kind g → (t : Token) → t.kind ≡ kind → (us : List Token) (form : ExprForm)
        → (rest : List Token) → Takes g us form rest → PartLoops (t ∷ us) (tree (t ∷ us) form) rest
    opens-loops kind g opens t is us form rest h =
        at_kind (λ t. PartLoops (t ∷ us) (tree (t ∷ us) form) rest) t kind is
        (let u : Token = record { kind = kind; from = t.from; to = t.to } in
        let taken : Takes (primary_form E) (u ∷ us) form rest = record { is = opens.primary t.from t.to (us ++ rest) ∙ h.is } in
        let l : Loops [] (λ x. meant part_signs) (with_part E) (part_after E [] (with_span (primary_form E))) (u ∷ us) (tree (u ∷ us) form) rest =
        loop-starts [] (λ x. meant part_signs) (with_part E) (spanned-takes taken) in
        record { most = l.most; enough = l.enough; is = opens.signed t.from t.to (us ++ rest) ∙ l.is })

    opens-number : (z : ℤ) (a : Atom) → Opens (number z a) (give (forms.Number z a))
    unfolding accept_or signed_read primary_form function_form
    opens-number z a = record { signed = λ from to ts. refl; primary = λ from to ts. refl }

    opens-name : (text : Text) → Opens (name text) (give (forms.Name text))
    unfolding accept_or signed_read primary_form function_form
    opens-name text = record { signed = λ from to ts. refl; primary = λ from to ts. refl }

    opens-braces : Opens (s "{") (braces_rest E)
    unfolding accept_or signed_read primary_form function_form
    opens-braces = record { signed = λ from to ts. refl; primary = λ from to ts. refl }

    opens-struct : Opens (w "struct") (expect (s "{") (braces_rest E))
    unfolding accept_or signed_read primary_form function_form
    opens-struct = record { signed = λ from to ts. refl; primary = λ from to ts. refl }

    opens-case : Opens (w "case") (choice_rest E)
    unfolding accept_or signed_read primary_form function_form
    opens-case = record { signed = λ from to ts. refl; primary = λ from to ts. refl }

    opens-abs : Opens (w "abs") (mapped (λ x. forms.Unary one.Abs x) (parentheses_read E))
    unfolding accept_or signed_read primary_form function_form
    opens-abs = record { signed = λ from to ts. refl; primary = λ from to ts. refl }

    opens-shift : Opens (w "shift") (shift_rest E)
    unfolding accept_or signed_read primary_form function_form
    opens-shift = record { signed = λ from to ts. refl; primary = λ from to ts. refl }

    opens-extend : Opens (w "extend") (extend_rest E)
    unfolding accept_or signed_read primary_form function_form
    opens-extend = record { signed = λ from to ts. refl; primary = λ from to ts. refl }

    opens-sdom : Opens (w "sdom") (mapped (λ x. forms.Sdom x) (parentheses_read E))
    unfolding accept_or signed_read primary_form function_form
    opens-sdom = record { signed = λ from to ts. refl; primary = λ from to ts. refl }

    opens-oid : Opens (w "oid") (mapped (λ x. forms.Oid x) (between_read (s "(") (s ")") named_read))
    unfolding accept_or signed_read primary_form function_form
    opens-oid = record { signed = λ from to ts. refl; primary = λ from to ts. refl }

    opens-truth : (t : Token) (b : Truth) → Means truths t b → Opens t.kind (give (forms.Bool b))
    unfolding accept_or signed_read primary_form function_form
    opens-truth t b means = by_entries truths (λ kind b. Opens kind (give (forms.Bool b))) all t b means
      where
        all : AllEntries truths (λ kind b. Opens kind (give (forms.Bool b)))
        all = (record { signed = λ from to ts. refl; primary = λ from to ts. refl }, (record { signed = λ from to ts. refl; primary = λ from to ts. refl }, tt))

    opens-call : (t : Token) (op : Op2) → Means calls t op → Opens t.kind (call_rest E op)
    unfolding accept_or signed_read primary_form function_form
    opens-call t op means = by_entries calls (λ kind op. Opens kind (call_rest E op)) all t op means
      where
        all : AllEntries calls (λ kind op. Opens kind (call_rest E op))
        all = (
          record { signed = λ from to ts. refl; primary = λ from to ts. refl },
          (
            record { signed = λ from to ts. refl; primary = λ from to ts. refl },
            (record { signed = λ from to ts. refl; primary = λ from to ts. refl }, tt),
          ),
        )

    opens-cells : (t : Token) (fold : CellsFold) → Means cells_folds t fold → Opens t.kind (mapped (λ x. forms.Cells fold x) (parentheses_read E))
    unfolding accept_or signed_read primary_form function_form
    opens-cells t fold means = by_entries cells_folds (λ kind fold. Opens kind (mapped (λ x. forms.Cells fold x) (parentheses_read E))) all t fold means
      where
        all : AllEntries cells_folds (λ kind fold. Opens kind (mapped (λ x. forms.Cells fold x) (parentheses_read E)))
        all = (
          record { signed = λ from to ts. refl; primary = λ from to ts. refl },
          (
            record { signed = λ from to ts. refl; primary = λ from to ts. refl },
            (
              record { signed = λ from to ts. refl; primary = λ from to ts. refl },
              (
                record { signed = λ from to ts. refl; primary = λ from to ts. refl },
                (record { signed = λ from to ts. refl; primary = λ from to ts. refl }, (record { signed = λ from to ts. refl; primary = λ from to ts. refl }, tt)),
              ),
            ),
          ),
        )

    -- ---- parts

    signed-parenthesis : (o : Token) → o.kind ≡ s "(" → (ts : List Token) (t : Token) (us : List Token) → ts ≡ t ∷ us → begins_atom t ≡ false
        → signed_read E (o ∷ ts) ≡ part_after E (o ∷ []) (closed_read (s ")") (E any)) ts
    unfolding accept_or choose signed_read
    signed-parenthesis o left ts t us is no_atom =
        at_kind (λ o. signed_read E (o ∷ ts) ≡ part_after E (o ∷ []) (closed_read (s ")") (E any)) ts) o (s "(") left
        (let u : Token = record { kind = s "("; from = o.from; to = o.to } in
        subst (λ vs. signed_read E (u ∷ vs) ≡ part_after E (u ∷ []) (closed_read (s ")") (E any)) vs) (sym is)
        (ap (λ b. elim b as (λ v. ReadOutcome Expr) [
          | true ↦ spanned_after (u ∷ []) (cast_rest E) (t ∷ us)
          | false ↦ part_after E (u ∷ []) (closed_read (s ")") (E any)) (t ∷ us)
        ]) no_atom))

    parentheses-loops : (ts : List Token) (x : Expr) → InParentheses N ts x → (rest : List Token) → PartLoops ts x rest
    parentheses-loops _ x (IsBetween.between {ts} o c left h right) rest =
        let l : Loops (o ∷ []) (λ x. meant part_signs) (with_part E) (part_after E (o ∷ []) (closed_read (s ")") (E any))) (ts ++ c ∷ []) x rest =
        loop-starts (o ∷ []) (λ x. meant part_signs) (with_part E) (closed-takes (e any) (s ")") refl refl ts x c h right rest) in
        let b : Starts 3 ts = begins any ts x h in
        record {
          most = l.most;
          enough = l.enough;
          is = signed-parenthesis o left ((ts ++ c ∷ []) ++ rest) b.head ((b.tail ++ c ∷ []) ++ rest) (ap (λ vs. (vs ++ c ∷ []) ++ rest) b.is)
              (no_atom b.head b.low) ∙ l.is;
        }

    primary-loops : {ts : List Token} {x : Expr} → IsPrimary N ts x → (rest : List Token) → PartLoops ts x rest
    primary-loops (IsPrimary.number t z a is) rest = opens-loops (number z a) _ (opens-number z a) t is [] _ rest (give-takes _ rest)
    primary-loops (IsPrimary.truth t b means) rest = opens-loops t.kind _ (opens-truth t b means) t refl [] _ rest (give-takes _ rest)
    primary-loops (IsPrimary.name t text is) rest = opens-loops (name text) _ (opens-name text) t is [] _ rest (give-takes _ rest)
    primary-loops (IsPrimary.parentheses {ts} {x} h) rest = parentheses-loops ts x h rest
    primary-loops (IsPrimary.braces (IsBetween.between {ts} {x = xs} o c left h right) few) rest =
        opens-loops (s "{") _ opens-braces o left (ts ++ c ∷ []) _ rest (braces-takes ts xs c h few right rest)
    primary-loops (IsPrimary.struct k is (IsBetween.between {ts} {x = xs} o c left h right) few) rest =
        opens-loops (w "struct") _ opens-struct k is (o ∷ ts ++ c ∷ []) _ rest (expect-takes (s "{") refl o left (braces-takes ts xs c h few right rest))
    primary-loops (IsPrimary.choice {ts} {us} {arms} {x} k e' n is h else' p end) rest =
        opens-loops (w "case") _ opens-case k is (ts ++ e' ∷ us ++ n ∷ []) _ rest (choice-takes ts us arms x e' n h else' p end rest)
    primary-loops (IsPrimary.call {ts} {us} {x} {y} f o c p op means left a comma b right) rest =
        opens-loops f.kind _ (opens-call f op means) f refl (o ∷ ts ++ c ∷ us ++ p ∷ []) _ rest
        (operands-takes (λ x y. forms.Binary op x y) (e any) refl ts us x y o c p left a comma b right rest)
    primary-loops (IsPrimary.abs {ts} {x} f is h) rest = opens-loops (w "abs") _ opens-abs f is ts _ rest (mapped-takes _ (parentheses-takes ts x h rest))
    primary-loops (IsPrimary.folded {ts} {x} f fold means h) rest =
        opens-loops f.kind _ (opens-cells f fold means) f refl ts _ rest (mapped-takes _ (parentheses-takes ts x h rest))
    primary-loops (IsPrimary.shift {ts} {us} {x} {offsets} f o c p is left a comma b right) rest =
        opens-loops (w "shift") _ opens-shift f is (o ∷ ts ++ c ∷ us ++ p ∷ []) _ rest
        (operands-takes (λ x y. forms.Shift x y) offsets-complete refl ts us x offsets o c p left a comma b right rest)
      where
        offsets-complete : Complete (IsBetween "[" "]" (Exprs N)) 11 (between_read (s "[") (s "]") (exprs E))
        offsets-complete = record { takes = λ ts xs rest h stops. between-takes (comma-complete (e any) refl) "[" "]" refl refl refl ts xs h rest }
    primary-loops (IsPrimary.extend {ts} {us} {x} {d} f o c p is left a comma b right) rest =
        opens-loops (w "extend") _ opens-extend f is (o ∷ ts ++ c ∷ us ++ p ∷ []) _ rest
        (operands-takes (λ x y. forms.Extend x y) domain-complete refl ts us x d o c p left a comma b right rest)
      where
        domain-complete : Complete (IsDomain N) 11 (domain_read E)
        domain-complete = record { takes = λ ts d rest h stops. domain-takes ts d h rest }
    primary-loops (IsPrimary.sdom {ts} {x} f is h) rest = opens-loops (w "sdom") _ opens-sdom f is ts _ rest (mapped-takes _ (parentheses-takes ts x h rest))
    primary-loops (IsPrimary.oid {ts} {a} f is h) rest =
        opens-loops (w "oid") _ opens-oid f is ts _ rest (mapped-takes _ (between-takes named-complete "(" ")" refl refl refl ts a h rest))

    part-loops : {ts : List Token} {x : Expr} → IsPart N ts x → (rest : List Token) → PartLoops ts x rest
    part-loops (IsPart.alone h) rest = primary-loops h rest
    part-loops (IsPart.indexed {ts} {x} {axes} h (IsBetween.between {ts = us} o c left i right)) rest =
        loop-goes_on [] (λ x. meant part_signs) (with_part E) (signed_read E) ts (us ++ c ∷ []) rest x o true (λ ts. tree ts (forms.Index x axes))
        (part-loops h (o ∷ (us ++ c ∷ []) ++ rest)) (ap (meaning_of part_signs) left) (mapped-takes _ (index-takes us axes c i right rest))
    part-loops (IsPart.named {ts} {x} d n text h dot is) rest =
        loop-goes_on [] (λ x. meant part_signs) (with_part E) (signed_read E) ts (n ∷ []) rest x d false (λ ts. tree ts (forms.Part x (parts.Named text)))
        (part-loops h (d ∷ n ∷ rest)) (ap (meaning_of part_signs) dot) (named-takes x n text is rest)
    part-loops (IsPart.numbered {ts} {x} d n z h dot is) rest =
        loop-goes_on [] (λ x. meant part_signs) (with_part E) (signed_read E) ts (n ∷ []) rest x d false (λ ts. tree ts (forms.Part x (parts.Numbered z)))
        (part-loops h (d ∷ n ∷ rest)) (ap (meaning_of part_signs) dot) (numbered-takes x n z is rest)

    -- ---- signs and casts

    cast-takes : (o : Token) (ts us : List Token) (a : Atom) (x : Expr) (c : Token) → IsAtom ts a → c.kind ≡ s ")" → N signed us x
        → (rest : List Token) → Stops 10 rest
        → Takes (choose begins_atom (spanned_after (o ∷ []) (cast_rest E)) (part_after E (o ∷ []) (closed_read (s ")") (E any))))
        ((ts ++ c ∷ []) ++ us) (tree (o ∷ (ts ++ c ∷ []) ++ us) (forms.Cast a x)) rest
    cast-takes o ts us a x c p right h rest stops = begins-atom _ _ ts us rest a _ c p
        (spanned_after-takes (o ∷ []) (bind-takes _ (closed-takes atom-complete (s ")") refl refl ts a c p right (us ++ rest))
        (mapped-takes (λ x. forms.Cast a x) ((e signed).takes us x rest h stops))))

    signed-complete : Complete (IsSigned N) 10 (signed_read E)
    unfolding signed_read
    signed-complete = record { takes = go }
      where
        go : (ts : List Token) (x : Expr) (rest : List Token) → IsSigned N ts x → Stops 10 rest → Takes (signed_read E) ts x rest
        go _ _ rest (IsSigned.minus {ts} {x} m is h) stops = accept-takes _ _ _ (is-exactly (s "-") m refl is)
            (spanned_after-takes (m ∷ []) (mapped-takes (λ x. forms.Unary one.Neg x) ((e signed).takes ts x rest h stops)))
        go _ _ rest (IsSigned.cast {us} {a} {x} (IsBetween.between {ts} o c left p right) h) stops =
            pass-takes _ _ _ (other_kind (s "-") (s "(") o refl left) (accept-takes _ _ _ (is-exactly (s "(") o refl left)
            (cast-takes o ts us a x c p right h rest stops))
        go ts x rest (IsSigned.part h) stops =
            loop-ends [] (λ x. meant part_signs) (with_part E) (signed_read E) ts x rest (part-loops h rest) (declines-table part_signs 10 refl rest stops)

    -- ---- operators

    sum-complete : Complete (IsSum N) 8 (sum_read E)
    unfolding sum_read product_read
    sum-complete = chain-complete sums 8 9 refl refl refl refl (chain-complete products 9 10 refl refl refl refl signed-complete)

    compared-complete : Complete (IsCompared N) 7 (compared_read E)
    unfolding compared_read
    compared-complete = record { takes = go }
      where
        go : (ts : List Token) (x : Expr) (rest : List Token) → IsCompared N ts x → Stops 7 rest → Takes (compared_read E) ts x rest
        go ts x rest (IsCompared.alone h) stops = with_tokens-takes {j = λ ts. x}
            (bind-last _ (sum-complete.takes ts x rest h (stops-wider 7 8 (omega arith) rest stops))
            (skip-takes _ _ _ _ rest (declines-table comparisons 7 refl rest stops) (give-takes _ rest)))
        go _ _ rest (IsCompared.compared {ts} {us} {x} {y} o op a means b) stops = with_tokens-takes {j = λ ts. tree ts (forms.Binary op x y)}
            (bind-takes _ (sum-complete.takes ts x (o ∷ us ++ rest) a (stops-table comparisons 8 refl o op means (us ++ rest)))
            (accept-takes _ _ _ (means-meaning_of comparisons refl o op means)
            (mapped-takes _ (sum-complete.takes us y rest b (stops-wider 7 8 (omega arith) rest stops)))))

    negated-complete : Complete (IsNegated N) 7 (negated_read E)
    unfolding negated_read
    negated-complete = record { takes = go }
      where
        go : (ts : List Token) (x : Expr) (rest : List Token) → IsNegated N ts x → Stops 7 rest → Takes (negated_read E) ts x rest
        go _ _ rest (IsNegated.negated {ts} {x} k is h) stops = accept-takes _ _ _ (is-exactly (w "not") k refl is)
            (spanned_after-takes (k ∷ []) (mapped-takes (λ x. forms.Unary one.Not x) ((e negation).takes ts x rest h stops)))
        go ts x rest (IsNegated.plain h) stops = pass-starts (w "not") 1 refl _ (compared-starts h) (compared-complete.takes ts x rest h stops)

    overlaid-complete : Complete (IsOverlaid N) 3 (overlaid_read E)
    unfolding overlaid_read either_read both_read
    overlaid-complete = chain-complete overlays 3 4 refl refl refl refl (chain-complete eithers 4 5 refl refl refl refl
        (chain-complete boths 5 7 refl refl refl refl negated-complete))

    -- ---- whole expressions

    withs-complete : Complete (IsRow (IsAfter "with" (N any))) 1 (row_read (w "with") (E any))
    withs-complete = row-complete (e any) (w "with") refl refl refl refl split
      where
        split : (P : List Token → Expr → Type 0) → ((k : Token) (ts : List Token) (x : Expr) → k.kind ≡ w "with" → N any ts x → P (k ∷ ts) x)
            → (ts : List Token) (x : Expr) → IsAfter "with" (N any) ts x → P ts x
        split P f _ x (IsAfter.after {ts} k is h) = f k ts x is h

    withs-stop : {ts : List Token} {xs : List Expr} → IsRow (IsAfter "with" (N any)) ts xs → (rest : List Token) → Stops 3 (ts ++ rest)
    withs-stop (IsRow.first (IsAfter.after {ts} k is h)) rest = stops-kind (w "with") 3 refl k is (ts ++ rest)
    withs-stop (IsRow.more {ts} {us} hs h) rest = subst (λ vs. Stops 3 vs) (sym (append_assoc ts us rest)) (withs-stop hs (us ++ rest))

    whole-complete : Complete (IsWhole N) 3 (whole_read E)
    unfolding whole_read
    whole-complete = record { takes = go }
      where
        go : (ts : List Token) (x : Expr) (rest : List Token) → IsWhole N ts x → Stops 3 rest → Takes (whole_read E) ts x rest
        go _ _ rest (IsWhole.marray {ts} {us} {d} {e = y} k n i v x is at in' p values h) stops =
            accept-takes _ _ _ (is-exactly (w "marray") k refl is)
            (spanned_after-takes (k ∷ []) (accept-takes _ _ _ (is-placed_name n x at) (expect-takes (w "in") refl i in'
            (bind-takes _ (domain-takes ts d p (v ∷ us ++ rest)) (expect-takes (w "values") refl v values
            (mapped-takes (λ y. forms.Marray x d y) ((e any).takes us y rest h stops)))))))
        go _ _ rest (IsWhole.condense {ts} {us} {vs} {d} {cond} {e = y} k f o n i u op x is means over at in' p c using h) stops =
            pass-takes _ _ _ (other_kind (w "marray") (w "condense") k refl is) (accept-takes _ _ _ (is-exactly (w "condense") k refl is)
            (spanned_after-takes (k ∷ []) (accept-takes _ _ _ (means-meaning_of fold_operators refl f op means) (expect-takes (w "over") refl o over
            (accept-takes _ _ _ (is-placed_name n x at) (expect-takes (w "in") refl i in' (regrouped (append_assoc ts us (u ∷ vs))
            (bind-takes _ (domain-takes ts d p ((us ++ u ∷ vs) ++ rest)) (bind-takes _
            (optional-takes (e any) "where" refl us cond (u ∷ vs ++ rest) c (other_kind (w "where") (w "using") u refl using)
            (stops-kind (w "using") 3 refl u using (vs ++ rest)))
            (expect-takes (w "using") refl u using (mapped-takes (λ y. forms.Condense op x d cond y) ((e any).takes vs y rest h stops))))))))))))
        go _ _ rest (IsWhole.concat {ts} {us} {x} {xs} k a n z is h hs along at) stops =
            pass-takes _ _ _ (other_kind (w "marray") (w "concat") k refl is) (pass-takes _ _ _ (other_kind (w "condense") (w "concat") k refl is)
            (accept-takes _ _ _ (is-exactly (w "concat") k refl is) (spanned_after-takes (k ∷ []) (regrouped (append_assoc ts us (a ∷ n ∷ []))
            (bind-takes _ ((e any).takes ts x ((us ++ a ∷ n ∷ []) ++ rest) h
            (subst (λ vs. Stops 3 vs) (sym (append_assoc us (a ∷ n ∷ []) rest)) (withs-stop hs (a ∷ n ∷ rest))))
            (bind-takes _ (withs-complete.takes us xs (a ∷ n ∷ rest) hs (stops-kind (w "along") 1 refl a along (n ∷ rest)))
            (expect-takes (w "along") refl a along (accept-takes _ _ _ (ap plain_of_kind at) (give-takes _ rest)))))))))
        go ts x rest (IsWhole.overlaid h) stops =
            let b : Starts 2 ts = overlaid-starts h in
            pass-starts (w "marray") 2 refl _ b (pass-starts (w "condense") 2 refl _ b (pass-starts (w "concat") 2 refl _ b (overlaid-complete.takes ts x rest h stops)))

    pub level-complete : (level : Level) → Complete (IsLevel N level) (limit_of level) (level_read E level)
    level-complete any = whole-complete
    level-complete negation = negated-complete
    level-complete signed = signed-complete

    pub indexes-complete : Complete (IsOptional (IsIndex N)) 1 (optional_after (s "[") (index_rest E))
    indexes-complete = record { takes = go }
      where
        go : (ts : List Token) (x : Option (List Axis)) (rest : List Token) → IsOptional (IsIndex N) ts x → Stops 1 rest
            → Takes (optional_after (s "[") (index_rest E)) ts x rest
        go _ _ rest IsOptional.absent stops = skip-takes _ _ _ _ rest (declines-exactly (s "[") 1 refl rest stops) (give-takes None rest)
        go _ _ rest (IsOptional.present {x} (IsBetween.between {ts} o c left h right)) stops =
            accept-takes _ _ _ (is-exactly (s "[") o refl left) (mapped-takes _ (index-takes ts x c h right rest))
