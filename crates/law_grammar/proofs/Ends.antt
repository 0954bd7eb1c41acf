-- What follows of reading: the tree is determined by the tokens, the first wrong token is told, and each text has one verdict.
use Rattle.std.specs.Prelude.{◌≡◌, ℕ, suc, Bool as Truth, true, false, List, [], ◌∷◌, ◌++◌, length, Result, Ok, Err}
use Rattle.std.proofs.Common.{refl, sym, ap, ap₂, subst, ◌∙◌, arith, append_assoc}
use Rattle.std.proofs.lemmas.List.{append-nil}
use Rattle.ras_syntax.specs.declared.expr.Expr.{Expr}
use Rattle.ras_syntax.specs.declared.statement.StatementForm.{StatementForm}
use Rattle.spec_grammar.specs.Tokens.{Token}
use Rattle.spec_grammar.specs.Grammar.{Level, IsForm, IsAt, IsStatement}
use Rattle.spec_grammar.specs.Verdict.{BeginsStatement}
use Rattle.law_grammar.specs.Readers.{ReadOutcome, before}
use Rattle.law_grammar.specs.Reading.{read_at, read_form, read_statement}
use Rattle.law_grammar.specs.FirstWrong.{GoesOnWrongly, IsFirstWrong}
use Rattle.law_grammar.proofs.Good.{Read, Stuck, Told, before-append}
use Rattle.law_grammar.proofs.StatementsRead.{read_form-good}
use Rattle.law_grammar.proofs.CompleteStatements.{read_at-complete, form-takes}

-- ---- what is read

-- all tokens of a statement have to be read
ended : ReadOutcome StatementForm → Result StatementForm (List Token)
ended (Ok p) = elim p.1 [ [] ↦ Ok p.0 | t ∷ rest ↦ Err (t ∷ rest) ]
ended (Err rest) = Err rest

read_statement-ended : (ts : List Token) → read_statement ts ≡ ended (read_form ts)
unfolding read_statement ended
read_statement-ended ts = at (read_form ts)
  where
    at : (o : ReadOutcome StatementForm) → elim o as (λ v. Result StatementForm (List Token)) [
      | Ok p ↦ elim p.1 as (λ v. Result StatementForm (List Token)) [ [] ↦ Ok p.0 | t ∷ rest ↦ Err (t ∷ rest) ]
      | Err rest ↦ Err rest
    ] ≡ ended o
    at (Ok p) = refl
    at (Err rest) = refl

read_form-all : (ts : List Token) (form : StatementForm) → IsStatement ts form → read_form ts ≡ Ok (form, [])
read_form-all ts form h = ap read_form (sym (append-nil ts)) ∙ (form-takes ts form h).is

-- a statement is read whole
pub complete : (ts : List Token) (form : StatementForm) → IsStatement ts form → read_statement ts ≡ Ok form
unfolding ended
complete ts form h = read_statement-ended ts ∙ ap ended (read_form-all ts form h)

-- what is told by reading a list
abbrev pub Tells : List Token → Result StatementForm (List Token) → Type 0
Tells ts (Ok form) = IsStatement ts form
Tells ts (Err rest) = IsFirstWrong ts rest

-- what is left after reading, and whether it went well
left_of : ReadOutcome StatementForm → List Token
left_of (Ok p) = p.1
left_of (Err rest) = rest

is_read : ReadOutcome StatementForm → Truth
is_read (Ok p) = true
is_read (Err rest) = false

some_left : (form form' : StatementForm) (t : Token) (ts : List Token) → ◌≡◌ {A = ReadOutcome StatementForm} (Ok (form, t ∷ ts)) (Ok (form', [])) → ⊥
unfolding left_of
some_left form form' t ts e = let e' : t ∷ ts ≡ [] = ap left_of e in cc

wrong_read : (form : StatementForm) (ts us : List Token) → ◌≡◌ {A = ReadOutcome StatementForm} (Err ts) (Ok (form, us)) → ⊥
unfolding is_read
wrong_read form ts us e = let e' : false ≡ true = ap is_read e in cc

-- what was read is what stands before the rest
same_before : (ts pre pre' rest : List Token) → ts ≡ pre ++ rest → ts ≡ pre' ++ rest → pre ≡ pre'
same_before ts pre pre' rest e e' = sym (before-append pre rest) ∙ ap (λ us. before us rest) (sym e ∙ e') ∙ before-append pre' rest

abbrev AnyTold : List Token → ReadOutcome StatementForm → Type 0
AnyTold ts o = (m : ℕ) → Told (IsForm IsAt) (suc m) read_form ts o

tells : (ts : List Token) → Tells ts (ended (read_form ts))
unfolding ended
tells ts = at (read_form ts) (λ m. (read_form-good (length ts) m).told ts (omega arith))
  where
    at : (o : ReadOutcome StatementForm) → AnyTold ts o → Tells ts (ended o)
    at (Ok (form, [])) r = subst (λ us. IsStatement us form) (sym ((r 0).is ∙ append-nil (r 0).pre)) (r 0).holds
    at (Ok (form, t ∷ rest)) r = record {
      before = (r 0).pre;
      is = (r 0).is;
      begins = ([], form, subst (λ us. IsStatement us form) (sym (append-nil (r 0).pre)) (r 0).holds);
      wrong = λ b.
          let whole : List Token = ((r 0).pre ++ t ∷ []) ++ b.0 in
          let again : Read (IsForm IsAt) (suc (length whole)) read_form ts form (t ∷ rest) = r (length whole) in
          let same : again.pre ++ t ∷ b.0 ≡ whole =
          ap (λ us. us ++ t ∷ b.0) (same_before ts again.pre (r 0).pre (t ∷ rest) again.is (r 0).is) ∙ sym (append_assoc (r 0).pre (t ∷ []) b.0) in
          let len : length (again.pre ++ t ∷ b.0) ≡ length whole = ap length same in
          some_left form b.1 t b.0 (sym (again.again (t ∷ b.0) refl (omega arith)) ∙ ap read_form same ∙ read_form-all whole b.1 b.2);
    }
    at (Err []) r = record {
      before = (r 0).pre;
      is = (r 0).is;
      begins = (r 0).begins;
      wrong = λ form is.
          let pre : List Token = (r 0).pre in
          let again : Stuck (IsForm IsAt) (suc (length pre)) read_form ts [] = r (length pre) in
          let same : again.pre ++ [] ≡ pre = append-nil again.pre ∙ same_before ts again.pre pre [] again.is (r 0).is in
          let len : length (again.pre ++ []) ≡ length pre = ap length same in
          wrong_read form [] [] (sym (again.again [] refl (omega arith)) ∙ ap read_form same ∙ read_form-all pre form is);
    }
    at (Err (t ∷ rest)) r = record {
      before = (r 0).pre;
      is = (r 0).is;
      begins = (r 0).begins;
      wrong = λ b.
          let whole : List Token = ((r 0).pre ++ t ∷ []) ++ b.0 in
          let again : Stuck (IsForm IsAt) (suc (length whole)) read_form ts (t ∷ rest) = r (length whole) in
          let same : again.pre ++ t ∷ b.0 ≡ whole =
          ap (λ us. us ++ t ∷ b.0) (same_before ts again.pre (r 0).pre (t ∷ rest) again.is (r 0).is) ∙ sym (append_assoc (r 0).pre (t ∷ []) b.0) in
          let len : length (again.pre ++ t ∷ b.0) ≡ length whole = ap length same in
          wrong_read b.1 (t ∷ b.0) [] (sym (again.again (t ∷ b.0) refl (omega arith)) ∙ ap read_form same ∙ read_form-all whole b.1 b.2);
    }

pub told : (ts : List Token) → Tells ts (read_statement ts)
told ts = subst (Tells ts) (sym (read_statement-ended ts)) (tells ts)

pub sound : (ts : List Token) (form : StatementForm) → read_statement ts ≡ Ok form → IsStatement ts form
sound ts form e = subst (Tells ts) e (told ts)

pub first_wrong : (ts rest : List Token) → read_statement ts ≡ Err rest → IsFirstWrong ts rest
first_wrong ts rest e = subst (Tells ts) e (told ts)

-- ---- one tree

pub one_expr : (level : Level) (ts : List Token) (x y : Expr) → IsAt level ts x → IsAt level ts y → x ≡ y
one_expr level ts x y h k =
    let a : read_at level (ts ++ []) ≡ Ok (x, []) = ((read_at-complete level).takes ts x [] h tt).is in
    let b : read_at level (ts ++ []) ≡ Ok (y, []) = ((read_at-complete level).takes ts y [] k tt).is in
    ap (read_of x) (sym a ∙ b)
  where
    read_of : Expr → ReadOutcome Expr → Expr
    read_of z (Ok p) = p.0
    read_of z (Err rest) = z

pub one_tree : (ts : List Token) (f g : StatementForm) → IsStatement ts f → IsStatement ts g → f ≡ g
one_tree ts f g h k = let e : ◌≡◌ {A = Result StatementForm (List Token)} (Ok f) (Ok g) = sym (complete ts f h) ∙ complete ts g k in cc

-- ---- one first wrong token

-- two ways to cut a list
data Cuts (pre rest pre' rest' : List Token) : Type 0 where
  same : rest ≡ rest' → Cuts pre rest pre' rest'
  longer : (t : Token) (mid : List Token) → rest ≡ t ∷ mid ++ rest' → pre' ≡ pre ++ t ∷ mid → Cuts pre rest pre' rest'
  shorter : (t : Token) (mid : List Token) → rest' ≡ t ∷ mid ++ rest → pre ≡ pre' ++ t ∷ mid → Cuts pre rest pre' rest'

cut : (pre rest pre' rest' : List Token) → pre ++ rest ≡ pre' ++ rest' → Cuts pre rest pre' rest'
cut [] rest [] rest' e = same e
cut [] rest (u ∷ us) rest' e = longer u us e refl
cut (t ∷ ts) rest [] rest' e = shorter t ts (sym e) refl
cut (t ∷ ts) rest (u ∷ us) rest' e = go (cut ts rest us rest' (let e' : t ∷ (ts ++ rest) ≡ u ∷ (us ++ rest') = e in cc))
  where
    t_is : t ≡ u
    t_is = let e' : t ∷ (ts ++ rest) ≡ u ∷ (us ++ rest') = e in cc

    go : Cuts ts rest us rest' → Cuts (t ∷ ts) rest (u ∷ us) rest'
    go (same p) = same p
    go (longer v mid p q) = longer v mid p (ap₂ (λ x xs. x ∷ xs) (sym t_is) q)
    go (shorter v mid p q) = shorter v mid p (ap₂ (λ x xs. x ∷ xs) t_is q)

-- fronts of what begins a statement begin one
begins-front : (ts us : List Token) → BeginsStatement (ts ++ us) → BeginsStatement ts
begins-front ts us (more, form, is) = (us ++ more, form, subst (λ vs. IsStatement vs form) (append_assoc ts us more) is)

-- nothing is right behind a first wrong token
no_longer : (before rest : List Token) (t : Token) (mid rest' : List Token) → GoesOnWrongly before rest → rest ≡ t ∷ mid ++ rest' → BeginsStatement (before ++ t ∷ mid) → ⊥
no_longer before [] t mid rest' wrong e b = let e' : [] ≡ t ∷ (mid ++ rest') = e in absurd (cc)
no_longer before (u ∷ rest) t mid rest' wrong e b =
    let u_is : u ≡ t = (let e' : u ∷ rest ≡ t ∷ (mid ++ rest') = e in cc) in
    wrong (begins-front (before ++ u ∷ []) mid (subst BeginsStatement (ap (λ v. before ++ v ∷ mid) (sym u_is) ∙ sym (append_assoc before (u ∷ []) mid)) b))

pub one_first_wrong : (ts rest rest' : List Token) → IsFirstWrong ts rest → IsFirstWrong ts rest' → rest ≡ rest'
one_first_wrong ts rest rest' h k = go (cut h.before rest k.before rest' (sym h.is ∙ k.is))
  where
    go : Cuts h.before rest k.before rest' → rest ≡ rest'
    go (same e) = e
    go (longer t mid e e') = absurd (no_longer h.before rest t mid rest' h.wrong e (subst BeginsStatement e' k.begins))
    go (shorter t mid e e') = absurd (no_longer k.before rest' t mid rest k.wrong e (subst BeginsStatement e' h.begins))

-- a statement has no wrong token
pub no_wrong : (ts rest : List Token) (form : StatementForm) → IsStatement ts form → IsFirstWrong ts rest → ⊥
no_wrong ts [] form is h = h.wrong form (subst (λ us. IsStatement us form) (h.is ∙ append-nil h.before) is)
no_wrong ts (t ∷ rest) form is h =
    h.wrong (rest, form, subst (λ us. IsStatement us form) (h.is ∙ sym (append_assoc h.before (t ∷ []) rest)) is)

pub is_first_wrong : (ts rest : List Token) → IsFirstWrong ts rest → read_statement ts ≡ Err rest
is_first_wrong ts rest h = at (read_statement ts) (told ts)
  where
    at : (o : Result StatementForm (List Token)) → Tells ts o → o ≡ Err rest
    at (Ok form) is = absurd (no_wrong ts rest form is h)
    at (Err rest') k = ap (λ us. Err us) (one_first_wrong ts rest' rest k h)
