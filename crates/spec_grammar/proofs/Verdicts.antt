-- A text that is a statement has no fault, and a text is told one fault.
use Rattle.std.specs.Prelude.{◌≡◌, ℕ, zero, suc, ◌+◌, ◌≤◌, ◌⊎◌, List, [], ◌∷◌, ◌++◌, Option, Some, None, Ok, Err}
use Rattle.std.proofs.Common.{refl, sym, ap, ap₂, ◌∙◌, inl, inr, append_assoc, arith}
use Rattle.ras_syntax.specs.declared.faults.SyntaxFault.{SyntaxFault}
use Rattle.ras_syntax.specs.declared.faults.SyntaxFault.TheVariants.{Unexpected, NumberTooWide, TooDeep, UnknownName, FloatRefused}
use Rattle.ras_syntax.specs.declared.statement.Statement.{Statement}
use Rattle.ras_syntax.specs.declared.statement.StatementForm.{StatementForm}
use Rattle.spec_grammar.specs.Tokens.{Text, Token, lexed}
use Rattle.spec_grammar.specs.Weight.{weight_of}
use Rattle.spec_grammar.specs.Grammar.{IsStatement}
use Rattle.spec_grammar.specs.Verdict.{HasSyntaxFault, own, unexpected, ended, too_deep, fault_place, fault_rank, IsFirstOf, IsVerdict, statement, fault}
use Rattle.ras_syntax.specs.declared.limits.TheConstants.{MAX_WEIGHT}

pub weight_of-append : (ts us : List Token) → weight_of (ts ++ us) ≡ weight_of ts + weight_of us
weight_of-append [] us = omega arith
weight_of-append (t ∷ ts) us = let e : weight_of (ts ++ us) ≡ weight_of ts + weight_of us = weight_of-append ts us in omega arith

pub regrouped : (before after : List Token) (t : Token) → before ++ t ∷ after ≡ (before ++ t ∷ []) ++ after
regrouped before after t = sym (append_assoc before (t ∷ []) after)

pub no_none : {A : Type 0} (a : A) → ◌≡◌ {A = Option A} None (Some a) → ⊥
no_none a e = grind arith

refuted : (text : Text) (form : StatementForm) (f : SyntaxFault) → (lexed text).fault ≡ None → IsStatement (lexed text).tokens form
    → weight_of (lexed text).tokens ≤ MAX_WEIGHT → HasSyntaxFault text f → ⊥
refuted text form f none is light (own g e) = no_none g (sym none ∙ e)
refuted text form f none is light (unexpected before after t e begins not) =
    let same : (lexed text).tokens ≡ (before ++ t ∷ []) ++ after = e ∙ regrouped before after t in
    not (after, form, rw same at is)
refuted text form f none is light (ended none' begins not) = not form is
refuted text form f none is light (too_deep before after t e light' heavy) =
    let same : weight_of (lexed text).tokens ≡ weight_of (before ++ t ∷ []) + weight_of after =
    ap weight_of (e ∙ regrouped before after t) ∙ weight_of-append (before ++ t ∷ []) after in
    omega arith

pub IsVerdict-statement : (text : Text) (s : Statement) (f : SyntaxFault) → IsVerdict text (Ok s) → ¬ HasSyntaxFault text f
IsVerdict-statement text s f (statement form none is light) h = refuted text form f none is light h

-- ---- one fault

is_own : (text : Text) (f : SyntaxFault) → HasSyntaxFault text f → fault_rank f ≡ 0 → (lexed text).fault ≡ Some f
is_own text f (own g e) z = e
is_own text f (unexpected before after t e begins not) z = absurd (omega arith)
is_own text f (ended none begins not) z = absurd (omega arith)
is_own text f (too_deep before after t e light heavy) z = absurd (omega arith)

-- the fault of a rank that isn't 0, at a place
of_rank : ℕ → ℕ → SyntaxFault
of_rank zero place = Unexpected place
of_rank (suc zero) place = Unexpected place
of_rank (suc (suc n)) place = TooDeep place

by_rank : (f : SyntaxFault) → (fault_rank f ≡ 0) ⊎ (f ≡ of_rank (fault_rank f) (fault_place f))
unfolding of_rank
by_rank (Unexpected place) = inr refl
by_rank (NumberTooWide place) = inl refl
by_rank (TooDeep place) = inr refl
by_rank (UnknownName place) = inl refl
by_rank (FloatRefused place) = inl refl

unfoldable pub held : SyntaxFault → Option SyntaxFault → SyntaxFault
held f None = f
held f (Some g) = g

one_own : (text : Text) (f g : SyntaxFault) → HasSyntaxFault text f → HasSyntaxFault text g → fault_rank f ≡ 0 → fault_rank g ≡ 0 → f ≡ g
unfolding held
one_own text f g hf hg zf zg = ap (held f) (sym (is_own text f hf zf) ∙ is_own text g hg zg)

same_fault : (text : Text) (f g : SyntaxFault) → HasSyntaxFault text f → HasSyntaxFault text g → fault_place f ≡ fault_place g → fault_rank f ≡ fault_rank g → f ≡ g
same_fault text f g hf hg p r = go (by_rank f) (by_rank g)
  where
    go : (fault_rank f ≡ 0) ⊎ (f ≡ of_rank (fault_rank f) (fault_place f)) → (fault_rank g ≡ 0) ⊎ (g ≡ of_rank (fault_rank g) (fault_place g)) → f ≡ g
    go (inl zf) other = one_own text f g hf hg zf (sym r ∙ zf)
    go (inr ef) (inl zg) = one_own text f g hf hg (r ∙ zg) zg
    go (inr ef) (inr eg) = ef ∙ (ap₂ of_rank r p ∙ sym eg)

first-same : (f g : SyntaxFault) → IsFirstOf f g → IsFirstOf g f → (fault_place f ≡ fault_place g) × (fault_rank f ≡ fault_rank g)
first-same f g (inl a) (inl b) = absurd (omega arith)
first-same f g (inl a) (inr b) = absurd (let e : fault_place g ≡ fault_place f = b.0 in omega arith)
first-same f g (inr a) (inl b) = absurd (let e : fault_place f ≡ fault_place g = a.0 in omega arith)
first-same f g (inr a) (inr b) = let x : fault_rank f ≤ fault_rank g = a.1 in let y : fault_rank g ≤ fault_rank f = b.1 in (a.0, omega arith)

pub IsVerdict-fault : (text : Text) (f g : SyntaxFault) → IsVerdict text (Err f) → IsVerdict text (Err g) → f ≡ g
IsVerdict-fault text f g (fault f' hf first) (fault g' hg first') =
    let same : (fault_place f ≡ fault_place g) × (fault_rank f ≡ fault_rank g) = first-same f g (first g hg) (first' f hf) in
    same_fault text f g hf hg same.0 same.1
