-- All of the grammar is read.
use Rattle.std.specs.Prelude.{◌≡◌, ℕ, zero, suc, ◌+◌, ◌≤◌, List, [], ◌∷◌, ◌++◌, length, Option}
use Rattle.std.proofs.Common.{refl, sym, ◌∙◌, arith, append_assoc}
use Rattle.ras_syntax.specs.declared.span.Spanned.{Spanned}
use Rattle.ras_syntax.specs.declared.expr.Expr.{Expr}
use Rattle.ras_syntax.specs.declared.expr.Axis.{Axis}
use Rattle.ras_syntax.specs.declared.statement.SourceName.{SourceName}
use Rattle.ras_syntax.specs.declared.statement.StatementForm.{StatementForm}
use Rattle.ras_syntax.specs.declared.statement.StatementForm.TheVariants as statements
use Rattle.ras_syntax.specs.declared.statement.Word.TheVariants as words
use Rattle.spec_grammar.specs.Tokens.{TokenKind, Token}
use Rattle.spec_grammar.specs.Grammar.{span_of, w, IsName, IsAfter, IsOptional, IsSource, Level, any, IsIndex, IsForm, Nested, IsAt}
use Rattle.law_grammar.specs.Readers.{Reader, give, accept_or}
use Rattle.law_grammar.specs.Reading.{source_read, condition, select_rest, insert_rest, delete_rest, target, update_rest, create_rest, drop_rest, begin_rest, commit_rest, form_read, reads, read_at}
use Rattle.law_grammar.proofs.TokenTests.{is-exactly, is-placed_name, is-times_of}
use Rattle.law_grammar.proofs.Ranks.{Stops, stops-wider, declines-exactly, stops-kind, Starts}
use Rattle.law_grammar.proofs.Takes.{Takes, Complete, give-takes, bind-takes, mapped-takes, with_tokens-takes, accept-takes, skip-takes, expect-takes}
use Rattle.law_grammar.proofs.CompletePieces.{regrouped, bind-last, optional-takes, comma-complete}
use Rattle.law_grammar.proofs.CompleteProductions.{at_kind, named-complete, limit_of, opening_of, level-starts, level-complete, indexes-complete}
use Rattle.law_grammar.proofs.StatementsRead.{reads-same}

-- ---- expressions

nested-starts : (k : ℕ) (level : Level) (ts : List Token) (x : Expr) → Nested k level ts x → Starts (opening_of level) ts
nested-starts zero level ts x h = elim h [ ]
nested-starts (suc k) level ts x h = level-starts (Nested k) (λ l us y. nested-starts k l us y) level ts x h

nested-complete : (k n : ℕ) → k ≤ n → (level : Level) → Complete (Nested k level) (limit_of level) (reads n level)
unfolding reads
nested-complete zero n deep level = record { takes = λ ts x rest h stops. elim h [ ] }
nested-complete (suc k) zero deep level = absurd (let h : suc k ≤ 0 = deep in omega arith)
nested-complete (suc k) (suc n) deep level =
    level-complete (Nested k) (λ l us y. nested-starts k l us y) (reads n)
    (λ l. nested-complete k n (let h : suc k ≤ suc n = deep in omega arith) l) level

pub at-starts : (level : Level) (ts : List Token) (x : Expr) → IsAt level ts x → Starts (opening_of level) ts
at-starts level ts x h = nested-starts h.0 level ts x h.1

pub read_at-complete : (level : Level) → Complete (IsAt level) (limit_of level) (read_at level)
read_at-complete level = record {
  takes = λ ts x rest h stops.
      let n : ℕ = h.0 + suc (length (ts ++ rest)) in
      let deep : Takes (reads n level) ts x rest = (nested-complete h.0 n (omega arith) level).takes ts x rest h.1 stops in
      record { is = sym (reads-same n level (ts ++ rest) (omega arith)) ∙ deep.is };
}

-- ---- statements

source-complete : Complete IsSource 2 source_read
source-complete = record { takes = go }
  where
    go : (ts : List Token) (x : SourceName) (rest : List Token) → IsSource ts x → Stops 2 rest → Takes source_read ts x rest
    go _ _ rest (IsSource.source {ts} {iterator} n x is h) stops = accept-takes _ _ _ (is-placed_name n x is) (mapped-takes _
        (optional-takes named-complete "as" refl ts iterator rest h (declines-exactly (w "as") 2 refl rest stops) (stops-wider 2 11 (omega arith) rest stops)))

abbrev E : Level → Reader Expr
E = read_at

condition-takes : (ts : List Token) (x : Option Expr) → IsOptional (IsAfter "where" (IsAt any)) ts x → Takes (condition E) ts x []
condition-takes ts x h = optional-takes (read_at-complete any) "where" refl ts x [] h tt tt

condition-stops : (ts : List Token) (x : Option Expr) → IsOptional (IsAfter "where" (IsAt any)) ts x → Stops 1 (ts ++ [])
condition-stops _ _ IsOptional.absent = tt
condition-stops _ _ (IsOptional.present (IsAfter.after {ts} k is h)) = stops-kind (w "where") 1 refl k is (ts ++ [])

-- a token of this kind opens a statement, and what follows it
record Opens (kind : TokenKind) (g : Reader StatementForm) : Type 0 where
  form : (from to : ℕ) (ts : List Token) → form_read E (record { kind = kind; from = from; to = to } ∷ ts) ≡ g ts

opened : (kind : TokenKind) (g : Reader StatementForm) → Opens kind g → (t : Token) → t.kind ≡ kind → (us : List Token) (form : StatementForm)
    → Takes g us form [] → Takes (form_read E) (t ∷ us) form []
opened kind g opens t is us form h =
    at_kind (λ t. Takes (form_read E) (t ∷ us) form []) t kind is (record { is = opens.form t.from t.to (us ++ []) ∙ h.is })

opens-select : Opens (w "select") (select_rest E)
unfolding accept_or
opens-select = record { form = λ from to ts. refl }

opens-insert : Opens (w "insert") (insert_rest E)
unfolding accept_or
opens-insert = record { form = λ from to ts. refl }

opens-delete : Opens (w "delete") (delete_rest E)
unfolding accept_or
opens-delete = record { form = λ from to ts. refl }

opens-update : Opens (w "update") (update_rest E)
unfolding accept_or
opens-update = record { form = λ from to ts. refl }

opens-create : Opens (w "create") (create_rest E)
unfolding accept_or
opens-create = record { form = λ from to ts. refl }

opens-drop : Opens (w "drop") (drop_rest E)
unfolding accept_or
opens-drop = record { form = λ from to ts. refl }

opens-begin : Opens (w "begin") (begin_rest E)
unfolding accept_or
opens-begin = record { form = λ from to ts. refl }

opens-commit : Opens (w "commit") (commit_rest E)
unfolding accept_or
opens-commit = record { form = λ from to ts. refl }

opens-abort : Opens (w "abort") (give (statements.Word words.Abort))
unfolding accept_or
opens-abort = record { form = λ from to ts. refl }

target-takes : (n : Token) (us : List Token) (x : Spanned) (axes : Option (List Axis)) → IsName n x → IsOptional (IsIndex IsAt) us axes
    → (rest : List Token) → Stops 1 rest → Takes (target E) (n ∷ us) (x, axes, span_of (n ∷ us)) rest
target-takes n us x axes is h rest stops = with_tokens-takes {j = λ ts. (x, axes, span_of ts)}
    (accept-takes _ _ _ (is-placed_name n x is) (mapped-takes (λ axes ts. (x, axes, span_of ts))
    ((indexes-complete IsAt at-starts E read_at-complete).takes us axes rest h stops)))

pub form-takes : (ts : List Token) (form : StatementForm) → IsForm IsAt ts form → Takes (form_read E) ts form []
form-takes _ _ (IsForm.select {ts} {e} k is h) = opened (w "select") _ opens-select k is ts _
    (bind-last _ ((read_at-complete any).takes ts e [] h tt) (skip-takes _ _ _ _ [] tt (give-takes _ [])))
form-takes _ _ (IsForm.select_from {ts} {us} {vs} {e} {sources} {cond} k f is h from p c) =
    opened (w "select") _ opens-select k is (ts ++ f ∷ us ++ vs) _ (regrouped (append_assoc ts (f ∷ us) vs)
    (bind-takes _ ((read_at-complete any).takes ts e (f ∷ (us ++ vs) ++ []) h (stops-kind (w "from") 3 refl f from ((us ++ vs) ++ [])))
    (accept-takes _ _ _ (is-exactly (w "from") f refl from)
    (bind-takes _ ((comma-complete source-complete refl).takes us sources (vs ++ []) p (condition-stops vs cond c))
    (mapped-takes _ (condition-takes vs cond c))))))
form-takes _ _ (IsForm.insert {ts} {e} k i n v x is into at values h) = opened (w "insert") _ opens-insert k is (i ∷ n ∷ v ∷ ts) _
    (expect-takes (w "into") refl i into (accept-takes _ _ _ (is-placed_name n x at) (expect-takes (w "values") refl v values
    (mapped-takes _ ((read_at-complete any).takes ts e [] h tt)))))
form-takes _ _ (IsForm.delete {ts} {us} {from = of} {cond} k f is from p c) = opened (w "delete") _ opens-delete k is (f ∷ ts ++ us) _
    (expect-takes (w "from") refl f from
    (bind-takes _ (source-complete.takes ts of (us ++ []) p (stops-wider 1 2 (omega arith) (us ++ []) (condition-stops us cond c)))
    (mapped-takes _ (condition-takes us cond c))))
form-takes _ _ (IsForm.update {ts} {us} {vs} {ws} {of} {axes} {e} {cond} k s' n a x is p set at index assign h c) =
    opened (w "update") _ opens-update k is (ts ++ s' ∷ n ∷ us ++ a ∷ vs ++ ws) _
    (regrouped (append_assoc (ts ++ s' ∷ n ∷ us) (a ∷ vs) ws ∙ append_assoc ts (s' ∷ n ∷ us) (a ∷ vs ++ ws))
    (bind-takes _ (source-complete.takes ts of (s' ∷ (n ∷ us ++ (a ∷ vs ++ ws)) ++ []) p (stops-kind (w "set") 2 refl s' set ((n ∷ us ++ (a ∷ vs ++ ws)) ++ [])))
    (expect-takes (w "set") refl s' set
    (bind-takes _ (target-takes n us x axes at index ((a ∷ vs ++ ws) ++ []) (stops-kind (w "assign") 1 refl a assign ((vs ++ ws) ++ [])))
    (expect-takes (w "assign") refl a assign
    (bind-takes _ ((read_at-complete any).takes vs e (ws ++ []) h (stops-wider 1 3 (omega arith) (ws ++ []) (condition-stops ws cond c)))
    (mapped-takes _ (condition-takes ws cond c))))))))
form-takes _ _ (IsForm.create k c n t x y is collection at at') = opened (w "create") _ opens-create k is (c ∷ n ∷ t ∷ []) _
    (expect-takes (w "collection") refl c collection (accept-takes _ _ _ (is-placed_name n x at) (accept-takes _ _ _ (is-placed_name t y at') (give-takes _ []))))
form-takes _ _ (IsForm.drop k c n x is collection at) = opened (w "drop") _ opens-drop k is (c ∷ n ∷ []) _
    (expect-takes (w "collection") refl c collection (accept-takes _ _ _ (is-placed_name n x at) (give-takes _ [])))
form-takes _ _ (IsForm.begin k is) = opened (w "begin") _ opens-begin k is [] _ (skip-takes _ _ _ _ [] tt (give-takes _ []))
form-takes _ _ (IsForm.begin_retry k r n times is retry at low high) = opened (w "begin") _ opens-begin k is (r ∷ n ∷ []) _
    (accept-takes _ _ _ (is-exactly (w "retry") r refl retry) (accept-takes _ _ _ (is-times_of n times at low high) (give-takes _ [])))
form-takes _ _ (IsForm.commit k is) = opened (w "commit") _ opens-commit k is [] _ (skip-takes _ _ _ _ [] tt (give-takes _ []))
form-takes _ _ (IsForm.commit_anyway k a is anyway) = opened (w "commit") _ opens-commit k is (a ∷ []) _
    (accept-takes _ _ _ (is-exactly (w "anyway") a refl anyway) (give-takes _ []))
form-takes _ _ (IsForm.abort k is) = opened (w "abort") _ opens-abort k is [] _ (give-takes _ [])
