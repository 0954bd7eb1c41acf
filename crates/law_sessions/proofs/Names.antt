-- The names in a text's statement are names. So the collection of each lock that it needs has one.
use Rattle.std.proofs.Common.{◌≡◌, ℕ, zero, suc, ◌+◌, ◌-◌, Bool, true, false, not, ◌&&◌, ◌||◌, if◌then◌else◌, List, [], ◌∷◌, ◌++◌, length, Option, Some, None, Ok, refl, ap, ◌∙◌, subst}
use Rattle.std.specs.Prelude.{IsTrue, codes, drop, find, pos, take_while}
use Rattle.std.specs.List.{AllByRecursion, list_all}
use Rattle.std.proofs.lemmas.List.Sums.{take_while-cons}
use Rattle.ras_cells.specs.declared.atom.Atom.{Atom}
use Rattle.ras_cells.specs.Atoms.{is_in_range}
use Rattle.ras_domain.specs.declared.lock.LockName.TheVariants.{Collection}
use Rattle.ras_domain.specs.declared.lock.Mode.TheVariants.{Shared, Exclusive}
use Rattle.ras_syntax.specs.declared.faults.SyntaxFault.TheVariants.{Unexpected, FloatRefused}
use Rattle.ras_syntax.specs.declared.span.Spanned.{Spanned}
use Rattle.ras_syntax.specs.declared.statement.SourceName.{SourceName}
use Rattle.ras_syntax.specs.declared.statement.Statement.{Statement}
use Rattle.ras_syntax.specs.declared.statement.StatementForm.{StatementForm}
use Rattle.ras_syntax.specs.declared.types.SetType.{SetType}
use Rattle.ras_syntax.specs.declared.typed.CheckedSource.{CheckedSource}
use Rattle.spec_grammar.specs.Tokens.{Text, first_is, is_digit, begins_name, continues_name, begins_with, is_one_of, in_small_letters, reserved_words, float_names, TokenKind, Token, Found, nothing, good, bad, signs, space_length, after_space, name_at, suffix_of, value_of, is_float_mark, number_with, token_at, Lexed, and_then, lexed_from}
use Rattle.spec_grammar.specs.Grammar.{IsAt, IsCommaList, IsForm, IsName, IsSource}
use Rattle.spec_grammar.specs.Verdict.{IsVerdict}
use Rattle.spec_expressions.specs.Database.{Database}
use Rattle.spec_statements.specs.Locks.{Lock}
use Rattle.spec_statements.specs.Machine.{first_list, is_too_long, needs_of, read_lock, wanted_at_first}
use Rattle.spec_statements.specs.Phases.{needs_2, needs_3, needs_4}
use Rattle.spec_statements.specs.Rows.{Row, sources_of}
use Rattle.spec_statements.specs.Statement.{Request, statement_tree_of, select, insert, delete, update, create, drop as dropped}
use Rattle.spec_workloads.specs.Outline.{is_name}
use Rattle.spec_sessions.specs.Printable.{LockHasText}
use Rattle.law_lists.proofs.Choices.{either_way}
use Rattle.law_lists.proofs.Each.{append_all, each_contained, each_found, each_map, each_weaker, split_all}
use Rattle.law_effects.proofs.Checked.{IsCheckedOver, statement_checked}
use Rattle.law_effects.proofs.LockNames.{each-lock_list}
use Rattle.law_effects.proofs.Phases.{EachName, OfDomains, OfTiles, later_each, needs_2-each, needs_3-each, needs_4-each}

-- ---- tokens

-- a token that is a name has one
abbrev IsNamed : TokenKind → Type 0
IsNamed (TokenKind.name text) = IsTrue (is_name text)
IsNamed (TokenKind.word text) = Unit {0}
IsNamed (TokenKind.number z atom) = Unit {0}
IsNamed (TokenKind.sign text) = Unit {0}

abbrev AreNamed : List Token → Type 0
AreNamed = AllByRecursion (λ t. IsNamed t.kind)

abbrev IsFoundNamed : Found → Type 0
IsFoundNamed nothing = Unit {0}
IsFoundNamed (good t) = IsNamed t.kind
IsFoundNamed (bad fault) = Unit {0}

taken_all : (p : ℕ → Bool) (bytes : Text) → list_all p (take_while p bytes) ≡ true
taken_all p [] = refl
taken_all p (b ∷ bytes) = ap (list_all p) (take_while-cons p b bytes) ∙ at (p b) refl (taken_all p bytes)
  where
    at : (c : Bool) → p b ≡ c → list_all p (take_while p bytes) ≡ true → list_all p (if c then b ∷ take_while p bytes else []) ≡ true
    at true is later = ap (λ c. c && list_all p (take_while p bytes)) is ∙ later
    at false is later = refl

begins-continues : (b : ℕ) → begins_name b ≡ true → continues_name b ≡ true
begins-continues b is = or-true (begins_name b) (is_digit b) is
  where
    or-true : (x y : Bool) → x ≡ true → (x || y) ≡ true
    or-true true y is = refl
    or-true false y is = absurd cc

first_taken : (b : ℕ) (bytes : Text) → begins_name b ≡ true → first_is begins_name (take_while continues_name (b ∷ bytes)) ≡ true
first_taken b bytes is =
    ap (first_is begins_name) (take_while-cons continues_name b bytes)
    ∙ ap (λ c. first_is begins_name (if c then b ∷ take_while continues_name bytes else [])) (begins-continues b is) ∙ is

name_at-named : (place : ℕ) (text rest : Text) → first_is begins_name text ≡ true → list_all continues_name text ≡ true → IsFoundNamed (name_at place text rest)
name_at-named place text rest first all =
    either_way IsFoundNamed (is_one_of reserved_words (in_small_letters text)) _ _ (λ e. tt)
    (λ other. either_way IsFoundNamed (is_one_of float_names text) _ _ (λ e. tt)
    (λ e. either_way IsFoundNamed (begins_with (codes "(") (after_space rest)) _ _ (λ e. tt)
    (λ e. (λ i. first i && all i && not (other i)))))

number_with-named : (place : ℕ) (digits : Text) (suffix : Text × Atom) (rest : Text) → IsFoundNamed (number_with place digits suffix rest)
number_with-named place digits suffix rest =
    either_way IsFoundNamed (not (is_in_range suffix.1 (pos (value_of digits)))) _ _ (λ e. tt)
    (λ within. either_way IsFoundNamed (is_float_mark rest) _ _ (λ e. tt)
    (λ e. either_way IsFoundNamed (first_is begins_name rest) _ _ (λ e. tt) (λ e. tt)))

sign_named : (place : ℕ) (text : Text) (found : Option Text) → IsFoundNamed (elim found as (λ x. Found) [
  | Some s ↦ good (record { kind = TokenKind.sign s; from = place; to = place + length s })
  | None ↦ if begins_with (codes "/") text then bad (FloatRefused place) else bad (Unexpected place)
])
sign_named place text (Some s) = tt
sign_named place text None = either_way IsFoundNamed (begins_with (codes "/") text) _ _ (λ e. tt) (λ e. tt)

token_at-named : (place : ℕ) (text : Text) → IsFoundNamed (token_at place text)
token_at-named place [] = tt
token_at-named place (b ∷ bytes) =
    either_way IsFoundNamed (begins_name b) _ _
    (λ begins. name_at-named place (take_while continues_name (b ∷ bytes)) (drop (length (take_while continues_name (b ∷ bytes))) (b ∷ bytes))
    (first_taken b bytes begins) (taken_all continues_name (b ∷ bytes)))
    (λ e. either_way IsFoundNamed (is_digit b) _ _
    (λ e. let rest : Text = drop (length (take_while is_digit (b ∷ bytes))) (b ∷ bytes) in
    number_with-named place (take_while is_digit (b ∷ bytes)) (suffix_of rest) (drop (length (suffix_of rest).0) rest))
    (λ e. sign_named place (b ∷ bytes) (find (λ s. begins_with s (b ∷ bytes)) signs)))

lexed_from-named : (most place : ℕ) (text : Text) → AreNamed (lexed_from most place text).tokens
lexed_from-named zero place text = tt
lexed_from-named (suc most) place text =
    go (token_at (place + space_length false text) (after_space text)) (token_at-named (place + space_length false text) (after_space text))
    (λ p t. lexed_from-named most p t)
  where
    go : (found : Found) → IsFoundNamed found → ((p : ℕ) (t : Text) → AreNamed (lexed_from most p t).tokens)
        → AreNamed (elim found as (λ x. Lexed) [
          | nothing ↦ record { tokens = []; fault = None }
          | good t ↦ and_then t (lexed_from most t.to (drop (t.to - place) text))
          | bad fault ↦ record { tokens = []; fault = Some fault }
        ]).tokens
    go nothing named rest = tt
    go (good t) named rest = (named, rest t.to (drop (t.to - place) text))
    go (bad fault) named rest = tt

-- ---- statements

abbrev HasName : Spanned → Type 0
HasName x = IsTrue (is_name x.name)

name-named : (t : Token) (x : Spanned) → IsName t x → IsNamed t.kind → HasName x
name-named t x is named = subst IsNamed is.0 named

source-named : {ts : List Token} {x : SourceName} → IsSource ts x → AreNamed ts → HasName x.collection
source-named (IsSource.source n collection is iterator) named = name-named n collection is named.0

sources-named : {ts : List Token} {xs : List SourceName} → IsCommaList IsSource ts xs → AreNamed ts → AllByRecursion (λ x. HasName x.collection) xs
sources-named (IsCommaList.first h) named = (source-named h named, tt)
sources-named (IsCommaList.more {ts = us} {us = vs} {xs = xs} {x = x} c hs comma h) named =
    let both = split_all (λ t. IsNamed t.kind) us (c ∷ vs) named in
    append_all (λ x. HasName x.collection) xs (x ∷ []) (sources-named hs both.0) (source-named h both.1.1, tt)

abbrev pub AreLockNames : List Lock → Type 0
AreLockNames = EachName LockHasText

wanted-named : {ts : List Token} {form : StatementForm} → IsForm IsAt ts form → AreNamed ts → AreLockNames (wanted_at_first form)
wanted-named (IsForm.select k is h) named = tt
wanted-named (IsForm.select_from {ts = us} {us = vs} {vs = ws} {sources = sources} k g is h from each cond) named =
    let front = split_all (λ t. IsNamed t.kind) (us ++ g ∷ vs) ws named.1 in
    let both = split_all (λ t. IsNamed t.kind) us (g ∷ vs) front.0 in
    each_map (λ x. HasName x.collection) (λ lock. LockHasText lock.0) read_lock (λ x named. named) sources (sources-named each both.1.1)
wanted-named (IsForm.insert {ts = us} k i n v x is into named' values h) named = (name-named n x named' named.1.1.0, tt)
wanted-named (IsForm.delete {ts = us} {us = vs} k g is from one cond) named =
    (source-named one (split_all (λ t. IsNamed t.kind) us vs named.1.1).0, tt)
wanted-named (IsForm.update {ts = us} {us = vs} {vs = ws} {ws = xs} k s' n a x is of set named' axes assign h cond) named =
    let front = split_all (λ t. IsNamed t.kind) (us ++ s' ∷ n ∷ vs ++ a ∷ ws) xs named.1 in
    let middle = split_all (λ t. IsNamed t.kind) (us ++ s' ∷ n ∷ vs) (a ∷ ws) front.0 in
    (source-named of (split_all (λ t. IsNamed t.kind) us (s' ∷ n ∷ vs) middle.0).0, tt)
wanted-named (IsForm.create k c n t x y is collection named' typed) named = (name-named n x named' named.1.1.0, tt)
wanted-named (IsForm.drop k c n x is collection named') named = (name-named n x named' named.1.1.0, tt)
wanted-named (IsForm.begin k is) named = tt
wanted-named (IsForm.begin_retry k r n times is retry number some few) named = tt
wanted-named (IsForm.commit k is) named = tt
wanted-named (IsForm.commit_anyway k a is anyway) named = tt
wanted-named (IsForm.abort k is) named = tt

-- what the first phase of a text's statement may ask for
pub text-named : (text : Text) (statement : Statement) → IsVerdict text (Ok statement) → AreLockNames (wanted_at_first statement.form)
text-named text statement (IsVerdict.statement form none is light) = wanted-named is (lexed_from-named (length text) 0 text)

-- ---- the locks of all phases

abbrev SourceNamed : CheckedSource → Type 0
SourceNamed source = IsTrue (is_name source.collection)

-- what a request has of the collections that were wanted before its check
checked_sources : (types : List SetType) (database : Database) (wanted : List Lock) (request : Request) → AreLockNames wanted → IsCheckedOver types database wanted request
    → AllByRecursion SourceNamed (sources_of request)
checked_sources types database wanted (select body sources condition) named checked =
    each_weaker _ SourceNamed (λ source is. each_contained (λ lock. LockHasText lock.0) wanted (Collection source.collection, Shared) named is.0) sources checked
checked_sources types database wanted (insert into of body) named checked = tt
checked_sources types database wanted (delete source condition) named checked =
    (each_contained (λ lock. LockHasText lock.0) wanted (Collection source.collection, Exclusive) named checked.0, tt)
checked_sources types database wanted (update source axes target body condition) named checked =
    (each_contained (λ lock. LockHasText lock.0) wanted (Collection source.collection, Shared) named checked.0, tt)
checked_sources types database wanted (create name of) named checked = tt
checked_sources types database wanted (dropped name) named checked = tt

module _ (types : List SetType) (statement : Statement) (database : Database) (named : AreLockNames (wanted_at_first statement.form)) where
  of_domains : (sources : List CheckedSource) → AllByRecursion SourceNamed sources → (row : Row) → OfDomains LockHasText sources row
  of_domains sources all row source member at = each_found SourceNamed sources at.0 source all at.1

  of_tiles : (sources : List CheckedSource) → AllByRecursion SourceNamed sources → (row : Row) → OfTiles LockHasText sources row
  of_tiles sources all row source member place at = each_found SourceNamed sources at.0 source all at.1

  pub needs-named : (phase : ℕ) → AreLockNames (needs_of types statement phase database)
  needs-named zero = tt
  needs-named (suc zero) =
      either_way AreLockNames (is_too_long (first_list statement)) [] (first_list statement) (λ long. tt)
      (λ short. each-lock_list LockHasText (wanted_at_first statement.form) named)
  needs-named (suc (suc zero)) = later_each AreLockNames needs_2 types statement database tt (λ short checked is.
      let all = checked_sources types database (wanted_at_first statement.form) (statement_tree_of checked).request named (statement_checked types database statement checked is) in
      needs_2-each LockHasText (statement_tree_of checked) database (of_domains (sources_of (statement_tree_of checked).request) all))
  needs-named (suc (suc (suc zero))) = later_each AreLockNames needs_3 types statement database tt (λ short checked is.
      let all = checked_sources types database (wanted_at_first statement.form) (statement_tree_of checked).request named (statement_checked types database statement checked is) in
      needs_3-each LockHasText (statement_tree_of checked) database (λ rows are row has. of_tiles (sources_of (statement_tree_of checked).request) all row.1))
  needs-named (suc (suc (suc (suc zero)))) = later_each AreLockNames needs_4 types statement database tt (λ short checked is.
      let all = checked_sources types database (wanted_at_first statement.form) (statement_tree_of checked).request named (statement_checked types database statement checked is) in
      needs_4-each LockHasText (statement_tree_of checked) database (λ rows are row has. of_tiles (sources_of (statement_tree_of checked).request) all row.1)
      (λ rows are row has. of_domains (sources_of (statement_tree_of checked).request) all row.1))
  needs-named (suc (suc (suc (suc (suc phase))))) = tt
