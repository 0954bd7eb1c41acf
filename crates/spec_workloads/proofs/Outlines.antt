-- What every outline has: types that may be declared, few statements and sessions, and sessions with names of their own.
use Rattle.std.proofs.Common.{◌≡◌, ◌≢◌, ℕ, ◌<◌, ◌≤◌, nat_lt, Bool, true, false, not, List, [], ◌∷◌, ◌++◌, length, length-append, length-drop, map, drop, Option, Some, None, Result, Ok, Err, All, refl, sym, ap, ◌∙◌, subst, arith}
use Rattle.std.proofs.lemmas.Bool.{ltb-true}
use Rattle.std.proofs.lemmas.List.{length-map}
use Rattle.std.proofs.lemmas.List.Elements.{All-append, All-cons, All-from_recursion, All-nil}
use Rattle.ras_cells.specs.Outcomes.{◌>>=◌}
use Rattle.ras_syntax.specs.declared.types.Script.{Script}
use Rattle.ras_syntax.specs.declared.types.SetType.{SetType}
use Rattle.spec_expressions.specs.SetTypes.{AreTypes}
use Rattle.spec_grammar.specs.Tokens.{Text, is_same}
use Rattle.law_lists.proofs.Each.{each_weaker, none_passes}
use Rattle.ras_syntax.specs.declared.limits.TheConstants.{MAX_SESSIONS, MAX_STATEMENTS}
use Rattle.spec_workloads.specs.Outline.{Due, Heading, IsOutline, Outline, OutlineFault, all, bad_heading, bad_type, begun_pieces, begun_with, closed_before, end, heading_of}
use Rattle.spec_workloads.specs.Outline.{is_taken, may_have_setup, may_have_types, no_outline, none_beyond, nothing_behind, outline_after, outline_in, outline_of, provided, session}
use Rattle.spec_workloads.specs.Outline.{session_due, sessions_on, setup, setup_on, section_statements, title, titled, too_many_sessions, types, types_after, types_of, unknown}
use Rattle.spec_workloads.specs.Outline.{with_section, with_type}
use Rattle.spec_workloads.specs.Sections.{Piece, Pieces, Section, headed, pieces_of}
use Rattle.spec_workloads.specs.TypeLines.{may_be_declared, type_of_line}
use Rattle.spec_workloads.proofs.Declared.{AllPairs-behind, differ, not-true, types-more}

-- ---- one after the other

-- where a result goes on to a value, it is one
pub bind_ok : {A B E : Type 0} (r : Result A E) (f : A → Result B E) (y : B) → (r >>= f) ≡ Ok y → (x : A) × (r ≡ Ok x) × (f x ≡ Ok y)
bind_ok (Ok x) f y is = (x, refl, is)
bind_ok (Err e) f y is = absurd cc

pub ok_same : {A E : Type 0} (x y : A) → (let r : Result A E = Ok x in r ≡ Ok y) → x ≡ y
ok_same x y is = cc

provided_ok : {A : Type 0} (b : Bool) (fault : OutlineFault) (r : Result A OutlineFault) (y : A) → provided b fault r ≡ Ok y → (b ≡ true) × (r ≡ Ok y)
provided_ok true fault r y is = (refl, is)
provided_ok false fault r y is = absurd cc

-- ---- the bodies of sections

closed-same : {A : Type 0} (rest : Text) (later : List Section) (x y : A) → closed_before rest later x ≡ Ok y → (rest ≡ []) × (x ≡ y)
closed-same [] later x y is = (refl, ok_same x y is)
closed-same (b ∷ bytes) [] x y is = absurd cc
closed-same (b ∷ bytes) (section ∷ later) x y is = absurd cc

with_type-are : (earlier : List SetType) (line : ℕ) (found : Option SetType) (more : List SetType) → AreTypes earlier → with_type earlier line found ≡ Ok more → AreTypes more
with_type-are earlier line None more are is = absurd cc
with_type-are earlier line (Some of) more are is =
    let (may, rest) = provided_ok (may_be_declared earlier of) (bad_type line) (Ok (earlier ++ of ∷ [])) more is in
    subst AreTypes (ok_same (earlier ++ of ∷ []) more rest) (types-more earlier of may are)

types_after-are : (earlier : List SetType) (pieces : List Piece) (found : List SetType) → AreTypes earlier → types_after earlier pieces ≡ Ok found → AreTypes found
types_after-are earlier [] found are is = subst AreTypes (ok_same earlier found is) are
types_after-are earlier (piece ∷ pieces) found are is =
    let (more, one, others) = bind_ok (with_type earlier piece.line (type_of_line piece.text)) (λ more. types_after more pieces) found is in
    types_after-are more pieces found (with_type-are earlier piece.line (type_of_line piece.text) more are one) others

no_types : AreTypes []
no_types = record { each = λ k d within. absurd (omega arith); few = omega arith; names_differ = λ i j d below within. absurd (omega arith) }

types_of-are : (section : Section) (later : List Section) (found : List SetType) → types_of section later ≡ Ok found → AreTypes found
types_of-are section later found is =
    let (all_types, one, closed) = bind_ok (types_after [] (pieces_of section).closed) (λ found. closed_before (pieces_of section).rest.text later found) found is in
    subst AreTypes (closed-same (pieces_of section).rest.text later all_types found closed).1 (types_after-are [] (pieces_of section).closed all_types no_types one)

few_begun : (pieces : List Piece) (found : List Text) → none_beyond (drop MAX_STATEMENTS pieces) ≡ Ok found → length pieces ≤ MAX_STATEMENTS
few_begun pieces found is = at (drop MAX_STATEMENTS pieces) refl is
  where
    at : (behind : List Piece) → drop MAX_STATEMENTS pieces ≡ behind → none_beyond behind ≡ Ok found → length pieces ≤ MAX_STATEMENTS
    at [] none is = omega (arith, sym (length-drop MAX_STATEMENTS pieces) ∙ ap length none)
    at (piece ∷ behind) none is = absurd cc

few_closed : (pieces : Pieces) → length (begun_pieces pieces) ≤ MAX_STATEMENTS → length (map (λ piece. piece.text) pieces.closed) ≤ MAX_STATEMENTS
few_closed pieces few = simp length-map (at pieces.rest.text few)
  where
    at : (rest : Text) → length (begun_with rest pieces) ≤ MAX_STATEMENTS → length pieces.closed ≤ MAX_STATEMENTS
    at [] few = few
    at (b ∷ bytes) few = omega (arith, length-append pieces.closed (pieces.rest ∷ []), few)

section_statements-few : (section : Section) (later : List Section) (found : List Text) → section_statements section later ≡ Ok found → length found ≤ MAX_STATEMENTS
section_statements-few section later found is =
    let pieces : Pieces = pieces_of section in
    let texts : List Text = map (λ piece. piece.text) pieces.closed in
    let (none, few, closed) = bind_ok (none_beyond (drop MAX_STATEMENTS (begun_pieces pieces))) (λ few. closed_before pieces.rest.text later texts) found is in
    subst (λ list. length list ≤ MAX_STATEMENTS) (closed-same pieces.rest.text later texts found closed).1 (few_closed pieces (few_begun (begun_pieces pieces) none few))

-- ---- sections in their order

session-free : (line : ℕ) (name : Text) (scripts : List Script) (free : Text) → session_due line name scripts ≡ Ok free
    → (length scripts < MAX_SESSIONS) × All (λ script. script.name ≢ free) scripts
session-free line name scripts free is =
    let (room, rest) = provided_ok (nat_lt (length scripts) MAX_SESSIONS) (too_many_sessions line)
    (provided (not (is_taken name scripts)) (bad_heading line) (Ok name)) free is in
    let (unused, last) = provided_ok (not (is_taken name scripts)) (bad_heading line) (Ok name) free rest in (
      ltb-true (length scripts) MAX_SESSIONS room,
      subst (λ n. All (λ script. script.name ≢ n) scripts) (ok_same name free last)
          (All-from_recursion (λ script. script.name ≢ name) scripts
          (each_weaker (λ script. is_same script.name name ≡ false) (λ script. script.name ≢ name) (λ script. differ script.name name) scripts
          (none_passes (λ script. is_same script.name name) scripts (not-true (is_taken name scripts) unused)))),
    )

with_script : (outline : Outline) (free : Text) (found : List Text) → IsOutline outline → length outline.scripts < MAX_SESSIONS
    → All (λ script. script.name ≢ free) outline.scripts → length found ≤ MAX_STATEMENTS
    → IsOutline (record outline { scripts = outline.scripts ++ record { name = free; statements = found } ∷ [] })
with_script outline free found is room names few = record {
  types = is.types;
  few_in_setup = is.few_in_setup;
  few_sessions = simp length-append (omega (arith, room));
  few_in_sessions = All-append (λ script. length script.statements ≤ MAX_STATEMENTS) outline.scripts (script ∷ []) is.few_in_sessions
      (All-cons (λ script. length script.statements ≤ MAX_STATEMENTS) script [] few (All-nil (λ script. length script.statements ≤ MAX_STATEMENTS)));
  names_differ = AllPairs-behind (λ a b. a.name ≢ b.name) outline.scripts script is.names_differ names;
}
  where
    script : Script
    script = record { name = free; statements = found }

-- what goes on from outlines of this kind gives one
with_section-is : (due : Due) (outline : Outline) (section : Section) (later : List Section) (heading : Heading)
    (goes_on : Due → Outline → Result (Outline × ℕ) OutlineFault) (found : Outline × ℕ) → IsOutline outline
    → ((next : Due) (more : Outline) → IsOutline more → goes_on next more ≡ Ok found → IsOutline found.0)
    → with_section due outline section later heading goes_on ≡ Ok found → IsOutline found.0
with_section-is due outline section later end goes_on found is then is_found =
    subst (λ f. IsOutline f.0) (ok_same (outline, section.behind) found is_found) is
with_section-is due outline section later unknown goes_on found is then is_found = absurd cc
with_section-is due outline section later types goes_on found is then is_found =
    let next : List SetType → Result (Outline × ℕ) OutlineFault = λ declared. goes_on setup_on (record outline { types = declared }) in
    let (may, behind) = provided_ok (may_have_types due) (bad_heading section.line) (types_of section later >>= next) found is_found in
    let (declared, one, rest) = bind_ok (types_of section later) next found behind in
    then setup_on (record outline { types = declared }) (record {
      types = types_of-are section later declared one;
      few_in_setup = is.few_in_setup;
      few_sessions = is.few_sessions;
      few_in_sessions = is.few_in_sessions;
      names_differ = is.names_differ;
    }) rest
with_section-is due outline section later setup goes_on found is then is_found =
    let next : List Text → Result (Outline × ℕ) OutlineFault = λ texts. goes_on sessions_on (record outline { setup = texts }) in
    let (may, behind) = provided_ok (may_have_setup due) (bad_heading section.line) (section_statements section later >>= next) found is_found in
    let (texts, one, rest) = bind_ok (section_statements section later) next found behind in
    then sessions_on (record outline { setup = texts }) (record {
      types = is.types;
      few_in_setup = section_statements-few section later texts one;
      few_sessions = is.few_sessions;
      few_in_sessions = is.few_in_sessions;
      names_differ = is.names_differ;
    }) rest
with_section-is due outline section later (session name) goes_on found is then is_found =
    let (free, one, rest) = bind_ok (session_due section.line name outline.scripts) (λ free. section_statements section later >>= λ found.
    goes_on sessions_on (record outline { scripts = outline.scripts ++ record { name = free; statements = found } ∷ [] })) found is_found in
    let (texts, two, last) = bind_ok (section_statements section later)
    (λ found. goes_on sessions_on (record outline { scripts = outline.scripts ++ record { name = free; statements = found } ∷ [] })) found rest in
    let room = session-free section.line name outline.scripts free one in
    then sessions_on (record outline { scripts = outline.scripts ++ record { name = free; statements = texts } ∷ [] })
    (with_script outline free texts is room.0 room.1 (section_statements-few section later texts two)) last

after-is : (due : Due) (outline : Outline) (sections : List Section) (found : Outline × ℕ) → IsOutline outline → outline_after due outline sections ≡ Ok found → IsOutline found.0
after-is due outline [] found is is_found = absurd cc
after-is due outline (section ∷ later) found is is_found =
    with_section-is due outline section later (heading_of section.heading) (λ next more. outline_after next more later) found is
    (λ next more is_more rest. after-is next more later found is_more rest) is_found

nothing : IsOutline no_outline
nothing = record {
  types = no_types;
  few_in_setup = omega arith;
  few_sessions = omega arith;
  few_in_sessions = λ k d within. absurd (omega arith);
  names_differ = λ i j d below within. absurd (omega arith);
}

titled-is : (section : Section) (later : List Section) (found : Outline × ℕ) → titled section later ≡ Ok found → IsOutline found.0
titled-is section later found is =
    let next : ℕ → Result (Outline × ℕ) OutlineFault = λ behind. outline_after all no_outline later in
    let (same, rest) = provided_ok (is_same section.heading title) (bad_heading 1) (nothing_behind section >>= next) found is in
    let (behind, one, last) = bind_ok (nothing_behind section) next found rest in
    after-is all no_outline later found nothing last

pub outlines-are : (text : Text) (found : Outline × ℕ) → outline_of text ≡ Ok found → IsOutline found.0
unfolding outline_of
outlines-are text found is = at (headed text).front (headed text).sections is
  where
    at : (front : Text) (sections : List Section) → outline_in front sections ≡ Ok found → IsOutline found.0
    at [] (section ∷ later) is = titled-is section later found is
    at [] [] is = absurd cc
    at (b ∷ bytes) sections is = absurd cc
