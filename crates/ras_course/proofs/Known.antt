-- What is known of a statement, over each database that is seen and from one phase to the next.
use Rattle.std.proofs.Common.{◌≡◌, ◌≢◌, ℕ, suc, ◌≤◌, inl, inr, false, List, [], ◌++◌, Option, Some, None, Ok, Err, refl, sym, ap, ◌∙◌, subst, arith}
use Rattle.std.proofs.lemmas.Bool.{cases_eq}
use Rattle.std.proofs.lemmas.List.{append-nil}
use Rattle.ras_course.specs.Courses.{HasCheck, HasRows, IsComeTo, IsKnown, IsKnownTo}
use Rattle.ras_course.specs.declared.course.Course.{Course}
use Rattle.ras_course.proofs.Replies.{passing_fits, reply_fits}
use Rattle.ras_eval.specs.Seen.{too_many_locks}
use Rattle.ras_reach.proofs.AskedReplies.{reply_as_checked}
use Rattle.ras_reach.specs.Asked.{asked_at}
use Rattle.ras_syntax.specs.declared.statement.Statement.{Statement}
use Rattle.ras_syntax.specs.declared.types.SetType.{SetType}
use Rattle.ras_syntax.specs.declared.typed.Checked.{Checked}
use Rattle.spec_expressions.specs.Database.{Database}
use Rattle.spec_shown.specs.Shown.{IsPartOf}
use Rattle.spec_statements.specs.Locks.{Lock}
use Rattle.spec_statements.specs.Machine.{checked_over, first_list, is_too_long, needs_of, reply_of}
use Rattle.spec_statements.specs.ReachLaw.{AreNamedIn, IsSetting}
use Rattle.spec_statements.specs.Statement.{statement_tree_of}
use Rattle.spec_statements.specs.Validity.{IsValidFor}
use Rattle.spec_views.specs.Holdings.{Holdings, IsSeenBy, StandsFor, lists_before, passing_by}
use Rattle.law_views.proofs.Seen.{earlier_listed, listed_before, seen_answers, seen_check, seen_passing}
use Rattle.law_views.proofs.Standing.{stands-fewer}

-- ---- what is seen

module _ (types : List SetType) (statement : Statement) (holdings : Holdings) (database : Database) where
  -- of a phase that asks for nothing there is nothing to see
  pub seen_next : (phase : ℕ) → needs_of types statement phase database ≡ [] → IsSeenBy types holdings statement phase database
      → IsSeenBy types holdings statement (suc phase) database
  seen_next phase none seen = record {
    valid = seen.valid;
    stands = subst (λ l. StandsFor types holdings l database)
        (sym (ap (λ l. lists_before types statement phase database ++ l) none ∙ append-nil (lists_before types statement phase database))) seen.stands;
  }

  fewer-listed : (phase later : ℕ) → phase ≤ later → AreNamedIn (lists_before types statement phase database) (lists_before types statement later database)
  fewer-listed phase later few name named =
      let found = listed_before types statement database phase name named in
      earlier_listed types statement database found.0 later (omega (arith, found.1, few)) name found.2

  -- what is seen up to a phase is seen up to each earlier one
  pub seen_earlier : (phase later : ℕ) → phase ≤ later → IsSeenBy types holdings statement later database → IsSeenBy types holdings statement phase database
  seen_earlier phase later few seen = record {
    valid = seen.valid;
    stands = stands-fewer types holdings (lists_before types statement phase database) (lists_before types statement later database) database (fewer-listed phase later few) seen.stands;
  }

-- ---- a course begins

-- nothing is known at first, over any database
pub known_at_first : (types : List SetType) (statement : Statement) (database : Database) → IsKnownTo types statement 1 None None database
known_at_first types statement database =
    record { some = omega arith; within = omega arith; short = λ later. absurd (omega (arith, later)); has_check = omega arith; has_rows = omega arith }

seen-at_first : (types : List SetType) (statement : Statement) (holdings : Holdings) (database : Database) → IsValidFor types database
    → IsSeenBy types holdings statement 1 database
seen-at_first types statement holdings database valid = record { valid = valid; stands = λ name named. absurd (omega (arith, named.1.1)) }

pub come_at_first : (types : List SetType) (statement : Statement) (holdings : Holdings) (database : Database) → IsSetting types statement database
    → IsPartOf types holdings database → IsComeTo types statement holdings (record { next = 1; checked = None; rows = None }) database
come_at_first types statement holdings database setting part =
    record { setting = setting; seen = seen-at_first types statement holdings database setting.valid; part = part; known = known_at_first types statement database }

-- ---- over each database that is seen

module _ (types : List SetType) (statement : Statement) (holdings : Holdings) (next : ℕ) (one other : Database) (setting : IsSetting types statement one)
    (seen : IsSeenBy types holdings statement next one) (also : IsSeenBy types holdings statement next other) (short : 2 ≤ next → is_too_long (first_list statement) ≡ false) where
  check-over : (checked : Option Checked) → HasCheck types statement next checked one → HasCheck types statement next checked other
  check-over None has = has
  check-over (Some checked) has = (
    has.0,
    sym (seen_check types statement holdings one other (short has.0) (seen_earlier types statement holdings one 2 next has.0 seen)
        (seen_earlier types statement holdings other 2 next has.0 also))
        ∙ has.1,
  )

  module _ (checked : Checked) (check : HasCheck types statement next (Some checked) one) where
    passing-over : 4 ≤ next → passing_by (statement_tree_of checked) one ≡ passing_by (statement_tree_of checked) other
    passing-over later =
        seen_passing types statement holdings one other setting checked (short check.0) check.1 (seen_earlier types statement holdings one 4 next later seen)
        (seen_earlier types statement holdings other 4 next later also)

    reply-over : next ≡ 5 → reply_of types statement one ≡ reply_of types statement other
    reply-over last =
        (seen_answers types statement holdings one other setting (subst (λ p. IsSeenBy types holdings statement p one) last seen)
        (subst (λ p. IsSeenBy types holdings statement p other) last also)).0

  rows-over : (checked : Option Checked) (rows : Option (List (ℕ × List ℕ))) → HasCheck types statement next checked one
      → HasRows types statement next checked rows one → HasRows types statement next checked rows other
  rows-over None None check has = has
  rows-over None (Some rows) check has = absurd has
  rows-over (Some checked) None check has = (has.0, λ fourth stop. has.1 fourth (passing-over checked check (omega (arith, fourth)) ∙ stop))
  rows-over (Some checked) (Some rows) check has =
      (has.0, sym (passing-over checked check has.0) ∙ has.1, λ last same. has.2 last (reply-over checked check last ∙ same))

  pub known_over : (checked : Option Checked) (rows : Option (List (ℕ × List ℕ))) → IsKnownTo types statement next checked rows one
      → IsKnownTo types statement next checked rows other
  known_over checked rows known = record {
    some = known.some;
    within = known.within;
    short = known.short;
    has_check = check-over checked known.has_check;
    has_rows = rows-over checked rows known.has_check known.has_rows;
  }

-- a course's
pub course_over : (types : List SetType) (statement : Statement) (holdings : Holdings) (course : Course) (one other : Database)
    → IsComeTo types statement holdings course one → IsSeenBy types holdings statement course.next other → IsKnown types statement course other
course_over types statement holdings course one other come also =
    known_over types statement holdings course.next one other come.setting come.seen also come.known.short course.checked course.rows come.known

-- ---- from one phase to the next

module _ (types : List SetType) (statement : Statement) (database : Database) where
  -- behind the first
  check-at_first : (phase : ℕ) (checked : Option Checked) → phase ≡ 1 → HasCheck types statement phase checked database
      → HasCheck types statement (suc phase) checked database
  check-at_first phase None first has = omega (arith, first)
  check-at_first phase (Some checked) first has = absurd (omega (arith, first, has.0))

  rows-at_first : (phase : ℕ) (checked : Option Checked) (rows : Option (List (ℕ × List ℕ))) → phase ≡ 1 → HasRows types statement phase checked rows database
      → HasRows types statement (suc phase) checked rows database
  rows-at_first phase None None first has = omega (arith, first)
  rows-at_first phase None (Some rows) first has = has
  rows-at_first phase (Some checked) None first has = (omega (arith, first), λ fourth. absurd (omega (arith, first, fourth)))
  rows-at_first phase (Some checked) (Some rows) first has = absurd (omega (arith, first, has.0))

  pub known_behind_first : (phase : ℕ) (checked : Option Checked) (rows : Option (List (ℕ × List ℕ))) → phase ≡ 1 → is_too_long (first_list statement) ≡ false
      → IsKnownTo types statement phase checked rows database → IsKnownTo types statement (suc phase) checked rows database
  known_behind_first phase checked rows first short known = record {
    some = omega arith;
    within = omega (arith, first);
    short = λ later. short;
    has_check = check-at_first phase checked first known.has_check;
    has_rows = rows-at_first phase checked rows first known.has_rows;
  }

  -- behind each later one, whose list was asked for
  module _ (phase : ℕ) (checked : Checked) (list : List Lock) (later : 2 ≤ phase) (within : phase ≤ 4) (short : is_too_long (first_list statement) ≡ false)
      (check : checked_over types statement database ≡ Ok checked) (asked : asked_at phase (statement_tree_of checked) database ≡ Ok list) where
    reply-fits : suc phase ≡ 5 → reply_of types statement database ≢ too_many_locks (statement_tree_of checked)
    reply-fits last same =
        let fourth : phase ≡ 4 = omega (arith, last) in
        reply_fits (statement_tree_of checked) database phase list fourth asked (sym (reply_as_checked types statement checked database short check) ∙ same)

    passing-fits : suc phase ≡ 4 → passing_by (statement_tree_of checked) database ≢ Err (too_many_locks (statement_tree_of checked))
    passing-fits fourth =
        let third : phase ≡ 3 = omega (arith, fourth) in
        passing_fits (statement_tree_of checked) database phase list third asked

    rows-behind : (rows : Option (List (ℕ × List ℕ))) → (phase ≡ 4 → rows ≢ None) → HasRows types statement phase (Some checked) rows database
        → HasRows types statement (suc phase) (Some checked) rows database
    rows-behind None some has =
        let before : suc phase ≤ 4 = elim (cases_eq phase 4) [ inl fourth ↦ absurd (some fourth refl) | inr differs ↦ omega (arith, within, differs) ] in
        (before, passing-fits)
    rows-behind (Some rows) some has = (omega (arith, has.0), has.1, reply-fits)

    pub known_behind : (rows : Option (List (ℕ × List ℕ))) → (phase ≡ 4 → rows ≢ None) → IsKnownTo types statement phase (Some checked) rows database
        → IsKnownTo types statement (suc phase) (Some checked) rows database
    known_behind rows some known = record {
      some = omega arith;
      within = omega (arith, within);
      short = λ _. short;
      has_check = (omega (arith, later), check);
      has_rows = rows-behind rows some known.has_rows;
    }
