-- A report determines the answer lines and the history, but for the answers whose lines tell of want of memory.
use Rattle.std.proofs.Common.{◌≡◌, ◌≢◌, ℕ, ◌-◌, Bool, true, false, ◌&&◌, ◌==◌, if◌then◌else◌, List, [], ◌∷◌, ◌++◌, filter, flat_map, map, length, Option, Some, None, All, Contains, refl, sym, ap, ◌∙◌, subst, arith}
use Rattle.std.specs.Prelude.{IsTrue, codes, find, nat_le, slice_get}
use Rattle.std.specs.List.{AllByRecursion}
use Rattle.std.proofs.lemmas.Bool.{and_parts, eq-eqb, eqb-true, false≢true}
use Rattle.std.proofs.lemmas.List.{append_assoc}
use Rattle.std.proofs.lemmas.List.Elements.{recursion_from_All}
use Rattle.ras_syntax.specs.declared.answer.Answer.{Answer}
use Rattle.ras_syntax.specs.declared.answer.Answer.TheVariants as answers
use Rattle.ras_syntax.specs.declared.event.Event.{Event}
use Rattle.ras_syntax.specs.declared.event.Event.TheVariants.{Begun, Granted, Refused, Answered, GaveUp, Committed, Aborted}
use Rattle.ras_syntax.specs.declared.types.Script.{Script}
use Rattle.spec_grammar.specs.Tokens.{Text}
use Rattle.spec_histories.specs.History.{nth}
use Rattle.spec_statements.specs.Reply.{Reply, reply_of_answer}
use Rattle.spec_workloads.specs.Outline.{is_name}
use Rattle.spec_sessions.specs.Outcomes.{OutcomeValue}
use Rattle.spec_sessions.specs.Printable.{ArePaired, EventHasText, IsPrintable, TellsOf, all_lines, blank_event, blanked, events_on, is_of, is_out_of_memory, is_recorded, is_untold, lines_on}
use Rattle.spec_sessions.specs.Report.{answers_statement, begins, event_line, line_text, name_or_none, report_text, session_in, session_name, sessions_text_of}
use Rattle.spec_sessions.specs.Walk.{Line, LineReply, aborted, begun, committed, in_transaction, no_statement, no_transaction, out_of_memory, recorded}
use Rattle.law_lists.proofs.Each.{append_all, each_both, each_contained, each_filter, each_itself, each_weaker, none_passes, slice_get-All, split_all}
use Rattle.law_sessions.specs.Numbers.{HasNumbersOfReports, IsReportEvent, IsReportLineReply, IsReportNumber}
use Rattle.law_sessions.specs.Plain.{plain_event, plain_outcome}
use Rattle.law_sessions.proofs.Codes.{IsWordText, same-front, tail_same}
use Rattle.law_sessions.proofs.Determined.{answer-plain}
use Rattle.law_sessions.proofs.EventTexts.{IsGoodEvent, bare_event, history-code, name-word}
use Rattle.law_sessions.proofs.LineTexts.{IsGoodLine, IsGoodShown, a_reply, all-lines-code, shown_event, shown_line, shown_of}

-- ---- the sessions of a report

regroup : (a b c d : Text) → (((a ++ b) ++ c) ++ d) ≡ (a ++ (b ++ (c ++ d)))
regroup a b c d = append_assoc (a ++ b) c d ∙ append_assoc a b (c ++ d)

-- a text that begins with a heading
record IsHeaded (text : Text) : Type 0 where
  behind : Text
  is : text ≡ 35 ∷ behind

module _ (scripts : List Script) (one other : List Event) where
  headed : (history : List Event) (ss : List Script) (lines : List (List Line)) (rest : Text) → IsHeaded (sessions_text_of scripts history ss lines ++ (35 ∷ rest))
  headed history [] lines rest = record { behind = rest; is = refl }
  headed history (s ∷ ss) [] rest = record { behind = rest; is = refl }
  headed history (s ∷ ss) (ls ∷ lines) rest = record { behind = _; is = refl }

  abbrev front : Script → Text
  front s = codes "#session " ++ s.name ++ codes "\n"

  sessions-code : (ss : List Script) (lines more_lines : List (List Line)) (rest more : Text) → length lines ≡ length ss → length more_lines ≡ length ss
      → sessions_text_of scripts one ss lines ++ (35 ∷ rest) ≡ sessions_text_of scripts other ss more_lines ++ (35 ∷ more)
      → AllByRecursion (IsGoodLine scripts one) (flat_map (λ l. l) lines) → AllByRecursion (IsGoodLine scripts other) (flat_map (λ l. l) more_lines)
      → (lines ≡ more_lines) × AllByRecursion (λ l. shown_line scripts one l ≡ shown_line scripts other l) (flat_map (λ l. l) lines) × (rest ≡ more)
  sessions-code [] [] [] rest more many many_too is good good_too = (refl, tt, tail_same is)
  sessions-code [] (x ∷ xs) ys rest more many many_too is good good_too = absurd (omega (arith, many))
  sessions-code [] [] (y ∷ ys) rest more many many_too is good good_too = absurd (omega (arith, many_too))
  sessions-code (s ∷ ss) [] ys rest more many many_too is good good_too = absurd (omega (arith, many))
  sessions-code (s ∷ ss) (x ∷ xs) [] rest more many many_too is good good_too = absurd (omega (arith, many_too))
  sessions-code (s ∷ ss) (x ∷ xs) (y ∷ ys) rest more many many_too is good good_too =
      let S : Text = sessions_text_of scripts one ss xs in
      let T : Text = sessions_text_of scripts other ss ys in
      let F : Text = flat_map (line_text scripts one) x in
      let G : Text = flat_map (line_text scripts other) y in
      let e : (front s ++ (F ++ (S ++ (35 ∷ rest)))) ≡ (front s ++ (G ++ (T ++ (35 ∷ more)))) = sym (regroup (front s) F S (35 ∷ rest)) ∙ is ∙ regroup (front s) G T (35 ∷ more) in
      let p = headed one ss xs rest in
      let q = headed other ss ys more in
      let f : (F ++ (35 ∷ p.behind)) ≡ (G ++ (35 ∷ q.behind)) = ap (λ t. F ++ t) (sym p.is) ∙ same-front (front s) _ _ e ∙ ap (λ t. G ++ t) q.is in
      let good_here = split_all (IsGoodLine scripts one) x (flat_map (λ l. l) xs) good in
      let good_there = split_all (IsGoodLine scripts other) y (flat_map (λ l. l) ys) good_too in
      let here = all-lines-code scripts one other x y p.behind q.behind f good_here.0 good_there.0 in
      let fewer : length xs ≡ length ss = omega (arith, many) in
      let fewer_too : length ys ≡ length ss = omega (arith, many_too) in
      let later = sessions-code ss xs ys rest more fewer fewer_too (p.is ∙ ap (λ t. 35 ∷ t) here.2 ∙ sym q.is) good_here.1 good_there.1 in
      ((λ i. here.0 i ∷ later.0 i), append_all (λ l. shown_line scripts one l ≡ shown_line scripts other l) x (flat_map (λ l. l) xs) here.1 later.1, later.2)

-- ---- what was found

filter-passes : {X : Type 0} (p : X → Bool) (xs : List X) (x : X) (ys : List X) → filter p xs ≡ x ∷ ys → p x ≡ true
filter-passes p [] x ys is = absurd cc
filter-passes p (z ∷ xs) x ys is = at (p z) refl is (filter-passes p xs x ys)
  where
    at : (b : Bool) → p z ≡ b → (if b then z ∷ filter p xs else filter p xs) ≡ x ∷ ys → (filter p xs ≡ x ∷ ys → p x ≡ true) → p x ≡ true
    at true has is later = let e : z ≡ x = cc in subst (λ w. p w ≡ true) e has
    at false has is later = later is

filter-find : {X : Type 0} (p : X → Bool) (xs : List X) (x : X) (ys : List X) → filter p xs ≡ x ∷ ys → find p xs ≡ Some x
filter-find p [] x ys is = absurd cc
filter-find p (z ∷ xs) x ys is = at (p z) is (filter-find p xs x ys)
  where
    at : (b : Bool) → (if b then z ∷ filter p xs else filter p xs) ≡ x ∷ ys → (filter p xs ≡ x ∷ ys → find p xs ≡ Some x) → (if b then Some z else find p xs) ≡ Some x
    at true is later = let e : z ≡ x = cc in ap Some e
    at false is later = later is

filter-none : {X : Type 0} (p : X → Bool) (xs : List X) → filter p xs ≡ [] → AllByRecursion (λ w. p w ≡ true → ⊥) xs
filter-none p [] is = tt
filter-none p (w ∷ xs) is = at (p w) refl is (filter-none p xs)
  where
    at : (b : Bool) → p w ≡ b → (if b then w ∷ filter p xs else filter p xs) ≡ [] → (filter p xs ≡ [] → AllByRecursion (λ w. p w ≡ true → ⊥) xs)
        → (p w ≡ true → ⊥) × AllByRecursion (λ w. p w ≡ true → ⊥) xs
    at true h is later = absurd cc
    at false h is later = ((λ g. false≢true (sym h ∙ g)), later is)

-- an element that passes is the only one
filter-only : {X : Type 0} (p : X → Bool) (xs : List X) (x : X) → filter p xs ≡ x ∷ [] → AllByRecursion (λ w. p w ≡ true → w ≡ x) xs
filter-only p [] x is = tt
filter-only p (w ∷ xs) x is = at (p w) refl is (filter-only p xs x)
  where
    at : (b : Bool) → p w ≡ b → (if b then w ∷ filter p xs else filter p xs) ≡ x ∷ [] → (filter p xs ≡ x ∷ [] → AllByRecursion (λ w. p w ≡ true → w ≡ x) xs)
        → (p w ≡ true → w ≡ x) × AllByRecursion (λ w. p w ≡ true → w ≡ x) xs
    at true h is later =
        let first : w ≡ x = cc in
        let behind : filter p xs ≡ [] = cc in
        ((λ g. first), each_weaker (λ w. p w ≡ true → ⊥) (λ w. p w ≡ true → w ≡ x) (λ w none g. absurd (none g)) xs (filter-none p xs behind))
    at false h is later = ((λ g. absurd (false≢true (sym h ∙ g))), later is)

-- what holds of those that pass
filter-each : {X : Type 0} (p : X → Bool) (U : X → Type 0) (xs : List X) → AllByRecursion U (filter p xs) → AllByRecursion (λ w. p w ≡ true → U w) xs
filter-each p U [] all = tt
filter-each p U (w ∷ xs) all = at (p w) refl all (filter-each p U xs)
  where
    at : (b : Bool) → p w ≡ b → AllByRecursion U (if b then w ∷ filter p xs else filter p xs)
        → (AllByRecursion U (filter p xs) → AllByRecursion (λ w. p w ≡ true → U w) xs) → (p w ≡ true → U w) × AllByRecursion (λ w. p w ≡ true → U w) xs
    at true h all later = ((λ g. all.0), later all.1)
    at false h all later = ((λ g. absurd (false≢true (sym h ∙ g))), later all)

nth-All : {X : Type 0} (P : X → Type 0) (k : ℕ) (xs : List X) (x : X) → All P xs → nth k xs ≡ Some x → P x
nth-All {X = X} P k xs x all is = at (nat_le 1 k) is
  where
    at : (b : Bool) → (if b then slice_get xs (k - 1) else None) ≡ Some x → P x
    at true is = slice_get-All P xs (k - 1) x all is
    at false is = absurd cc

-- ---- what a printable outcome has

same-test : (t k : ℕ) → ((t == t) && (k == k)) ≡ true
same-test t k = let e = eq-eqb t t refl in let f = eq-eqb k k refl in λ i. e i && f i

module _ (scripts : List Script) (outcome : OutcomeValue) (printable : IsPrintable scripts outcome) (numbers : HasNumbersOfReports outcome)
    (names : All (λ script. IsTrue (is_name script.name)) scripts) where
  abbrev history : List Event
  history = outcome.history

  abbrev lines : List Line
  lines = all_lines outcome

  good-events : AllByRecursion IsGoodEvent history
  good-events =
      each_both EventHasText IsReportEvent IsGoodEvent (λ event h n. record { has = h; numbers = n }) history (recursion_from_All EventHasText history printable.texts)
      (recursion_from_All IsReportEvent history numbers.events)

  -- ---- an answer that is told

  pub record IsToldAnswer (t k : ℕ) (answer : Answer) : Type 0 where
    pub line : Line
    pub only : filter (is_of t k) lines ≡ line ∷ []
    pub shown : shown_line scripts history line ≡ a_reply (reply_of_answer answer)

  tells-recorded : (reply : LineReply) → (if is_recorded reply then true else is_out_of_memory reply) ≡ true → is_out_of_memory reply ≡ false → reply ≡ recorded
  tells-recorded recorded tells other = refl
  tells-recorded out_of_memory tells other = absurd (false≢true (sym other))
  tells-recorded (no_statement fault) tells other = absurd (false≢true tells)
  tells-recorded begun tells other = absurd (false≢true tells)
  tells-recorded (committed n) tells other = absurd (false≢true tells)
  tells-recorded (aborted k) tells other = absurd (false≢true tells)
  tells-recorded no_transaction tells other = absurd (false≢true tells)
  tells-recorded in_transaction tells other = absurd (false≢true tells)

  and-second : (b c : Bool) → b ≡ true → (b && c) ≡ false → c ≡ false
  and-second true c is none = none
  and-second false c is none = absurd (false≢true is)

  recorded-shown : (t k : ℕ) (line : Line) (event : Event) → line.transaction ≡ t → line.statement ≡ k → line.reply ≡ recorded → find (answers_statement t k) history ≡ Some event
      → shown_line scripts history line ≡ shown_event scripts history (Some event)
  recorded-shown t k line event at_t at_k is found =
      ap (shown_of scripts history line) is
      ∙ (λ i. shown_event scripts history (find (answers_statement (at_t i) (at_k i)) history)) ∙ ap (shown_event scripts history) found

  answer-told : (t k : ℕ) (answer : Answer) → Contains history (Answered t k answer) → is_untold lines t k ≡ false → IsToldAnswer t k answer
  answer-told t k answer has untold = at (events_on outcome t k) (lines_on outcome t k) refl refl (printable.paired t k)
    where
      at : (E : List Event) (L : List Line) → events_on outcome t k ≡ E → lines_on outcome t k ≡ L → ArePaired E L → IsToldAnswer t k answer
      at [] L es ls paired =
          absurd (each_contained (λ w. answers_statement t k w ≡ true → ⊥) history (Answered t k answer) (filter-none (answers_statement t k) history es) has (same-test t k))
      at (x ∷ []) [] es ls paired = absurd paired
      at (x ∷ []) (l ∷ m ∷ L) es ls paired = absurd paired
      at (x ∷ y ∷ E) L es ls paired = absurd paired
      at (x ∷ []) (l ∷ []) es ls paired =
          let same : Answered t k answer ≡ x = each_contained (λ w. answers_statement t k w ≡ true → w ≡ x) history (Answered t k answer)
          (filter-only (answers_statement t k) history x es) has (same-test t k) in
          let tells : TellsOf (Answered t k answer) l = subst (λ e. TellsOf e l) (sym same) paired in
          let passes : is_of t k l ≡ true = filter-passes (is_of t k) lines l [] ls in
          let of = and_parts (l.transaction == t) (l.statement == k) passes in
          let none : AllByRecursion (λ w. (is_of t k w && is_out_of_memory w.reply) ≡ false) (filter (is_of t k) lines) =
          each_filter (λ w. (is_of t k w && is_out_of_memory w.reply) ≡ false) (is_of t k) lines (none_passes (λ w. is_of t k w && is_out_of_memory w.reply) lines untold) in
          let other : is_out_of_memory l.reply ≡ false = and-second (is_of t k l) (is_out_of_memory l.reply) passes
          (subst (AllByRecursion (λ w. (is_of t k w && is_out_of_memory w.reply) ≡ false)) ls none).0 in
          record {
            line = l;
            only = ls;
            shown = recorded-shown t k l (Answered t k answer) (eqb-true l.transaction t of.0) (eqb-true l.statement k of.1) (tells-recorded l.reply tells other)
                (filter-find (answers_statement t k) history x [] es ∙ ap Some (sym same));
          }

  -- ---- lines

  name-good : (found : Option Script) → ((script : Script) → found ≡ Some script → IsTrue (is_name script.name)) → IsWordText (name_or_none found)
  name-good None named = tt
  name-good (Some script) named = name-word script.name (named script refl)

  session-word : (t : ℕ) → IsWordText (session_name scripts history t)
  session-word t = name-good (nth (session_in (find (begins t) history)) scripts) (λ script is. nth-All (λ s. IsTrue (is_name s.name)) (session_in (find (begins t) history)) scripts script names is)

  event-good : (t k : ℕ) (event : Event) → answers_statement t k event ≡ true → IsGoodEvent event → IsGoodShown (shown_event scripts history (Some event))
  event-good t k (Begun u i n) passes good = absurd (false≢true passes)
  event-good t k (Granted u n p list) passes good = absurd (false≢true passes)
  event-good t k (Refused u n p name mode holder) passes good =
      record { lock_good = record { has = good.has; numbers = good.numbers.3 }; short = good.numbers.4; word_good = session-word holder }
  event-good t k (Answered u n answer) passes good = record { has = good.has; numbers = good.numbers.2 }
  event-good t k (GaveUp u n) passes good = absurd (false≢true passes)
  event-good t k (Committed u n) passes good = absurd (false≢true passes)
  event-good t k (Aborted u) passes good = absurd (false≢true passes)

  recorded-good : (line : Line) → Contains lines line → line.reply ≡ recorded → IsGoodShown (shown_event scripts history (find (answers_statement line.transaction line.statement) history))
  recorded-good line has is = at (events_on outcome t k) (lines_on outcome t k) refl refl (printable.paired t k)
    where
      t : ℕ
      t = line.transaction

      k : ℕ
      k = line.statement

      at : (E : List Event) (L : List Line) → events_on outcome t k ≡ E → lines_on outcome t k ≡ L → ArePaired E L
          → IsGoodShown (shown_event scripts history (find (answers_statement t k) history))
      at [] L es ls paired =
          let all : AllByRecursion (λ w. w.reply ≢ recorded) (filter (is_of t k) lines) = subst (AllByRecursion (λ w. w.reply ≢ recorded)) (sym ls)
          (recursion_from_All (λ w. w.reply ≢ recorded) L paired) in
          absurd (each_contained (λ w. is_of t k w ≡ true → w.reply ≢ recorded) lines line (filter-each (is_of t k) (λ w. w.reply ≢ recorded) lines all) has (same-test t k) is)
      at (x ∷ []) [] es ls paired = absurd paired
      at (x ∷ []) (l ∷ m ∷ L) es ls paired = absurd paired
      at (x ∷ y ∷ E) L es ls paired = absurd paired
      at (x ∷ []) (l ∷ []) es ls paired =
          let good : IsGoodEvent x = (subst (AllByRecursion IsGoodEvent) es (each_filter IsGoodEvent (answers_statement t k) history good-events)).0 in
          subst (λ found. IsGoodShown (shown_event scripts history found)) (sym (filter-find (answers_statement t k) history x [] es))
          (event-good t k x (filter-passes (answers_statement t k) history x [] es) good)

  line-good : (line : Line) → Contains lines line → (reply : LineReply) → line.reply ≡ reply → IsReportLineReply reply → IsGoodShown (shown_of scripts history line reply)
  line-good line has recorded is short = recorded-good line has is
  line-good line has out_of_memory is short = tt
  line-good line has (no_statement fault) is short = short
  line-good line has begun is short = tt
  line-good line has (committed n) is short = short
  line-good line has (aborted k) is short = short
  line-good line has no_transaction is short = tt
  line-good line has in_transaction is short = tt

  pub good-lines : AllByRecursion (IsGoodLine scripts history) lines
  good-lines =
      let Short : Line → Type 0 = λ line. IsReportNumber line.statement × IsReportNumber line.transaction × IsReportLineReply line.reply in
      each_both (Contains lines) Short (IsGoodLine scripts history)
      (λ line has short. record { statement_short = short.0; transaction_short = short.1; told_good = line-good line has line.reply refl short.2 }) lines (each_itself lines)
      (recursion_from_All Short lines numbers.lines)

-- ---- events whose answers are told alike

-- what an event's line tells
abbrev IsToldIn : (scripts : List Script) (outcome : OutcomeValue) → IsPrintable scripts outcome → HasNumbersOfReports outcome
    → All (λ script. IsTrue (is_name script.name)) scripts → Event → Type 0
IsToldIn scripts outcome printable numbers names (Answered t k answer) =
    is_untold (all_lines outcome) t k ≡ false → IsToldAnswer scripts outcome printable numbers names t k answer
IsToldIn scripts outcome printable numbers names event = Unit {0}

reply_same : (x y : Reply) → a_reply x ≡ a_reply y → x ≡ y
reply_same x y is = cc

head_of : {X : Type 0} {x y : X} → x ∷ [] ≡ y ∷ [] → x ≡ y
head_of is = cc

module _ (scripts : List Script) (names : All (λ script. IsTrue (is_name script.name)) scripts) (one other : OutcomeValue) (p : IsPrintable scripts one) (q : IsPrintable scripts other)
    (m : HasNumbersOfReports one) (n : HasNumbersOfReports other) (same : all_lines one ≡ all_lines other)
    (shown : AllByRecursion (λ l. shown_line scripts one.history l ≡ shown_line scripts other.history l) (all_lines one)) where
  abbrev FirstTold : Event → Type 0
  FirstTold = IsToldIn scripts one p m names

  abbrev SecondTold : Event → Type 0
  SecondTold = IsToldIn scripts other q n names

  each-told : AllByRecursion FirstTold one.history
  each-told = each_weaker (Contains one.history) FirstTold at one.history (each_itself one.history)
    where
      at : (event : Event) → Contains one.history event → FirstTold event
      at (Begun t i k) has = tt
      at (Granted t k p list) has = tt
      at (Refused t k p name mode holder) has = tt
      at (Answered t k answer) has = (λ untold. answer-told scripts one p m names t k answer has untold)
      at (GaveUp t k) has = tt
      at (Committed t n) has = tt
      at (Aborted t) has = tt

  each-told-too : AllByRecursion SecondTold other.history
  each-told-too = each_weaker (Contains other.history) SecondTold at other.history (each_itself other.history)
    where
      at : (event : Event) → Contains other.history event → SecondTold event
      at (Begun t i k) has = tt
      at (Granted t k p list) has = tt
      at (Refused t k p name mode holder) has = tt
      at (Answered t k answer) has = (λ untold. answer-told scripts other q n names t k answer has untold)
      at (GaveUp t k) has = tt
      at (Committed t n) has = tt
      at (Aborted t) has = tt

  abbrev blank_one : Event → Event
  blank_one event = plain_event (blank_event (all_lines one) event)

  abbrev blank_other : Event → Event
  blank_other event = plain_event (blank_event (all_lines other) event)

  -- two answers of one statement
  answers-alike : (t k : ℕ) (a b : Answer) → FirstTold (Answered t k a) → SecondTold (Answered t k b) → blank_one (Answered t k a) ≡ blank_other (Answered t k b)
  answers-alike t k a b first second = at (is_untold (all_lines one) t k) refl (ap (λ ls. is_untold ls t k) (sym same))
    where
      at : (u : Bool) → is_untold (all_lines one) t k ≡ u → is_untold (all_lines other) t k ≡ is_untold (all_lines one) t k
          → plain_event (Answered t k (if is_untold (all_lines one) t k then answers.Done 0 else a)) ≡ plain_event (Answered t k (if is_untold (all_lines other) t k then answers.Done 0 else b))
      at true is equal =
          (λ i. plain_event (Answered t k (if is i then answers.Done 0 else a))) ∙ sym (λ i. plain_event (Answered t k (if (equal ∙ is) i then answers.Done 0 else b)))
      at false is equal =
          let x = first is in
          let y = second (equal ∙ is) in
          let line : x.line ≡ y.line = head_of (sym x.only ∙ ap (filter (is_of t k)) same ∙ y.only) in
          let here : shown_line scripts one.history x.line ≡ shown_line scripts other.history x.line = (subst
          (AllByRecursion (λ l. shown_line scripts one.history l ≡ shown_line scripts other.history l)) x.only
          (each_filter (λ l. shown_line scripts one.history l ≡ shown_line scripts other.history l) (is_of t k) (all_lines one) shown)).0 in
          let reply : reply_of_answer a ≡ reply_of_answer b = reply_same (reply_of_answer a) (reply_of_answer b)
          (sym x.shown ∙ here ∙ ap (shown_line scripts other.history) line ∙ y.shown) in
          (λ i. plain_event (Answered t k (if is i then answers.Done 0 else a))) ∙ ap (Answered t k) (answer-plain a b reply)
          ∙ sym (λ i. plain_event (Answered t k (if (equal ∙ is) i then answers.Done 0 else b)))

  answered-bare : {t u k j : ℕ} → Answered t k (answers.Done 0) ≡ Answered u j (answers.Done 0) → (t ≡ u) × (k ≡ j)
  answered-bare is = (cc, cc)

  events-alike : (e f : Event) → bare_event e ≡ bare_event f → FirstTold e → SecondTold f → blank_one e ≡ blank_other f
  events-alike (Begun t i k) (Begun t' i' k') is first second = is
  events-alike (Begun t i k) (Granted t' k' p' list') is first second = is
  events-alike (Begun t i k) (Refused t' k' p' name' mode' holder') is first second = is
  events-alike (Begun t i k) (Answered t' k' answer') is first second = absurd cc
  events-alike (Begun t i k) (GaveUp t' k') is first second = is
  events-alike (Begun t i k) (Committed t' n') is first second = is
  events-alike (Begun t i k) (Aborted t') is first second = is
  events-alike (Granted t k p list) (Begun t' i' k') is first second = is
  events-alike (Granted t k p list) (Granted t' k' p' list') is first second = is
  events-alike (Granted t k p list) (Refused t' k' p' name' mode' holder') is first second = is
  events-alike (Granted t k p list) (Answered t' k' answer') is first second = absurd cc
  events-alike (Granted t k p list) (GaveUp t' k') is first second = is
  events-alike (Granted t k p list) (Committed t' n') is first second = is
  events-alike (Granted t k p list) (Aborted t') is first second = is
  events-alike (Refused t k p name mode holder) (Begun t' i' k') is first second = is
  events-alike (Refused t k p name mode holder) (Granted t' k' p' list') is first second = is
  events-alike (Refused t k p name mode holder) (Refused t' k' p' name' mode' holder') is first second = is
  events-alike (Refused t k p name mode holder) (Answered t' k' answer') is first second = absurd cc
  events-alike (Refused t k p name mode holder) (GaveUp t' k') is first second = is
  events-alike (Refused t k p name mode holder) (Committed t' n') is first second = is
  events-alike (Refused t k p name mode holder) (Aborted t') is first second = is
  events-alike (Answered t k answer) (Begun t' i' k') is first second = absurd cc
  events-alike (Answered t k answer) (Granted t' k' p' list') is first second = absurd cc
  events-alike (Answered t k answer) (Refused t' k' p' name' mode' holder') is first second = absurd cc
  events-alike (Answered t k a) (Answered u j b) is first second =
      let at = answered-bare is in
      let second' : SecondTold (Answered t k b) = subst (λ v. SecondTold (Answered v k b)) (sym at.0) (subst (λ w. SecondTold (Answered u w b)) (sym at.1) second) in
      answers-alike t k a b first second' ∙ (λ i. blank_other (Answered (at.0 i) (at.1 i) b))
  events-alike (Answered t k answer) (GaveUp t' k') is first second = absurd cc
  events-alike (Answered t k answer) (Committed t' n') is first second = absurd cc
  events-alike (Answered t k answer) (Aborted t') is first second = absurd cc
  events-alike (GaveUp t k) (Begun t' i' k') is first second = is
  events-alike (GaveUp t k) (Granted t' k' p' list') is first second = is
  events-alike (GaveUp t k) (Refused t' k' p' name' mode' holder') is first second = is
  events-alike (GaveUp t k) (Answered t' k' answer') is first second = absurd cc
  events-alike (GaveUp t k) (GaveUp t' k') is first second = is
  events-alike (GaveUp t k) (Committed t' n') is first second = is
  events-alike (GaveUp t k) (Aborted t') is first second = is
  events-alike (Committed t n) (Begun t' i' k') is first second = is
  events-alike (Committed t n) (Granted t' k' p' list') is first second = is
  events-alike (Committed t n) (Refused t' k' p' name' mode' holder') is first second = is
  events-alike (Committed t n) (Answered t' k' answer') is first second = absurd cc
  events-alike (Committed t n) (GaveUp t' k') is first second = is
  events-alike (Committed t n) (Committed t' n') is first second = is
  events-alike (Committed t n) (Aborted t') is first second = is
  events-alike (Aborted t) (Begun t' i' k') is first second = is
  events-alike (Aborted t) (Granted t' k' p' list') is first second = is
  events-alike (Aborted t) (Refused t' k' p' name' mode' holder') is first second = is
  events-alike (Aborted t) (Answered t' k' answer') is first second = absurd cc
  events-alike (Aborted t) (GaveUp t' k') is first second = is
  events-alike (Aborted t) (Committed t' n') is first second = is
  events-alike (Aborted t) (Aborted t') is first second = is

  histories-alike : (es fs : List Event) → map bare_event es ≡ map bare_event fs → AllByRecursion FirstTold es → AllByRecursion SecondTold fs → map blank_one es ≡ map blank_other fs
  histories-alike [] [] is first second = refl
  histories-alike [] (f ∷ fs) is first second = absurd cc
  histories-alike (e ∷ es) [] is first second = absurd cc
  histories-alike (e ∷ es) (f ∷ fs) is first second =
      let here : bare_event e ≡ bare_event f = cc in
      let later : map bare_event es ≡ map bare_event fs = cc in
      let x = events-alike e f here first.0 second.0 in
      let xs = histories-alike es fs later first.1 second.1 in
      λ i. x i ∷ xs i

-- ---- the law

map-twice : {A B C : Type 0} (f : A → B) (g : B → C) (xs : List A) → map g (map f xs) ≡ map (λ x. g (f x)) xs
map-twice f g [] = refl
map-twice f g (x ∷ xs) = ap (λ l. g (f x) ∷ l) (map-twice f g xs)

five : (a b c d e : Text) → ((((a ++ b) ++ c) ++ d) ++ e) ≡ (a ++ (b ++ (c ++ (d ++ e))))
five a b c d e = append_assoc ((a ++ b) ++ c) d e ∙ append_assoc (a ++ b) c (d ++ e) ∙ append_assoc a b (c ++ (d ++ e))

pub report-determines : (scripts : List Script) (one other : OutcomeValue) → All (λ script. IsTrue (is_name script.name)) scripts → IsPrintable scripts one → IsPrintable scripts other
    → HasNumbersOfReports one → HasNumbersOfReports other → report_text scripts one ≡ report_text scripts other → plain_outcome (blanked one) ≡ plain_outcome (blanked other)
report-determines scripts one other names p q m n is =
    let S : Text = sessions_text_of scripts one.history scripts one.lines in
    let T : Text = sessions_text_of scripts other.history scripts other.lines in
    let F : Text = flat_map event_line one.history in
    let G : Text = flat_map event_line other.history in
    let H : Text = codes "#history\n" in
    let E : Text = codes "#end\n" in
    let e : (codes "#rasq report 1\n" ++ (S ++ (H ++ (F ++ E)))) ≡ (codes "#rasq report 1\n" ++ (T ++ (H ++ (G ++ E)))) =
    sym (five (codes "#rasq report 1\n") S H F E) ∙ is ∙ five (codes "#rasq report 1\n") T H G E in
    let all = sessions-code scripts one.history other.history scripts one.lines other.lines (codes "history\n" ++ (F ++ E)) (codes "history\n" ++ (G ++ E)) p.sessions q.sessions
    (same-front (codes "#rasq report 1\n") _ _ e) (good-lines scripts one p m names) (good-lines scripts other q n names) in
    let bare = history-code one.history other.history E E (same-front (codes "history\n") _ _ all.2) refl refl (good-events scripts one p m names) (good-events scripts other q n names) in
    let same : all_lines one ≡ all_lines other = ap (flat_map (λ l. l)) all.0 in
    let alike = histories-alike scripts names one other p q m n same all.1 one.history other.history bare.0 (each-told scripts names one other p q m n same all.1)
    (each-told-too scripts names one other p q m n same all.1) in
    let history : map plain_event (map (blank_event (all_lines one)) one.history) ≡ map plain_event (map (blank_event (all_lines other)) other.history) =
    map-twice (blank_event (all_lines one)) plain_event one.history ∙ alike ∙ sym (map-twice (blank_event (all_lines other)) plain_event other.history) in
    λ i. record { lines = all.0 i; history = history i }
