-- Two runs of the same schedule, in which nothing is told of want of memory, take the same steps, if the events that they take
-- may follow one another.
use Rattle.std.proofs.Common.{◌≡◌, ℕ, zero, suc, List, [], ◌∷◌, ◌++◌, flat_map, Option, Some, refl, sym, ap, ◌∙◌, subst}
use Rattle.std.specs.Prelude.{IsTrue}
use Rattle.ras_syntax.specs.declared.event.Event.{Event}
use Rattle.spec_histories.specs.History.{History, Programs}
use Rattle.spec_histories.specs.Legal.{MayFollow}
use Rattle.spec_sessions.specs.Outcomes.{behind_next, event_of_first, events_in, next_event, paced_events}
use Rattle.spec_sessions.specs.Walk.{LineReply, ReadScript, State, Step, is_over, made, quiet, step_from}
use Rattle.law_sessions.proofs.Due.{IsKeptUp, IsTold, MayStep, no_step_more, plain_step, steps-same}
use Rattle.law_sessions.proofs.Moves.{event_of}

-- ---- what is left of a walk

-- a step that leads from a state to what comes next
pub record IsGoingTo (session : ℕ) (script : ReadScript) (state : State) (step : Step) (next : Option LineReply × State) : Type 0 where
  pub comes : step_from session script state step ≡ Some next
  pub is_told : IsTold next.0
  pub kept : IsKeptUp step
  pub plain : plain_step step ≡ step

-- the steps, the first one first, lead from a state to the script's end
pub data IsRest (session : ℕ) (script : ReadScript) : State → List Step → Type 0 where
  ended : (state : State) → IsTrue (is_over script state) → IsRest session script state []
  going : (state : State) (step : Step) (steps : List Step) (next : Option LineReply × State) → IsGoingTo session script state step next
      → IsRest session script next.1 steps → IsRest session script state (step ∷ steps)

pub data AreRests : ℕ → List ReadScript → List State → List (List Step) → Type 0 where
  no_more : (first : ℕ) → AreRests first [] [] []
  one_more : (first : ℕ) (script : ReadScript) (scripts : List ReadScript) (state : State) (states : List State) (steps : List Step) (walks : List (List Step))
      → IsRest first script state steps → AreRests (suc first) scripts states walks → AreRests first (script ∷ scripts) (state ∷ states) (steps ∷ walks)

-- ---- events in order

abbrev pub pushed : List Event → History → History
pushed [] past = past
pushed (event ∷ events) past = pushed events (event ∷ past)

abbrev pub AreLegalFrom : Programs → History → List Event → Type 0
AreLegalFrom programs past [] = Unit {0}
AreLegalFrom programs past (event ∷ events) = MayFollow programs past event × AreLegalFrom programs (event ∷ past) events

some_same : {A : Type 0} {x y : A} → Some x ≡ Some y → x ≡ y
some_same is = cc

head_same : {A : Type 0} (x y : A) (xs ys : List A) → x ∷ xs ≡ y ∷ ys → x ≡ y
head_same x y xs ys is = cc

tail_same : {A : Type 0} (x y : A) (xs ys : List A) → x ∷ xs ≡ y ∷ ys → xs ≡ ys
tail_same x y xs ys is = cc

module _ (programs : Programs) where
  legal-behind : (past : History) (xs ys : List Event) → AreLegalFrom programs past (xs ++ ys) → AreLegalFrom programs (pushed xs past) ys
  legal-behind past [] ys legal = legal
  legal-behind past (x ∷ xs) ys legal = legal-behind (x ∷ past) xs ys legal.1

  -- the event of a step, and those behind it
  may-step : (past : History) (step : Step) (more : List Event) → AreLegalFrom programs past (event_of step ++ more) → MayStep programs past step
  may-step past (made event) more legal = legal.0
  may-step past (quiet wanting) more legal = tt

  first-event : (step : Step) (steps : List Step) (more : List Event) → (events_in (step ∷ steps) ++ more) ≡ (event_of step ++ (events_in steps ++ more))
  first-event (made event) steps more = refl
  first-event (quiet wanting) steps more = refl

  -- two first steps from the same state
  step-same : (session : ℕ) (script : ReadScript) (state : State) (past : History) (s r : Step) (next other : Option LineReply × State) (m n : List Event)
      → IsGoingTo session script state s next → IsGoingTo session script state r other → AreLegalFrom programs past (event_of s ++ m)
      → AreLegalFrom programs past (event_of r ++ n) → s ≡ r
  step-same session script state past s r next other m n one two legal legal_too =
      sym one.plain
      ∙ steps-same programs past session script state s r next other one.comes two.comes one.is_told two.is_told one.kept two.kept (may-step past s m legal) (may-step past r n legal_too)
      ∙ two.plain

  next-same : (session : ℕ) (script : ReadScript) (state : State) (s r : Step) (next other : Option LineReply × State) → IsGoingTo session script state s next
      → IsGoingTo session script state r other → s ≡ r → next ≡ other
  next-same session script state s r next other one two same = some_same (sym one.comes ∙ ap (step_from session script state) same ∙ two.comes)

  -- ---- all steps of a session

  session-same : (session : ℕ) (script : ReadScript) (state : State) (steps others : List Step) (past : History) (m n : List Event) → IsRest session script state steps
      → IsRest session script state others → AreLegalFrom programs past (events_in steps ++ m) → AreLegalFrom programs past (events_in others ++ n) → steps ≡ others
  session-same session script state steps others past m n (IsRest.ended s over) (IsRest.ended r over_too) legal legal_too = refl
  session-same session script state steps others past m n (IsRest.ended s over) (IsRest.going r step more next on rest) legal legal_too =
      absurd (no_step_more session script state step next over on.comes on.is_told on.kept)
  session-same session script state steps others past m n (IsRest.going s step more next on rest) (IsRest.ended r over) legal legal_too =
      absurd (no_step_more session script state step next over on.comes on.is_told on.kept)
  session-same session script state steps others past m n (IsRest.going s step more next on rest) (IsRest.going r step' more' next' on' rest') legal legal_too =
      let first : AreLegalFrom programs past (event_of step ++ (events_in more ++ m)) = subst (AreLegalFrom programs past) (first-event step more m) legal in
      let second : AreLegalFrom programs past (event_of step' ++ (events_in more' ++ n)) = subst (AreLegalFrom programs past) (first-event step' more' n) legal_too in
      let same : step ≡ step' = step-same session script state past step step' next next' (events_in more ++ m) (events_in more' ++ n) on on' first second in
      let goes : next ≡ next' = next-same session script state step step' next next' on on' same in
      let later : more ≡ more' = session-same session script next.1 more more' (pushed (event_of step) past) m n rest
      (subst (λ (x : Option LineReply × State). IsRest session script x.1 more') (sym goes) rest')
      (legal-behind past (event_of step) (events_in more ++ m) first)
      (subst (λ s. AreLegalFrom programs (pushed (event_of s) past) (events_in more' ++ n)) (sym same) (legal-behind past (event_of step') (events_in more' ++ n) second)) in
      λ i. same i ∷ later i

  -- what is left of all sessions, one after another
  sessions-same : (first : ℕ) (scripts : List ReadScript) (states : List State) (walks others : List (List Step)) (past : History) → AreRests first scripts states walks
      → AreRests first scripts states others → AreLegalFrom programs past (flat_map events_in walks) → AreLegalFrom programs past (flat_map events_in others) → walks ≡ others
  sessions-same first scripts states walks others past (AreRests.no_more f) (AreRests.no_more g) legal legal_too = refl
  sessions-same first scripts states walks others past (AreRests.one_more f script more_scripts state more_states steps more rest rests)
      (AreRests.one_more g script' more_scripts' state' more_states' steps' more' rest' rests') legal legal_too =
      let here : steps ≡ steps' = session-same first script state steps steps' past (flat_map events_in more) (flat_map events_in more') rest rest' legal legal_too in
      let later : more ≡ more' = sessions-same (suc first) more_scripts more_states more more' (pushed (events_in steps) past) rests rests'
      (legal-behind past (events_in steps) (flat_map events_in more) legal)
      (subst (λ s. AreLegalFrom programs (pushed (events_in s) past) (flat_map events_in more')) (sym here)
      (legal-behind past (events_in steps') (flat_map events_in more') legal_too)) in
      λ i. here i ∷ later i

  -- ---- a turn

  -- behind a turn of the session with so many before it, both runs have come to the same states
  record IsTurned (first : ℕ) (scripts : List ReadScript) (before : ℕ) (walks others : List (List Step)) (m n : List Event) : Type 0 where
    states : List State
    later : History
    one : AreRests first scripts states (behind_next before walks)
    two : AreRests first scripts states (behind_next before others)
    legal : AreLegalFrom programs later m
    legal_too : AreLegalFrom programs later n
    back : behind_next before walks ≡ behind_next before others → walks ≡ others

  first_is : (step : Step) (steps : List Step) → event_of_first (step ∷ steps) ≡ event_of step
  first_is (made event) steps = refl
  first_is (quiet wanting) steps = refl

  turned-here : (first : ℕ) (script : ReadScript) (scripts : List ReadScript) (state : State) (states : List State) (steps steps' : List Step) (more more' : List (List Step))
      (past : History) (m n : List Event) → IsRest first script state steps → IsRest first script state steps' → AreRests (suc first) scripts states more
      → AreRests (suc first) scripts states more' → AreLegalFrom programs past (event_of_first steps ++ m) → AreLegalFrom programs past (event_of_first steps' ++ n)
      → IsTurned first (script ∷ scripts) zero (steps ∷ more) (steps' ∷ more') m n
  turned-here first script scripts state states steps steps' more more' past m n (IsRest.ended s over) (IsRest.ended r over_too) rests rests' legal legal_too = record {
    states = state ∷ states;
    later = past;
    one = AreRests.one_more first script scripts state states [] more (IsRest.ended state over) rests;
    two = AreRests.one_more first script scripts state states [] more' (IsRest.ended state over_too) rests';
    legal = legal;
    legal_too = legal_too;
    back = λ e. e;
  }
  turned-here first script scripts state states steps steps' more more' past m n (IsRest.ended s over) (IsRest.going r step rest_steps next on rest) rests rests' legal legal_too =
      absurd (no_step_more first script state step next over on.comes on.is_told on.kept)
  turned-here first script scripts state states steps steps' more more' past m n (IsRest.going s step rest_steps next on rest) (IsRest.ended r over) rests rests' legal legal_too =
      absurd (no_step_more first script state step next over on.comes on.is_told on.kept)
  turned-here first script scripts state states steps steps' more more' past m n (IsRest.going s step left next on rest) (IsRest.going r step' left' next' on' rest') rests rests'
      legal legal_too =
      let one' : AreLegalFrom programs past (event_of step ++ m) = subst (λ es. AreLegalFrom programs past (es ++ m)) (first_is step left) legal in
      let two' : AreLegalFrom programs past (event_of step' ++ n) = subst (λ es. AreLegalFrom programs past (es ++ n)) (first_is step' left') legal_too in
      let same : step ≡ step' = step-same first script state past step step' next next' m n on on' one' two' in
      let goes : next ≡ next' = next-same first script state step step' next next' on on' same in
      record {
        states = next.1 ∷ states;
        later = pushed (event_of step) past;
        one = AreRests.one_more first script scripts next.1 states left more rest rests;
        two = AreRests.one_more first script scripts next.1 states left' more' (subst (λ (x : Option LineReply × State). IsRest first script x.1 left') (sym goes) rest') rests';
        legal = legal-behind past (event_of step) m one';
        legal_too = subst (λ s. AreLegalFrom programs (pushed (event_of s) past) n) (sym same) (legal-behind past (event_of step') n two');
        back = λ e. (let a : left ≡ left' = head_same left left' more more' e in let b : more ≡ more' = tail_same left left' more more' e in λ i. (same i ∷ a i) ∷ b i);
      }

  turned : (before first : ℕ) (scripts : List ReadScript) (states : List State) (walks others : List (List Step)) (past : History) (m n : List Event)
      → AreRests first scripts states walks → AreRests first scripts states others → AreLegalFrom programs past (next_event before walks ++ m)
      → AreLegalFrom programs past (next_event before others ++ n) → IsTurned first scripts before walks others m n
  turned zero first scripts states walks others past m n (AreRests.no_more f) (AreRests.no_more g) legal legal_too = record {
    states = [];
    later = past;
    one = AreRests.no_more first;
    two = AreRests.no_more first;
    legal = legal;
    legal_too = legal_too;
    back = λ e. refl;
  }
  turned (suc before) first scripts states walks others past m n (AreRests.no_more f) (AreRests.no_more g) legal legal_too = record {
    states = [];
    later = past;
    one = AreRests.no_more first;
    two = AreRests.no_more first;
    legal = legal;
    legal_too = legal_too;
    back = λ e. refl;
  }
  turned zero first scripts states walks others past m n (AreRests.one_more f script more_scripts state more_states steps more rest rests)
      (AreRests.one_more g script' more_scripts' state' more_states' steps' more' rest' rests') legal legal_too =
      turned-here first script more_scripts state more_states steps steps' more more' past m n rest rest' rests rests' legal legal_too
  turned (suc before) first scripts states walks others past m n (AreRests.one_more f script more_scripts state more_states steps more rest rests)
      (AreRests.one_more g script' more_scripts' state' more_states' steps' more' rest' rests') legal legal_too =
      let behind = turned before (suc first) more_scripts more_states more more' past m n rests rests' legal legal_too in
      record {
        states = state ∷ behind.states;
        later = behind.later;
        one = AreRests.one_more first script more_scripts state behind.states steps (behind_next before more) rest behind.one;
        two = AreRests.one_more first script more_scripts state behind.states steps' (behind_next before more') rest' behind.two;
        legal = behind.legal;
        legal_too = behind.legal_too;
        back = λ e. (let a : steps ≡ steps' = head_same steps steps' (behind_next before more) (behind_next before more') e in
            let b : more ≡ more' = behind.back (tail_same steps steps' (behind_next before more) (behind_next before more') e) in λ i. a i ∷ b i);
      }

  -- ---- all turns

  pub runs-same : (turns : List ℕ) (scripts : List ReadScript) (states : List State) (walks others : List (List Step)) (past : History) → AreRests 1 scripts states walks
      → AreRests 1 scripts states others → AreLegalFrom programs past (paced_events turns walks) → AreLegalFrom programs past (paced_events turns others) → walks ≡ others
  runs-same [] scripts states walks others past one two legal legal_too = sessions-same 1 scripts states walks others past one two legal legal_too
  runs-same (zero ∷ turns) scripts states walks others past one two legal legal_too = runs-same turns scripts states walks others past one two legal legal_too
  runs-same (suc before ∷ turns) scripts states walks others past one two legal legal_too =
      let at = turned before 1 scripts states walks others past (paced_events turns (behind_next before walks)) (paced_events turns (behind_next before others)) one two legal legal_too in
      at.back (runs-same turns scripts at.states (behind_next before walks) (behind_next before others) at.later at.one at.two at.legal at.legal_too)
