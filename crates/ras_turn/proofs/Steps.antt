-- Each step of a pass keeps the rule.
use Rattle.std.proofs.Common.{◌≡◌, ◌≢◌, ℕ, ◌+◌, ◌<◌, ◌≤◌, List, [], ◌∷◌, length, eqb, eq-eqb, ne_eqb, set, sym, refl, ap, ◌∙◌, subst, arith, Bool, Option, Some}
use mathlib.Core.Option.{some}
use mathlib.Core.List.{IsPrefix}
use mathlib.Core.Logic.{dite}
use native.Mathlib.Decide.{ℕ_discrete}
use lib.ListN.{get_elem?}
use prog.Atomic.{either}
use Rattle.std.specs.Prelude.{slice_index, MatchBool}
use Rattle.atomic_table.specs.Table.{State, Me, Act, keeps, takes, gives, Valid, homes_after, carried_after, Allows, rest}
use Rattle.atomic_table.proofs.Lists.{set_here, set_again}
use Rattle.ras_turn.specs.declared.view.Known.{Known}
use Rattle.ras_turn.specs.declared.view.View.{View}
use Rattle.ras_turn.specs.declared.view.Stage.{Stage}
use Rattle.ras_turn.specs.declared.view.Stage.TheVariants.{Dealer, Idle, Holding, Collector, Spent}
use Rattle.ras_turn.specs.Entries.{made_by, Extends}
use Rattle.ras_turn.specs.Rule.{idle, holding, HoldsTurn, IsPassed, AreTaken, Fits, IsTurned, Wins, TakesTurn, Adds, FindsLength, Releases}
use Rattle.ras_turn.proofs.Lists.{set_at, each_set, whole, longer, made_by-kept, Extends-prefix}

-- a change of list, turn and seats that leaves the seat j and what it knows as they were
pub record Spares {E : Type 0} (log log' : List (ℕ × E)) (turn turn' : ℕ) (seat seat' : ℕ → ℕ) (dealing next next' j : ℕ) : Type 0 where
  pub seats : (k : ℕ) → seat k ≡ j → k < next → seat' k ≡ j
  pub more : next ≤ next'
  pub dealer : j ≡ dealing → next' ≡ next
  pub longer : IsPrefix log log'
  pub owns : (k : ℕ) → seat k ≡ j → k < next → made_by k log' ≡ made_by k log
  pub outside : (k : ℕ) → seat k ≡ j → k < next → turn ≢ k + 1 → turn' ≢ k + 1
  pub inside : (k : ℕ) → seat k ≡ j → k < next → turn ≡ k + 1 → (turn' ≡ k + 1) × (log' ≡ log)

module _ {E C : Type 0} (log log' : List (ℕ × E)) (c : C) (turn turn' : ℕ) (seat seat' : ℕ → ℕ) (dealing next next' j : ℕ) (s : Spares log log' turn turn' seat seat' dealing next next' j) where
  passed : (v : View E C) → IsPassed log c seat next j v → IsPassed log' c seat' next' j v
  passed v p = let d = p.dealt in let m = s.more in record {
    seated = s.seats v.number p.seated p.dealt;
    dealt = omega arith;
    charter = p.charter;
    own = p.own ∙ sym (s.owns v.number p.seated p.dealt);
  }

  taken_on : (ks : List (Known E)) → AreTaken log seat next j ks → AreTaken log' seat' next' j ks
  taken_on [] are = tt
  taken_on (k ∷ ks) are = let t = are.0 in let d = t.dealt in let m = s.more in (
    record {
      seated = s.seats k.number t.seated t.dealt;
      dealt = omega arith;
      prefix = longer k.seen log log' t.prefix s.longer;
      own = t.own ∙ sym (s.owns k.number t.seated t.dealt);
    },
    taken_on ks are.1,
  )

  pub others_fit : (v : View E C) (f : Stage) → Fits log c turn seat dealing next j v f → Fits log' c turn' seat' dealing next' j v f
  others_fit v Dealer x = (x.0, x.1 ∙ sym (s.dealer x.0), x.2)
  others_fit v Idle x = (passed v x.0, s.outside v.number x.0.seated x.0.dealt x.1, longer v.seen log log' x.2 s.longer)
  others_fit v Holding x = let i = s.inside v.number x.0.seated x.0.dealt x.1 in (passed v x.0, i.0, x.2 ∙ sym i.1)
  others_fit v Collector x = taken_on v.joined x
  others_fit v Spent x = tt

same_number : (a b t : ℕ) → t ≡ a + 1 → t ≡ b + 1 → a ≡ b
same_number a b t p q = omega arith

module _ {S E C : Type 0} (entries : S → List (ℕ × E)) (charter : S → C) (n : ℕ) (c : C) where
  wins : (s : State (Option S) (View E C)) (r : IsTurned entries charter n c s) (id k : ℕ) (seen own : List (ℕ × E)) (ch : Option C) (xs : List (ℕ × Option S))
      → get_elem? s.views id ≡ some (idle k seen own ch) → r.turn ≡ 0
      → (w : View E C) × (a : Act (Option S)) × Valid s.homes xs a
      × IsTurned entries charter n c record { words = (k + 1) ∷ length r.log ∷ []; homes = homes_after s.homes xs a; views = set s.views id w }
      × Wins entries charter (idle k seen own ch, xs) (w, carried_after xs a)
  wins s r id k seen own ch xs at free =
      let home = r.free free in
      let x = home.0 in
      let here = r.each id (idle k seen own ch) at in
      let p = here.0 in
      let is : entries x ≡ r.log = home.2 in
      let w : View E C = holding k (entries x) own ch in (
        w,
        takes 0 (Some x),
        home.1,
        record {
          turn = k + 1;
          log = r.log;
          seat = r.seat;
          dealing = r.dealing;
          next = r.next;
          words = refl;
          few = r.few;
          unmade = r.unmade;
          each = each_set (λ j v. Fits r.log c (k + 1) r.seat r.dealing r.next j v v.stage) s.views id w
              (record { seated = p.seated; dealt = p.dealt; charter = p.charter; own = p.own }, refl, is)
              (λ j v other e. others_fit r.log r.log c r.turn (k + 1) r.seat r.seat r.dealing r.next r.next j
              record {
                seats = λ _ h _. h;
                more = omega arith;
                dealer = λ _. refl;
                longer = whole r.log;
                owns = λ _ _ _. refl;
                outside = λ i sits _ _ same. other (sym sits ∙ ap r.seat (same_number i k (k + 1) same refl) ∙ p.seated);
                inside = λ i _ _ same. absurd (omega arith);
              } v v.stage (r.each j v e));
          free = λ no. absurd (omega arith);
          taken = λ i same. let e : i ≡ k = same_number i k (k + 1) same refl in
              subst (λ (y : ℕ). (y < r.next) × HoldsTurn (set s.views id w) (r.seat y) y) (sym e) (
                p.dealt,
                record {
                  view = w;
                  at = subst (λ (y : ℕ). get_elem? (set s.views id w) y ≡ some w) (sym p.seated) (set_at s.views id (idle k seen own ch) w at);
                  stage = refl;
                  number = refl;
                },
              );
        },
        record {
          state = x;
          slots = refl;
          view = refl;
          charter_kept = p.charter ∙ ap Some (sym home.3);
          prefix = subst (IsPrefix seen) (sym is) here.2;
          own = p.own ∙ ap (made_by k) (sym is);
        },
      )

  loses : (s : State (Option S) (View E C)) (r : IsTurned entries charter n c s) (id k : ℕ) (seen own : List (ℕ × E)) (ch : Option C) (xs : List (ℕ × Option S))
      → get_elem? s.views id ≡ some (idle k seen own ch)
      → (w : View E C) × (a : Act (Option S)) × Valid s.homes xs a
      × IsTurned entries charter n c record { words = r.turn ∷ length r.log ∷ []; homes = homes_after s.homes xs a; views = set s.views id w }
      × (let m : Me (Option S) (View E C) = (w, carried_after xs a) in m ≡ (idle k seen own ch, xs))
  loses s r id k seen own ch xs at = (
    idle k seen own ch,
    keeps,
    tt,
    subst (λ (z : List ℕ × List (View E C)). IsTurned entries charter n c record { words = z.0; homes = s.homes; views = z.1 })
        (λ i. (r.words i, sym (set_again s.views id (idle k seen own ch) at) i)) r,
    refl,
  )

  -- the turn is taken, or another pass has it
  pub takes_turn : (slots id k : ℕ) (seen own : List (ℕ × E)) (ch : Option C) (xs : List (ℕ × Option S))
      → Allows (IsTurned entries charter n c) slots id (idle k seen own ch, xs) 0 (λ t. either (eqb t 0) (k + 1) t) (λ t m. TakesTurn entries charter (idle k seen own ch, xs) t m)
  takes_turn slots id k seen own ch xs s r wide at near =
      let m : Me (Option S) (View E C) = (idle k seen own ch, xs) in
      let G : ℕ → List ℕ → Bool → Type 0 = λ t rest b. (w : View E C) × (a : Act (Option S)) × Valid s.homes xs a
      × IsTurned entries charter n c record { words = either b (k + 1) t ∷ rest; homes = homes_after s.homes xs a; views = set s.views id w }
      × MatchBool b (Wins entries charter m (w, carried_after xs a)) (let m' : Me (Option S) (View E C) = (w, carried_after xs a) in m' ≡ m) in
      let P : List ℕ → Type 0 = λ ws. (w : View E C) × (a : Act (Option S)) × Valid s.homes xs a
      × IsTurned entries charter n c record { words = set ws 0 (either (eqb (slice_index ws 0) 0) (k + 1) (slice_index ws 0)); homes = homes_after s.homes xs a; views = set s.views id w }
      × MatchBool (eqb (slice_index ws 0) 0) (Wins entries charter m (w, carried_after xs a)) (let m' : Me (Option S) (View E C) = (w, carried_after xs a) in m' ≡ m) in
      let rest : List ℕ = length r.log ∷ [] in
      subst P (sym r.words) (dite (ℕ_discrete r.turn 0)
      (λ e. subst (G r.turn rest) (sym (eq-eqb r.turn 0 e)) (wins s r id k seen own ch xs at e))
      (λ ne. subst (G r.turn rest) (sym (ne_eqb r.turn 0 ne)) (loses s r id k seen own ch xs at)))

  pub takes_turn_as : (slots id k : ℕ) (me : Me (Option S) (View E C)) → me.0 ≡ idle k me.0.seen me.0.own me.0.charter
      → Allows (IsTurned entries charter n c) slots id me 0 (λ t. either (eqb t 0) (k + 1) t) (λ t m. TakesTurn entries charter me t m)
  takes_turn_as slots id k me is =
      subst (λ (v : View E C). Allows (IsTurned entries charter n c) slots id (v, me.1) 0 (λ t. either (eqb t 0) (k + 1) t) (λ t m. TakesTurn entries charter (v, me.1) t m)) (sym is)
      (takes_turn slots id k me.0.seen me.0.own me.0.charter me.1)

  -- who holds the turn finds the length of all that it has seen
  finds_length : (slots id k : ℕ) (seen own : List (ℕ × E)) (ch : Option C) (xs : List (ℕ × Option S))
      → Allows (IsTurned entries charter n c) slots id (holding k seen own ch, xs) 1 (λ t. t) (λ t m. FindsLength (holding k seen own ch, xs) t m)
  finds_length slots id k seen own ch xs s r wide at near =
      let m : Me (Option S) (View E C) = (holding k seen own ch, xs) in
      let P : List ℕ → Type 0 = λ ws. (w : View E C) × (a : Act (Option S)) × Valid s.homes xs a
      × IsTurned entries charter n c record { words = set ws 1 (slice_index ws 1); homes = homes_after s.homes xs a; views = set s.views id w }
      × FindsLength m (slice_index ws 1) (w, carried_after xs a) in
      let here = r.each id (holding k seen own ch) at in
      subst P (sym r.words) (
        holding k seen own ch,
        keeps,
        tt,
        subst (λ (z : List ℕ × List (View E C)). IsTurned entries charter n c record { words = z.0; homes = s.homes; views = z.1 })
            (λ i. (r.words i, sym (set_again s.views id (holding k seen own ch) at) i)) r,
        (ap length (sym here.2), refl),
      )

  pub finds_length_as : (slots id k : ℕ) (me : Me (Option S) (View E C)) → me.0 ≡ holding k me.0.seen me.0.own me.0.charter
      → Allows (IsTurned entries charter n c) slots id me 1 (λ t. t) (λ t m. FindsLength me t m)
  finds_length_as slots id k me is = subst (λ (v : View E C). Allows (IsTurned entries charter n c) slots id (v, me.1) 1 (λ t. t) (λ t m. FindsLength (v, me.1) t m)) (sym is)
      (finds_length slots id k me.0.seen me.0.own me.0.charter me.1)

  -- the seat of the pass that holds the turn, after a step that keeps it
  still_held : (s : State (Option S) (View E C)) (r : IsTurned entries charter n c s) (id k : ℕ) (v w : View E C) → get_elem? s.views id ≡ some v → w.stage ≡ Holding
      → w.number ≡ k → r.seat k ≡ id → k < r.next → r.turn ≡ k + 1
      → (i : ℕ) → r.turn ≡ i + 1 → (i < r.next) × HoldsTurn (set s.views id w) (r.seat i) i
  still_held s r id k v w at stage number sits dealt turn i same = let e : i ≡ k = same_number i k r.turn same turn in
      subst (λ (y : ℕ). (y < r.next) × HoldsTurn (set s.views id w) (r.seat y) y) (sym e)
      (dealt, record { view = w; at = subst (λ (y : ℕ). get_elem? (set s.views id w) y ≡ some w) (sym sits) (set_at s.views id v w at); stage = stage; number = number })

  -- another seat than that of the pass that holds the turn
  apart : (s : State (Option S) (View E C)) (r : IsTurned entries charter n c s) (id k : ℕ) → r.seat k ≡ id → r.turn ≡ k + 1
      → (j : ℕ) → j ≢ id → (i : ℕ) → r.seat i ≡ j → (i ≢ k) × (r.turn ≢ i + 1)
  apart s r id k sits turn j other i is = ((λ e. other (sym is ∙ ap r.seat e ∙ sits)), λ same. other (sym is ∙ ap r.seat (same_number i k r.turn same turn) ∙ sits))

  -- who holds the turn adds entries of its own
  adds : (slots id k new : ℕ) (seen own : List (ℕ × E)) (ch : Option C) (y : S) → Extends k seen (entries y) → new ≡ length (entries y)
      → Allows (IsTurned entries charter n c) slots id (holding k seen own ch, (0, Some y) ∷ []) 1 (λ _. new) (λ _ m. Adds entries (holding k seen own ch, (0, Some y) ∷ []) m)
  adds slots id k new seen own ch y more count s r wide at near =
      let xs : List (ℕ × Option S) = (0, Some y) ∷ [] in
      let m : Me (Option S) (View E C) = (holding k seen own ch, xs) in
      let log : List (ℕ × E) = entries y in
      let P : List ℕ → Type 0 = λ ws. (w : View E C) × (a : Act (Option S)) × Valid s.homes xs a
      × IsTurned entries charter n c record { words = set ws 1 new; homes = homes_after s.homes xs a; views = set s.views id w }
      × Adds entries m (w, carried_after xs a) in
      let here = r.each id (holding k seen own ch) at in
      let p = here.0 in
      let turn : r.turn ≡ k + 1 = here.1 in
      let more' : Extends k r.log log = subst (λ (l : List (ℕ × E)). Extends k l log) here.2 more in
      let w : View E C = holding k log (made_by k log) ch in
      let d = p.dealt in
      subst P (sym r.words) (
        w,
        keeps,
        tt,
        record {
          turn = r.turn;
          log = log;
          seat = r.seat;
          dealing = r.dealing;
          next = r.next;
          words = ap (λ (z : ℕ). r.turn ∷ z ∷ []) count;
          few = r.few;
          unmade = λ i far. made_by-kept k i r.log log (λ e. omega arith) more' ∙ r.unmade i far;
          each = each_set (λ j v. Fits log c r.turn r.seat r.dealing r.next j v v.stage) s.views id w
              (record { seated = p.seated; dealt = p.dealt; charter = p.charter; own = refl }, turn, refl)
              (λ j v other e. let out = apart s r id k p.seated turn j other in others_fit r.log log c r.turn r.turn r.seat r.seat r.dealing r.next r.next j
              record {
                seats = λ _ h _. h;
                more = omega arith;
                dealer = λ _. refl;
                longer = Extends-prefix k r.log log more';
                owns = λ i sits _. made_by-kept k i r.log log (out i sits).0 more';
                outside = λ i _ _ no. no;
                inside = λ i sits _ same. absurd ((out i sits).1 same);
              } v v.stage (r.each j v e));
          free = λ none. absurd (omega arith);
          taken = still_held s r id k (holding k seen own ch) w at refl refl p.seated p.dealt turn;
        },
        (refl, refl),
      )

  pub adds_as : (slots id k new : ℕ) (me : Me (Option S) (View E C)) (v : View E C) (y : S) → (let m : Me (Option S) (View E C) = (v, (0, Some y) ∷ []) in me ≡ m)
      → v ≡ holding k v.seen v.own v.charter → Extends k v.seen (entries y) → new ≡ length (entries y)
      → Allows (IsTurned entries charter n c) slots id me 1 (λ _. new) (λ _ m. Adds entries me m)
  adds_as slots id k new me v y at is more count = subst (λ (u : Me (Option S) (View E C)). Allows (IsTurned entries charter n c) slots id u 1 (λ _. new) (λ _ m. Adds entries u m)) (sym at)
      (subst (λ (u : View E C). Allows (IsTurned entries charter n c) slots id (u, (0, Some y) ∷ []) 1 (λ _. new) (λ _ m. Adds entries (u, (0, Some y) ∷ []) m)) (sym is)
      (adds slots id k new v.seen v.own v.charter y more count))

  -- the turn is let go, with the state at home
  releases : (id k : ℕ) (seen own : List (ℕ × E)) (ch : Option C) (y : S) → entries y ≡ seen → ch ≡ Some (charter y)
      → Allows (IsTurned entries charter n c) 1 id (holding k seen own ch, (0, Some y) ∷ []) 0 (λ _. 0) (λ _ m. Releases (holding k seen own ch, (0, Some y) ∷ []) m)
  releases id k seen own ch y is same s r wide at near =
      let xs : List (ℕ × Option S) = (0, Some y) ∷ [] in
      let m : Me (Option S) (View E C) = (holding k seen own ch, xs) in
      let P : List ℕ → Type 0 = λ ws. (w : View E C) × (a : Act (Option S)) × Valid s.homes xs a
      × IsTurned entries charter n c record { words = set ws 0 0; homes = homes_after s.homes xs a; views = set s.views id w }
      × Releases m (w, carried_after xs a) in
      let here = r.each id (holding k seen own ch) at in
      let p = here.0 in
      let turn : r.turn ≡ k + 1 = here.1 in
      let w : View E C = idle k seen own ch in
      let known : seen ≡ r.log = here.2 in
      let chartered : Some (charter y) ≡ Some c = sym same ∙ p.charter in
      subst P (sym r.words) (
        w,
        gives,
        tt,
        record {
          turn = 0;
          log = r.log;
          seat = r.seat;
          dealing = r.dealing;
          next = r.next;
          words = refl;
          few = r.few;
          unmade = r.unmade;
          each = each_set (λ j v. Fits r.log c 0 r.seat r.dealing r.next j v v.stage) s.views id w (
            record { seated = p.seated; dealt = p.dealt; charter = p.charter; own = p.own },
            (λ no. absurd (omega arith)),
            subst
                (λ (l : List (ℕ × E)). IsPrefix l r.log) (sym known) (whole r.log),
          )
              (λ j v other e. let out = apart s r id k p.seated turn j other in others_fit r.log r.log c r.turn 0 r.seat r.seat r.dealing r.next r.next j
              record {
                seats = λ _ h _. h;
                more = omega arith;
                dealer = λ _. refl;
                longer = whole r.log;
                owns = λ _ _ _. refl;
                outside = λ i _ _ _ no. omega arith;
                inside = λ i sits _ same. absurd ((out i sits).1 same);
              } v v.stage (r.each j v e));
          free = λ _. (y, set_here s.homes 0 (some (Some y)) (omega arith), is ∙ known, (cc));
          taken = λ i no. absurd (omega arith);
        },
        (refl, refl),
      )

  pub releases_as : (slots id k : ℕ) (me : Me (Option S) (View E C)) (y : S) → slots ≡ 1 → me.0 ≡ holding k me.0.seen me.0.own me.0.charter → me.1 ≡ (0, Some y) ∷ []
      → entries y ≡ me.0.seen → me.0.charter ≡ Some (charter y)
      → Allows (IsTurned entries charter n c) slots id me 0 (λ _. 0) (λ _ m. Releases me m)
  releases_as slots id k me y one is out seen same =
      subst (λ (u : ℕ × Me (Option S) (View E C)). Allows (IsTurned entries charter n c) u.0 id u.1 0 (λ _. 0) (λ _ m. Releases u.1 m)) (λ i. (sym one i, (sym is i, sym out i)))
      (releases id k me.0.seen me.0.own me.0.charter y seen same)

module _ {S E C : Type 0} where
  pub idle_along : (k j : ℕ) (m m' : Me (Option S) (View E C)) → k ≡ j → m ≡ m' → m'.0 ≡ idle j m'.0.seen m'.0.own m'.0.charter → m.0 ≡ idle k m.0.seen m.0.own m.0.charter
  idle_along k j m m' number same is = subst (λ (u : ℕ × Me (Option S) (View E C)). u.1.0 ≡ idle u.0 u.1.0.seen u.1.0.own u.1.0.charter) (λ i. (sym number i, sym same i)) is

  pub heads : (m m' : Me S (View E C)) (k : ℕ) (x : S) → m ≡ m' → m'.1 ≡ (k, x) ∷ [] → m.1 ≡ (k, x) ∷ rest m.1
  heads m m' k x same is = let e : m.1 ≡ (k, x) ∷ [] = ap (λ (u : Me S (View E C)). u.1) same ∙ is in e ∙ ap (λ (xs : List (ℕ × S)). (k, x) ∷ rest xs) (sym e)
