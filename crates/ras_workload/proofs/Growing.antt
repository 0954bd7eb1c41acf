-- What is told of a section goes on to the whole outline.
use Rattle.std.proofs.Common.{◌≡◌, ℕ, Bool, true, false, List, [], ◌∷◌, ◌++◌, Option, Some, None, Result, Ok, Err, suc, ◌+◌, ◌<◌, ◌≤◌, length, take, drop-cons, refl, ap, sym, subst, ◌∙◌, arith}
use Rattle.std.proofs.lemmas.List.{drop_all}
use Rattle.ras_cells.specs.Outcomes.{◌>>=◌}
use Rattle.spec_grammar.specs.Tokens.{Text, is_same, space_length}
use Rattle.spec_workloads.specs.Outline.{OutlineFault, all, bad_heading, no_outline, outline_after, outline_in, outline_of, provided, title, titled}
use Rattle.spec_workloads.specs.Sections.{Section, headed, line_feeds}
use Rattle.ras_workload.specs.declared.fault.WorkloadFault.{WorkloadFault}
use Rattle.ras_workload.specs.Told.{ToldFault, fault_seen}
use Rattle.ras_workload.proofs.Headed.{outline_by}

-- a fault stays the answer
pub told_on : {A B : Type 0} (told : Result A OutlineFault) (g : A → Result B OutlineFault) (found : WorkloadFault) → ToldFault told found → ToldFault (told >>= g) found
told_on told g found h = λ fault is. ap (λ t. t >>= g) (h fault is)

-- the fault of a test that isn't passed
pub told_fault : {A : Type 0} (told : Result A OutlineFault) (found : WorkloadFault) (fault : OutlineFault) → fault_seen found ≡ Some fault → told ≡ Err fault → ToldFault told found
told_fault told found fault seen is = λ other same. let e : fault ≡ other = cc in is ∙ ap (λ f. Err f) e

pub provided-true : {A : Type 0} (v : Bool) (fault : OutlineFault) (r : Result A OutlineFault) → v ≡ true → provided v fault r ≡ r
provided-true true fault r is = refl
provided-true false fault r is = absurd cc

pub provided-false : {A : Type 0} (v : Bool) (fault : OutlineFault) (r : Result A OutlineFault) → v ≡ false → provided v fault r ≡ Err fault
provided-false true fault r is = absurd cc
provided-false false fault r is = refl

-- ---- the title

module _ (section : Section) (later : List Section) (skipped : ℕ) where
  pub title_behind : (feeds : ℕ) → is_same section.heading title ≡ true → skipped ≡ space_length false section.body → skipped < length section.body
      → feeds ≡ line_feeds (take skipped section.body) → titled section later ≡ Err (bad_heading (section.line + 1 + feeds))
  title_behind feeds same is within counted =
      let line : suc section.line + line_feeds (take (space_length false section.body) section.body) ≡ section.line + 1 + feeds =
      omega (arith, counted, ap (λ n. line_feeds (take n section.body)) is) in
      let rest = drop-cons section.body (space_length false section.body) 0 (omega arith) in
      provided-true _ _ _ same
      ∙ ap (λ (t : Text). (elim t as (λ _. Result ℕ OutlineFault) [
        | [] ↦ Ok section.behind
        | b ∷ bytes ↦ Err (bad_heading (suc section.line + line_feeds (take (space_length false section.body) section.body)))
      ]) >>= λ behind. outline_after all no_outline later) rest
      ∙ ap (λ n. Err (bad_heading n)) line

  pub title_alone : is_same section.heading title ≡ true → skipped ≡ space_length false section.body → length section.body ≤ skipped
      → titled section later ≡ outline_after all no_outline later
  title_alone same is past =
      provided-true _ _ _ same
      ∙ ap (λ (t : Text). (elim t as (λ _. Result ℕ OutlineFault) [
        | [] ↦ Ok section.behind
        | b ∷ bytes ↦ Err (bad_heading (suc section.line + line_feeds (take (space_length false section.body) section.body)))
      ]) >>= λ behind. outline_after all no_outline later) (drop_all (space_length false section.body) section.body (omega arith))

-- ---- the outline, one section after the other

module _ (text : Text) (sections : List Section) (is : headed text ≡ record { front = []; sections = sections }) where
  pub no_section : sections ≡ [] → outline_of text ≡ Err (bad_heading 1)
  no_section none = outline_by text sections is ∙ ap (λ ss. outline_in [] ss) none

  pub title_first : (section : Section) (later : List Section) → sections ≡ section ∷ later → outline_of text ≡ titled section later
  title_first section later first = outline_by text sections is ∙ ap (λ ss. outline_in [] ss) first
