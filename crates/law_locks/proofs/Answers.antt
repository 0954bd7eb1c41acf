-- Databases that agree on all lists of a statement have the same answer for it, and it leaves databases that agree.
use Rattle.std.proofs.Common.{◌≡◌, ◌≤◌, ℕ, List, Ok, refl, arith}
use Rattle.std.specs.List.{AllZip}
use Rattle.ras_syntax.specs.declared.statement.Statement.{Statement}
use Rattle.ras_syntax.specs.declared.types.SetType.{SetType}
use Rattle.ras_syntax.specs.declared.typed.Checked.{Checked}
use Rattle.spec_expressions.specs.Database.{Database}
use Rattle.spec_statements.specs.Agree.{Agrees}
use Rattle.spec_statements.specs.Plans.{Plan}
use Rattle.spec_statements.specs.Effects.{insert_store, update_store}
use Rattle.spec_statements.specs.Phases.{needs_2, needs_3, needs_4, until_bodies}
use Rattle.spec_statements.specs.Locks.{Lock}
use Rattle.spec_statements.specs.Machine.{checked_over, effect_of, needs_of, reply_of}
use Rattle.spec_statements.specs.ReachLaw.{AreNamedIn, IsSetting, LawOfAnswers}
use Rattle.spec_statements.specs.Rows.{sources_of}
use Rattle.spec_statements.specs.Statement.{Request, statement_tree_of, select, insert, delete, update, create, drop}
use Rattle.spec_statements.specs.Validity.{IsValidFor}
use Rattle.law_locks.specs.Plans.{AreAlikePlans}
use Rattle.law_locks.proofs.Collections.{checked_same}
use Rattle.law_locks.proofs.Effects.{AreDoneAlike, answers-agree}
use Rattle.law_locks.proofs.Lists.{IsShort, first_covered, known_here, later_covered}
use Rattle.law_locks.proofs.Made.{made_same, plans_alike, values_same}
use Rattle.law_locks.proofs.Planned.{IsBodyPair, IsTypedBody, bodies_same, body_in}
use Rattle.law_locks.proofs.Sides.{Alike, Alike-weaker, both-ok}

-- bodies that read the same give the same values, or store the same
done_same : (types : List SetType) (one other : Database) (request : Request) (plans others : List Plan) → IsTypedBody (sources_of request) (body_in request)
    → AllZip (IsBodyPair types one other request) plans others → AreDoneAlike request plans others
done_same types one other (select body sources condition) plans others typed pairs = values_same types one other (select body sources condition) body refl typed plans others pairs
done_same types one other (insert into of body) plans others typed pairs = made_same types one other (insert into of body) body refl typed (insert_store of) plans others pairs
done_same types one other (delete source condition) plans others typed pairs = tt
done_same types one other (update source axes target body condition) plans others typed pairs =
    made_same types one other (update source axes target body condition) body refl typed (update_store source.of) plans others pairs
done_same types one other (create name of) plans others typed pairs = tt
done_same types one other (drop name) plans others typed pairs = tt

module _ (types : List SetType) (statement : Statement) (one other : Database) (list : List Lock) (setting : IsSetting types statement one)
    (valid : IsValidFor types other) (agrees : Agrees types list one other)
    (covers : (phase : ℕ) → phase ≤ 4 → AreNamedIn (needs_of types statement phase one) list) where
  first : AreNamedIn (needs_of types statement 1 one) list
  first = covers 1 (omega arith)

  bodies_here : (checked : Checked) → IsShort statement → checked_over types statement one ≡ Ok checked
      → Alike (AllZip (IsBodyPair types one other (statement_tree_of checked).request)) (until_bodies (statement_tree_of checked) one) (until_bodies (statement_tree_of checked) other)
  bodies_here checked short is =
      let covered = later_covered types statement one other list setting valid agrees first in
      let facts = known_here types statement one other list setting valid agrees first checked short is in
      bodies_same types one other list agrees (statement_tree_of checked) facts.over facts.condition
      (covered needs_2 checked short is (covers 2 (omega arith))) (covered needs_3 checked short is (covers 3 (omega arith))) (covered needs_4 checked short is (covers 4 (omega arith)))

  pub answers_here : (reply_of types statement one ≡ reply_of types statement other) × Agrees types list (effect_of types statement one) (effect_of types statement other)
  answers_here =
      answers-agree types statement one other list setting.valid valid agrees first
      (λ short. checked_same types statement list one other agrees (first_covered types statement one other list setting valid agrees first short))
      (λ checked short is. let request : Request = (statement_tree_of checked).request in
      Alike-weaker (AllZip (IsBodyPair types one other request)) AreAlikePlans (until_bodies (statement_tree_of checked) one)
      (until_bodies (statement_tree_of checked) other) (bodies_here checked short is)
      (λ plans others left right pairs. plans_alike types one other request plans others pairs))
      (λ checked short is plans others left right alike. let request : Request = (statement_tree_of checked).request in
      done_same types one other request plans others (known_here types statement one other list setting valid agrees first checked short is).body
      (both-ok (AllZip (IsBodyPair types one other request)) (until_bodies (statement_tree_of checked) one) (until_bodies (statement_tree_of checked) other) plans
      others (bodies_here checked short is) left right))

pub answers_agree : LawOfAnswers
answers_agree = answers_here
