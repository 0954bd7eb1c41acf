-- What a statement writes is the same over all that its four phases show.
use Rattle.std.proofs.Common.{◌≡◌, List, [], ◌∷◌, map, Ok, false, refl, arith}
use Rattle.std.specs.List.{AllZip}
use Rattle.ras_syntax.specs.declared.statement.Statement.{Statement}
use Rattle.ras_syntax.specs.declared.types.SetType.{SetType}
use Rattle.ras_syntax.specs.declared.typed.Checked.{Checked}
use Rattle.spec_expressions.specs.Database.{Database}
use Rattle.spec_statements.specs.Effects.{Stores, grown_in, insert_store, stores_of_plans, update_store, values_of_plans}
use Rattle.spec_statements.specs.Locks.{Lock}
use Rattle.spec_statements.specs.Machine.{checked_over, first_list, is_too_long, needs_of}
use Rattle.spec_statements.specs.Phases.{needs_2, needs_3, needs_4, until_bodies}
use Rattle.spec_statements.specs.Plans.{Plan}
use Rattle.spec_statements.specs.ReachLaw.{AreNamedIn, IsSetting}
use Rattle.spec_statements.specs.Rows.{sources_of}
use Rattle.spec_statements.specs.Statement.{Request, StatementTree, statement_tree_of, select, insert, delete, update, create, drop}
use Rattle.law_locks.specs.Plans.{AreAlikeMade, AreAlikePlans, IsAlikePlan}
use Rattle.law_locks.proofs.Lists.{known_here, later_covered}
use Rattle.law_locks.proofs.Made.{made_same, plans_alike, values_same}
use Rattle.law_locks.proofs.Planned.{IsBodyPair, IsTypedBody, bodies_same, body_in}
use Rattle.law_locks.proofs.Sides.{Alike, Alike-bind, Alike-same, same-Alike}
use Rattle.spec_views.specs.Holdings.{Holdings, IsSeenBy, lists_before}
use Rattle.spec_views.specs.Writings.{row_writing, writings_of_plans, written_by}
use Rattle.law_views.proofs.Seen.{earlier_listed, identifiers_same, seen_agree}

-- alike plans with the same stores write the same
writing_same : (a b : Plan × Stores) → IsAlikePlan a.0 b.0 → a.1 ≡ b.1 → row_writing a ≡ row_writing b
writing_same a b alike stores = λ i. record {
  identifiers = identifiers_same a.0.row b.0.row alike.row i;
  grown = grown_in (alike.writing i);
  stores = stores i;
}

made_told : (made others : List (Plan × Stores)) → AreAlikeMade made others → map row_writing made ≡ map row_writing others
made_told [] [] alike = refl
made_told [] (b ∷ bs) alike = absurd alike
made_told (a ∷ as_) [] alike = absurd alike
made_told (a ∷ as_) (b ∷ bs) alike = λ i. writing_same a b alike.0 alike.1 i ∷ made_told as_ bs alike.2 i

plans_told : (plans others : List Plan) → AreAlikePlans plans others → map (λ plan. row_writing (plan, [])) plans ≡ map (λ plan. row_writing (plan, [])) others
plans_told [] [] alike = refl
plans_told [] (b ∷ bs) alike = absurd alike
plans_told (a ∷ as_) [] alike = absurd alike
plans_told (a ∷ as_) (b ∷ bs) alike = λ i. writing_same (a, []) (b, []) alike.0 refl i ∷ plans_told as_ bs alike.1 i

module _ (types : List SetType) (one other : Database) where
  writings_same : (request : Request) (plans others : List Plan) → IsTypedBody (sources_of request) (body_in request)
      → AllZip (IsBodyPair types one other request) plans others → Alike (λ x y. x ≡ y) (writings_of_plans request plans) (writings_of_plans request others)
  writings_same (select body sources condition) plans others typed pairs =
      Alike-bind (λ x y. x ≡ y) (λ x y. x ≡ y) (values_of_plans body plans) (values_of_plans body others) (λ rows. Ok []) (λ rows. Ok [])
      (Alike-same (λ x y. x ≡ y) (values_of_plans body plans) (values_of_plans body others)
      (values_same types one other (select body sources condition) body refl typed plans others pairs) (λ rows is. refl)) (λ rows more left right same. refl)
  writings_same (insert into of body) plans others typed pairs =
      Alike-bind AreAlikeMade (λ x y. x ≡ y) (stores_of_plans (insert_store of) body plans) (stores_of_plans (insert_store of) body others)
      (λ made. Ok (map row_writing made)) (λ made. Ok (map row_writing made))
      (made_same types one other (insert into of body) body refl typed (insert_store of) plans others pairs) (λ made more left right alike. made_told made more alike)
  writings_same (delete source condition) plans others typed pairs = plans_told plans others (plans_alike types one other (delete source condition) plans others pairs)
  writings_same (update source axes target body condition) plans others typed pairs =
      Alike-bind AreAlikeMade (λ x y. x ≡ y) (stores_of_plans (update_store source.of) body plans) (stores_of_plans (update_store source.of) body others)
      (λ made. Ok (map row_writing made)) (λ made. Ok (map row_writing made))
      (made_same types one other (update source axes target body condition) body refl typed (update_store source.of) plans others pairs)
      (λ made more left right alike. made_told made more alike)
  writings_same (create name of) plans others typed pairs = refl
  writings_same (drop name) plans others typed pairs = refl

pub seen_writes : (types : List SetType) (statement : Statement) (view : Holdings) (one other : Database) → IsSetting types statement one → (checked : Checked)
    → is_too_long (first_list statement) ≡ false → checked_over types statement one ≡ Ok checked
    → IsSeenBy types view statement 5 one → IsSeenBy types view statement 5 other
    → written_by (statement_tree_of checked) one ≡ written_by (statement_tree_of checked) other
seen_writes types statement view one other setting checked short is seen also =
    let tree : StatementTree = statement_tree_of checked in
    let list : List Lock = lists_before types statement 5 one in
    let agrees = seen_agree types statement view one other setting 5 seen also in
    let first : AreNamedIn (needs_of types statement 1 one) list = earlier_listed types statement one 1 5 (omega arith) in
    let facts = known_here types statement one other list setting also.valid agrees first checked short is in
    let covered = later_covered types statement one other list setting also.valid agrees first in
    same-Alike (written_by tree one) (written_by tree other)
    (Alike-bind (AllZip (IsBodyPair types one other tree.request)) (λ x y. x ≡ y) (until_bodies tree one) (until_bodies tree other)
    (writings_of_plans tree.request) (writings_of_plans tree.request)
    (bodies_same types one other list agrees tree facts.over facts.condition (covered needs_2 checked short is (earlier_listed types statement one 2 5 (omega arith)))
    (covered needs_3 checked short is (earlier_listed types statement one 3 5 (omega arith))) (covered needs_4 checked short is (earlier_listed types statement one 4 5 (omega arith))))
    (λ plans others left right pairs. writings_same types one other tree.request plans others facts.body pairs))
