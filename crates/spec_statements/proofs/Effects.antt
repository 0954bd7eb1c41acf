-- What a statement leaves of a database.
use Rattle.std.proofs.Common.{◌≡◌, ℕ, List, [], ◌∷◌, ◌⊎◌, inl, inr, refl, subst}
use Rattle.std.specs.Prelude.{Result, Ok, Err}
use Rattle.ras_cells.specs.Outcomes.{◌>>=◌}
use Rattle.ras_syntax.specs.declared.types.SetType.{SetType}
use Rattle.ras_syntax.specs.declared.typed.CheckedSource.{CheckedSource}
use Rattle.spec_statements.specs.Reply.{IsSuccess, Reply, RowReply, values}
use Rattle.spec_statements.specs.Effects.{StatementOutcome, Stores, reply_of_checked, database_in, effect_of_checked, outcome_of_plans, insert_store, insert_outcome, outcome_of, reply_in, stores_of_plans, update_store, values_of_plans}
use Rattle.spec_statements.specs.Plans.{Plan}
use Rattle.spec_statements.specs.Phases.{until_bodies}
use Rattle.spec_expressions.specs.Database.{Database}
use Rattle.spec_statements.specs.Statement.{Request, StatementTree, select, insert, delete, update, create, drop}
use Rattle.spec_expressions.specs.Tree.{Tree, Condition}

-- where each outcome is answered, so is the one that came
answered_then : {X : Type 0} (r : Result X Reply) (f : X → StatementOutcome) (o : StatementOutcome) → ((x : X) → IsSuccess (f x).0) → (r >>= λ x. Ok (f x)) ≡ Ok o → IsSuccess o.0
answered_then (Ok x) f o each is = let e : f x ≡ o = cc in let P : StatementOutcome → Type 0 = λ w. IsSuccess w.0 in subst P e (each x)
answered_then (Err reply) f o each is = absurd cc

answered_at_once : (w o : StatementOutcome) → IsSuccess w.0 → (let r : Result StatementOutcome Reply = Ok w in r ≡ Ok o) → IsSuccess o.0
answered_at_once w o h is = let e : w ≡ o = cc in let P : StatementOutcome → Type 0 = λ v. IsSuccess v.0 in subst P e h

inserted-answered : (into : List ℕ) (of : SetType) (database : Database) (stores : List (Plan × Stores)) → IsSuccess (insert_outcome into of database stores).0
inserted-answered into of database [] = tt
inserted-answered into of database (one ∷ others) = tt

finished-answered : (request : Request) (plans : List Plan) (database : Database) (o : StatementOutcome) → outcome_of_plans request plans database ≡ Ok o → IsSuccess o.0
finished-answered (select body sources condition) plans database o is =
    answered_then (values_of_plans body plans) (λ rows. (values rows, database)) o (λ rows. tt) is
finished-answered (insert into of body) plans database o is =
    answered_then (stores_of_plans (insert_store of) body plans) (insert_outcome into of database) o (inserted-answered into of database) is
finished-answered (delete source condition) plans database o is = answered_at_once _ o tt is
finished-answered (update source axes target body condition) plans database o is =
    answered_then (stores_of_plans (update_store source.of) body plans) _ o (λ stores. tt) is
finished-answered (create name of) plans database o is = answered_at_once _ o tt is
finished-answered (drop name) plans database o is = answered_at_once _ o tt is

outcome-answered : (r : Result (List Plan) Reply) (next : List Plan → Result StatementOutcome Reply) (o : StatementOutcome)
    → ((plans : List Plan) → next plans ≡ Ok o → IsSuccess o.0) → (r >>= next) ≡ Ok o → IsSuccess o.0
outcome-answered (Ok plans) next o each is = each plans is
outcome-answered (Err reply) next o each is = absurd cc

settled : (database : Database) (r : Result StatementOutcome Reply) → ((o : StatementOutcome) → r ≡ Ok o → IsSuccess o.0) → IsSuccess (reply_in r) ⊎ (database_in database r ≡ database)
settled database (Ok o) each = inl (each o refl)
settled database (Err reply) each = inr refl

pub answered_or_unchanged : (statement : StatementTree) (database : Database) → IsSuccess (reply_of_checked statement database) ⊎ (effect_of_checked statement database ≡ database)
answered_or_unchanged statement database =
    settled database (outcome_of statement database)
    (λ o is. outcome-answered (until_bodies statement database) (λ plans. outcome_of_plans statement.request plans database) o
    (λ plans. finished-answered statement.request plans database o) is)

values_keep : (database : Database) (r : Result (List RowReply) Reply) → database_in database (r >>= λ rows. Ok (values rows, database)) ≡ database
values_keep database (Ok rows) = refl
values_keep database (Err reply) = refl

plans_keep : (database : Database) (f : List Plan → Result (List RowReply) Reply) (r : Result (List Plan) Reply)
    → database_in database (r >>= λ plans. (f plans >>= λ rows. Ok (values rows, database))) ≡ database
plans_keep database f (Ok plans) = values_keep database (f plans)
plans_keep database f (Err reply) = refl

pub effect_of-select : (body : Tree) (sources : List CheckedSource) (condition : Condition) (length : ℕ) (database : Database)
    → effect_of_checked (record { request = select body sources condition; length = length }) database ≡ database
effect_of-select body sources condition length database =
    plans_keep database (values_of_plans body) (until_bodies (record { request = select body sources condition; length = length }) database)
