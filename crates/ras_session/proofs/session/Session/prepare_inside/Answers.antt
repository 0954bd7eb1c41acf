use Rattle.std.proofs.Common.{◌≡◌, ap, ◌∙◌}
use Rattle.law_walks.specs.Session.{asking_in}
use Rattle.ras_syntax.specs.declared.statement.Word.TheVariants.{Commit}
use Rattle.ras_walk.specs.Places.{opened_seen}
use Rattle.ras_walk.specs.declared.place.Item.TheVariants.{Word}
use Rattle.ras_session.proofs.Places.{data_behind, inside_commits, tells}
use Rattle.ras_session.proofs.Ties.{if_ok}
use Rattle.ras_session.proofs.session.Session.prepare_inside.Goals as goal

pub returns-in-Word-Commit-clause-prepared : goal.returns-in-Word-Commit-clause-prepared
returns-in-Word-Commit-clause-prepared g c = λ granted place.
    let inner : c.in-Word-Commit.field-0 ≡ Commit c.in-Word-Commit.anyway = rw c.in-Word-Commit.is at c.in-Word-Commit.field-0-is in
    inside_commits c.args.workload.now c.args.self.now c.read.new.self c.in_ok-item.item c.in_ok-item.ensures.read (opened_seen c.args.opened) granted place
    c.commit.new.self c.in-Word-Commit.anyway c.commit.result (c.in-Word-Commit.is ∙ ap Word inner) (c.commit.ensures.prepared c.args.workload.now granted)

pub returns-in-Data-clause-prepared : goal.returns-in-Data-clause-prepared
returns-in-Data-clause-prepared g c =
    if_ok c.prepare_data.result _ _
    (λ request prepared granted place.
    data_behind c.args.workload.now c.args.self.now c.read.new.self c.prepare_data.new.self c.in_ok-item.item c.args.opened.t request c.in_ok-item.ensures.read
    (ap asking_in place) c.in-Data.is prepared)
    c.prepare_data.ensures.prepared

pub returns-in_ok-tell-in-Fault-clause-prepared : goal.returns-in_ok-tell-in-Fault-clause-prepared
returns-in_ok-tell-in-Fault-clause-prepared g c = λ granted place.
    tells c.args.workload.now c.args.self.now c.read.new.self c.tell.new.self c.in_ok-item.item c.in_ok-item.ensures.read c.in_ok-tell-in-Fault.ensures.told
