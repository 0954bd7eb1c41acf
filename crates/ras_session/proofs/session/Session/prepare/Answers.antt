use Rattle.std.proofs.Common.{ap}
use Rattle.ras_walk.specs.Places.{session_place_of}
use Rattle.ras_session.proofs.Ties.{if_ok}
use Rattle.ras_session.proofs.session.Session.prepare.Goals as goal

pub returns-in-Free-clause-prepared : goal.returns-in-Free-clause-prepared
returns-in-Free-clause-prepared g c =
    if_ok c.prepare_free.result _ _ (λ request prepared. prepared _ (ap session_place_of c.in-Free.is)) c.prepare_free.ensures.prepared

pub returns-in-Inside-clause-prepared : goal.returns-in-Inside-clause-prepared
returns-in-Inside-clause-prepared g c =
    if_ok c.prepare_inside.result _ _ (λ request prepared. prepared _ (ap session_place_of c.in-Inside.is)) c.prepare_inside.ensures.prepared

pub returns-in-Own-clause-prepared : goal.returns-in-Own-clause-prepared
returns-in-Own-clause-prepared g c =
    if_ok c.prepare_own.result _ _ (λ request prepared. prepared _ (ap session_place_of c.in-Own.is)) c.prepare_own.ensures.prepared
