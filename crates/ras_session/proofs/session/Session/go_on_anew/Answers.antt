use Rattle.std.proofs.Common.{refl, sym, subst}
use Rattle.ras_session.specs.Replied.{IsNewWork}
use Rattle.ras_session.proofs.session.Session.go_on_anew.Goals as goal

pub returns-clause-gone : goal.returns-clause-gone
returns-clause-gone c = record {
  between = c.go_on_by.new.self;
  gone_on = c.in_ok-go_on_by.ensures.gone;
  rest = refl;
  is_new = subst (λ w. IsNewWork w) (sym c.replace.ensures.after)
      (record { nothing = c.new.ensures.kept; none_written = c.new.ensures.changes; own = c.new.ensures.own });
}
