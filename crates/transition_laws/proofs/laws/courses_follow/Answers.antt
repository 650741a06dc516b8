use Rattle.transition_laws.proofs.Courses.{ask_in_order, each_is_counted}
use Rattle.transition_laws.proofs.laws.courses_follow.Goals as goal

pub returns : goal.returns
returns c = record { order = ask_in_order; lines = each_is_counted }
