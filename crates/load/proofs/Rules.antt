-- The laws that the goals of a function want, named on it in src/.
use Rattle.model.proofs.NumberLaws.{gcd_step, gcd_zero, gcd_positive}
use Rattle.model.proofs.ElementLaws.{legal_parts}
use Rattle.model.proofs.TurnedAwayLaws.{set_fine}
use Rattle.theory.proofs.DemandLaws.{early, late}
use Rattle.theory.proofs.LoadLaws.{joined_is, period_within}
use Rattle.theory.proofs.SizeLaws.{first_small}
use Rattle.theory.proofs.OverloadLaws.{at_first, at_later}
use Rattle.load.proofs.FindingH.{start, next, above}
use Rattle.load.proofs.ListLaws.{period_at}
use Rattle.load.proofs.LoadedLaws.{hyperperiod_tells, grows_by_load, refused_first, refused_by_8, above_one, at_most_one, demand_at_lem, no_demand_refused, no_demand_past}

pub ruleset of_gcd = (gcd_step, gcd_zero)

pub ruleset of_joined = (gcd_positive, joined_is, period_within)

pub ruleset of_hyperperiod = (start, next, above, period_at)

pub ruleset of_demand_of = (early, late, period_within, legal_parts)

pub ruleset of_demand_at = (set_fine, demand_at_lem, no_demand_refused, no_demand_past)

pub ruleset of_load = (hyperperiod_tells, first_small, grows_by_load)

pub ruleset of_overload = (first_small, at_first, at_later)

pub ruleset of_load_of = (refused_first, refused_by_8, above_one, at_most_one)
