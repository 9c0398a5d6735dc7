use Rattle.std.proofs.Common.{◌≡◌, ◌++◌, map, take, drop}
use Rattle.places.proofs.dates.lay_rows.Given as goal

abbrev pub invariant-loop-i : goal.invariant-loop-i
invariant-loop-i g l = l.rows ≡ map (g.T.RowOf.made l.rows_of) (take l.i l.e-items) ++ drop l.i l.initial.rows
