-- THEOREM: the starred sums S1 to S9 and S11 hold, as one table (model's specs/Sums) under one claim, `Each sums Holds`. It is proved in model,
-- beside the definitions, so that a wrong edit of a definition meets it there. Assumes nothing.
pub use Rattle.model.proofs.StarredSums.{starred_sums}
