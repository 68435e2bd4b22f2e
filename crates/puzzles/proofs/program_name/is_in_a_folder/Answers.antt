use Rattle.std.proofs.Common.{codes}
use Rattle.std.proofs.lemmas.Slice.Eq.{ends_is}
use Rattle.std.proofs.lemmas.Bool.Decides.{Decides-eqb}
use Rattle.puzzles.proofs.program_name.is_in_a_folder.Goals as goal

pub returns : goal.returns
returns c =
    let ending = ends_is Decides-eqb _ (codes "/puzzles-json") _ c.ends_with.ensures.value in
    ((λ answer. (_, ending.0 answer)), λ in_folder. ending.1 _ in_folder.1)
