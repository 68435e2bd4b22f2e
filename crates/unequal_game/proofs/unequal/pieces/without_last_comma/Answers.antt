use Rattle.std.proofs.Common.{inl}
use Rattle.std.proofs.lemmas.Slice.Eq.{strip_suffix_is}
use Rattle.std.proofs.lemmas.Bool.Decides.{Decides-eqb}
use Rattle.unequal_game.proofs.unequal.pieces.without_last_comma.Goals as goal

pub returns-in-Some : goal.returns-in-Some
returns-in-Some c =
    let suffix = strip_suffix_is Decides-eqb c.args.text.now c.as_slice.result.now c.strip_suffix.result c.strip_suffix.ensures.cases in
    inl (rw c.as_slice.ensures at (rw c.in-Some.is at suffix))
