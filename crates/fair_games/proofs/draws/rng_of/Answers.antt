use Rattle.std.proofs.Common.{ℕ, List, ◌++◌, ◌∙◌, ap, replicate, slice_set, w64}
use Rattle.std.specs.Int.{to_be_bytes}
use Rattle.rand_chacha.specs.ChaCha.{of_seed}
use Rattle.fair_games.proofs.draws.rng_of.Goals as goal

pub returns : goal.returns
returns c =
    let key : List ℕ → ℕ → List ℕ = λ front w. slice_set (slice_set (slice_set (front ++ replicate 24 0) 8 w) 9 c.args.letter) 10 c.args.initial in
    c.from_seed.ensures ∙ ap (λ (front : List ℕ). of_seed (key front c.get.result)) (c.copy_from_slice.ensures.after ∙ c.to_be_bytes.ensures)
    ∙ ap (λ (w : ℕ). of_seed (key (to_be_bytes w64 c.args.seed) w)) c.get.ensures.value
