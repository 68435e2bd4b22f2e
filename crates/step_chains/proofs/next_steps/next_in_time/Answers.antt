use Rattle.step_chains.proofs.next_steps.next_in_time.Goals as goal

pub returns-in-Some : goal.returns-in-Some
returns-in-Some g c = λ some.
    let (value, left) = some c.in-Some.field-0 c.in-Some.ensures.0 in
    absurd (c.in-Some.ensures.1 value left)
