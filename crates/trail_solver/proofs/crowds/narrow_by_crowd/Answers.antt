use Rattle.std.proofs.Common.{◌≡◌, ℕ, ◌+◌, ◌<◌, true, ◌&&◌, leb, sym, ◌∙◌, arith, count_ones}
use Rattle.std.proofs.lemmas.Bool.{OnTrue_at, and_parts, leb-true}
use Rattle.number_sets.specs.Sets.{has_number}
use Rattle.trail_solver.proofs.CrowdSteps.{crowd_counted, none_crowded, others_lack, narrows_none}
use Rattle.trail_solver.proofs.crowds.narrow_by_crowd.Goals as goal

-- what is left of the proposed ones are lefts
crowd_lefts : (crowd proposed lefts values w : ℕ) → ((n : ℕ) → has_number crowd n ≡ (has_number proposed n && has_number lefts n))
    → ((n : ℕ) → has_number lefts n ≡ has_number values (n + 1)) → ((n : ℕ) → has_number values n ≡ (leb 1 n && leb n w))
    → (left : ℕ) → has_number crowd left ≡ true → left < w
crowd_lefts crowd proposed lefts values w both lower upper left has =
    let among = (and_parts (has_number proposed left) (has_number lefts left) (sym (both left) ∙ has)).1 in
    let high = (and_parts (leb 1 (left + 1)) (leb (left + 1) w) (sym (upper (left + 1)) ∙ sym (lower left) ∙ among)).1 in
    omega (arith, leb-true (left + 1) w high)

pub returns-then-are_too_few : goal.returns-then-are_too_few
returns-then-are_too_few c =
    let now = c.args.candidates.now in
    let crowd = c.intersection-crowd.result in
    let rights = c.rights_of-rights.result in
    let width : c.get-width.result ≡ now.size = c.get-width.ensures.value ∙ c.size.ensures.value in
    let lefts : (left : ℕ) → has_number crowd left ≡ true → left < now.size = λ left has. omega (arith, width, crowd_lefts crowd c.args.proposed c.lowered.result c.up_to.result c.get-width.result c.intersection-crowd.ensures.members c.lowered.ensures c.up_to.ensures.members left has) in
    let crowded = crowd_counted now c.args.pairing c.args.sides.now crowd rights c.requires.covers lefts
    (λ left right low has side. c.rights_of-rights.ensures left right (omega (arith, width)) has side) in
    let few : count_ones rights < count_ones crowd = OnTrue_at c.if-are_too_few.true c.are_too_few.ensures in
    narrows_none now (none_crowded now c.args.pairing crowd rights c.size.ensures.valid.largest c.requires.pairing crowded few)

pub strike_others-requires-clause-others : goal.strike_others-requires-clause-others
strike_others-requires-clause-others c =
    let now = c.args.candidates.now in
    let crowd = c.intersection-crowd.result in
    let rights = c.rights_of-rights.result in
    let width : c.get-width.result ≡ now.size = c.get-width.ensures.value ∙ c.size.ensures.value in
    let lefts : (left : ℕ) → has_number crowd left ≡ true → left < now.size = λ left has. omega (arith, width, crowd_lefts crowd c.args.proposed c.lowered.result c.up_to.result c.get-width.result c.intersection-crowd.ensures.members c.lowered.ensures c.up_to.ensures.members left has) in
    let crowded = crowd_counted now c.args.pairing c.args.sides.now crowd rights c.requires.covers lefts
    (λ left right low has side. c.rights_of-rights.ensures left right (omega (arith, width)) has side) in
    let same : count_ones rights ≡ count_ones crowd = OnTrue_at c.if-are_just_enough.true c.are_just_enough.ensures in
    others_lack now c.args.pairing crowd rights c.size.ensures.valid.largest c.requires.pairing crowded same
