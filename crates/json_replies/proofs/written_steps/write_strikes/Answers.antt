use Rattle.std.proofs.Common.{◌≡◌, List, map, take, refl, subst, arith}
use Rattle.std.proofs.lemmas.List.{take_all, take_more}
use Rattle.step_texts.specs.declared.told.Strike.{Strike}
use Rattle.json_replies.specs.Steps.{strike_data}
use Rattle.json_replies.specs.WrittenData.{Follow}
use Rattle.json_replies.proofs.WrittenData.{item_follows, list_follows}
use Rattle.json_replies.proofs.written_steps.write_strikes.Goals as goal

pub loop-strike-preserved : goal.loop-strike-preserved
loop-strike-preserved c =
    let strikes = c.args.strikes.now in
    item_follows strike_data strikes c.loop-strike.strike-index (take_more strikes c.loop-strike.strike-index c.strike-item.result (omega arith))
    c.strike-item.is refl c.loop-strike.invariant c.in_ok-write_strike.ensures

pub returns : goal.returns
returns c =
    let strikes = c.args.strikes.now in
    let all : take c.loop-strike.strike-index strikes ≡ strikes = take_all c.loop-strike.strike-index strikes (omega arith) in
    list_follows c.in_ok-begin_array.ensures
    (subst (λ (xs : List Strike). Follow (map strike_data xs) c.begin_array.new.self c.loop-strike.writer) all c.loop-strike.invariant)
    c.in_ok-end_array.ensures
