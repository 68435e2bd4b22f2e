use Rattle.std.proofs.Common.{◌≡◌, List, map, take, refl, subst, arith}
use Rattle.std.proofs.lemmas.List.{take_all, take_more}
use Rattle.step_texts.specs.declared.told.KnownSquare.{KnownSquare}
use Rattle.json_replies.specs.Steps.{known_data}
use Rattle.json_replies.specs.WrittenData.{Follow}
use Rattle.json_replies.proofs.WrittenData.{item_follows, list_follows}
use Rattle.json_replies.proofs.written_steps.write_known.Goals as goal

pub loop-square-preserved : goal.loop-square-preserved
loop-square-preserved c =
    let squares = c.args.known.now in
    item_follows known_data squares c.loop-square.square-index (take_more squares c.loop-square.square-index c.square-item.result (omega arith))
    c.square-item.is refl c.loop-square.invariant c.in_ok-write_known_square.ensures

pub returns : goal.returns
returns c =
    let squares = c.args.known.now in
    let all : take c.loop-square.square-index squares ≡ squares = take_all c.loop-square.square-index squares (omega arith) in
    list_follows c.in_ok-begin_array.ensures
    (subst (λ (xs : List KnownSquare). Follow (map known_data xs) c.begin_array.new.self c.loop-square.writer) all c.loop-square.invariant)
    c.in_ok-end_array.ensures
