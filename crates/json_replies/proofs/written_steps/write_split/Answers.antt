use Rattle.std.proofs.Common.{◌≡◌, List, map, take, refl, subst, arith}
use Rattle.std.proofs.lemmas.List.{take_all, take_more}
use Rattle.step_texts.specs.declared.told.Seen.TheVariants.{Fewer}
use Rattle.step_texts.specs.declared.told.TowerPlace.TheVariants.{There}
use Rattle.step_texts.specs.declared.told.TowerSquare.{TowerSquare}
use Rattle.json_replies.specs.Steps.{tower_data}
use Rattle.json_replies.specs.WrittenData.{Follow}
use Rattle.json_replies.proofs.WrittenData.{item_follows, list_follows}
use Rattle.json_replies.proofs.written_steps.write_split.Goals as goal

-- any square, for places past the end
abbrev first : TowerSquare
first = record { cell = 0; number = 0; place = There; seen = Fewer }

pub loop-tower-preserved : goal.loop-tower-preserved
loop-tower-preserved c =
    let towers = c.args.towers.now in
    item_follows tower_data towers c.loop-tower.tower-index (take_more towers c.loop-tower.tower-index first (omega arith)) refl refl
    c.loop-tower.invariant c.in_ok-write_tower.ensures

pub returns : goal.returns
returns c =
    let towers = c.args.towers.now in
    let all : take c.loop-tower.tower-index towers ≡ towers = take_all c.loop-tower.tower-index towers (omega arith) in
    list_follows c.in_ok-begin_array.ensures
    (subst (λ (xs : List TowerSquare). Follow (map tower_data xs) c.begin_array.new.self c.loop-tower.writer) all c.loop-tower.invariant)
    c.in_ok-end_array.ensures
