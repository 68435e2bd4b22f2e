use Rattle.std.proofs.Common.{◌≡◌, ℕ, List, [], ◌∷◌, ◌++◌, Option, option_map, Bor, ap, ◌∙◌, sym, arith}
use Rattle.std.proofs.lemmas.List.{length-map, map-append}
use Rattle.unequal_game.specs.Inner.UnequalPieces.{texts_of}
use Rattle.unequal_game.proofs.PieceLemmas.{pieces_shorter, pieces_step, pieces_over}
use Rattle.unequal_game.proofs.unequal.pieces.split_at_commas.Goals as goal

-- the text to which the rest refers, if there is a rest
abbrev text_left : Option (Bor (List ℕ)) → Option (List ℕ)
text_left rest = option_map (λ r. r.now) rest

pub returns-then-len-wanted : goal.returns-then-len-wanted
returns-then-len-wanted c =
    pieces_over (texts_of c.loop-rest.pieces.items) _ (text_left c.loop-rest.rest) c.in-Some.bytes.now c.args.wanted
    c.loop-rest.invariant.split (ap text_left c.in-Some.is)
    (length-map c.loop-rest.pieces.items (λ p. p.now) ∙ sym c.len.ensures.value ∙ c.if-len-wanted.true)

pub loop-rest-smaller : goal.loop-rest-smaller
loop-rest-smaller c =
    pieces_shorter (text_left c.loop-rest.rest) (text_left c.cut.result.1) c.in-Some.bytes.now (ap text_left c.in-Some.is)
    c.cut.ensures.rest

pub loop-rest-preserved : goal.loop-rest-preserved
loop-rest-preserved c = record {
  split =
      let more : texts_of c.push.new.self.items ≡ texts_of c.loop-rest.pieces.items ++ c.cut.result.0.now ∷ [] =
      rw c.push.ensures.items (map-append (λ p. p.now) c.loop-rest.pieces.items (c.cut.result.0 ∷ [])) in
      rw more (pieces_step (texts_of c.loop-rest.pieces.items) (text_left c.loop-rest.rest) (text_left c.cut.result.1) c.in-Some.bytes.now c.cut.result.0.now _
      c.loop-rest.invariant.split (ap text_left c.in-Some.is) c.cut.ensures.front c.cut.ensures.rest);
  room = omega (arith, c.push.ensures.len);
}
