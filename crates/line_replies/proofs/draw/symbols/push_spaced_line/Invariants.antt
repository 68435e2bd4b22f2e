use Rattle.std.proofs.Common.{◌≡◌, ◌++◌, [], ◌∷◌, map, take}
use Rattle.std.specs.List.{join_with_byte}
use Rattle.line_replies.proofs.draw.symbols.push_spaced_line.Given as goal
use Rattle.byte_text.specs.Bytes.{space}

abbrev pub invariant-loop-i : goal.invariant-loop-i
invariant-loop-i l =
    l.text.items ≡ l.fn.text.items ++ join_with_byte space (map (λ symbol. symbol ∷ []) (take l.i l.symbols))
