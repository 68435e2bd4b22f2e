use Rattle.std.proofs.Common.{◌≡◌, take, string_bytes}
use Rattle.json_replies.specs.Texts.{latin_text}
use Rattle.json_replies.proofs.text.latin_text.Given as goal

abbrev pub invariant-loop-byte : goal.invariant-loop-byte
invariant-loop-byte l = string_bytes l.text ≡ latin_text (take l.byte-index l.bytes)
