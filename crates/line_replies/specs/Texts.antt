-- The bytes of a reply.
use Rattle.std.specs.Prelude.{ℕ, List}
use Rattle.line_replies.specs.declared.reply.text.Text.{Text}
use Rattle.line_replies.specs.declared.reply.text.Text.TheVariants.{Short, Clues, Solved, Long}

-- the bytes of a text
abbrev pub text_bytes : Text → List ℕ
text_bytes (Short text) = text.bytes
text_bytes (Clues lines) = lines.items
text_bytes (Solved line) = line.items
text_bytes (Long bytes) = bytes.items
