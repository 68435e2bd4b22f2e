-- A machine's answer to a line.
use Rattle.std.specs.Prelude.{◌≡◌, Bool, true, false, []}
use Rattle.line_replies.specs.Lines.{Line, ReplyRule}
use Rattle.line_replies.specs.Texts.{text_bytes}
use Rattle.line_replies.specs.declared.machine.Response.{Response}
use Rattle.line_replies.specs.declared.machine.Response.TheVariants.{Reply, Silence, Quit}

-- the answer is one that may be given to the line: a reply, nothing, or, to a line that ends the run, no more than that
abbrev pub IsResponse : {S : Type 0} → ReplyRule S → (Line → Bool) → S → Line → Response → S → Type 0
IsResponse reply quit old line (Reply text) new = (quit line ≡ false) × reply old line (text_bytes text) new
IsResponse reply quit old line Silence new = (quit line ≡ false) × reply old line [] new
IsResponse reply quit old line Quit new = (quit line ≡ true) × (new ≡ old)
