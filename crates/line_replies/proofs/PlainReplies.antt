-- An answer is told as it is.
use Rattle.std.proofs.Common.{[], Option, Ok, refl}
use Rattle.play_midend.specs.Histories.{History}
use Rattle.line_replies.specs.declared.machine.Response.{Response}
use Rattle.line_replies.specs.declared.machine.Response.TheVariants
use Rattle.line_replies.specs.Lines.{Line}
use Rattle.line_replies.specs.Commands.{is_quit}
use Rattle.line_replies.specs.GameFacts.{GameFacts}
use Rattle.line_replies.specs.Machines.{IsResponse}
use Rattle.line_replies.specs.Replies.{LineGives, Reply}
use Rattle.line_replies.specs.Texts.{text_bytes}

-- a response that says what the answer to a line says is a plain reply to the line
pub said_plainly : {P : Type 0} (f : GameFacts P) (old new : Option (History P)) (line : Line) (answer : Response)
    → IsResponse (λ before read said after. LineGives f before read (Ok (said, after))) is_quit old line answer new
    → IsResponse (Reply f) is_quit old line answer new
said_plainly f old new line (TheVariants.Reply text) (goes_on, gives) = (goes_on, (Ok (text_bytes text, new), gives, refl, refl))
said_plainly f old new line TheVariants.Silence (goes_on, gives) = (goes_on, (Ok ([], new), gives, refl, refl))
said_plainly f old new line TheVariants.Quit quits = quits
