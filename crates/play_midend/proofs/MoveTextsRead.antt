-- Reading and the texts of moves are each the other's inverse, and a text is that of one move at most.
use Rattle.std.proofs.Common.{◌≡◌, List, ℕ, Result, Ok, refl, sym}
use Rattle.play_midend.specs.declared.moves.Move.{Move}
use Rattle.play_midend.specs.declared.fault.PlayFault.{PlayFault}
use Rattle.play_midend.specs.MoveTexts.{IsMoveText, move_at}
use Rattle.play_midend.proofs.MoveTextLaws.{read_found, read_only}

pub text_taken : (text : List ℕ) (m : Move) → move_at text ≡ Ok m → IsMoveText m text
text_taken text m is = let read : Result Move PlayFault = Ok m in read_found text read (sym is)

-- the text of a move is read as that move
pub text_again : (text : List ℕ) (m : Move) → IsMoveText m text → move_at text ≡ Ok m
text_again text m is = read_only text (move_at text) refl m is

-- a text is that of one move at most
pub same_move : (text : List ℕ) (m other : Move) → IsMoveText m text → IsMoveText other text → m ≡ other
same_move text m other is other_is =
    let read = text_again text m is in
    let read_other = text_again text other other_is in
    cc
