-- Steps over bytes that were read, one list of bytes after another, and the ends of a run that they come to.
use Rattle.std.proofs.Common.{◌≡◌, ℕ, ◌+◌, ◌<◌, ◌≤◌, Bool, true, false, Option, Some, List, [], ◌∷◌, ◌++◌, length, sym, ap, ◌∙◌, subst, append-nil, ◌⊎◌, inl, inr, refl, get_or, take, drop, take-append-drop, arith, length-append, length-take-le}
use Rattle.std.proofs.lemmas.List.{take_more}
use Rattle.std.proofs.KnownBytes.{Consumes-kept, Consumes-trans}
use Rattle.std.specs.Io.KnownBytes.{Consumes, IsAtEnd, Keeps}
use Rattle.line_replies.specs.Lines.{Line, ReplyRule, as_line, all_lines, ended_lines}
use Rattle.puzzle_cli.specs.Inner.LineBuffer.{ended_from, last_from}
use Rattle.puzzle_cli.specs.Runs.{Point, Progress, Served, WereRead, AreAll, Ends}
use Rattle.line_replies.specs.InTurn.{before_quit}
use Rattle.puzzle_cli.specs.Inner.Steps.{ComeTo}
use Rattle.puzzle_cli.specs.declared.line.line_loop.Flow.{Flow}
use Rattle.puzzle_cli.specs.declared.line.line_loop.Flow.TheVariants.{More, Quit, Unsent}
use Rattle.puzzle_cli.specs.declared.line.line_loop.TheConstants.{INPUT_BYTES}
use Rattle.puzzle_cli.specs.declared.run_end.End.TheVariants.{Finished, ReadFault, WriteFault}
use Rattle.puzzle_cli.proofs.LinesCut.{ended_from-append, last_from-append, all_lines-by-parts, ended_lines-by-parts}
use Rattle.puzzle_cli.proofs.LinesInTurn.{before_quit-all, ComeTo-after, Quit-more, Unsent-more}

-- the part of a line after more bytes is the part after all bytes
last_from-bytes : (part now : Line) (xs ys : List ℕ) → now ≡ last_from part xs → last_from now ys ≡ last_from part (xs ++ ys)
last_from-bytes part now xs ys here = ap (λ l. last_from l ys) here ∙ sym (last_from-append part xs ys)

-- the part of a line after the next byte of a piece is the part after one byte more
pub last_from-byte : (part now : Line) (piece : List ℕ) (i : ℕ) → i < length piece → now ≡ last_from part (take i piece)
    → last_from now (get_or piece i 0 ∷ []) ≡ last_from part (take (i + 1) piece)
last_from-byte part now piece i inside here =
    last_from-bytes part now (take i piece) (get_or piece i 0 ∷ []) here ∙ ap (last_from part) (sym (take_more piece i 0 inside))

-- after a read that gave no byte, the bytes that were read are the same
Consumes-none : (a b c : Option (List ℕ)) (xs ys : List ℕ) (n : ℕ) → n ≡ 0 → Consumes a b xs → Consumes b c (take n ys) → Consumes a c xs
Consumes-none a b c xs ys n none p q =
    let rest : Consumes b c [] = subst (λ k. Consumes b c (take k ys)) none q in
    subst (Consumes a c) (append-nil xs) (Consumes-trans a b c xs [] p rest)

module _ {S : Type 0} (reply : ReplyRule S) (quit : Line → Bool) where
  -- ---- more bytes

  -- a step over more bytes, after bytes whose lines were answered, is a step over all of them
  pub ComeTo-bytes : (flow : Flow) (part now : Line) (xs ys : List ℕ) (old mid new : Progress S)
      → ComeTo reply quit More (ended_from part xs) old mid → now ≡ last_from part xs → ComeTo reply quit flow (ended_from now ys) mid new
      → ComeTo reply quit flow (ended_from part (xs ++ ys)) old new
  ComeTo-bytes flow part now xs ys old mid new p here q =
      let next : ComeTo reply quit flow (ended_from (last_from part xs) ys) mid new =
      subst (λ l. ComeTo reply quit flow (ended_from l ys) mid new) here q in
      subst (λ l. ComeTo reply quit flow l old new) (sym (ended_from-append part xs ys))
      (ComeTo-after reply quit flow (ended_from part xs) (ended_from (last_from part xs) ys) old mid new p next)

  -- a step over the next byte of a piece, after those whose lines were answered, is a step over one byte more
  pub ComeTo-byte : (flow : Flow) (part now : Line) (piece : List ℕ) (i : ℕ) (old mid new : Progress S) → i < length piece
      → ComeTo reply quit More (ended_from part (take i piece)) old mid → now ≡ last_from part (take i piece)
      → ComeTo reply quit flow (ended_from now (get_or piece i 0 ∷ [])) mid new
      → ComeTo reply quit flow (ended_from part (take (i + 1) piece)) old new
  ComeTo-byte flow part now piece i old mid new inside p here q =
      subst (λ l. ComeTo reply quit flow (ended_from part l) old new) (sym (take_more piece i 0 inside))
      (ComeTo-bytes flow part now (take i piece) (get_or piece i 0 ∷ []) old mid new p here q)

  -- a step that stopped comes to the same with more lines behind its own
  more_behind : (flow : Flow) (xs ys : List Line) (old new : Progress S) → (flow ≡ More → ⊥)
      → ComeTo reply quit flow xs old new → ComeTo reply quit flow (xs ++ ys) old new
  more_behind More xs ys old new stops q = absurd (stops refl)
  more_behind Quit xs ys old new stops q = Quit-more reply quit xs ys old new q
  more_behind Unsent xs ys old new stops q = Unsent-more reply quit xs ys old new q

  pub ComeTo-stopped : (flow : Flow) (part : Line) (piece : List ℕ) (n : ℕ) (old new : Progress S) → (flow ≡ More → ⊥)
      → ComeTo reply quit flow (ended_from part (take n piece)) old new → ComeTo reply quit flow (ended_from part piece) old new
  ComeTo-stopped flow part piece n old new stops q =
      let behind =
      more_behind flow (ended_from part (take n piece)) (ended_from (last_from part (take n piece)) (drop n piece)) old new stops q in
      let whole : ended_from part (take n piece) ++ ended_from (last_from part (take n piece)) (drop n piece) ≡ ended_from part piece =
      sym (ended_from-append part (take n piece) (drop n piece)) ∙ ap (ended_from part) (take-append-drop n piece) in
      subst (λ l. ComeTo reply quit flow l old new) whole behind

  -- ---- the ends of a run

  -- a step over all that was read, and then one over the last line, are a step over all lines
  all_read : (flow : Flow) (read : List ℕ) (now : Line) (old mid new : Progress S)
      → ComeTo reply quit More (ended_from (Some []) read) old mid → now ≡ last_from (Some []) read
      → ComeTo reply quit flow (as_line now ∷ []) mid new
      → ComeTo reply quit flow (all_lines read) old new
  all_read flow read now old mid new p here q =
      let last : ComeTo reply quit flow (as_line (last_from (Some []) read) ∷ []) mid new =
      subst (λ l. ComeTo reply quit flow (as_line l ∷ []) mid new) here q in
      subst (λ l. ComeTo reply quit flow l old new) (sym (all_lines-by-parts read))
      (ComeTo-after reply quit flow (ended_from (Some []) read) (as_line (last_from (Some []) read) ∷ []) old mid new p last)

  ended_read : (flow : Flow) (read : List ℕ) (old new : Progress S)
      → ComeTo reply quit flow (ended_from (Some []) read) old new → ComeTo reply quit flow (ended_lines read) old new
  ended_read flow read old new p = subst (λ l. ComeTo reply quit flow l old new) (sym (ended_lines-by-parts read)) p

  -- a step that sent its replies served the lines before quit
  served : (flow : Flow) (lines : List Line) (old new : Progress S) → (flow ≡ Unsent → ⊥) → ComeTo reply quit flow lines old new
      → (new.failed ≡ false) × Served reply (before_quit quit lines) old new
  served More lines old new went (no_quit, works, done) =
      (works, subst (λ l. Served reply l old new) (sym (before_quit-all quit lines no_quit)) done)
  served Quit lines old new went (quits, works, done) = (works, done)
  served Unsent lines old new went p = absurd (went refl)

  -- ---- what was read so far

  -- So many bytes were read since a point: the lines that ended in them were answered, and this part of a line stands after those.
  pub record HasRead (old now : Point S) (count : ℕ) (part : Line) : Type 0 where
    pub read : List ℕ
    pub consumed : Consumes old.to_come now.to_come read
    pub counted : length read ≡ count
    pub answered : ComeTo reply quit More (ended_from (Some []) read) old.answers now.answers
    pub rest : part ≡ last_from (Some []) read

module _ {S : Type 0} {reply : ReplyRule S} {quit : Line → Bool} {old now : Point S} {count : ℕ} {part : Line}
    (so_far : HasRead reply quit old now count part) where
  -- the run ends with ReadFault if a read failed, or if all that a run reads was read
  pub ReadFault-ends : count ≤ INPUT_BYTES → (now.read_failed ≡ true) ⊎ (count ≡ INPUT_BYTES) → Ends reply quit ReadFault old now
  ReadFault-ends most cause =
      let (no_quit, works, done) = ended_read reply quit More so_far.read old.answers now.answers so_far.answered in
      let why : (now.read_failed ≡ true) ⊎ (length so_far.read ≡ INPUT_BYTES) =
      elim cause [ inl fails ↦ inl fails | inr full ↦ inr (so_far.counted ∙ full) ] in
      (works, (so_far.read, (so_far.consumed, omega (arith, so_far.counted)), why, no_quit, done))

  module _ (new : Point S) where
    -- if no more was read, what was read so far is the same
    pub stays_read : Keeps now.to_come new.to_come → now.answers ≡ new.answers → HasRead reply quit old new count part
    stays_read keeps same = record {
      read = so_far.read;
      consumed = Consumes-kept old.to_come now.to_come new.to_come so_far.read so_far.consumed keeps;
      counted = so_far.counted;
      answered =
          subst (λ (p : Progress S). ComeTo reply quit More (ended_from (Some []) so_far.read) old.answers p) same so_far.answered;
      rest = so_far.rest;
    }

    -- ---- the input is at its end, and its last line comes

    module _ (few : count < INPUT_BYTES) (n : ℕ) (piece : List ℕ) (none : n ≡ 0)
        (consumed : Consumes now.to_come new.to_come (take n piece)) (at_end : IsAtEnd new.to_come) (works : new.read_failed ≡ false) where
      were_all : WereRead old new so_far.read × AreAll new so_far.read
      were_all =
          let same = Consumes-none old.to_come now.to_come new.to_come so_far.read piece n none so_far.consumed consumed in
          ((same, omega (arith, so_far.counted)), (at_end, omega (arith, so_far.counted)))

      all_gone : (flow : Flow) → ComeTo reply quit flow (as_line part ∷ []) now.answers new.answers
          → ComeTo reply quit flow (all_lines so_far.read) old.answers new.answers
      all_gone flow goes =
          all_read reply quit flow so_far.read part old.answers now.answers new.answers so_far.answered so_far.rest goes

      -- the run is Finished if its last line was answered or is quit
      pub Finished-at-end : (flow : Flow) → (flow ≡ Unsent → ⊥)
          → ComeTo reply quit flow (as_line part ∷ []) now.answers new.answers
          → Ends reply quit Finished old new
      Finished-at-end flow went goes =
          let done = served reply quit flow (all_lines so_far.read) old.answers new.answers went (all_gone flow goes) in
          (works, done.0, (so_far.read, were_all.0, inl (were_all.1, done.1)))

      -- the run ends with WriteFault if the reply to its last line didn't go out
      pub WriteFault-at-end : ComeTo reply quit Unsent (as_line part ∷ []) now.answers new.answers
          → Ends reply quit WriteFault old new
      WriteFault-at-end goes =
          let done = all_gone Unsent goes in
          (works, done.0, (so_far.read, were_all.0, inl (were_all.1, done.1)))

    -- ---- a piece was read

    module _ (n : ℕ) (piece : List ℕ) (fits : n ≤ length piece) (consumed : Consumes now.to_come new.to_come (take n piece)) where
      -- what was read so far, and the front of the piece that was read now
      abbrev more : List ℕ
      more = so_far.read ++ take n piece

      more_consumed : Consumes old.to_come new.to_come more
      more_consumed = Consumes-trans old.to_come now.to_come new.to_come so_far.read (take n piece) so_far.consumed consumed

      length-more : length more ≡ count + n
      length-more = omega (arith, length-append so_far.read (take n piece), length-take-le n piece fits, so_far.counted)

      more_answered : (flow : Flow) → ComeTo reply quit flow (ended_from part (take n piece)) now.answers new.answers
          → ComeTo reply quit flow (ended_from (Some []) more) old.answers new.answers
      more_answered flow goes =
          ComeTo-bytes reply quit flow (Some []) part so_far.read (take n piece) old.answers now.answers new.answers
          so_far.answered so_far.rest goes

      pub reads_on : (line : Line) → ComeTo reply quit More (ended_from part (take n piece)) now.answers new.answers
          → line ≡ last_from part (take n piece) → HasRead reply quit old new (count + n) line
      reads_on line goes cut = record {
        read = more;
        consumed = more_consumed;
        counted = length-more;
        answered = more_answered More goes;
        rest = cut ∙ last_from-bytes (Some []) part so_far.read (take n piece) so_far.rest;
      }

      module _ (within : count + n ≤ INPUT_BYTES) (works : new.read_failed ≡ false) where
        -- the run is Finished if a line that ends in the piece is quit
        pub Finished-at-quit : ComeTo reply quit Quit (ended_from part (take n piece)) now.answers new.answers
            → Ends reply quit Finished old new
        Finished-at-quit goes =
            let (quits, still_works, done) = ended_read reply quit Quit more old.answers new.answers (more_answered Quit goes) in
            (works, still_works, (more, (more_consumed, omega (arith, length-more)), inr (quits, done)))

        -- the run ends with WriteFault if the reply to a line that ends in the piece didn't go out
        pub WriteFault-in-piece : ComeTo reply quit Unsent (ended_from part (take n piece)) now.answers new.answers
            → Ends reply quit WriteFault old new
        WriteFault-in-piece goes =
            let done = ended_read reply quit Unsent more old.answers new.answers (more_answered Unsent goes) in
            (works, done.0, (more, (more_consumed, omega (arith, length-more)), inr done.1))
