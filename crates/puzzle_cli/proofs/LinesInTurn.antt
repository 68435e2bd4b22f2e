-- Lines that are answered, one list of lines after another.
use Rattle.std.proofs.Common.{◌≡◌, ℕ, Bool, true, false, if◌then◌else◌, List, [], ◌∷◌, ◌++◌, refl, sym, ap, ◌∙◌, subst, append_assoc, take}
use Rattle.std.proofs.KnownBytes.{Appends-nil, Appends-trans}
use Rattle.std.specs.Io.KnownBytes.{Appends}
use Rattle.line_replies.specs.Lines.{Line, ReplyRule}
use Rattle.puzzle_cli.specs.Runs.{Progress, Served, BreaksOff}
use Rattle.line_replies.specs.InTurn.{RepliesInTurn, has_quit, before_quit}
use Rattle.puzzle_cli.specs.Inner.Steps.{ComeTo}
use Rattle.puzzle_cli.specs.declared.line.line_loop.Flow.{Flow}
use Rattle.puzzle_cli.specs.declared.line.line_loop.Flow.TheVariants.{More, Quit, Unsent}

-- ---- the lines before quit

module _ (quit : Line → Bool) where
  -- where some lines have no quit, these and more lines have one if the later lines do
  pub has_quit-append : (xs ys : List Line) → has_quit quit xs ≡ false → has_quit quit (xs ++ ys) ≡ has_quit quit ys
  has_quit-append [] ys h = refl
  has_quit-append (x ∷ xs) ys h =
      elim (quit x) as (λ t. (if t then true else has_quit quit xs) ≡ false
      → (if t then true else has_quit quit (xs ++ ys)) ≡ has_quit quit ys)
      [ true ↦ λ e. cc | false ↦ λ e. has_quit-append xs ys e ] h

  -- lines with a quit have one with more lines behind them
  pub has_quit-more : (xs ys : List Line) → has_quit quit xs ≡ true → has_quit quit (xs ++ ys) ≡ true
  has_quit-more [] ys h = cc
  has_quit-more (x ∷ xs) ys h =
      elim (quit x) as (λ t. (if t then true else has_quit quit xs) ≡ true → (if t then true else has_quit quit (xs ++ ys)) ≡ true)
      [ true ↦ λ e. refl | false ↦ λ e. has_quit-more xs ys e ] h

  -- lines without a quit all stand before it
  pub before_quit-all : (xs : List Line) → has_quit quit xs ≡ false → before_quit quit xs ≡ xs
  before_quit-all [] h = refl
  before_quit-all (x ∷ xs) h =
      elim (quit x) as (λ t. (if t then true else has_quit quit xs) ≡ false → (if t then [] else x ∷ before_quit quit xs) ≡ x ∷ xs)
      [ true ↦ λ e. cc | false ↦ λ e. ap (λ l. x ∷ l) (before_quit-all xs e) ] h

  -- where some lines have no quit, they stand before it, and then those of the later lines that do
  pub before_quit-append : (xs ys : List Line) → has_quit quit xs ≡ false → before_quit quit (xs ++ ys) ≡ xs ++ before_quit quit ys
  before_quit-append [] ys h = refl
  before_quit-append (x ∷ xs) ys h =
      elim (quit x) as (λ t. (if t then true else has_quit quit xs) ≡ false
      → (if t then [] else x ∷ before_quit quit (xs ++ ys)) ≡ x ∷ (xs ++ before_quit quit ys))
      [ true ↦ λ e. cc | false ↦ λ e. ap (λ l. x ∷ l) (before_quit-append xs ys e) ] h

  -- the lines before quit are the same with more lines behind it
  pub before_quit-more : (xs ys : List Line) → has_quit quit xs ≡ true → before_quit quit (xs ++ ys) ≡ before_quit quit xs
  before_quit-more [] ys h = cc
  before_quit-more (x ∷ xs) ys h =
      elim (quit x) as (λ t. (if t then true else has_quit quit xs) ≡ true
      → (if t then [] else x ∷ before_quit quit (xs ++ ys)) ≡ (if t then [] else x ∷ before_quit quit xs))
      [ true ↦ λ e. refl | false ↦ λ e. ap (λ l. x ∷ l) (before_quit-more xs ys e) ] h

-- ---- one list of lines after another

module _ {S : Type 0} (reply : ReplyRule S) where
  -- replies to some lines, and then to more lines, are replies to all of them in turn
  pub RepliesInTurn-append : (xs ys : List Line) (old mid new : S) (v w : List ℕ) → RepliesInTurn reply xs old v mid
      → RepliesInTurn reply ys mid w new → RepliesInTurn reply (xs ++ ys) old (v ++ w) new
  RepliesInTurn-append [] ys old mid new v w (none, stays) q =
      let from_old : RepliesInTurn reply ys old w new = subst (λ s. RepliesInTurn reply ys s w new) stays q in
      subst (λ l. RepliesInTurn reply ys old l new) (sym (ap (λ l. l ++ w) none)) from_old
  RepliesInTurn-append (x ∷ xs) ys old mid new v w (bytes, next, rest, said, whole, more) q =
      (bytes, next, rest ++ w, said, ap (λ l. l ++ w) whole ∙ append_assoc bytes rest w, RepliesInTurn-append xs ys next mid new rest w more q)

  -- if some lines were served, and then more lines, all of them were served
  pub Served-append : (xs ys : List Line) (old mid new : Progress S) → Served reply xs old mid → Served reply ys mid new
      → Served reply (xs ++ ys) old new
  Served-append xs ys old mid new (front, said, took) (rest, says, takes) = (
    front ++ rest,
    RepliesInTurn-append xs ys old.session mid.session new.session front rest said says,
    Appends-trans old.taken mid.taken new.taken front rest took takes,
  )

module _ {S : Type 0} (reply : ReplyRule S) (quit : Line → Bool) where
  -- if lines were answered, and answering broke off in later ones, it broke off in all of them together
  BreaksOff-after : (xs ys : List Line) (old mid new : Progress S) → has_quit quit xs ≡ false → Served reply xs old mid
      → BreaksOff reply quit ys mid new → BreaksOff reply quit (xs ++ ys) old new
  BreaksOff-after xs ys old mid new no_quit served k = record {
    earlier = xs ++ k.earlier;
    line = k.line;
    later = k.later;
    split = ap (λ l. xs ++ l) k.split ∙ sym (append_assoc xs k.earlier (k.line ∷ k.later));
    no_quit = has_quit-append quit xs k.earlier no_quit ∙ k.no_quit;
    mid = k.mid;
    served = Served-append reply xs k.earlier old mid k.mid served k.served;
    bytes = k.bytes;
    count = k.count;
    said = k.said;
    front = k.front;
  }

  -- what stands after the line whose reply didn't go out makes no difference
  BreaksOff-more : (xs ys : List Line) (old new : Progress S) → BreaksOff reply quit xs old new → BreaksOff reply quit (xs ++ ys) old new
  BreaksOff-more xs ys old new k = record {
    earlier = k.earlier;
    line = k.line;
    later = k.later ++ ys;
    split = ap (λ l. l ++ ys) k.split ∙ append_assoc k.earlier (k.line ∷ k.later) ys;
    no_quit = k.no_quit;
    mid = k.mid;
    served = k.served;
    bytes = k.bytes;
    count = k.count;
    said = k.said;
    front = k.front;
  }

  -- ---- steps

  -- a step over more lines, after some that were answered, is a step over all of them
  pub ComeTo-after : (flow : Flow) (xs ys : List Line) (old mid new : Progress S)
      → ComeTo reply quit More xs old mid → ComeTo reply quit flow ys mid new → ComeTo reply quit flow (xs ++ ys) old new
  ComeTo-after More xs ys old mid new (no_quit, works, served) (none, still_works, serves) =
      (has_quit-append quit xs ys no_quit ∙ none, still_works, Served-append reply xs ys old mid new served serves)
  ComeTo-after Quit xs ys old mid new (no_quit, works, served) (quits, still_works, serves) =
      let both : Served reply (xs ++ before_quit quit ys) old new = Served-append reply xs (before_quit quit ys) old mid new served serves in
      (has_quit-append quit xs ys no_quit ∙ quits, still_works, subst (λ l. Served reply l old new) (sym (before_quit-append quit xs ys no_quit)) both)
  ComeTo-after Unsent xs ys old mid new (no_quit, works, served) (fails, breaks) = (fails, BreaksOff-after xs ys old mid new no_quit served breaks)

  -- a step that came to quit comes to it with more lines behind
  pub Quit-more : (xs ys : List Line) (old new : Progress S) → ComeTo reply quit Quit xs old new → ComeTo reply quit Quit (xs ++ ys) old new
  Quit-more xs ys old new (quits, works, served) =
      (has_quit-more quit xs ys quits, works, subst (λ l. Served reply l old new) (sym (before_quit-more quit xs ys quits)) served)

  -- a step of which a reply didn't go out comes to the same with more lines behind
  pub Unsent-more : (xs ys : List Line) (old new : Progress S) → ComeTo reply quit Unsent xs old new
      → ComeTo reply quit Unsent (xs ++ ys) old new
  Unsent-more xs ys old new q = (q.0, BreaksOff-more xs ys old new q.1)

  -- a step over one line whose reply didn't go out comes to Unsent
  pub ComeTo-unsent : (line : Line) (old new : Progress S) (bytes : List ℕ) (count : ℕ) → new.failed ≡ true
      → reply old.session line bytes new.session → Appends old.taken new.taken (take count bytes)
      → ComeTo reply quit Unsent (line ∷ []) old new
  ComeTo-unsent line old new bytes count fails said went = (
    fails,
    record {
      earlier = [];
      line = line;
      later = [];
      split = refl;
      no_quit = refl;
      mid = old;
      served = ([], (refl, refl), Appends-nil old.taken);
      bytes = bytes;
      count = count;
      said = said;
      front = went;
    },
  )
