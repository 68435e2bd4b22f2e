-- A line is a command exactly where it is that command's line, so it is read in one way.
use Rattle.std.proofs.Common.{◌≡◌, ◌≢◌, ◌⊎◌, ℕ, ◌≤◌, ◌==◌, Bool, inl, inr, if◌then◌else◌, true, false, cond, List, [], ◌∷◌, ◌++◌, length, take, drop, codes, bytes_eq, Option, Some, None, option_map, option_and_then, Ok, Err, ok_or, refl, ap, sym, ◌∙◌, subst, arith, take-append-drop}
use Rattle.std.specs.Option.{option_or}
use Rattle.std.specs.Fmt.{decimal}
use Rattle.std.proofs.lemmas.Bool.Decides.{nat_tests}
use Rattle.std.proofs.lemmas.Slice.Eq.{bytes_eq-Decides}
use Rattle.byte_text.specs.Decimals.{decimal_value}
use Rattle.byte_text.proofs.DecimalLaws.{number_taken, number_again}
use Rattle.trail_solver.specs.declared.listing.TheConstants.{MOST_LISTED}
use Rattle.line_replies.specs.declared.command.Command.{Command}
use Rattle.line_replies.specs.declared.command.Command.TheVariants.{New, Quit, Ask}
use Rattle.line_replies.specs.declared.command.Request.TheVariants.{Act, Listing}
use Rattle.line_replies.specs.declared.command.Action.TheVariants.{Play}
use Rattle.line_replies.specs.declared.command.line_fault.LineFault.TheVariants.{LongLine, BadCommand, NoGame}
use Rattle.line_replies.specs.Lines.{Line}
use Rattle.line_replies.specs.Commands.{Reading, words, IsEntry, HasArgument, is_quit, IsLineOfCommand, IsRead, read_map}
use Rattle.line_replies.specs.Inner.CommandReading.{rest_behind, entry_at, nonzero, limit_at, word_at, argument_at, command_at, read_at}

-- ---- tables

-- what is found under a text is an entry there
pub entry_taken : {A : Type 0} (rows : List (List ℕ × A)) (line : List ℕ) (a : A) → entry_at rows line ≡ Some a → IsEntry rows line a
entry_taken [] line a h = cc
entry_taken {A} (row ∷ rows) line a h =
    elim (bytes_eq line row.0) as (λ t. bytes_eq line row.0 ≡ t → cond t (Some row.1) (entry_at rows line) ≡ Some a
    → IsEntry (row ∷ rows) line a) [
      | true ↦ λ same e. let is : a ≡ row.1 = cc in inl ((bytes_eq-Decides line row.0).0 same, is)
      | false ↦ λ other e. inr ((λ same. let is = (bytes_eq-Decides line row.0).1 same in cc), entry_taken rows line a e)
    ] refl h

-- the entry of a table under a line is found there
entry_again : {A : Type 0} (rows : List (List ℕ × A)) (line : List ℕ) (a : A) → IsEntry rows line a → entry_at rows line ≡ Some a
entry_again [] line a h = absurd h
entry_again (row ∷ rows) line a (inl h) = rw ((bytes_eq-Decides line row.0).1 h.0) (ap Some (sym h.1))
entry_again {A} (row ∷ rows) line a (inr h) =
    elim (bytes_eq line row.0) as (λ t. bytes_eq line row.0 ≡ t → cond t (Some row.1) (entry_at rows line) ≡ Some a) [
      | true ↦ λ same. absurd (h.0 ((bytes_eq-Decides line row.0).0 same))
      | false ↦ λ other. entry_again rows line a h.1
    ] refl

-- ---- what an option that holds something was made of

or_taken : {A : Type 0} (first second : Option A) (a : A) → option_or first second ≡ Some a → (first ≡ Some a) ⊎ (second ≡ Some a)
or_taken None second a h = inr h
or_taken (Some b) second a h = inl h

map_taken : {A B : Type 0} (make : A → B) (o : Option A) (b : B) → option_map make o ≡ Some b → (a : A) × (o ≡ Some a) × (make a ≡ b)
map_taken make None b h = cc
map_taken make (Some a) b h = let is : make a ≡ b = cc in (a, refl, is)

-- an option of what comes next holds something only if the first option holds something
pub then_taken : {A B : Type 0} (next : A → Option B) (o : Option A) (b : B) → option_and_then next o ≡ Some b
    → (a : A) × (o ≡ Some a) × (next a ≡ Some b)
then_taken next None b h = cc
then_taken next (Some a) b h = (a, refl, h)

-- a line of which something stands behind a front is the front and this
pub behind_taken : (front line text : List ℕ) → rest_behind front line ≡ Some text → line ≡ front ++ text
behind_taken front line text h =
    elim (bytes_eq (take (length front) line) front) as (λ t. bytes_eq (take (length front) line) front ≡ t
    → cond t (Some (drop (length front) line)) None ≡ Some text → line ≡ front ++ text) [
      | true ↦ λ same e.
          let rest : drop (length front) line ≡ text = cc in
          sym (take-append-drop (length front) line) ∙ ap (λ l. l ++ drop (length front) line)
          ((bytes_eq-Decides (take (length front) line) front).0 same) ∙ ap (λ l. front ++ l) rest
      | false ↦ λ _ e. cc
    ] refl h

-- ---- how many solutions are to be listed

nonzero_taken : (m n : ℕ) → nonzero m ≡ Some n → (1 ≤ n) × (m ≡ n)
nonzero_taken m n h =
    elim (m == 0) as (λ t. (m == 0) ≡ t → cond t None (Some m) ≡ Some n → (1 ≤ n) × (m ≡ n)) [
      | true ↦ λ zero e. cc
      | false ↦ λ other e. let is : m ≡ n = cc in (grind (arith, nat_tests), is)
    ] refl h

-- a limit that is read is from 1 to MOST_LISTED, and the text is its decimal
limit_taken : (text : List ℕ) (n : ℕ) → limit_at text ≡ Some n → (1 ≤ n) × (n ≤ MOST_LISTED) × (text ≡ decimal n)
limit_taken text n h =
    let (m, read, most) = then_taken nonzero (decimal_value MOST_LISTED text) n h in
    let (spelled, within) = number_taken MOST_LISTED m text (omega arith) read in
    let (least, is) = nonzero_taken m n most in
    (least, omega (arith, is, within), spelled ∙ ap decimal is)

-- the decimal of a limit is read as the limit
limit_again : (n : ℕ) → 1 ≤ n → n ≤ MOST_LISTED → limit_at (decimal n) ≡ Some n
limit_again n least most =
    let some : (n == 0) ≡ false = grind (arith, nat_tests) in
    rw (number_again MOST_LISTED n most (omega arith), some) refl

-- ---- commands

-- a text that is read as a command with an argument is a line of that command
argument_taken : (line : List ℕ) (c : Command (List ℕ)) → argument_at line ≡ Some c → HasArgument c line
argument_taken line c h =
    elim (or_taken (option_map New (rest_behind (codes "new ") line)) _ c h) [
      | inl e ↦ let (id, behind, is) = map_taken New (rest_behind (codes "new ") line) c e in
          subst (λ (c : Command (List ℕ)). HasArgument c line) is (behind_taken (codes "new ") line id behind)
      | inr rest ↦ elim (or_taken (option_map (λ text. Ask (Act (Play text))) (rest_behind (codes "move ") line)) _ c rest) [
        | inl e ↦ let (text, behind, is) = map_taken (λ text. Ask (Act (Play text))) (rest_behind (codes "move ") line) c e in
            subst (λ (c : Command (List ℕ)). HasArgument c line) is (behind_taken (codes "move ") line text behind)
        | inr e ↦
            let (n, found, is) = map_taken (λ n. Ask (Listing n)) (option_and_then limit_at (rest_behind (codes "list ") line)) c e in
            let (text, behind, reads) = then_taken limit_at (rest_behind (codes "list ") line) n found in
            let (least, most, spelled) = limit_taken text n reads in
            subst (λ (c : Command (List ℕ)). HasArgument c line) is
            (least, most, behind_taken (codes "list ") line text behind ∙ ap (λ t. codes "list " ++ t) spelled)
      ]
    ]

-- a text that is read as a command is a line of that command
command_taken : (line : List ℕ) (c : Command (List ℕ)) → command_at line ≡ Some c → IsLineOfCommand c line
unfolding command_at
command_taken line c h =
    elim (or_taken (word_at line) (argument_at line) c h)
    [ inl e ↦ inl (entry_taken words line c e) | inr e ↦ inr (argument_taken line c e) ]

-- a line of a command is read as the command
command_again : (c : Command (List ℕ)) (line : List ℕ) → IsLineOfCommand c line → command_at line ≡ Some c
unfolding command_at
command_again c line (inl h) = ap (λ o. option_or o (argument_at line)) (entry_again words line c h)
command_again (New id) line (inr h) = rw h refl
command_again (Ask (Act (Play text))) line (inr h) = rw h refl
command_again (Ask (Listing n)) line (inr (least, most, is)) = rw is (ap (option_map (λ n. Ask (Listing n))) (limit_again n least most))
command_again c line (inr h) = absurd h

-- no command's line is empty
not_empty : (line : List ℕ) → line ≢ [] → (length line == 0) ≡ false
not_empty [] h = absurd (h refl)
not_empty (b ∷ bs) h = grind (arith, nat_tests)

-- no line of a command has length 0
command_full : (c : Command (List ℕ)) (line : List ℕ) → IsLineOfCommand c line → (length line == 0) ≡ false
unfolding command_at
command_full c [] h = let again : command_at [] ≡ Some c = command_again c [] h in cc
command_full c (b ∷ bs) h = not_empty (b ∷ bs) (λ e. cc)

-- ---- lines

-- each line is read in one way
pub read_once : (line : Line) (read : Reading (List ℕ)) → IsRead line read → read ≡ read_at line
read_once line (Ok None) h = rw h refl
read_once line (Ok (Some c)) (text, is, spelled) = rw (is, command_full c text spelled, command_again c text spelled) refl
read_once line (Err LongLine) h = rw h refl
read_once line (Err BadCommand) (text, is, full, other) =
    elim (command_at text) as (λ o. command_at text ≡ o → Err BadCommand ≡ read_at line) [
      | None ↦ λ none. rw (is, not_empty text full, none) refl
      | Some c ↦ λ some. absurd (other c (command_taken text c some))
    ] refl
read_once line (Err NoGame) h = absurd h

-- a line with bytes is read as its command, or as BadCommand
spelled_read : (b : ℕ) (bs : List ℕ) → IsRead (Some (b ∷ bs)) (ok_or (option_map Some (command_at (b ∷ bs))) BadCommand)
spelled_read b bs =
    elim (command_at (b ∷ bs)) as (λ o. command_at (b ∷ bs) ≡ o → IsRead (Some (b ∷ bs)) (ok_or (option_map Some o) BadCommand)) [
      | None ↦ λ none. (b ∷ bs, refl, (λ e. cc), (λ c h. let again : command_at (b ∷ bs) ≡ Some c = command_again c (b ∷ bs) h in cc))
      | Some c ↦ λ some. (b ∷ bs, refl, command_taken (b ∷ bs) c some)
    ] refl

-- each line is read as what it is by the table of commands
pub line_is_read : (line : Line) → IsRead line (read_at line)
line_is_read None = refl
line_is_read (Some []) = refl
line_is_read (Some (b ∷ bs)) =
    let P : Bool → Type 0 = λ t. IsRead (Some (b ∷ bs)) (if t then Ok None else ok_or (option_map Some (command_at (b ∷ bs))) BadCommand) in
    subst P (sym (not_empty (b ∷ bs) (λ e. cc))) (spelled_read b bs)

-- what was read, if it is as the function on lists reads the line, is what the line is read as
pub read_found : {X : Type 0} (view : X → List ℕ) (line : Line) (result : Reading X)
    → read_map view result ≡ read_at line → IsRead line (read_map view result)
read_found view line result h = subst (λ (r : Reading (List ℕ)). IsRead line r) (sym h) (line_is_read line)

-- a line that is the word of a command is that command's line
pub word_read : (line : List ℕ) (c : Command (List ℕ)) → word_at line ≡ Some c → IsLineOfCommand c line
word_read line c h = inl (entry_taken words line c h)

-- ---- the line that ends a run

-- a line that isn't read as `quit` doesn't end the run
pub goes_on : (line : Line) (read : Reading (List ℕ)) → IsRead line read → read ≢ Ok (Some Quit) → is_quit line ≡ false
unfolding command_at
goes_on None read is n = refl
goes_on (Some text) read is n =
    elim (bytes_eq text (codes "quit")) as (λ t. bytes_eq text (codes "quit") ≡ t → t ≡ false) [
      | true ↦ λ same. absurd (n (read_once (Some text) read is
          ∙ ap (λ (t : List ℕ). read_at (Some t)) ((bytes_eq-Decides text (codes "quit")).0 same)))
      | false ↦ λ other. refl
    ] refl
