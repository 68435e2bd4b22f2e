use Rattle.std.proofs.Common.{ap, subst, ◌∙◌}
use Rattle.puzzle_cli.specs.CommandLine.{AreRead, word_texts}
use Rattle.puzzles.proofs.process_words.args.Goals as goal

-- the texts that are read are those of the words
pub returns : goal.returns
returns c = subst (λ texts. AreRead texts c.read_words_of.result) (ap word_texts c.deref.ensures.value ∙ c.in_ok-words.ensures) c.read_words_of.ensures.read
