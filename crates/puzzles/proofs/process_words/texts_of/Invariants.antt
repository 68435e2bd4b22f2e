use Rattle.std.specs.Prelude.{◌≡◌, map, string_bytes, take}
use Rattle.puzzle_cli.specs.CommandLine.{word_texts}
use Rattle.puzzles.proofs.process_words.texts_of.Given as goal

abbrev pub invariant-loop-word : goal.invariant-loop-word
invariant-loop-word l = word_texts l.list.items ≡ map string_bytes (take l.word-index l.words)
