use Rattle.std.proofs.Common.{◌≡◌, ℕ, List, Option, Some, None, IfSome, take, ap, ◌∙◌, arith}
use Rattle.std.proofs.lemmas.List.{take-take}
use Rattle.puzzles.proofs.load_file.read_cut.Goals as goal

cut_again : (told : Option (List ℕ)) (n : ℕ) (items kept : List ℕ) → IfSome told (λ xs. items ≡ take n xs)
    → kept ≡ take n items → IfSome told (λ xs. kept ≡ take n xs)
cut_again None n items kept e f = tt
cut_again (Some xs) n items kept e f = f ∙ ap (λ l. take n l) e ∙ take-take n n xs (omega arith)

pub returns-clause-front : goal.returns-clause-front
returns-clause-front g c =
    cut_again (g.R.Read.remaining c.args.reader) c.args.most c.in_ok-bytes.bytes.items c.cut.result.items c.in_ok-bytes.ensures c.cut.ensures.front
