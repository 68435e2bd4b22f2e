use Rattle.client.proofs.FirstByte.{first_byte}
use Rattle.client.proofs.tape.TapeSource.read.Goals as goal

pub returns-clause-bytes : goal.returns-clause-bytes
returns-clause-bytes c =
    (first_byte c.args.buffer.now c.args.self.now.rest.now c.in-Some.rest.now c.in-Some.byte.now c.if-is_empty.ensures c.in-Some.ensures.cases.0, λ none. cc)
