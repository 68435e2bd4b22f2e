use Rattle.std.proofs.Common.{[], ◌∙◌}
use Rattle.safe_save.proofs.Readers.{while_filled}
use Rattle.safe_save.proofs.Touching.{by_call, then, both}
use Rattle.safe_save.proofs.saving.fill.Goals as goal

pub returns-in_err-write-clause-touches : goal.returns-in_err-write-clause-touches
returns-in_err-write-clause-touches g c tells =
    let name = c.args.beside.now in
    let state = g.F.Folder.state in
    let took = by_call name (state c.args.folder.now) (state c.take_after.new.self) (λ f left. g.met.F.Folder.only_now _ f tells left) (λ n apart. c.take_after.ensures.kept tells n) (c.take_after.ensures.crash tells) (c.take_after.ensures.time tells) (c.take_after.ensures.cause tells).later in
    let wrote = by_call name (state c.take_after.new.self) (state c.write.new.self) (λ f left. g.met.F.Folder.only_now _ f tells left) (c.write.ensures.others tells) (c.write.ensures.crash tells) (c.write.ensures.time tells) (c.write.ensures.cause tells).later in
    then name _ _ _ took wrote

pub returns-clause-touches : goal.returns-clause-touches
returns-clause-touches g c tells =
    let name = c.args.beside.now in
    let state = g.F.Folder.state in
    let took = by_call name (state c.args.folder.now) (state c.take_after.new.self) (λ f left. g.met.F.Folder.only_now _ f tells left) (λ n apart. c.take_after.ensures.kept tells n) (c.take_after.ensures.crash tells) (c.take_after.ensures.time tells) (c.take_after.ensures.cause tells).later in
    let wrote = by_call name (state c.take_after.new.self) (state c.write.new.self) (λ f left. g.met.F.Folder.only_now _ f tells left) (c.write.ensures.others tells) (c.write.ensures.crash tells) (c.write.ensures.time tells) (c.write.ensures.cause tells).later in
    let flushed = by_call name (state c.write.new.self) (state c.flush.new.self) (λ f left. g.met.F.Folder.only_now _ f tells left) (c.flush.ensures.others tells) (c.flush.ensures.crash tells) (c.flush.ensures.time tells) (c.flush.ensures.cause tells).later in
    then name _ _ _ (then name _ _ _ took wrote) flushed

pub returns-clause-filled : goal.returns-clause-filled
returns-clause-filled g c tells =
    let name = c.args.beside.now in
    let empty = c.take_after.ensures.kept tells name ∙ c.requires tells in
    let written = c.in_ok-write.ensures.written tells [] empty in
    both c.flush.result (c.flush.ensures.kept tells) (c.flush.ensures.durable tells)
    (λ kept durable. record { stands = kept name ∙ written; durable = λ f left. durable f left ∙ kept name ∙ written })

-- the new file keeps, while it is written and flushed, the rights that it took
pub returns-clause-private : goal.returns-clause-private
returns-clause-private g c tells =
    let state = g.F.Folder.state in
    let empty = c.take_after.ensures.kept tells c.args.beside.now ∙ c.requires tells in
    while_filled c.flush.result c.args.beside.now c.args.path.now c.args.bytes.now (state c.args.folder.now) (state c.take_after.new.self) (state c.write.new.self) (state c.flush.new.self)
    (c.in_ok-take_after.ensures.rights tells) empty (c.write.ensures.readers tells) (c.in_ok-write.ensures.written tells [] empty) (c.flush.ensures.readers tells)
