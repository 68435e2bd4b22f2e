use Rattle.std.proofs.Common.{◌≡◌, ℕ, refl, subst, arith}
use Rattle.std.specs.List.{range_with_len, flat_map}
use Rattle.json_replies.specs.WrittenData.{Follow}
use Rattle.json_replies.proofs.WrittenData.{range_follows, list_follows}
use Rattle.json_replies.proofs.written.write_range.Goals as goal

pub loop-k-preserved : goal.loop-k-preserved
loop-k-preserved g c =
    range_follows (g.E.Each.tells c.args.each.now) c.args.first c.loop-k.k _ _ (omega arith) refl refl c.loop-k.invariant
    c.in_ok-write.ensures

pub returns : goal.returns
returns g c =
    let end : c.loop-k.k ≡ c.args.count = omega arith in
    let P : ℕ → Type 0 = λ n. Follow (flat_map (g.E.Each.tells c.args.each.now) (range_with_len c.args.first n))
    c.begin_array.new.self c.loop-k.writer in
    list_follows c.in_ok-begin_array.ensures (subst P end c.loop-k.invariant) c.in_ok-end_array.ensures
