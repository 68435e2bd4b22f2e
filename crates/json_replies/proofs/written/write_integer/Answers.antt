use Rattle.std.proofs.Common.{◌≡◌, to_z, of_z, to_z-of_z, w8, w64, ap, ◌∙◌}
use Rattle.std.proofs.Math.Facts.{sfits_widen}
use Rattle.json_replies.proofs.WrittenData.{integer_follows}
use Rattle.json_replies.proofs.written.write_integer.Goals as goal

pub returns : goal.returns
returns c =
    let same : c.from.result ≡ c.args.n = c.from.ensures ∙ to_z-of_z c.ranges.n in
    let wide = sfits_widen {w = w8} {w' = w64} {z = c.args.n} tt c.ranges.n in
    integer_follows c.ranges.n (ap (λ z. to_z w64 (of_z w64 z)) same ∙ to_z-of_z {w = w64} wide) c.in_ok-i64.ensures
