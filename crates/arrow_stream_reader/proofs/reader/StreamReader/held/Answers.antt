use Rattle.std.proofs.Common.{◌≤◌, ◌+◌, subst, arith}
use Rattle.arrow_stream_reader.specs.Views.{plain}
use Rattle.arrow_stream_reader.specs.Stream.{ReaderView}
use Rattle.arrow_stream_reader.proofs.Decoding.{held_small}
use Rattle.arrow_stream_reader.proofs.reader.StreamReader.held.Goals as goal

pub returns-clause-bound : goal.returns-clause-bound
returns-clause-bound c =
    let w = c.self.inside.decoder in
    let small = held_small w.limits (plain w.state) w.place w.held.items w.phase (λ o. let at = c.self.invariant.at o in at.shown) c.self.invariant.empty in
    let few : c.len.result ≤ 8 + w.limits.max_metadata + w.limits.max_body = omega (arith, small, c.len.ensures.count) in
    subst (λ (r : ReaderView). c.len.result ≤ 8 + r.limits.max_metadata + r.limits.max_body) c.self.view_is few
