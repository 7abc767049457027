use Rattle.std.proofs.Common.{◌≡◌, ℕ, List, arith, ap, ◌∙◌}
use Rattle.arrow_flatbuf.specs.Nodes.{after, byte_string}
use Rattle.arrow_flatbuf.proofs.Laid.{reaches}
use Rattle.arrow_types.specs.Notes.{pair_view}
use Rattle.arrow_meta_writer.specs.Capped.{capped}
use Rattle.arrow_meta_writer.proofs.Capping.{caps}
use Rattle.arrow_meta_writer.proofs.metadata.pair_end.Goals as goal

pub returns-clause-end : goal.returns-clause-end
returns-clause-end c =
    let p = pair_view c.args.pair.now in
    let key = byte_string p.key in
    let value = byte_string p.value in
    let table = c.pair_table_end.result in
    let wrote_key : c.bytes_after-key.result ≡ capped (after table key) =
    c.bytes_after-key.ensures.end ∙ ap (λ (s : List ℕ). capped (after table (byte_string s))) c.deref.ensures.value in
    let at_key = caps (λ q. after q key) (λ q. omega (arith, reaches q key)) table c.bytes_after-key.result _ (c.pair_table_end.ensures.end p) wrote_key in
    let wrote_value : c.bytes_after.result ≡ capped (after c.bytes_after-key.result value) =
    c.bytes_after.ensures.end ∙ ap (λ (s : List ℕ). capped (after c.bytes_after-key.result (byte_string s))) c.deref-2.ensures.value in
    caps (λ q. after q value) (λ q. omega (arith, reaches q value)) c.bytes_after-key.result c.bytes_after.result _ at_key wrote_value
