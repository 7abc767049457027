use Rattle.std.proofs.Common.{◌≡◌, ◌++◌, length, ap, ◌∙◌, arith, sym, to_z, of_z}
use Rattle.std.specs.Int.{w64}
use Rattle.arrow_types.specs.Field.{width}
use Rattle.arrow_types.specs.Notes.{pairs_view}
use Rattle.arrow_types.proofs.Fields.{width-fields_view}
use Rattle.arrowflow_calls.specs.Fields.{field_format, field_in, metadata_bytes, with_encoding}
use Rattle.arrowflow_calls.specs.Survey.{reported}
use Rattle.arrowflow_calls.specs.Texts.{filled}
use Rattle.arrowflow_calls.specs.declared.pens.TextPen.{TextPen}
use Rattle.arrowflow_calls.proofs.Writing.{all_put, size_anew}
use Rattle.arrowflow_calls.proofs.fields.FieldC.of.Goals as goal

-- the numbers are reported, and the texts lie one after another
pub returns : goal.returns
returns c =
    let f = field_in c.args.place in
    let name = c.put-name in
    let format = c.put_format-format in
    let metadata = c.put_metadata-metadata in
    let children : length c.children.result.now ≡ width f.shape.children = sym (width-fields_view c.children.result.now) ∙ ap width c.children.ensures.fields in
    let name_len : name.result.size ≡ reported (length f.shape.head.name) =
    size_anew c.new.result name.result c.name.result.now (ap (λ (p : TextPen). p.size) c.new.ensures) name.ensures.puts.pen ∙ ap (λ text. reported (length text)) c.name.ensures in
    let format_len : format.result.size ≡ reported (length (field_format f.shape.head)) =
    size_anew c.next.result format.result (field_format f.shape.head) (ap (λ (p : TextPen). p.size) c.next.ensures) format.ensures.pen in
    let metadata_len : metadata.result.size ≡ reported (length (metadata_bytes f.notes.pairs)) =
    size_anew c.next-2.result metadata.result (metadata_bytes (pairs_view c.metadata.result.now)) (ap (λ (p : TextPen). p.size) c.next-2.ensures) metadata.ensures.pen
    ∙ ap (λ pairs. reported (length (metadata_bytes pairs))) c.metadata.ensures in
    record {
      stated =
          c.encoded.ensures
          ∙ (λ i. with_encoding (c.encoding.ensures i) (record {
            found = c.args.found;
            flags = c.flags.ensures i;
            is_encoded = (c.none.ensures i).is_encoded;
            id = to_z w64 (of_z w64 (c.none.ensures i).id);
            children = children i;
            name_len = name_len i;
            format_len = format_len i;
            metadata_len = metadata_len i;
          }));
      room =
          all_put c.args.room.now name.new.room format.new.room metadata.new.room c.name.result.now (field_format f.shape.head) (metadata_bytes (pairs_view c.metadata.result.now)) c.new.result name.result c.next.result format.result c.next-2.result metadata.result
          (omega (arith, name.ensures.fits)) (ap (λ (p : TextPen). p.at) c.new.ensures) name.ensures.puts (ap (λ (p : TextPen). p.at) c.next.ensures) format.ensures (ap (λ (p : TextPen). p.at) c.next-2.ensures) metadata.ensures
          ∙ (λ i. filled c.args.room.now (c.name.ensures i ++ field_format f.shape.head ++ metadata_bytes (c.metadata.ensures i)));
    }
