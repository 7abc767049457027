use Rattle.std.proofs.Common.{◌≡◌, rules, arith, ap, ◌∙◌}
use Rattle.arrow_flatbuf.specs.Layout.{up}
use Rattle.arrow_meta_reader.specs.declared.message.MetadataVersion.TheVariants.{V5}
use Rattle.arrow_meta_reader.specs.Means.{message_view}
use Rattle.arrow_meta_writer.proofs.Sizing.{other_version, no_body, some_size, no_size}
use Rattle.arrow_meta_writer.proofs.sizes.encoded_size.Goals as goal

pub returns-then-ne : goal.returns-then-ne
returns-then-ne c =
    let other : c.args.message.now.version ≡ V5 → ⊥ = search rules in
    record { size = other_version (message_view c.args.message.now) other }

pub returns-then-message-gt-BODY_CEILING : goal.returns-then-message-gt-BODY_CEILING
returns-then-message-gt-BODY_CEILING c =
    let version : c.args.message.now.version ≡ V5 = search rules in
    record { size = no_body (message_view c.args.message.now) version c.if-message-gt-BODY_CEILING.true }

pub returns-then-size-le-METADATA_CEILING : goal.returns-then-size-le-METADATA_CEILING
returns-then-size-le-METADATA_CEILING c =
    let version : c.args.message.now.version ≡ V5 = search rules in
    let end = c.aligned-size.ensures.value ∙ ap (up 8) c.message_end.ensures.end in
    record { size = some_size (message_view c.args.message.now) c.aligned-size.result version c.if-message-gt-BODY_CEILING.false end (omega (arith, c.if-size-le-METADATA_CEILING.true)) }

pub returns-else-size-le-METADATA_CEILING : goal.returns-else-size-le-METADATA_CEILING
returns-else-size-le-METADATA_CEILING c =
    let version : c.args.message.now.version ≡ V5 = search rules in
    let end = c.aligned-size.ensures.value ∙ ap (up 8) c.message_end.ensures.end in
    record { size = no_size (message_view c.args.message.now) c.aligned-size.result version c.if-message-gt-BODY_CEILING.false end (omega (arith, c.if-size-le-METADATA_CEILING.false)) }
