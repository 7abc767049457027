use Rattle.std.proofs.Common.{[], ◌∷◌, arith}
use Rattle.arrow_body_laws.specs.Laws.{raws_of}
use Rattle.arrow_body_laws.specs.Raws.{AreRaws}
use Rattle.arrow_body_laws.specs.Stored.{fields_of_columns}
use Rattle.arrow_body_writer.proofs.Measures.{allowed_size, if_allowed}
use Rattle.arrow_body_writer.specs.Align.{alignment_of}
use Rattle.arrow_body_writer.specs.Source.{rest_of}
use Rattle.arrow_body_writer.proofs.measured.rest_size.Goals as goal

-- the column has too many nodes
pub returns-then-nodes_in_rest-eq18446744073709551615-clause-size : goal.returns-then-nodes_in_rest-eq18446744073709551615-clause-size
returns-then-nodes_in_rest-eq18446744073709551615-clause-size c = λ stored.
    omega (arith, stored.represented.counted.0, c.nodes_in_rest.ensures.count c.args.from, c.if-nodes_in_rest-eq18446744073709551615.true)

-- it has few enough nodes
pub column_size-requires-clause-counted : goal.column_size-requires-clause-counted
column_size-requires-clause-counted c = omega (arith, c.nodes_in_rest.ensures.count c.args.from, c.if-nodes_in_rest-eq18446744073709551615.false)

-- the size of the column
pub returns-clause-size : goal.returns-clause-size
returns-clause-size c =
    let rest = rest_of c.args.dictionary.now c.args.from ∷ [] in
    allowed_size (alignment_of c.args.align) rest c.allowed.result c.in_ok-size.size c.in_ok-size.ensures.0 c.in_ok-size.ensures.1 c.allowed.ensures

-- its raw values can be stored
pub returns-clause-raws : goal.returns-clause-raws
returns-clause-raws c =
    let rest = rest_of c.args.dictionary.now c.args.from ∷ [] in
    if_allowed (AreRaws (fields_of_columns rest) (raws_of rest)) c.allowed.result (c.nodes_in_rest.ensures.raws c.args.from)
