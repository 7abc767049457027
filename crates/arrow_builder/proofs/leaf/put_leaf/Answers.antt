use Rattle.arrow_layout.specs.Value.{value_view}
use Rattle.arrow_builder.specs.Buffers.{buffers_in}
use Rattle.arrow_builder.proofs.Putting.{err_gives, ok_gives}
use Rattle.arrow_builder.proofs.Leaves.{binary_leaf, binary_stays, number_leaf, text_leaf, text_stays}
use Rattle.arrow_builder.proofs.leaf.put_leaf.Goals as goal

pub returns-in-Numbers-clause-put : goal.returns-in-Numbers-clause-put
returns-in-Numbers-clause-put c =
    let b' = buffers_in c.put_number.new.buffers in
    ok_gives c.put_number.result
    (number_leaf c.args.form c.in-Numbers.form c.width.result (value_view c.args.value.now) c.number_in.result c.args.at (buffers_in c.args.buffers.now) b'
    c.in-Numbers.is c.width.ensures.same c.requires.fits c.number_in.ensures)
    c.put_number.ensures.put

pub returns-in-Bytes-clause-put : goal.returns-in-Bytes-clause-put
returns-in-Bytes-clause-put c =
    let b' = buffers_in c.put_bytes.new.buffers in
    ok_gives c.put_bytes.result
    (binary_leaf (λ p. p.now) c.args.form c.in-Bytes.width (value_view c.args.value.now) c.binary_in-in-Bytes.result c.args.at (buffers_in c.args.buffers.now) b'
    c.in-Bytes.is c.requires.fits c.binary_in-in-Bytes.ensures)
    c.put_bytes.ensures.put

pub returns-in-Bytes-clause-stay : goal.returns-in-Bytes-clause-stay
returns-in-Bytes-clause-stay c =
    let b' = buffers_in c.put_bytes.new.buffers in
    err_gives c.put_bytes.result (binary_stays c.args.form c.in-Bytes.width c.args.at (buffers_in c.args.buffers.now) b' c.in-Bytes.is) c.put_bytes.ensures.stay

pub returns-in-Texts-clause-put : goal.returns-in-Texts-clause-put
returns-in-Texts-clause-put c =
    let b' = buffers_in c.put_bytes-in-Texts.new.buffers in
    ok_gives c.put_bytes-in-Texts.result
    (text_leaf (λ p. p.now) c.args.form c.in-Texts.width (value_view c.args.value.now) c.text_in.result c.args.at (buffers_in c.args.buffers.now) b'
    c.in-Texts.is c.requires.fits c.text_in.ensures)
    c.put_bytes-in-Texts.ensures.put

pub returns-in-Texts-clause-stay : goal.returns-in-Texts-clause-stay
returns-in-Texts-clause-stay c =
    let b' = buffers_in c.put_bytes-in-Texts.new.buffers in
    err_gives c.put_bytes-in-Texts.result (text_stays c.args.form c.in-Texts.width c.args.at (buffers_in c.args.buffers.now) b' c.in-Texts.is) c.put_bytes-in-Texts.ensures.stay
