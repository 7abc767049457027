use Rattle.std.proofs.Common.{◌≡◌, ◌+◌, length, take, sym, ap, ◌∙◌, arith, length-take, length-drop, length-append}
use Rattle.arrow_stream_reader.proofs.BodyReading.{read_added}
use Rattle.arrow_stream_reader.proofs.pending_bytes.read_into.Goals as goal

pub returns-in-Ok-clause-read : goal.returns-in-Ok-clause-read
returns-in-Ok-clause-read g c =
    let old = c.args.bytes.now.items in
    let start = c.len-start.result in
    let room = c.read_piece.new.room in
    let n = c.in-Ok.count in
    let memory = c.as_mut_slice.result.now in
    let same = c.grow.ensures.same in
    let begins : start ≡ length old = c.len-start.ensures.value in
    let sized : length memory ≡ length old + c.min-wanted.result = ap length c.as_mut_slice.ensures.value ∙ c.advance_mut.ensures.len ∙ ap (λ xs. length xs + c.min-wanted.result) same in
    let front : take start memory ≡ old = ap (take start) c.as_mut_slice.ensures.value ∙ ap (λ k. take k c.advance_mut.new.self.items) (begins ∙ ap length (sym same)) ∙ c.advance_mut.ensures.front ∙ same in
    let long : length room ≡ c.min-wanted.result = c.read_piece.auto.room ∙ simp (length-take, length-drop) (omega (arith, sized, begins)) in
    let added = c.truncate.ensures.items ∙ read_added old memory room _ _ start n (length c.advance_mut.new.self.items) begins front c.in-Ok.ensures.bound.0 (omega (arith, c.advance_mut.ensures.len, ap length same, begins, long, c.in-Ok.ensures.bound.0)) in
    record {
      piece = take n room;
      read = record {
        consumed = c.in-Ok.ensures.bytes.0;
        size = sym c.in-Ok.ensures.bound.1;
        few = omega (arith, long, c.min-wanted.ensures, c.in-Ok.ensures.bound.0);
        ended = λ z. c.in-Ok.ensures.bytes.1 z (omega (arith, long, c.min-wanted.ensures, c.requires.room, begins));
      };
      added = added;
      within = omega (arith, ap length added, length-append old (take n room), c.in-Ok.ensures.bound, long, c.min-wanted.ensures, c.requires.room, begins);
    }
