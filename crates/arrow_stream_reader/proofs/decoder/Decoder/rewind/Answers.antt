use Rattle.std.proofs.Common.{◌+◌, ◌≤◌, length, take, refl, sym, subst, arith, length-take}
use Rattle.arrow_stream_reader.specs.Views.{plain}
use Rattle.arrow_stream_reader.specs.Decoder.{Shown}
use Rattle.arrow_stream_reader.proofs.Firsts.{HasPrefix-take, HasMetadata-take}
use Rattle.arrow_stream_reader.proofs.Decoding.{size_small}
use Rattle.arrow_stream_reader.proofs.decoder.Decoder.rewind.Goals as goal

pub returns-else-count-size : goal.returns-else-count-size
returns-else-count-size c =
    let old = c.args.self.now in
    let shown = subst (λ f. Shown old.limits (plain old.state) old.place old.held.items f) c.in-Body.is c.requires.at.shown in
    let size : length (take c.args.count old.held.items) ≤ c.args.count = simp length-take (omega arith) in
    let fits : c.args.count ≤ 8 + c.in-Body.size + c.in-Body.field-1.body_len = omega (arith, shown.1, c.requires.within) in
    record {
      rewound = record {
        same = record { limits = refl; state = refl; place = refl };
        held = c.truncate.ensures.items;
        at = record {
          shown = subst (λ f. Shown old.limits (plain old.state) old.place c.truncate.new.self.items f) (sym c.in-Body.is)
              (rw c.truncate.ensures.items (HasMetadata-take c.args.count c.if-count-size.false c.requires.within shown.0, omega (arith, size, fits), shown.2));
          near = c.requires.at.near;
          fit = c.requires.at.fit;
        };
      };
    }

pub returns-then-count-size : goal.returns-then-count-size
returns-then-count-size c =
    let old = c.args.self.now in
    let shown = subst (λ f. Shown old.limits (plain old.state) old.place old.held.items f) c.in-Body.is c.requires.at.shown in
    let size : length (take c.args.count old.held.items) ≤ c.args.count = simp length-take (omega arith) in
    record {
      rewound = record {
        same = record { limits = refl; state = refl; place = refl };
        held = c.truncate.ensures.items;
        at = record {
          shown = rw c.truncate.ensures.items (HasPrefix-take c.args.count c.if-count-lt8.false c.requires.within shown.0.prefix, omega (arith, size));
          near = c.requires.at.near;
          fit = c.requires.at.fit;
        };
      };
    }

-- the metadata end by the last offset
pub overflow_add-size : goal.overflow_add-size
overflow_add-size c =
    let old = c.args.self.now in
    let shown = subst (λ f. Shown old.limits (plain old.state) old.place old.held.items f) c.in-Body.is c.requires.at.shown in
    omega (arith, (size_small shown.0.prefix).1)
