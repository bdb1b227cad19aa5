use Rattle.std.proofs.Common.{◌≡◌, ◌+◌, ◌*◌, ◌^◌, refl, ap, ◌∙◌, arith}
use Rattle.division.specs.Digits.{shifted}
use Rattle.numeric_write.specs.Laid.{held}
use Rattle.numeric_write.proofs.Filling.{held_close, held_more, laid_more}
use Rattle.numeric_write.proofs.group_sink.GroupSink.fill.Goals as goal
use Rattle.numeric_write.proofs.group_sink.GroupSink.fill.Goals.{then-self-lt3, else-self-lt3}

pub returns : goal.returns
returns c =
    let s = c.args.self.now in
    let digit = ap (shifted (held s.buffer.now s.count s.places s.group)) c.from.ensures in
    elim c.if-self-lt3.branch [
      | then-self-lt3 w ↦ record {
        took = record {
          taken = rw w.self-is (omega arith);
          left = omega arith;
          held = rw w.self-is (held_more s.buffer.now s.count s.places s.group c.from.result ∙ digit);
        };
        on = record { lender = rw w.self-is refl; step = rw w.self-is (omega arith); laid = λ b h. rw w.self-is h };
      }
      | else-self-lt3 w ↦
          let three : s.places ≡ 3 = omega arith in
          let thousand : 10 ^ s.places ≡ 1000 = ap (λ k. 10 ^ k) three in
          record {
            took = record {
              taken = rw w.self-is (omega arith);
              left = omega arith;
              held = rw w.self-is (ap (λ x. held x (s.count + 1) 0 0) w.put_word.ensures
                  ∙ held_close s.buffer.now s.count s.places s.group c.from.result (omega arith) (omega arith)
                  ∙ digit);
            };
            on = record {
              lender = rw w.self-is refl;
              step = rw w.self-is (omega (arith, three));
              laid = λ b h. rw w.self-is (rw w.put_word.ensures (laid_more b s.buffer.now s.count (s.group * 10 + c.from.result) h (omega arith) (omega arith) (λ z. omega (arith, c.requires.first z))));
            };
          }
    ]
