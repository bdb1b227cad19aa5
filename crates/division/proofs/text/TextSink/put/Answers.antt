use Rattle.std.proofs.Common.{◌+◌, arith, rules, length-set}
use Rattle.division.proofs.Fed.{ascii_more}
use Rattle.division.proofs.text.TextSink.put.Goals as goal

pub returns : goal.returns
returns c =
    let b = c.args.self.now.buffer.now in
    let t = c.args.self.now.taken in
    let len = length-set b t (48 + c.args.digit) in
    record {
      took = record { taken = omega arith; left = omega arith; held = ascii_more b t c.args.digit (omega arith) };
      on = search rules;
    }
