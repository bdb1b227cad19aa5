use Rattle.std.proofs.Common.{◌%◌, ◌<◌, refl, ◌∙◌, mod-lt, arith}
use Rattle.division.proofs.Blocks.{went_whole}
use Rattle.division.proofs.Places.{few_places}
use Rattle.division.proofs.whole.at_once.Goals as goal

pub put_all-requires-clause-few : goal.put_all-requires-clause-few
put_all-requires-clause-few g c =
    let state = c.args.state in
    let sound = c.requires.sound in
    few_places state.place (g.T.CountingNumber.number state.unit) _ sound.unit sound.divisor (omega (arith, sound.fits, g.met.T.CountingNumber.widest))

pub returns : goal.returns
returns g c =
    let number = g.T.CountingNumber.number in
    let state = c.args.state in
    let m = number state.rest in
    let d = number state.divisor in
    let sound = c.requires.sound in
    let divided = rw c.unwrap.ensures at c.div_rem.ensures in
    let near : m % d < d = mod-lt m sound.divisor in (
      c.requires.some,
      refl,
      omega (arith, divided.2),
      (
        sound.place,
        went_whole d sound.divisor g.S.DigitSink.step m state.place c.to_u64.result _ _ _ sound.rest c.requires.some (c.to_u64.ensures ∙ divided.1) divided.2 c.put_all.ensures.took,
      ),
      c.put_all.ensures.on,
    )
