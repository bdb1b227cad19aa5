-- A measured fraction has its shape in one way.
use Rattle.std.specs.Prelude.{ℕ}
use Rattle.std.proofs.Props.{props}
use Rattle.numeric_write.specs.Measure.{Shaped}
use Rattle.numeric_write.specs.declared.shape.Shape.{Shape}
use Rattle.numeric_write.specs.declared.shape.Shape.TheVariants.{Below, Mixed, Whole}

pub Shaped-prop : (n d w s g : ℕ) (shape : Shape) → IsProp (Shaped n d w s g shape)
Shaped-prop n d w s g (Below passed) = hlevel props
Shaped-prop n d w s g Mixed = hlevel props
Shaped-prop n d w s g (Whole t) = hlevel props
