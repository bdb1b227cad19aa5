-- What the states of a group sink say.
use Rattle.std.specs.Prelude.{Bool, true, false}
use Rattle.numeric_write.specs.declared.group_state.GroupState.{GroupState}
use Rattle.numeric_write.specs.declared.group_state.GroupState.TheVariants.{Skipping, Filling, Spent}

-- A digit may still come.
abbrev pub going : GroupState → Bool
going Skipping = true
going Filling = true
going Spent = false

-- Only zeros have come.
abbrev pub skips : GroupState → Bool
skips Skipping = true
skips Filling = false
skips Spent = false

-- Another digit has come, and more may come.
abbrev pub fills : GroupState → Bool
fills Skipping = false
fills Filling = true
fills Spent = false
