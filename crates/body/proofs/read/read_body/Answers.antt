-- `body::read::read_body` meets its contract: a body of the right shape has its first bytes. Assumes nothing.
use mathlib.Core.Path.{◌≡◌, sym, ◌∙◌}
use mathlib.Core.Bool.{true}
use native.Mathlib.Omega.{arith}
use Rattle.body.specs.Read.{shaped}
use Rattle.body.proofs.Sizes.{shaped-least}
use Rattle.body.proofs.read.read_body.Goals.{Else-not-is_shaped}
use Rattle.body.proofs.read.read_body.Goals as goal

is_true : (c : Else-not-is_shaped) → shaped c.args.body.now ≡ true
is_true c = sym c.is_shaped.ensures ∙ c.if-not-is_shaped.false

pub bounds-body-0 : goal.bounds-body-0
bounds-body-0 c = let m = shaped-least _ (is_true (goal.at.bounds-body-0 c).Else-not-is_shaped) in omega arith

pub bounds-body-1 : goal.bounds-body-1
bounds-body-1 c = let m = shaped-least _ (is_true (goal.at.bounds-body-1 c).Else-not-is_shaped) in omega arith
