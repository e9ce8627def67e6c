-- `body::floats_at::floats_34` meets its contract: each float is read at its place. Assumes nothing.
use Prim.Native.Nat.{ℕ, ◌+◌, ◌*◌}
use mathlib.Core.Path.{◌≡◌}
use lib.Ieee.{Float, nan}
use Rattle.std.proofs.Common.{rules}
use Rattle.body.specs.Floats.{float_at}
use Rattle.body.proofs.Floats.{made-each, floats-of}
use Rattle.body.proofs.floats_at.floats_34.Goals as goal

pub returns : goal.returns
returns c =
    let a = c.args in
    let r = c.from_fn.ensures.items in
    floats-of 34 a.at a.s.now c.from_fn.result r.long
    (made-each _ (λ (i : ℕ) (y : Float). y ≡ float_at (a.at + 8 * i) a.s.now) _ (λ i y q k. let m = k.met in search rules) c.from_fn.result nan 34 r)
