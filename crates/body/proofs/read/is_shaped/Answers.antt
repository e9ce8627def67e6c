-- `body::read::is_shaped` meets its contract: a body shorter than its first bytes is of no kind's length. Assumes nothing.
use native.Mathlib.Omega.{arith}
use borrow.Author.Tests.{ne_eqb}
use lib.ListN.{length}
use Rattle.body.specs.Body.{size_of}
use Rattle.body.specs.Read.{kind_in, shaped}
use Rattle.body.proofs.Sizes.{size-least, shaped-at_once}
use Rattle.body.proofs.read.is_shaped.Goals as goal

pub returns-then-body-lt8 : goal.returns-then-body-lt8
unfolding shaped
returns-then-body-lt8 c =
    let s = c.args.body.now in
    let m = size-least (kind_in s) in
    simp (ne_eqb (length s) (size_of (kind_in s)) (λ e. omega arith))

pub returns : goal.returns
unfolding shaped
returns c =
    simp (c.size_of-size.ensures, c.starts_with.ensures.value) (shaped-at_once c.args.body.now (omega arith))
