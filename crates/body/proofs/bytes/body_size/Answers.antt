-- `body::bytes::body_size` meets its contract: the body's length is counted. Assumes nothing.
use Rattle.body.proofs.Sizes.{length-body}
use Rattle.body.proofs.bytes.body_size.Goals as goal

pub returns : goal.returns
returns c =
    let a = c.args in
    simp (length-body a.c a.s, ← c.kind_of.ensures, ← c.number_count.ensures, ← c.state_count.ensures)
