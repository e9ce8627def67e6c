-- `orbt::store_calls::orbt_contents` meets its contract: a count is at most 128. Assumes nothing.
use mathlib.Core.Path.{sym, ◌∙◌}
use native.Mathlib.Omega.{arith}
use Rattle.contents.proofs.Found.{counted-most}
use Rattle.orbt.proofs.store_calls.orbt_contents.Goals as goal

pub overflow_cast-count : goal.overflow_cast-count
overflow_cast-count c =
    let m = counted-most c.args.file.now _ (sym c.record_count.ensures ∙ c.in-Ok.is) in
    omega arith
