-- `store::restore::restore` meets its contract: a body that was found lies in the file. Assumes nothing.
use mathlib.Core.Path.{sym}
use native.Mathlib.Omega.{arith}
use Rattle.contents.proofs.Found.{found_inside}
use Rattle.store.proofs.restore.restore.Goals as goal

pub overflow_add-end : goal.overflow_add-end
overflow_add-end c = let h = (found_inside _ c.args.satellite _ _ (sym c.in_ok-body.ensures)).inside in omega arith

pub slice_bounds-read_body-end : goal.slice_bounds-read_body-end
slice_bounds-read_body-end c = (found_inside _ c.args.satellite _ _ (sym c.in_ok-body.ensures)).inside
