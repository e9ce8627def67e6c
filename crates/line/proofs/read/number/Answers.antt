-- `line::read::number` meets its contract: the digits before the point leave room for those behind it. Assumes nothing.
use Rattle.std.proofs.Common.{◌≡◌, ◌∙◌, ap, sym, ℕ, ◌-◌, le_trans, arith, slice_range, drop, take}
use Rattle.line.specs.Read.{number_of, value_of}
use Rattle.line.proofs.Laws.{shapes, places, whole_room, digits-most, length-range}
use Rattle.line.proofs.read.number.Goals as goal

pub returns-then-f : goal.returns-then-f
unfolding number_of value_of
returns-then-f c =
    let f = c.args.f in
    let none : f.last - f.point ≡ 0 = omega arith in
    c.value-whole.ensures ∙ ap (λ (k : ℕ). value_of (value_of 0 (slice_range c.args.line.now (f.first - 1) (f.point - 1))) (take k (drop f.point c.args.line.now))) (sym none)

pub value-requires : goal.value-requires
value-requires c =
    let f = c.args.f in
    let p = shapes f in
    let s = c.args.line.now in
    let l = length-range s f.point f.last (omega arith) in
    let e : c.value-whole.result ≡ value_of 0 (slice_range s (f.first - 1) (f.point - 1)) = c.value-whole.ensures in
    rw (l, e) (le_trans (whole_room f s c.told-line) (digits-most (places f) 18 (omega arith)))
