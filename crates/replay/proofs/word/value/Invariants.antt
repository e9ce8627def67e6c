-- `replay::word::value` meets its contract: what is read, and the digits left, give the whole. Assumes nothing.
use Rattle.std.proofs.Common.{◌≡◌, ◌^◌, ◌<◌, ◌≤◌, length, drop}
use Rattle.replay.specs.Word.{value_after}
use Rattle.replay.proofs.word.value.Given as goal

abbrev pub invariant-loop-b : goal.invariant-loop-b
invariant-loop-b l =
    (length l.word ≤ 16) × (l.value < 16 ^ l.b-index) × (value_after l.value (drop l.b-index l.word) ≡ value_after 0 l.word)
