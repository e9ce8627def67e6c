-- What a save keeps: the record comes back to the bit, and every other as before. The statements. Assumes nothing.
use Rattle.std.specs.Prelude.{ℕ, ◌^◌, ◌<◌, ◌≤◌, ◌≡◌, true, List, length, take, drop, Ok, Option}
use Rattle.orbit.specs.declared.propagator.Constants.{Constants}
use Rattle.resonance.specs.declared.state.ResonanceState.{ResonanceState}
use Rattle.contents.specs.Format.{contents_right, Bytes}
use Rattle.body.specs.Body.{body_numbers}
use Rattle.body.specs.Examine.{steps_of, examined}
use Rattle.body.specs.Back.{Held}
use Rattle.store.specs.Restore.{restored_from}
use Rattle.store.specs.Save.{stored, stored_file, output_after}

-- what holds after a save of constants c and none or a state z for satellite x into file s that answered a length n
pub record AfterSave (s : List ℕ) (x : ℕ) (c : Constants) (z : Option ResonanceState) (room n : ℕ) : Type 0 where
  -- the answer is the new file's length; the output has the new file in front, and past it what it had
  pub size : length (stored_file s x c z) ≡ n
  pub fits : n ≤ room
  pub front : (out : List ℕ) → take n (output_after (Ok n) (stored_file s x c z) out) ≡ stored_file s x c z
  pub rest : (out : List ℕ) → drop n (output_after (Ok n) (stored_file s x c z) out) ≡ drop n out
  -- the new file is not refused 14
  pub right : contents_right (stored_file s x c z) ≡ true
  -- the same constants, with flag and kind, and the same state are restored, by bits
  pub same : restored_from (stored_file s x c z) x ≡ Ok (record { constants = c; state = z; steps = steps_of (examined c z) })
  -- for every other satellite a restore from the new file is one from the old
  pub others : (y : ℕ) → (y ≡ x → ⊥) → restored_from (stored_file s x c z) y ≡ restored_from s y
  -- the same save into the new file gives the new file again, with the same answer
  pub again : stored_file (stored_file s x c z) x c z ≡ stored_file s x c z
  pub again_answer : stored (stored_file s x c z) x c z room ≡ Ok n

-- of every old file of bytes, every satellite of four bytes, and every constants and state that a machine holds
abbrev pub SaveRestores : Type 0
SaveRestores =
    (s : List ℕ) (x : ℕ) (c : Constants) (z : Option ResonanceState) (room n : ℕ)
    → Bytes s → x < 2 ^ 32 → Held (body_numbers c z) → stored s x c z room ≡ Ok n → AfterSave s x c z room n
