-- What a save keeps, and what is found after it. The statements. Assumes nothing.
use Rattle.std.specs.Prelude.{ℕ, ◌^◌, ◌<◌, ◌≤◌, ◌≡◌, true, List, length, take, drop, Some, Ok, Err}
use Rattle.contents.specs.Format.{contents_right, Bytes}
use Rattle.contents.specs.Records.{records_of, body_in, file_of}
use Rattle.contents.specs.Find.{found_in, bytes_at}
use Rattle.contents.specs.Save.{saved_file, saved_records, saved, output_of}
use Rattle.contents.specs.declared.find.FindError.TheVariants.{SatelliteMissing}

-- what holds after a save of body b for satellite x into file s that answered a length n
pub record AfterSave (s : List ℕ) (x : ℕ) (b : List ℕ) (room n : ℕ) : Type 0 where
  -- the answer is the new file's length; the output has the new file in front, and past it what it had
  pub size : length (saved_file s x b) ≡ n
  pub fits : n ≤ room
  pub front : (out : List ℕ) → take n (output_of (Ok n) (saved_file s x b) out) ≡ saved_file s x b
  pub rest : (out : List ℕ) → drop n (output_of (Ok n) (saved_file s x b) out) ≡ drop n out
  -- the new file is right, and its records are the old ones with one added or replaced
  pub right : contents_right (saved_file s x b) ≡ true
  pub records : records_of (saved_file s x b) ≡ saved_records s x b
  -- its body is the one saved, and every other is as it was, or is missing as it was
  pub new : body_in (saved_file s x b) x ≡ Some b
  pub others : (y : ℕ) → (y ≡ x → ⊥) → body_in (saved_file s x b) y ≡ body_in s y
  -- a search says the same
  pub finds : bytes_at (saved_file s x b) (found_in (saved_file s x b) x) ≡ Some b
  pub finds_others : (y : ℕ) → (y ≡ x → ⊥) → bytes_at (saved_file s x b) (found_in (saved_file s x b) y) ≡ bytes_at s (found_in s y)
  pub missing : (y : ℕ) → (y ≡ x → ⊥) → found_in s y ≡ Err SatelliteMissing → found_in (saved_file s x b) y ≡ Err SatelliteMissing
  -- the same save into the new file gives the new file again, with the same answer
  pub again : saved_file (saved_file s x b) x b ≡ saved_file s x b
  pub again_answer : saved (saved_file s x b) x b room ≡ Ok n

-- of every old file of bytes and every satellite of four bytes
abbrev pub SaveKeeps : Type 0
SaveKeeps =
    (s : List ℕ) (x : ℕ) (b : List ℕ) (room n : ℕ) → Bytes s → x < 2 ^ 32 → saved s x b room ≡ Ok n → AfterSave s x b room n

-- a file that is right is the file of its records, byte for byte
abbrev pub Rebuilds : Type 0
Rebuilds = (s : List ℕ) → Bytes s → contents_right s ≡ true → file_of (records_of s) ≡ s
