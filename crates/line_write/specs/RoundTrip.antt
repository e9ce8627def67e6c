-- What is proved of reading and writing line two. The statements. Assumes nothing.
use Rattle.std.specs.Prelude.{ℕ, ◌≡◌, List, length, take, drop, Ok}
use Rattle.line.specs.Read.{read_of}
use Rattle.line.specs.declared.fields.Numbers.{Numbers}
use Rattle.line_write.specs.Write.{fitted_of, line_of, written_to, output_of}

-- reading what was written gives the numbers back: the first 69 bytes of the buffer are a line that is accepted, with these numbers; what stood
-- past them stays
pub record ReadBack (n : Numbers) (out : List ℕ) : Type 0 where
  pub front : take 69 (output_of (Ok tt) n out) ≡ line_of n
  pub numbers : read_of (line_of n) ≡ Ok n
  pub rest : drop 69 (output_of (Ok tt) n out) ≡ drop 69 out

abbrev pub ReadsBack : Type 0
ReadsBack = (n : Numbers) (out : List ℕ) → written_to (length out) n ≡ Ok tt → ReadBack n out

-- what reading and then writing makes of a line s with the numbers n: the writer refuses none of them, and its line is the one spelling of all
-- lines with these numbers, which a second pass keeps
pub record Respelled (s : List ℕ) (n : Numbers) : Type 0 where
  pub fits : fitted_of n ≡ Ok tt
  pub accepted : read_of (line_of n) ≡ Ok n
  pub again : (m : Numbers) → read_of (line_of n) ≡ Ok m → line_of m ≡ line_of n

abbrev pub OneSpelling : Type 0
OneSpelling = (s : List ℕ) (n : Numbers) → read_of s ≡ Ok n → Respelled s n
