-- Example (m) holds: the definitions compute on the empty file. Assumes nothing.
use Prim.Native.Nat.{ℕ}
use mathlib.Core.Path.{◌≡◌, refl, ap, ◌∙◌}
use mathlib.Core.List.{List, ◌++◌, append-nil}
use lib.ListN.{length}
use Rattle.contents.specs.LittleEndian.{le, le_bytes}
use Rattle.contents.specs.Format.{count, header_right, contents_right, follows, chained, entries}
use Rattle.contents.specs.Records.{file_of, put, header, contents, entry_bytes, bodies}
use Rattle.contents.specs.Find.{sought, found_in}
use Rattle.contents.specs.Save.{saved_file, saved}
use Rattle.contents.specs.Examples.{empty, seven, Empty}
use Rattle.std.specs.Prelude.{Ok}

the-file : (b : List ℕ) → length b ≡ 176 → saved_file empty 7 b ≡ seven ++ b
unfolding file_of put header contents entry_bytes bodies le le_bytes entries
the-file b h = simp (h, append-nil)

the-length : (b : List ℕ) → length b ≡ 176 → length (saved_file empty 7 b) ≡ 196
the-length b h = ap length (the-file b h) ∙ simp h

the-count : (b : List ℕ) → count (seven ++ b) ≡ 1
unfolding le
the-count b = refl

the-body : (b : List ℕ) → length b ≡ 176 → found_in (seven ++ b) 7 ≡ Ok (record { offset = 20; size = 176 })
unfolding contents_right header_right follows chained entries sought found_in le
the-body b h = simp h

pub empty-file : Empty
unfolding contents_right header_right chained entries sought found_in le saved put
empty-file =
    record {
      right = refl;
      none = refl;
      missing = λ x. refl;
      file = the-file;
      size = the-length;
      written = λ b h. simp (the-length b h);
      short = λ b h. simp (the-length b h);
      one = λ b h. ap count (the-file b h) ∙ the-count b;
      found = λ b h. ap (λ (s : List ℕ). found_in s 7) (the-file b h) ∙ the-body b h;
    }
