-- "a reader that holds the lent file and its place walks the definitions".
use Rattle.std.specs.Prelude.{ℕ, zero, suc, Option, Bool, ◌≡◌, List, [], ◌∷◌, ◌++◌, length, take}
use Rattle.std.specs.Borrow.{Bor}
use Rattle.words.specs.Choice.{pick}
use Rattle.words.specs.Bytes.{AreBytes}
use Rattle.format.specs.Read.{got}
use Rattle.format.specs.Definition.{Definition}
use Rattle.format.specs.declared.Width.{Width}
use Rattle.format.specs.Reader.{definition_by, read_file, file_width}
use Rattle.files.specs.File.{verdict, first_place}
use Rattle.reader.specs.declared.reader.Reader.{Reader}
use Rattle.reader.specs.declared.reader.Opened.{Opened}
use Rattle.reader.specs.Places.{start_of, ended_at, place_after, place_past, span_at, bytes_at}

-- a reader of a file, and what the check of the whole file said
abbrev pub opened : Bor (List ℕ) → Opened
opened f = record {
  reader = record { file = f; place = start_of f.now (verdict (read_file f.now)) };
  checked = verdict (read_file f.now);
}

-- the promise of a file that was opened; what is lent as bytes is bytes
pub record Opens (f : Bor (List ℕ)) (r : Opened) : Type 0 where
  pub opens : r ≡ opened f
  pub lent_file : AreBytes f.now

-- the reader past the next definition
abbrev pub after : Reader → Reader
after r = record { file = r.file; place = place_after r.file.now r.place }

-- the reader past so many
abbrev pub past : ℕ → Reader → Reader
past n r = record { file = r.file; place = place_past r.file.now n r.place }

-- no definition is left
abbrev pub ended : Reader → Bool
ended r = ended_at r.file.now r.place

-- where the definition at a reader's place starts and ends
abbrev pub spanned : Reader → Option (ℕ × ℕ)
spanned r = span_at r.file.now r.place

-- what a reader hands out at its place: a definition's bytes
abbrev pub handed : Reader → List ℕ
handed r = bytes_at r.file.now r.place

-- what is handed out on the way to the end, in at most so many steps
unfoldable pub walk : ℕ → Reader → List (List ℕ)
walk zero r = []
walk (suc n) r = pick (ended r) [] (handed r ∷ walk n (after r))

-- the bytes of what was handed out, one part behind the other
unfoldable pub bytes_of : List (List ℕ) → List ℕ
bytes_of [] = []
bytes_of (p ∷ ps) = p ++ bytes_of ps

-- what was handed out is this definition: the bytes by themselves are read as it, to their end, by the width of the file they come from
abbrev pub Hands : Width → List ℕ → Definition → Type 0
Hands w p d = definition_by w p 0 ≡ got d (length p)

-- one by one and in order, and no more
pub data Each (w : Width) : List (List ℕ) → List Definition → Type 0 where
  none : Each w [] []
  more : {p : List ℕ} {d : Definition} {ps : List (List ℕ)} {ds : List Definition} → Hands w p d → Each w ps ds → Each w (p ∷ ps) (d ∷ ds)

-- a reader of a file hands out these definitions; the file's head and behind it the parts that were handed out are the file
pub record Walks (f : Bor (List ℕ)) (r : Reader) (n : ℕ) (ds : List Definition) : Type 0 where
  pub each : Each (file_width f.now) (walk n r) ds
  pub whole : take first_place f.now ++ bytes_of (walk n r) ≡ f.now
