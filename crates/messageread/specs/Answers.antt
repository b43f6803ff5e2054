-- What the answers of the reading functions say, each as a reading.
use Prim.{Unit}
use Rattle.std.specs.Prelude.{ℕ, ◌-◌, ◌%◌, ◌≤◌, ◌<◌, true, ◌≡◌, List, length, leb, Option, Some, None}
use Rattle.words.specs.Choice.{pick}
use Rattle.words.specs.Parts.{region}
use Rattle.format.specs.Fields.{highest32}
use Rattle.osc.specs.Message as osc
use Rattle.messages.specs.Form.{Parse, parsed, faulty, padded_at}
use Rattle.messageread.specs.declared.cursor.Cursor.{Cursor}
use Rattle.messageread.specs.declared.cursor.Part.{Part}
use Rattle.messageread.specs.declared.cursor.Argument.{Argument}
use Rattle.messageread.specs.declared.cursor.Argument.TheVariants.{Integer, Float, Text, Blob}

-- what was read, and the place past it
abbrev pub read_of : {A B : Type 0} → (A → B) → Option (A × Cursor) → Parse B
read_of keep (Some (x, next)) = parsed (keep x) next.at
read_of keep None = faulty

-- what holds of what was read
abbrev pub IfRead : {A : Type 0} → (A → Type 0) → Option (A × Cursor) → Type 0
IfRead P (Some (x, next)) = P x
IfRead P None = Unit {0}

abbrev pub number_of : Option (ℕ × Cursor) → Parse ℕ
number_of r = read_of (λ (n : ℕ). n) r

-- the bytes of a string or a blob
abbrev pub bytes_of : List ℕ → Part → List ℕ
bytes_of s p = region p.start (p.end - p.start) s

-- they lie in the message
abbrev pub Inside : List ℕ → Part → Type 0
Inside s p = (p.start ≤ p.end) × (p.end ≤ length s)

-- and are not none
abbrev pub Full : List ℕ → Part → Type 0
Full s p = (p.start < p.end) × (p.end ≤ length s)

-- a part of the message that was read
pub record PartRead (s : List ℕ) (reading : Parse (List ℕ)) (r : Option (Part × Cursor)) : Type 0 where
  pub reads : read_of (bytes_of s) r ≡ reading
  pub inside : IfRead (Inside s) r

-- a string that is not empty
pub record HeadRead (s : List ℕ) (reading : Parse (List ℕ)) (r : Option (Part × Cursor)) : Type 0 where
  pub reads : read_of (bytes_of s) r ≡ reading
  pub full : IfRead (Full s) r

-- the bytes of a blob behind their number
abbrev pub bytes_at : ℕ → List ℕ → ℕ → Parse (List ℕ)
bytes_at n s at = pick (leb n highest32) (padded_at n ((4 - n % 4) % 4) (λ bytes. true) s at) faulty

-- an argument that was read
abbrev pub argument_in : List ℕ → Argument → osc.Argument
argument_in s (Integer n) = osc.int n
argument_in s (Float n) = osc.float n
argument_in s (Text p) = osc.text (bytes_of s p)
argument_in s (Blob p) = osc.blob (bytes_of s p)

abbrev pub Lies : List ℕ → Argument → Type 0
Lies s (Integer n) = Unit {0}
Lies s (Float n) = Unit {0}
Lies s (Text p) = Inside s p
Lies s (Blob p) = Inside s p

pub record ArgumentRead (s : List ℕ) (reading : Parse osc.Argument) (r : Option (Argument × Cursor)) : Type 0 where
  pub reads : read_of (argument_in s) r ≡ reading
  pub lies : IfRead (Lies s) r
