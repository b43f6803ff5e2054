-- The place of a file's fault is never past the file's end.
use Rattle.std.specs.Prelude.{ℕ, ◌≤◌, ◌≡◌, List, length}
use Rattle.faults.specs.declared.Fault.{Fault}
use Rattle.format.specs.Read.{bad}
use Rattle.format.specs.declared.Width.{Width}
use Rattle.format.specs.Reader.{definition_by, read_file}
use Rattle.roundtrip.specs.Sound.{place_of}
use Rattle.roundtrip.specs.RecordsForth.{definition_sound}
use Rattle.roundtrip.specs.Forth.{file_sound}

pub file_place : (s : List ℕ) (r : Fault) (p : ℕ) → read_file s ≡ bad r p → p ≤ length s
file_place s r p e = place_of (file_sound s) e

pub definition_place : (w : Width) (s : List ℕ) (at : ℕ) → at ≤ length s → (r : Fault) (p : ℕ) → definition_by w s at ≡ bad r p → p ≤ length s
definition_place w s at h r p e = place_of (definition_sound w s at h) e
