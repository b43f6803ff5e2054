-- What a save answers as one number: the refusal's, or 256 times the new version.
use Rattle.std.specs.Prelude.{ℕ, ◌*◌, Err, Ok}
use Rattle.refusals.specs.Refusals.{number_of}
use Rattle.settings.specs.Settings.{Saved}

abbrev pub saved_number : Saved → ℕ
saved_number (Ok v) = 256 * v
saved_number (Err r) = number_of r
