-- The version as one number, so that a later one is greater.
use Rattle.std.specs.Prelude.{ℕ, ◌+◌, ◌*◌}

abbrev major : ℕ
major = 0

abbrev minor : ℕ
minor = 26

abbrev patch : ℕ
patch = 0

abbrev pub version : ℕ
version = (major * 256 + minor) * 256 + patch
