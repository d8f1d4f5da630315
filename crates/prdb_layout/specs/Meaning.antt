-- Why no user is made: the name is there, no id is left, the name is of no user's form.
use Rattle.std.specs.Prelude.{ℕ}

abbrev pub name_exists : ℕ
name_exists = 267264

abbrev pub no_ids : ℕ
no_ids = 267266

abbrev pub bad_name : ℕ
bad_name = 267272
