-- What a reader of changes answers.
use Rattle.std.specs.Prelude.{◌≡◌, Option, Some, None}
use Rattle.ubik_types.specs.declared.images.Change.{Change}
use Rattle.xdr_base.specs.Reading.{Reading}

-- a change was read, and the reader stands behind it; or none stands there
abbrev pub ReadsChange : Reading → Option Change → Option (Change × Reading) → Type 0
ReadsChange after (Some change) there = there ≡ Some (change, after)
ReadsChange after None there = there ≡ None
