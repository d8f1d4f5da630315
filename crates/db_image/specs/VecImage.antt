-- What an image in memory holds.
use Rattle.std.specs.Prelude.{ℕ, List}
use Rattle.db_image.specs.declared.images.VecImage.{VecImage}

-- its bytes
abbrev pub bytes_of_image : VecImage → List ℕ
bytes_of_image image = image.bytes.items

-- how many bytes its reads have asked for; past the greatest number of 64 bits it stays there
abbrev pub asked_of_image : VecImage → ℕ
asked_of_image image = image.asked
