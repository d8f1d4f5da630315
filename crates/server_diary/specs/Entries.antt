-- What an entry says of a call (own).
use Rattle.std.specs.Prelude.{◌≡◌, ℕ, ◌+◌, ◌-◌, ◌/◌, ◌%◌, nat_lt, if◌then◌else◌, List, [], ◌∷◌, ◌++◌, ◌⊎◌, Some, codes}
use Rattle.std.specs.List.{flat_map}
use Rattle.server_texts.specs.declared.words.Database.{Database}
use Rattle.server_diary.specs.CallWords.{call_of}

-- the digit of a number below 16
abbrev pub digit : ℕ → ℕ
digit n = if nat_lt n 10 then 48 + n else 97 + (n - 10)

-- a byte as two digits
abbrev pub pair : ℕ → List ℕ
pair byte = digit (byte / 16) ∷ digit (byte % 16) ∷ []

-- what is added: words, each behind a blank, that name the call and no other
abbrev pub TellsWords : Database → List ℕ → (old new : List ℕ) → Type 0
TellsWords database call old new =
    (words : List (List ℕ)) × (call_of database words ≡ Some call) × (new ≡ old ++ flat_map (λ (word : List ℕ). 32 ∷ word) words)

-- or its bytes
abbrev pub TellsCall : Database → List ℕ → (old new : List ℕ) → Type 0
TellsCall database call old new = TellsWords database call old new ⊎ (new ≡ old ++ codes " bytes " ++ flat_map pair call)
