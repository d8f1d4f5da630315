-- Calls of either database in words (own).
use Rattle.std.specs.Prelude.{ℕ, Bool, true, false, List, Option, Some, None}
use Rattle.server_texts.specs.declared.words.Database.{Database}
use Rattle.server_texts.specs.declared.words.Database.TheVariants.{Location, Protection}
use Rattle.vl_calls.specs.Calls.{call_kind as location_kind}
use Rattle.vl_calls.specs.Reading.{call_of as location_call}
use Rattle.vl_calls.specs.Words.{call_of_words as location_named}
use Rattle.vl_calls.specs.Writes.{is_write as location_writes}
use Rattle.pt_calls.specs.Calls.{call_kind as protection_kind}
use Rattle.pt_calls.specs.Reading.{call_of as protection_call}
use Rattle.pt_calls.specs.Words.{call_of_words as protection_named}
use Rattle.pt_calls.specs.Writes.{is_write as protection_writes}

-- whether there is something of which this holds
abbrev pub some_is : {A : Type 0} → (A → Bool) → Option A → Bool
some_is holds None = false
some_is holds (Some x) = holds x

-- whether bytes are a call that may change the database
abbrev pub is_writing : Database → List ℕ → Bool
is_writing Location bytes = some_is (λ call. location_writes (location_kind call)) (location_call bytes)
is_writing Protection bytes = some_is (λ call. protection_writes (protection_kind call)) (protection_call bytes)

-- the bytes of the call that words name
abbrev pub call_of : Database → List (List ℕ) → Option (List ℕ)
call_of Location words = location_named words
call_of Protection words = protection_named words
