-- A law of words.
use Rattle.std.specs.Prelude.{◌≡◌, ℕ, List, Some}
use Rattle.pt_calls.specs.declared.calls.PtCall.{PtCall}
use Rattle.pt_calls.specs.Calls.{spelling}
use Rattle.pt_calls.specs.Reading.{call_of}
use Rattle.pt_calls.specs.Words.{call_in_words}

-- A call that words name is read from its spelling: words never name bytes that are no call.
abbrev pub NamesCalls : Type 0
NamesCalls = (words : List (List ℕ)) (c : PtCall) → call_in_words words ≡ Some c → call_of (spelling c) ≡ Some c
