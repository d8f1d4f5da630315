-- What the program prints of itself.
use Rattle.std.specs.Prelude.{◌==◌, ℕ, if◌then◌else◌, List, [], ◌∷◌, codes, Option, Some, None}
use Rattle.std.specs.Str.{bytes_eq}
use Rattle.afs_client_main.specs.declared.texts.TheConstants.{HELP, VERSION, NO_OUTPUT, NO_MEMORY}

-- the text for which a word asks
abbrev pub text_of_word : List ℕ → Option (List ℕ)
text_of_word word =
    if bytes_eq word (codes "--help") then Some HELP.now
    else (if bytes_eq word (codes "--version") then Some VERSION.now else None)

-- the text for which the words of a program ask: one that stands alone does
abbrev pub text_for : List (List ℕ) → Option (List ℕ)
text_for (word ∷ []) = text_of_word word
text_for _ = None

-- what standard error has for an exit status
abbrev pub message : ℕ → Option (List ℕ)
message status = if status == 4 then Some NO_OUTPUT.now else (if status == 5 then Some NO_MEMORY.now else None)
