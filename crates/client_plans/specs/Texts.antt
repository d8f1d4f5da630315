-- What the programs say of themselves.
use Rattle.std.specs.Prelude.{ℕ, if◌then◌else◌, List, [], ◌∷◌, ◌++◌, codes, Option, Some, None}
use Rattle.std.specs.Str.{bytes_eq}
use Rattle.afs_words.specs.declared.tables.Tool.{Tool}
use Rattle.afs_words.specs.declared.tables.Tool.TheVariants.{Vos, Pts}
use Rattle.client_plans.specs.declared.texts.TheConstants.{VOS_USAGE, PTS_USAGE, HELP_END, VOS_VERSION, PTS_VERSION}

abbrev pub usage_text : Tool → List ℕ
usage_text Vos = VOS_USAGE.now
usage_text Pts = PTS_USAGE.now

-- how a command is typed, and what is the same of both
abbrev pub help_text : Tool → List ℕ
help_text tool = usage_text tool ++ HELP_END.now

abbrev pub version_text : Tool → List ℕ
version_text Vos = VOS_VERSION.now
version_text Pts = PTS_VERSION.now

abbrev pub text_of_word : Tool → List ℕ → Option (List ℕ)
text_of_word tool word =
    if bytes_eq word (codes "--help") then Some (help_text tool)
    else (if bytes_eq word (codes "--version") then Some (version_text tool) else None)

-- the text for which the words of a program ask: one that stands alone does
abbrev pub asked_text : Tool → List (List ℕ) → Option (List ℕ)
asked_text tool [] = None
asked_text tool (word ∷ []) = text_of_word tool word
asked_text tool (word ∷ second ∷ more) = None
