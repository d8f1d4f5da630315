-- Calls and answers as words of a script (own).
use Rattle.std.specs.Prelude.{ℕ, Bool, true, List, drop, Option, Some, None, if◌then◌else◌, codes}
use Rattle.std.specs.List.{find, list_all}
use Rattle.std.specs.Option.{option_map}
use Rattle.std.specs.Str.{bytes_eq}
use Rattle.call_grammar.specs.Reading.{◌>>=◌}
use Rattle.call_grammar.specs.Words.{are_visible, first_word, last_of, told, word_item}
use Rattle.vl_calls.specs.declared.answers.VlAnswer.{VlAnswer}
use Rattle.vl_calls.specs.declared.answers.VlAnswer.TheVariants as answer
use Rattle.vl_calls.specs.declared.calls.VlCall.{VlCall}
use Rattle.vl_calls.specs.declared.kinds.CallKind.{CallKind}
use Rattle.vl_calls.specs.declared.kinds.CallKind.TheVariants as kinds
use Rattle.vl_calls.specs.declared.kinds.TheConstants.{KINDS}
use Rattle.vldb_entries.specs.declared.entries.VlEntry.{VlEntry}
use Rattle.vl_calls.specs.Answers.{answer_of, answer_text, asked_for}
use Rattle.vl_calls.specs.Calls.{call_kind, spelling}
use Rattle.vl_calls.specs.Reading.{call_at, call_of}

-- the name of a kind, which is a call's first word, and the kind of a name
abbrev pub kind_word : CallKind → List ℕ
kind_word kinds.GetNewVolumeId = codes "getnewvolumeid"
kind_word kinds.CreateEntry = codes "createentry"
kind_word kinds.DeleteEntry = codes "deleteentry"
kind_word kinds.GetEntryById = codes "getentrybyid"
kind_word kinds.GetEntryByName = codes "getentrybyname"
kind_word kinds.ReplaceEntry = codes "replaceentry"
kind_word kinds.SetLock = codes "setlock"
kind_word kinds.ReleaseLock = codes "releaselock"
kind_word kinds.ListAttributes = codes "listattributes"
kind_word kinds.GetAddrs = codes "getaddrs"
kind_word kinds.ChangeAddr = codes "changeaddr"
kind_word kinds.Probe = codes "probe"

unfoldable pub kind_named : List ℕ → Option CallKind
kind_named word = find (λ k. bytes_eq (kind_word k) word) KINDS

-- the call that words name: the name of its kind, and its fields
unfoldable pub call_in_words : List (List ℕ) → Option VlCall
call_in_words words = do
  name ← first_word words
  kind ← kind_named name.0
  last_of (call_at word_item kind name.1)

-- its bytes
abbrev pub call_of_words : List (List ℕ) → Option (List ℕ)
call_of_words words = option_map spelling (call_in_words words)

-- a name that no blank and no control byte stands in
abbrev pub is_visible : VlEntry → Bool
is_visible e = are_visible e.name

-- whether an answer has words: each name in it does
abbrev pub has_words : VlAnswer → Bool
has_words (answer.Entry e) = is_visible e
has_words (answer.Entries es) = list_all is_visible es
has_words _ = true

-- the words of an answer, joined by blanks
abbrev pub words_of_answer : VlAnswer → Option (List ℕ)
words_of_answer a = if has_words a then Some (drop 1 (answer_text told a)) else None

-- the words of the answer to a call
unfoldable pub reply_in_words : List ℕ → List ℕ → Option (List ℕ)
reply_in_words call reply = do
  kind ← option_map call_kind (call_of call)
  a ← answer_of (asked_for kind) reply
  words_of_answer a
