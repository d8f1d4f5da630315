-- Calls and answers as words of a script (own).
use Rattle.std.specs.Prelude.{ℕ, Bool, true, List, drop, Option, Some, None, if◌then◌else◌, codes}
use Rattle.std.specs.List.{find, list_all}
use Rattle.std.specs.Option.{option_map}
use Rattle.std.specs.Str.{bytes_eq}
use Rattle.call_grammar.specs.Reading.{◌>>=◌}
use Rattle.call_grammar.specs.Words.{are_visible, first_word, last_of, told, word_item}
use Rattle.pt_calls.specs.declared.answers.PtAnswer.{PtAnswer}
use Rattle.pt_calls.specs.declared.answers.PtAnswer.TheVariants as answer
use Rattle.pt_calls.specs.declared.calls.PtCall.{PtCall}
use Rattle.pt_calls.specs.declared.kinds.CallKind.{CallKind}
use Rattle.pt_calls.specs.declared.kinds.CallKind.TheVariants as kinds
use Rattle.pt_calls.specs.declared.kinds.TheConstants.{KINDS}
use Rattle.pt_calls.specs.Answers.{answer_of, answer_text, asked_for}
use Rattle.pt_calls.specs.Calls.{call_kind, spelling}
use Rattle.pt_calls.specs.Reading.{call_at, call_of}

-- the name of a kind, which is a call's first word, and the kind of a name
abbrev pub kind_word : CallKind → List ℕ
kind_word kinds.NewEntry = codes "newentry"
kind_word kinds.INewEntry = codes "inewentry"
kind_word kinds.NameToId = codes "nametoid"
kind_word kinds.IdToName = codes "idtoname"
kind_word kinds.Delete = codes "delete"
kind_word kinds.AddToGroup = codes "addtogroup"
kind_word kinds.RemoveFromGroup = codes "removefromgroup"
kind_word kinds.GetCps = codes "getcps"
kind_word kinds.ListMax = codes "listmax"
kind_word kinds.SetMax = codes "setmax"
kind_word kinds.ListEntry = codes "listentry"
kind_word kinds.ListEntries = codes "listentries"
kind_word kinds.ChangeEntry = codes "changeentry"
kind_word kinds.SetFields = codes "setfields"
kind_word kinds.ListElements = codes "listelements"
kind_word kinds.IsMemberOf = codes "ismemberof"
kind_word kinds.ListOwned = codes "listowned"

unfoldable pub kind_named : List ℕ → Option CallKind
kind_named word = find (λ k. bytes_eq (kind_word k) word) KINDS

-- the call that words name: the name of its kind, and its fields
unfoldable pub call_in_words : List (List ℕ) → Option PtCall
call_in_words words = do
  name ← first_word words
  kind ← kind_named name.0
  last_of (call_at word_item kind name.1)

-- its bytes
abbrev pub call_of_words : List (List ℕ) → Option (List ℕ)
call_of_words words = option_map spelling (call_in_words words)

-- each name in an answer has a word: no blank and no control byte stands in it
abbrev pub has_words : PtAnswer → Bool
has_words (answer.Names names) = list_all are_visible names
has_words (answer.Entry e) = are_visible e.name
has_words (answer.Entries es) = list_all (λ e. are_visible e.name) es
has_words _ = true

-- the words of an answer, joined by blanks: each stands behind one
abbrev pub words_of_answer : PtAnswer → Option (List ℕ)
words_of_answer a = if has_words a then Some (drop 1 (answer_text told a)) else None

-- the words of the answer to a call
unfoldable pub reply_in_words : List ℕ → List ℕ → Option (List ℕ)
reply_in_words call reply = do
  kind ← option_map call_kind (call_of call)
  a ← answer_of (asked_for kind) reply
  words_of_answer a
