-- Items as words of a script (own).
use Rattle.std.specs.Prelude.{ℕ, Bool, true, false, ◌&&◌, List, [], ◌∷◌, length, drop, Option, Some, None, nat_lt, nat_le, not, ◌==◌, if◌then◌else◌, codes}
use Rattle.std.specs.Fmt.{decimal, signed_decimal}
use Rattle.std.specs.List.{list_all}
use Rattle.std.specs.Str.{bytes_eq}
use Rattle.script_words.specs.Numbers.{number_within, signed_of}
use Rattle.call_grammar.specs.declared.limits.TheConstants.{MAX_TEXT}
use Rattle.call_grammar.specs.Items.{Item, Number, Signed, Truth, Text, Count, value}
use Rattle.call_grammar.specs.Reading.{◌>>=◌, ItemsOf}

-- quote marks, and nothing else
abbrev pub are_quotes : List ℕ → Bool
are_quotes text = list_all (λ b. b == 34) text

-- no blank and no control byte
abbrev pub are_visible : List ℕ → Bool
are_visible text = list_all (λ b. nat_le 33 b) text

-- one mark or more, and nothing else
abbrev pub is_quotes : List ℕ → Bool
is_quotes word = nat_lt 0 (length word) && are_quotes word

-- a word that stands for itself
abbrev pub is_plain : List ℕ → Bool
is_plain word = nat_lt 0 (length word) && are_visible word

-- the string that a word stands for, however long: two marks more stand before a string of marks or of nothing
unfoldable pub unquoted : List ℕ → Option (List ℕ)
unquoted word =
    if is_quotes word then (if length word == 1 then Some word else if length word == 3 then None else Some (drop 2 word))
    else if is_plain word then Some word
    else None

-- the string of at most MAX_TEXT bytes that a word stands for
unfoldable pub text_of_word : List ℕ → Option (List ℕ)
text_of_word word = do
  text ← unquoted word
  if nat_le (length text) MAX_TEXT then Some text else None

-- the truth value that a word stands for
abbrev pub truth_of_word : List ℕ → Option Bool
truth_of_word word = if bytes_eq word (codes "0") then Some false else if bytes_eq word (codes "1") then Some true else None

-- the first word, and the words behind it
abbrev pub first_word : List (List ℕ) → Option (List ℕ × List (List ℕ))
first_word [] = None
first_word (word ∷ words) = Some (word, words)

-- what the first word stands for
unfoldable pub one_at : {A : Type 0} → (List ℕ → Option A) → List (List ℕ) → Option (A × List (List ℕ))
one_at of_word words = do
  first ← first_word words
  x ← of_word first.0
  Some (x, first.1)

-- the item of words
abbrev pub word_item : ItemsOf (List (List ℕ))
word_item Number words = one_at (number_within 0 4294967295) words
word_item Signed words = one_at signed_of words
word_item Truth words = one_at truth_of_word words
word_item Text words = one_at text_of_word words
word_item (Count most) words = one_at (number_within 0 most) words

-- what no word follows
abbrev pub last_of : {A : Type 0} → Option (A × List (List ℕ)) → Option A
last_of None = None
last_of (Some x) = if length x.1 == 0 then Some x.0 else None

-- the word of a string: itself, or two marks and it where it is marks or nothing
unfoldable pub quoted : List ℕ → List ℕ
quoted text = if are_quotes text && not (length text == 1) then 34 ∷ 34 ∷ text else text

abbrev pub truth_word : Bool → List ℕ
truth_word false = codes "0"
truth_word true = codes "1"

abbrev pub word_of : (i : Item) → value i → List ℕ
word_of Number n = decimal n
word_of Signed z = signed_decimal z
word_of Truth b = truth_word b
word_of Text text = quoted text
word_of (Count most) n = decimal n

-- the word behind a blank
abbrev pub told : (i : Item) → value i → List ℕ
told i v = 32 ∷ word_of i v
