-- The calls of the protection database and its answers in words, as scripts have them (own).
use Rattle.call_grammar.specs.Shown.{shown_of, only_bytes}
use Rattle.db_image.specs.CallWords.{CallWords}
use Rattle.pt_calls.specs.Words.{call_of_words, reply_in_words}

abbrev pub protection_words : CallWords
protection_words = record {
  call_of = λ words. only_bytes (call_of_words words);
  answer_of = λ call answer. shown_of (reply_in_words call answer);
}
