use Rattle.script_words.proofs.NumberLaws.{number_of-decimal, decimal_from_number_of}
use Rattle.script_words.proofs.laws.decimal_text_is_its_number.Goals as goal

pub returns : goal.returns
returns c = record { read = number_of-decimal; alone = decimal_from_number_of }
