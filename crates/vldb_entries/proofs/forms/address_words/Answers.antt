use Rattle.std.proofs.Common.{◌≡◌, ℕ, ◌*◌, List, length, ap, arith, rules}
use Rattle.db_blocks.specs.Bytes.{words}
use Rattle.vldb_entries.proofs.HeadRead.{length-words}
use Rattle.vldb_entries.proofs.forms.address_words.Goals as goal

length-words_of : (xs : List ℕ) → length (words xs) ≡ 4 * length xs
unfolding words
length-words_of xs = length-words xs

pub returns-clause-len : goal.returns-clause-len
returns-clause-len c =
    let value : c.push_words.new.out.items ≡ words c.args.addresses.now = search rules in
    let size : length c.args.addresses.now ≡ 255 = search rules in
    omega (arith, ap length value, length-words_of c.args.addresses.now, size)
