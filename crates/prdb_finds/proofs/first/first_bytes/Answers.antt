use Rattle.std.proofs.Common.{◌≡◌, length, drop, refl, ap, ◌∙◌, arith}
use Rattle.std.proofs.lemmas.List.{take_at}
use Rattle.db_chains.specs.Changes.{put_in, put_word}
use Rattle.db_blocks.specs.Bytes.{words, zeros}
use Rattle.prdb_layout.specs.Layout.{block_of, head_of, layout, numbers_of}
use Rattle.db_blocks.specs.Blocks.{block_in as any_block}
use Rattle.prdb_layout.specs.State.{fixed_entries, initial_state}
use Rattle.prdb_finds.specs.First.{first_image}
use Rattle.prdb_finds.specs.FirstWords.{with_words}
use Rattle.prdb_finds.specs.declared.first.TheConstants.{FIRST_WORDS}
use Rattle.prdb_finds.proofs.first.first_bytes.Goals as goal

first_words : with_words FIRST_WORDS (layout initial_state) ≡ first_image
unfolding first_image put_in put_word layout head_of words zeros fixed_entries block_of numbers_of any_block
first_words = refl

pub returns-clause-value : goal.returns-clause-value
returns-clause-value c =
    let new = c.put_words.new.image in
    take_at new (drop (length new) c.in_ok-image.image.items) c.in_ok-image.image.len (omega
    (arith, c.put_words.ensures.len, c.in_ok-image.ensures.len))
    ∙ c.put_words.ensures.bytes ∙ ap (with_words FIRST_WORDS) (c.deref_mut.ensures.value ∙ c.in_ok-image.ensures.value) ∙ first_words

pub returns-clause-len : goal.returns-clause-len
returns-clause-len c =
    let new = c.put_words.new.image in
    ap length (take_at new (drop (length new) c.in_ok-image.image.items) c.in_ok-image.image.len (omega
    (arith, c.put_words.ensures.len, c.in_ok-image.ensures.len)))
    ∙ c.put_words.ensures.len
